-- A call of the layer, by what its parts found.
use Rattle.std.proofs.Common.{◌≡◌, ℕ, ◌<◌, ◌≤◌, ◌≢◌, List, [], length, Some, None, Err, sym, refl, ap, ◌∙◌, ap₂, subst₂, arith}
use Rattle.std.proofs.lemmas.Bool.{le-ltb, lt-ltb, eq-eqb, ne_eqb}
use Rattle.flash.specs.Meaning.{Flash}
use Rattle.scheme.specs.Law.{Begun, Lawful}
use Rattle.scheme.specs.Ledger.{Call, Reply, refused, wrote, write, read, reads, shown}
use Rattle.scheme.specs.Runs.{Start, Layer, Outcome, format, sectors, unchanged, call, write_refusal, content}
use Rattle.scheme.specs.Steps.{write as write_steps}
use Rattle.scheme.proofs.Runs.{every_run_is_lawful, every_call_is_lawful}
use Rattle.fast.specs.Leaves.{at, Left}
use Rattle.fast.specs.Meaning.{view_of}
use Rattle.fast.specs.Told.{meant, refusal_number, Addressed}
use Rattle.fast.specs.declared.refusal.Refusal.TheVariants.{NoSuchSector, BufferNotASector, BlocksWornOut, StampsUsedUp}
use Rattle.fast.specs.declared.refusal.Refusal.{Refusal}
use Rattle.fast.specs.declared.tables.Sizes.{Sizes}
use Rattle.fast.specs.declared.tables.Tables.{Tables}

-- a layer that is the scheme's is a beginning
pub begun : (start : Start) (y : Layer) → y ≡ format start → Begun start y
begun start y e = record { reached = sym e; law = every_run_is_lawful start [] }

-- a call that replies and leaves what the scheme's does is lawful
pub lawful : (y z : Layer) (c : Call) (r : Reply) → r ≡ (call y c).reply → z ≡ (call y c).after → Lawful y c r z
lawful y z c r e f = subst₂ (Lawful y c) (sym e) (sym f) (every_call_is_lawful y c)

pub read_lawful : (y : Layer) (n : ℕ) (buffer : List ℕ) (r : Reply) → r ≡ (call y (read n buffer)).reply → Lawful y (read n buffer) r y
unfolding call
read_lawful y n buffer r e = lawful y y (read n buffer) r e refl

-- what a write replies and leaves
pub record Written (y z : Layer) (n : ℕ) (bytes : List ℕ) (r : Reply) : Type 0 where
  pub reply : r ≡ (call y (write n bytes)).reply
  pub after : z ≡ (call y (write n bytes)).after

pub refused_write : (y z : Layer) (n m : ℕ) (bytes : List ℕ) → Some m ≡ write_refusal y n bytes → z ≡ y → Written y z n bytes (record { answer = refused m; buffer = bytes })
unfolding call
refused_write y z n m bytes e i =
    let r : call y (write n bytes) ≡ unchanged y (record { answer = refused m; buffer = bytes }) = rw (call, sym e) refl in
    record { reply = sym (ap (λ (o : Outcome). o.reply) r); after = i ∙ sym (ap (λ (o : Outcome). o.after) r) }

pub no_sectors : (f : Flash) (n : ℕ) (bytes : List ℕ) → Some 13 ≡ write_refusal (meant f None) n bytes
unfolding write_refusal
no_sectors f n bytes = rw (write_refusal, le-ltb n 0 (omega arith)) refl

pub accepted_write : (f g : Flash) (t u : Tables) (n : ℕ) (bytes : List ℕ) (e k : ℕ) → None ≡ write_refusal (meant f (Some t)) n bytes
    → Left (write_steps t.sizes.pages t.sizes.random n bytes (at f (view_of t))) g (view_of u) e k → u.sizes ≡ t.sizes
    → Written (meant f (Some t)) (meant g (Some u)) n bytes (record { answer = wrote e k; buffer = bytes })
unfolding call
accepted_write f g t u n bytes e k none left z =
    let w = write_steps t.sizes.pages t.sizes.random n bytes (at f (view_of t)) in
    let o : call (meant f (Some t)) (write n bytes) ≡ record { after = record { pages = t.sizes.pages; logical = t.sizes.logical; random = t.sizes.random; state = w.after }; reply = record { answer = wrote w.erases w.copies; buffer = bytes }; asked = w.asked; changes = w.changes } = rw (call, sym none) refl in
    let y : ◌≡◌ {A = Layer} (meant g (Some u)) (record { pages = t.sizes.pages; logical = t.sizes.logical; random = t.sizes.random; state = w.after }) =
    ap₂ (λ (x : Sizes) s. record { pages = x.pages; logical = x.logical; random = x.random; state = s }) z left.state in
    record {
      reply = ap₂ (λ a b. record { answer = wrote a b; buffer = bytes }) left.erases left.copies ∙ sym (ap (λ (o : Outcome). o.reply) o);
      after = y ∙ sym (ap (λ (o : Outcome). o.after) o);
    }

-- a read, check by check
module _ (y : Layer) (n : ℕ) (buffer : List ℕ) where
  pub read_after : y ≡ (call y (read n buffer)).after
  unfolding call
  read_after = refl

  pub read_no_sector : sectors y ≤ n → record { answer = refused 13; buffer = buffer } ≡ (call y (read n buffer)).reply
  unfolding call
  read_no_sector h = rw (call, reads, le-ltb n (sectors y) h) refl

  pub read_no_buffer : n < sectors y → length buffer ≢ 512 → record { answer = refused 3; buffer = buffer } ≡ (call y (read n buffer)).reply
  unfolding call
  read_no_buffer h i = rw (call, reads, lt-ltb n (sectors y) h, ne_eqb (length buffer) 512 i) refl

  -- what the first checks refuse
  pub read_not_addressed : (e : Refusal) → Addressed n (sectors y) (length buffer) (Err e) →
      record { answer = refused (refusal_number e); buffer = buffer } ≡ (call y (read n buffer)).reply
  read_not_addressed NoSuchSector h = read_no_sector h
  read_not_addressed BufferNotASector h = read_no_buffer h.0 h.1
  read_not_addressed BlocksWornOut h = absurd h
  read_not_addressed StampsUsedUp h = absurd h

  pub read_shows : n < sectors y → length buffer ≡ 512 → shown (content y n) ≡ (call y (read n buffer)).reply
  unfolding call
  read_shows h i = rw (call, reads, lt-ltb n (sectors y) h, eq-eqb (length buffer) 512 i) refl
