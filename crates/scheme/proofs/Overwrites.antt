-- Every accepted write, with what it costs.
use Rattle.std.proofs.Common.{◌≡◌, ℕ, suc, ◌+◌, ◌*◌, ◌/◌, ◌<◌, ◌≤◌, min, true, eqb, ltb, ◌≢◌, ◌⊎◌, List, [], ◌∷◌, length, is_some, Some, None, Option, sym, refl, ap, ◌∙◌, subst, subst₂, inl, inr, mul-le-mul_left, arith}
use lib.Arith.{digits_div, digits_lt}
use Rattle.std.proofs.lemmas.List.{length-map, length-drop, length_push}
use Rattle.std.proofs.lemmas.Bool.{cases_eq, cases_Bool, eq-eqb, ne_eqb, ltb-true, ltb-false}
use Rattle.flash.specs.Meaning.{Page, blank}
use Rattle.scheme.specs.Functions.{upd}
use Rattle.scheme.specs.Place.{sequential_place}
use Rattle.scheme.specs.Steps.{Fresh, settle_owner, retire, reclaim, take_log, thinned, make_room, append_random, append_sequential, write_first, write_start, open_sequential, write_sequential, write_random, overwrite}
use Rattle.scheme.specs.Tables.{Tables, Sequential, live, stale_if, stale_all, owned, released}
use Rattle.scheme.specs.Work.{line, State, Work, idle, ◌then◌}
use Rattle.scheme.proofs.Held.{Inv}
use Rattle.scheme.proofs.Randoms.{retire_inv, retire_does, shortened_end, extend_inv, extend_does, extended_end, note_inv, note_does, noted_end}
use Rattle.scheme.proofs.Roles.{data_of, busy, inside}
use Rattle.scheme.proofs.Sequences.{open_end, open_inv, open_does, longer_end, append_inv, append_does}
use Rattle.scheme.proofs.Settle.{settles, replaces, owned_is}
use Rattle.scheme.proofs.Updates.{upd_same, upd_other}
use Rattle.scheme.proofs.Visits.{visits, tally_le}
use Rattle.scheme.proofs.Works.{Marked, Does, does_then, does_to, does_idle, program_does, source, put}
use Rattle.scheme.proofs.Writes.{first_inv, same_sector}

-- what is charged for the log blocks: P for the sequential one, P + 1 for each filled page of the random ones
abbrev pub charge : ℕ → Tables → ℕ
charge P t = P * busy t.sequential + (P + 1) * length t.entries

-- what an accepted write leaves: P for each erase, and the charge, rise by at most `paid`, and there are at most `most` erases
pub record Wrote (P L R B most : ℕ) (m : ℕ → Option (List ℕ)) (s : State) (w : Work) (paid : ℕ) : Type 0 where
  pub end : State
  pub e : ℕ
  pub does : Does P L B s w end e
  pub inv : Inv P L R B m end
  pub wear : P * e + charge P end.tables ≤ charge P s.tables + paid
  pub few : e ≤ most

busy_few : (q : Option Sequential) → busy q ≤ 1
busy_few None = omega arith
busy_few (Some k) = omega arith

busy_kept : (p q : Option Sequential) → (p ≡ q) ⊎ (p ≡ None) → busy p ≤ busy q
busy_kept p q h = elim h [ inl e ↦ rw e (omega arith) | inr e ↦ rw e (omega arith) ]

pub unowned : (b o : ℕ) (q : Option Sequential) → owned b q ≡ None → sequential_place q b o ≡ None
unowned b o None e = refl
unowned b o (Some k) e =
    elim (cases_Bool (eqb k.owner b)) [
      | inl p ↦ let z : ◌≡◌ {A = ℕ} 0 1 = cc in absurd (omega arith)
      | inr p ↦ rw p refl
    ]

module _ (P L R B : ℕ) (pos : 1 < P) (some_L : 0 < L) (some_R : 0 < R) (wide : L + R + 2 ≤ B) where
  pos₀ : 0 < P
  pos₀ = omega arith

  -- a blank page in the last random log block
  pub record Roomy (l : ℕ → Option (List ℕ)) (s : State) (w : Work) : Type 0 where
    pub wrote : Wrote P L R B (min P L + 1) l s w 0
    pub has_room : length wrote.end.tables.entries < P * length wrote.end.tables.logs
    pub seq : (wrote.end.tables.sequential ≡ s.tables.sequential) ⊎ (wrote.end.tables.sequential ≡ None)

  -- the step before the taking of a block: fewer than R blocks, and all full
  record Ready (l : ℕ → Option (List ℕ)) (s : State) (w : Work) : Type 0 where
    ready : Wrote P L R B (min P L + 1) l s w 0
    fewer : length ready.end.tables.logs < R
    no_room : P * length ready.end.tables.logs ≡ length ready.end.tables.entries
    seq₁ : (ready.end.tables.sequential ≡ s.tables.sequential) ⊎ (ready.end.tables.sequential ≡ None)

  taken : (l : ℕ → Option (List ℕ)) (s : State) (w : Work) (r : Ready l s w) (fs : List ℕ) → r.ready.end.tables.free ≡ fs → Roomy l s (w then (λ s. take_log P s.tables.free s))
  taken l s w r [] e = absurd (omega (arith, rw e at r.ready.inv.roles.room, busy_few r.ready.end.tables.sequential, r.ready.inv.roles.few))
  taken l s w r (f ∷ rest) e =
      let v = r.ready in
      let end : State = extended_end P L R B l v.end pos₀ v.inv f rest e r.fewer (omega (arith, r.no_room)) in
      let d : Does P L B v.end (take_log P v.end.tables.free v.end) end 0 = subst (λ fs. Does P L B v.end (take_log P fs v.end) end 0) (sym e) (extend_does P L R B l v.end pos₀ v.inv f rest e r.fewer (omega (arith, r.no_room))) in
      record {
        wrote =
            record {
              end = end;
              e = v.e;
              does = does_to (does_then (λ s. take_log P s.tables.free s) v.does d) refl (omega arith);
              inv = extend_inv P L R B l v.end pos₀ v.inv f rest e r.fewer (omega (arith, r.no_room));
              wear = v.wear;
              few = v.few;
            };
        has_room = rw length_push (omega (arith, r.no_room));
        seq = r.seq₁;
      }

  reclaims : (l : ℕ → Option (List ℕ)) (s : State) → Inv P L R B l s → (ls : List ℕ) → s.tables.logs ≡ ls → 0 < length ls → P * length s.tables.logs ≡ length s.tables.entries → Ready l s (reclaim P s)
  unfolding reclaim
  reclaims l s ok [] e some full = absurd (omega arith)
  reclaims l s ok (v ∷ rest) e some full =
      let u = visits P L R B l s pos₀ wide ok P in
      let first : u.end.tables.logs ≡ v ∷ rest = u.logs ∙ e in
      let total : P * suc (length rest) ≡ length s.tables.entries = rw e at full in
      let long : P ≤ length u.end.tables.entries = omega (arith, u.long) in
      let end : State = shortened_end P L R B l u.end pos₀ u.inv v rest first u.gone long in
      let d : Does P L B u.end (retire P u.end.tables.logs u.end) end 1 = subst (λ bs. Does P L B u.end (retire P bs u.end) end 1) (sym first) (retire_does P L R B l u.end pos₀ u.inv v rest first u.gone long) in
      let left : length end.tables.entries + P ≡ length s.tables.entries = rw length-drop (omega (arith, u.long)) in
      let cost : P * u.e ≤ P * P = mul-le-mul_left P u.few in
      let calm : P * busy u.end.tables.sequential ≤ P * busy s.tables.sequential = mul-le-mul_left P (busy_kept u.end.tables.sequential s.tables.sequential u.seq) in
      record {
        ready =
            record {
              end = end;
              e = u.e + 1;
              does = does_then (λ s. retire P s.tables.logs s) u.does d;
              inv = retire_inv P L R B l u.end pos₀ u.inv v rest first u.gone long;
              wear = omega (arith, cost, calm, ap (λ z. (P + 1) * z) left);
              few = omega (arith, u.few, u.each_once, tally_le L u.σ);
            };
        fewer = omega (arith, ap length e, ok.roles.few);
        no_room = omega (arith, left, total);
        seq₁ = u.seq;
      }

  -- nothing done yet
  rests : (l : ℕ → Option (List ℕ)) (s : State) → Inv P L R B l s → Wrote P L R B (min P L + 1) l s (idle s) 0
  rests l s ok = record { end = s; e = 0; does = does_idle s; inv = ok; wear = omega arith; few = omega arith }

  pub makes_room : (l : ℕ → Option (List ℕ)) (s : State) → Inv P L R B l s → Roomy l s (make_room P R s)
  unfolding make_room rests
  makes_room l s ok =
      elim (cases_Bool (ltb (length s.tables.entries) (P * length s.tables.logs))) [
        | inl h ↦ rw (h, make_room) (record { wrote = rests l s ok; has_room = ltb-true (length s.tables.entries) (P * length s.tables.logs) h; seq = inl refl })
        | inr h ↦
            let full : P * length s.tables.logs ≡ length s.tables.entries = omega (arith, ltb-false (length s.tables.entries) (P * length s.tables.logs) h, ok.roles.filled) in
            elim (cases_Bool (ltb (length s.tables.logs) R)) [
              | inl g ↦
                  let r : Ready l s (idle s) = record { ready = rests l s ok; fewer = ltb-true (length s.tables.logs) R g; no_room = full; seq₁ = inl refl } in
                  rw (h, g, make_room, thinned) (taken l s (idle s) r s.tables.free refl)
              | inr g ↦
                  let r = reclaims l s ok s.tables.logs refl (omega (arith, ltb-false (length s.tables.logs) R g)) full in
                  rw (h, g, make_room, thinned) (taken l s (reclaim P s) r r.ready.end.tables.free refl)
            ]
      ]

  writes_append : (l : ℕ → Option (List ℕ)) (s : State) (inv : Inv P L R B l s) (k : Sequential) → s.tables.sequential ≡ Some k → k.fill < P → (x : Page) (y : List ℕ) → line x ≡ Some y → Marked (L * P) x
      → is_some (l (k.owner * P + k.fill)) ≡ true → Wrote P L R B (min P L + 1) (upd l (k.owner * P + k.fill) (Some y)) s (append_sequential P (k.owner * P + k.fill) k.fill x k s) (P + 1)
  writes_append l s inv k has fits x y text mark written =
      let end : State = longer_end P L R B l s pos inv k has fits x y text written in
      let short : length end.tables.entries ≡ length s.tables.entries = length-map s.tables.entries (stale_if (λ j. eqb j (k.owner * P + k.fill))) in
      record {
        end = end;
        e = 0;
        does = append_does P L R B l s pos inv k has fits x y text written mark;
        inv = append_inv P L R B l s pos inv k has fits x y text written;
        wear = omega (arith, ap (λ z. (P + 1) * z) short, ap (λ q. P * busy q) has);
        few = omega arith;
      }

  -- the sequential log block settled, if there is one
  record Cleared (l : ℕ → Option (List ℕ)) (s : State) (w : Work) : Type 0 where
    cleared : Wrote P L R B (min P L + 1) l s w 0
    no_seq : cleared.end.tables.sequential ≡ None

  clears : (l : ℕ → Option (List ℕ)) (s : State) → Inv P L R B l s → (q : Option Sequential) → s.tables.sequential ≡ q → Cleared l s (settle_owner P q s)
  unfolding rests
  clears l s inv None e = record { cleared = rests l s inv; no_seq = e }
  clears l s inv (Some k) e =
      let known = inv.roles.seq_owner k e in
      let r = settles P L R B l l s pos₀ wide inv k.owner known None tt (λ o i. inv.held.view k.owner o known i) (λ _ _. refl) (λ _ _ _ _ _. refl) in
      let short : length r.end.tables.entries ≡ length s.tables.entries = ap length r.entries ∙ length-map s.tables.entries (stale_if (λ j. eqb (j / P) k.owner)) in
      let none : r.end.tables.sequential ≡ None = r.seq ∙ rw (e, eq-eqb k.owner k.owner refl) refl in
      record {
        cleared =
            record {
              end = r.end;
              e = 1;
              does = r.does;
              inv = r.inv;
              wear = omega (arith, ap (λ z. (P + 1) * z) short, ap (λ q. P * busy q) none, ap (λ q. P * busy q) e);
              few = omega arith;
            };
        no_seq = none;
      }

  opens : (l : ℕ → Option (List ℕ)) (s : State) (w : Work) (r : Cleared l s w) (b : ℕ) → b < L → (x : Page) (y : List ℕ) → line x ≡ Some y → Marked (L * P) x → is_some (l (b * P + 0)) ≡ true
      → (fs : List ℕ) → r.cleared.end.tables.free ≡ fs → Wrote P L R B (min P L + 1) (upd l (b * P + 0) (Some y)) s (w then (λ s. open_sequential P b x s.tables.free s)) (P + 1)
  opens l s w r b known x y text mark written [] e = absurd (omega (arith, rw e at r.cleared.inv.roles.room, busy_few r.cleared.end.tables.sequential, r.cleared.inv.roles.few))
  opens l s w r b known x y text mark written (f ∷ rest) e =
      let v = r.cleared in
      let end : State = open_end P L R B l v.end pos v.inv f rest x b y known text written r.no_seq e in
      let d : Does P L B v.end (open_sequential P b x v.end.tables.free v.end) end 0 = subst (λ fs. Does P L B v.end (open_sequential P b x fs v.end) end 0) (sym e) (open_does P L R B l v.end pos v.inv f rest x b y known text written r.no_seq e mark) in
      record {
        end = end;
        e = v.e;
        does = does_to (does_then (λ s. open_sequential P b x s.tables.free s) v.does d) refl (omega arith);
        inv = open_inv P L R B l v.end pos v.inv f rest x b y known text written r.no_seq e;
        wear = omega (arith, v.wear, ap (λ q. P * busy q) r.no_seq);
        few = v.few;
      }

  pub writes_start : (l : ℕ → Option (List ℕ)) (s : State) → Inv P L R B l s → (b : ℕ) → b < L → (x : Page) (y : List ℕ) → line x ≡ Some y → Marked (L * P) x → is_some (l (b * P + 0)) ≡ true
      → Wrote P L R B (min P L + 1) (upd l (b * P + 0) (Some y)) s (write_start P b x s) (P + 1)
  unfolding write_start
  writes_start l s inv b known x y text mark written =
      let r = clears l s inv s.tables.sequential refl in
      opens l s (settle_owner P s.tables.sequential s) r b known x y text mark written r.cleared.end.tables.free refl

  -- the writes of one sector: offset o of logical block b, with a page x that has the bytes y
  module _ (l : ℕ → Option (List ℕ)) (s : State) (inv : Inv P L R B l s) (b o : ℕ) (known : b < L) (fits : o < P) (x : Page) (y : List ℕ) (text : line x ≡ Some y) (mark : Marked (L * P) x) where
    abbrev n : ℕ
    n = b * P + o

    abbrev m : ℕ → Option (List ℕ)
    m = upd l n (Some y)

    small : n < L * P
    small = digits_lt known fits

    pub writes_first : s.flash.page (s.tables.data_block b) o ≡ blank → Wrote P L R B 0 m s (write_first P b o x s) 0
    unfolding write_first
    writes_first gap =
        record {
          end = put s (s.tables.data_block b) o x;
          e = 0;
          does = program_does (s.tables.data_block b) o x s (inside inv.roles (s.tables.data_block b) (data_of b) (inv.roles.data_role b known) (λ z. omega arith)) fits gap (λ _. mark);
          inv = first_inv P L R B l s pos₀ inv b o x y known fits text gap;
          wear = omega arith;
          few = omega arith;
        }

    module _ (written : is_some (l n) ≡ true) where
      pub writes_random : owned b s.tables.sequential ≡ None → Wrote P L R B (min P L + 1) m s (write_random P R n x s) (P + 1)
      unfolding write_random
      writes_random free =
          let r = makes_room l s inv in
          let w = r.wrote in
          let out : sequential_place w.end.tables.sequential b o ≡ None = elim r.seq [ inl e ↦ rw e (unowned b o s.tables.sequential free) | inr e ↦ rw e refl ] in
          let more : length (noted_end P L R B l w.end pos₀ w.inv b o x y known fits text written out r.has_room).tables.entries ≡ length w.end.tables.entries + 1 =
          length_push (stale_all (λ k. eqb k n) w.end.tables.entries) (live n) ∙ ap (λ z. z + 1) (length-map w.end.tables.entries (stale_if (λ k. eqb k n))) in
          record {
            end = noted_end P L R B l w.end pos₀ w.inv b o x y known fits text written out r.has_room;
            e = w.e;
            does = does_to (does_then (append_random P n x) w.does (note_does P L R B l w.end pos₀ w.inv b o x y known fits text written out r.has_room mark)) refl (omega arith);
            inv = note_inv P L R B l w.end pos₀ w.inv b o x y known fits text written out r.has_room small;
            wear = omega (arith, w.wear, ap (λ z. (P + 1) * z) more);
            few = w.few;
          }

      -- what is read of the block with the new page in it
      abbrev fresh : Option Fresh
      fresh = Some (record { offset = o; content = x })

      high : (q : ℕ) → q < P → line (source P fresh s b q) ≡ m (b * P + q)
      high q i =
          elim (cases_eq q o) [
            | inl e ↦ rw (e, eq-eqb o o refl, upd_same l) text
            | inr e ↦ rw (ne_eqb q o e) (inv.held.view b q known i ∙ sym (upd_other l n (Some y) (b * P + q) (λ z. e (same_sector P b o b q fits i z).1)))
          ]

      same : (k : ℕ) → k / P ≢ b → m k ≡ l k
      same k ne = upd_other l n (Some y) k (λ z. ne (ap (λ j. j / P) z ∙ digits_div b fits))

      pub writes_sequential : (k : Sequential) → owned b s.tables.sequential ≡ Some k → Wrote P L R B (min P L + 1) m s (write_sequential P n b o x k s) (P + 1)
      unfolding write_sequential
      writes_sequential k e =
          let w = owned_is b s.tables.sequential k e in
          let has = w.0 in
          elim (cases_eq o k.fill) [
            | inl z ↦ rw (eq-eqb o k.fill z, write_sequential) (appends k has w.1 z)
            | inr z ↦ elim (cases_Bool (ltb k.fill o)) [
              | inl h ↦
                  let r = settles P L R B l m s pos₀ wide inv b known fresh mark high same
                  (λ j i own q lt. upd_other l n (Some y) (b * P + q) (λ u. let v = (same_sector P b o b q fits (omega (arith, inv.roles.seq_fill j i)) u).1 in absurd (omega (arith, ltb-true k.fill o h, ap (λ (a : Sequential). a.fill) (same_seq j k (sym i ∙ has)))))) in
                  let short : length r.end.tables.entries ≡ length s.tables.entries = ap length r.entries ∙ length-map s.tables.entries (stale_if (λ k. eqb (k / P) b)) in
                  let none : busy r.end.tables.sequential ≡ 0 = ap busy r.seq ∙ gone k has w.1 in
                  rw (ne_eqb o k.fill z, h, write_sequential)
                  (record {
                    end = r.end;
                    e = 1;
                    does = r.does;
                    inv = r.inv;
                    wear = omega (arith, ap (λ z. (P + 1) * z) short, ap (λ z. P * z) none, ap (λ q. P * busy q) has);
                    few = omega arith;
                  })
              | inr h ↦
                  let r = replaces P L R B l m s pos₀ wide inv b known fresh mark high same k has w.1 in
                  let short : length r.end.tables.entries ≡ length s.tables.entries = ap length r.entries ∙ length-map s.tables.entries (stale_if (λ k. eqb (k / P) b)) in
                  let none : busy r.end.tables.sequential ≡ 0 = ap busy r.seq ∙ gone k has w.1 in
                  rw (ne_eqb o k.fill z, h, write_sequential)
                  (record {
                    end = r.end;
                    e = 2;
                    does = r.does;
                    inv = r.inv;
                    wear = omega (arith, ap (λ z. (P + 1) * z) short, ap (λ z. P * z) none, ap (λ q. P * busy q) has);
                    few = omega arith;
                  })
            ]
          ]
        where
          same_seq : (j k : Sequential) → Some j ≡ Some k → j ≡ k
          same_seq j k e = cc

          gone : (k : Sequential) → s.tables.sequential ≡ Some k → k.owner ≡ b → busy (released b s.tables.sequential) ≡ 0
          gone k e own = rw (e, own, eq-eqb b b refl) refl

          appends : (k : Sequential) → s.tables.sequential ≡ Some k → k.owner ≡ b → o ≡ k.fill → Wrote P L R B (min P L + 1) m s (append_sequential P n o x k s) (P + 1)
          appends k has own at =
              subst₂ (λ c q. Wrote P L R B (min P L + 1) (upd l (c * P + q) (Some y)) s (append_sequential P (c * P + q) q x k s) (P + 1)) own (sym at)
              (writes_append l s inv k has (omega arith) x y text mark (subst₂ (λ c q. is_some (l (c * P + q)) ≡ true) (sym own) at written))

      pub overwrites : Wrote P L R B (min P L + 1) m s (overwrite P R n b o x s) (P + 1)
      unfolding overwrite
      overwrites =
          elim (cases_eq o 0) [
            | inl z ↦ rw (overwrite, eq-eqb o 0 z)
                (subst (λ q. Wrote P L R B (min P L + 1) (upd l (b * P + q) (Some y)) s (write_start P b x s) (P + 1)) (sym z)
                (writes_start l s inv b known x y text mark (subst (λ q. is_some (l (b * P + q)) ≡ true) z written)))
            | inr z ↦ rw (overwrite, ne_eqb o 0 z)
                ((elim (owned b s.tables.sequential)
                as (λ q. owned b s.tables.sequential ≡ q → Wrote P L R B (min P L + 1) m s (elim q [ Some k ↦ write_sequential P n b o x k s | None ↦ write_random P R n x s ]) (P + 1))
                [ Some k ↦ λ e. writes_sequential k e | None ↦ λ e. writes_random e ])
                refl)
          ]
