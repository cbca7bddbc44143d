-- An accepted write as a whole.
use Rattle.std.proofs.Common.{◌≡◌, ℕ, ◌+◌, ◌*◌, ◌/◌, ◌%◌, ◌<◌, ◌≤◌, min, true, false, cond, List, [], length, is_some, Some, Option, sym, refl, ap, ◌∙◌, subst, mod-lt, div-lt_iff_lt-mul, div-add-mod', arith}
use Rattle.flash.specs.Meaning.{Page, blank, holds}
use Rattle.scheme.specs.Functions.{upd}
use Rattle.scheme.specs.Place.{place}
use Rattle.scheme.specs.Steps.{write, write_first, overwrite, stamped}
use Rattle.scheme.specs.Tables.{Tables}
use Rattle.scheme.specs.Work.{line, State, Work, seen, ◌then◌}
use Rattle.scheme.proofs.Held.{Inv}
use Rattle.scheme.proofs.Overwrites.{Wrote, writes_first, overwrites}
use Rattle.scheme.proofs.Plain.{sees}
use Rattle.scheme.proofs.Roles.{data_of, inside}
use Rattle.scheme.proofs.Works.{does_then, does_to, does_table}

-- the tables with another next stamp
abbrev pub restamped : Tables → ℕ → Tables
restamped t k =
    record { data_block = t.data_block; sequential = t.sequential; logs = t.logs; entries = t.entries; free = t.free; next = k }

pub restamp_inv : (P L R B : ℕ) (l : ℕ → Option (List ℕ)) (s : State) (k : ℕ) → Inv P L R B l s → Inv P L R B l (record { flash = s.flash; tables = restamped s.tables k })
unfolding place
restamp_inv P L R B l s k inv =
    let ok = inv.roles in
    let held = inv.held in
    record {
      role = inv.role;
      roles =
          record {
            data_role = ok.data_role;
            seq_role = ok.seq_role;
            seq_owner = ok.seq_owner;
            seq_fill = ok.seq_fill;
            seq_some = ok.seq_some;
            log_role = ok.log_role;
            log_apart = ok.log_apart;
            free_role = ok.free_role;
            free_apart = ok.free_apart;
            none_outside = ok.none_outside;
            room = ok.room;
            few = ok.few;
            filled = ok.filled;
            full = ok.full;
            once = ok.once;
            lives = ok.lives;
          };
      held =
          record {
            view = held.view;
            behind = held.behind;
            seq_log = held.seq_log;
            seq_tail = held.seq_tail;
            log_log = held.log_log;
            log_tail = held.log_tail;
            free_blank = held.free_blank;
          };
    }

module _ (P L R B : ℕ) (pos : 1 < P) (some_L : 0 < L) (some_R : 0 < R) (wide : L + R + 2 ≤ B) where
  -- the last step, which uses up the stamp
  stamps : (m : ℕ → Option (List ℕ)) (s : State) (w : Work) (paid most : ℕ) → Wrote P L R B most m s w paid → Wrote P L R B most m s (w then stamped P) paid
  stamps m s w paid most r =
      record {
        end = record { flash = r.end.flash; tables = restamped r.end.tables (r.end.tables.next + 1) };
        e = r.e;
        does = does_to (does_then (stamped P) r.does (does_table r.end (restamped r.end.tables (r.end.tables.next + 1)) [] (λ b i. refl))) refl (omega arith);
        inv = restamp_inv P L R B m r.end (r.end.tables.next + 1) r.inv;
        wear = r.wear;
        few = r.few;
      }

  pub writes : (l : ℕ → Option (List ℕ)) (s : State) → Inv P L R B l s → s.flash.blocks ≡ B → s.flash.pages ≡ P → (n : ℕ) → n < L * P → (y : List ℕ) → length y ≡ 512
      → Wrote P L R B (cond (is_some (l n)) (min P L + 1) 0) (upd l n (Some y)) s (write P R n y s) ((P + 1) * cond (is_some (l n)) 1 0)
  unfolding write
  writes l s inv blocks pages n h y long =
      stamps (upd l n (Some y)) s _ ((P + 1) * cond (is_some (l n)) 1 0) (cond (is_some (l n)) (min P L + 1) 0)
      ((elim (seen s.flash (s.tables.data_block b) o)
      as (λ q. seen s.flash (s.tables.data_block b) o ≡ q → Wrote P L R B (cond (is_some (l n)) (min P L + 1) 0) (upd l n (Some y)) s (elim q [ blank ↦ write_first P b o x s | holds _ _ _ ↦ overwrite P R n b o x s ]) ((P + 1) * cond (is_some (l n)) 1 0)) [
        | blank ↦ λ z.
            let e : s.flash.page (s.tables.data_block b) o ≡ blank = sym shown ∙ z in
            let none : is_some (l n) ≡ false = ap (λ k. is_some (l k)) (sym whole) ∙ sym (inv.held.behind b o known fits) ∙ ap (λ z. is_some (line z)) e in
            rw none (paid0 (subst (λ k. Wrote P L R B 0 (upd l k (Some y)) s (write_first P b o x s) 0) whole (writes_first P L R B pos some_L some_R wide l s inv b o known fits x y refl (h, long) e)))
        | holds i j z ↦ λ q.
            let e : s.flash.page (s.tables.data_block b) o ≡ holds i j z = sym shown ∙ q in
            let some : is_some (l (b * P + o)) ≡ true = sym (inv.held.behind b o known fits) ∙ ap (λ z. is_some (line z)) e in
            let some' : is_some (l n) ≡ true = subst (λ k. is_some (l k) ≡ true) whole some in
            rw some' (paid1 (subst (λ k. Wrote P L R B (min P L + 1) (upd l k (Some y)) s (overwrite P R k b o x s) (P + 1)) whole (overwrites P L R B pos some_L some_R wide l s inv b o known fits x y refl (h, long) some)))
      ])
      refl)
    where
      b : ℕ
      b = n / P

      o : ℕ
      o = n % P

      x : Page
      x = holds n s.tables.next y

      known : b < L
      known = (div-lt_iff_lt-mul (omega arith)).1 h

      fits : o < P
      fits = mod-lt n (omega arith)

      shown : seen s.flash (s.tables.data_block b) o ≡ s.flash.page (s.tables.data_block b) o
      shown =
          sees s.flash (s.tables.data_block b) o
          (omega (arith, blocks, inside inv.roles (s.tables.data_block b) (data_of b) (inv.roles.data_role b known) (λ z. omega arith)))
          (omega (arith, pages, fits))

      whole : b * P + o ≡ n
      whole = div-add-mod' n P

      paid0 : {w : Work} → Wrote P L R B 0 (upd l n (Some y)) s w 0 → Wrote P L R B 0 (upd l n (Some y)) s w ((P + 1) * 0)
      paid0 {w} r = subst (Wrote P L R B 0 (upd l n (Some y)) s w) (omega arith) r

      paid1 : {w : Work} → Wrote P L R B (min P L + 1) (upd l n (Some y)) s w (P + 1) → Wrote P L R B (min P L + 1) (upd l n (Some y)) s w ((P + 1) * 1)
      paid1 {w} r = subst (Wrote P L R B (min P L + 1) (upd l n (Some y)) s w) (omega arith) r
