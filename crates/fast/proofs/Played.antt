-- A list of calls made one after the other, by what is left of it.
use Rattle.std.proofs.Common.{◌≡◌, ◌+◌, List, [], ◌∷◌, ◌++◌, length, sym, refl, ap, ◌∙◌, ap₂, subst, arith}
use Rattle.std.proofs.lemmas.List.{append-nil}
use Rattle.scheme.specs.Ledger.{Call, Reply}
use Rattle.scheme.specs.Runs.{Layer, last_layer, replies_of}
use Rattle.fast.specs.Makes.{Made, MakesAll}
use Rattle.fast.specs.Replay.{calls_told, replies_told}
use Rattle.fast.specs.declared.replay.Call as code_call
use Rattle.fast.specs.declared.replay.Reply as code_reply

-- whatever the calls that are left will be replied to with, and wherever they lead, so it is of all calls from the first on
pub record Playing {S : Type 0} (makes : S → S → Call → Reply → Type 0) (first : S) (all : List code_call.Call) (x : S) (left : List code_call.Call) (rs : List code_reply.Reply) : Type 0 where
  pub goes : (rest : List Reply) (z : S) → MakesAll makes x (calls_told left) rest z → MakesAll makes first (calls_told all) (replies_told rs ++ rest) z
  pub count : length rs + length left ≡ length all

pub plays_out : {S : Type 0} (makes : S → S → Call → Reply → Type 0) (first : S) (all : List code_call.Call) (x : S) (left : List code_call.Call) (rs : List code_reply.Reply)
    → length left ≡ 0 → Playing makes first all x left rs → MakesAll makes first (calls_told all) (replies_told rs) x
plays_out makes first all x [] rs e p = subst (λ qs. MakesAll makes first (calls_told all) qs x) (append-nil (replies_told rs)) (p.goes [] x refl)
plays_out makes first all x (c ∷ left) rs e p = absurd (omega arith)

-- calls on what means a layer are the scheme's calls on that layer
pub record Played (y z : Layer) (cs : List Call) (rs : List Reply) : Type 0 where
  pub after : z ≡ last_layer y cs
  pub replies : rs ≡ replies_of y cs

pub layer_played : {S : Type 0} (means : S → Layer) (x y : S) (cs : List Call) (rs : List Reply) → MakesAll (λ a b. Made (means a) (means b)) x cs rs y → Played (means x) (means y) cs rs
layer_played means x y [] [] e = record { after = sym (ap means e); replies = refl }
layer_played means x y [] (r ∷ rs) a = absurd a
layer_played means x y (c ∷ cs) [] a = absurd a
layer_played means x y (c ∷ cs) (r ∷ rs) a =
    let later = layer_played means a.0 y cs rs a.2 in
    record {
      after = later.after ∙ ap (λ w. last_layer w cs) a.1.after;
      replies = ap₂ (λ q qs. q ∷ qs) a.1.reply (later.replies ∙ ap (λ w. replies_of w cs) a.1.after);
    }
