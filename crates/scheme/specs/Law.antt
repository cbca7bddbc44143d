-- The law of runs: what holds of every list of calls on every device from format on, and how a call adds to it.
use Rattle.std.specs.Prelude.{◌≡◌, ℕ, ◌+◌, ◌/◌, ◌<◌, ◌≤◌, List, [], ◌∷◌, ◌++◌}
use Rattle.std.specs.List.{AllByRecursion}
use Rattle.flash.specs.Meaning.{blank}
use Rattle.scheme.specs.Asks.{Sound, Unrefused}
use Rattle.scheme.specs.Functions.{sum_below}
use Rattle.scheme.specs.Ledger.{Call, Answer, refused, never_written, bytes, wrote, Reply, Ledger, empty, ledger_after, AllAnswered}
use Rattle.scheme.specs.Roles.{TablesRight, Led}
use Rattle.scheme.specs.Runs.{Start, Layer, sectors, most_erases, Turn, format, call, run, reached, replies}

-- the erases that an answer tells of
abbrev pub told : Answer → ℕ
told (wrote e c) = e
told (refused m) = 0
told never_written = 0
told bytes = 0

abbrev pub all_told : List Reply → ℕ
all_told [] = 0
all_told (r ∷ rs) = told r.answer + all_told rs

-- the sum of the erase counts of a layer's device
abbrev pub erases : Layer → ℕ
erases y = let f = y.state.flash in sum_below f.blocks f.count

-- The ledger of a run, which is fed its calls and replies, and the overwrites that it counted.
abbrev pub first_ledger : Start → Ledger
first_ledger start = empty (sectors (format start))

abbrev pub overwrites : Start → List Call → List Reply → ℕ
overwrites start calls rs = (ledger_after (first_ledger start) calls rs).overwrites

-- One call's erases are those that it told of, and no more than min P L + 1.
pub record CallCounted (t : Turn) : Type 0 where
  pub counted : erases t.outcome.after ≡ erases t.before + told t.outcome.reply.answer
  pub few : told t.outcome.reply.answer ≤ most_erases t.before

-- Each block has just one role, and what is free is blank.
pub record RolesRight (y : Layer) : Type 0 where
  pub right : TablesRight y.pages y.logical y.random y.state.flash.blocks y.state.tables
  pub free_blank : AllByRecursion (λ b. (p : ℕ) → y.state.flash.page b p ≡ blank) y.state.tables.free

-- So it is after a call, and the call changed each role as the match of role and event allows.
pub record RolesKept (t : Turn) : Type 0 where
  pub right : RolesRight t.outcome.after
  pub led : Led t.before.state.flash.blocks t.before.state.tables t.outcome.changes t.outcome.after.state.tables

-- What holds of calls on a layer, with the replies that they got:
-- replied    they are the replies of the steps;
-- answers    every read's reply is the ledger's, buffer and all, and every write leaves its buffer alone;
-- asks       every program is of a page that is blank then, and every erase of a block in which no sector's place lies then;
-- unrefused  the device refuses none of them;
-- roles      on a layer that has sectors: one role for each block after format and after every call, and no change that the match does
--            not allow;
-- counted    the erases that the writes told of are the growth of the device's counts since format;
-- bounded    for w overwrites they are at most w + w div P;
-- each       so it is call by call, and no call makes more than min P L + 1.
pub record Law (start : Start) (calls : List Call) (rs : List Reply) : Type 0 where
  pub replied : rs ≡ replies start calls
  pub answers : AllAnswered (first_ledger start) calls rs
  pub asks : AllByRecursion (λ t. AllByRecursion (Sound t.before.pages t.before.logical) t.outcome.asked) (run start calls)
  pub unrefused : AllByRecursion (λ t. AllByRecursion Unrefused t.outcome.asked) (run start calls)
  pub roles : 0 < (format start).logical → RolesRight (format start) × AllByRecursion RolesKept (run start calls)
  pub counted : erases (reached start calls) ≡ erases (format start) + all_told rs
  pub bounded : let w = overwrites start calls rs in all_told rs ≤ w + w / (format start).pages
  pub each : AllByRecursion CallCounted (run start calls)

-- For every device and every arguments of format, fit or not, and every list of calls, some of them refused.
abbrev pub EveryRunIsLawful : Type 0
EveryRunIsLawful = (start : Start) (calls : List Call) → Law start calls (replies start calls)

-- The calls lead from the start to this layer.
abbrev pub Reached : Start → List Call → Layer → Type 0
Reached start calls y = reached start calls ≡ y

-- What format gives: the layer is reached from the start by no calls, and the law holds of these.
pub record Begun (start : Start) (y : Layer) : Type 0 where
  pub reached : Reached start [] y
  pub law : Law start [] []

-- What one call adds, wherever it is made: for every start and every calls that lead to the layer before it, the layer after it is
-- reached by one call more, and the law holds of these calls with this reply.
abbrev pub Lawful : Layer → Call → Reply → Layer → Type 0
Lawful before c r after =
    (start : Start) (calls : List Call) → Reached start calls before
    → Reached start (calls ++ (c ∷ [])) after × Law start (calls ++ (c ∷ [])) (replies start calls ++ (r ∷ []))

-- Whatever layer a call is made on, it adds to the law what the steps give.
abbrev pub EveryCallIsLawful : Type 0
EveryCallIsLawful = (y : Layer) (c : Call) → Lawful y c (call y c).reply (call y c).after
