-- A layer from format on, and the calls on it one after the other.
use Rattle.std.specs.Prelude.{ℕ, ◌+◌, ◌*◌, ◌/◌, ◌%◌, min, Bool, true, false, cond, ◌&&◌, nat_lt, nat_le, List, [], ◌∷◌, map, length, is_some, Some, None, Option, ◌==◌}
use Rattle.flash.specs.Meaning.{Flash}
use Rattle.scheme.specs.Functions.{some_below}
use Rattle.scheme.specs.Ledger.{Call, read, write, refused, wrote, Reply, reads}
use Rattle.scheme.specs.Roles.{Change}
use Rattle.scheme.specs.Steps.{seen_of, formatted, write as write_steps}
use Rattle.scheme.specs.Tables.{Tables}
use Rattle.scheme.specs.Work.{State, Moment, seen, line}

-- A device, and format's arguments: the logical blocks, the most random log blocks and the first stamp.
pub record Start : Type 0 where
  pub device : Flash
  pub logical : ℕ
  pub random : ℕ
  pub first : ℕ

-- A layer has `pages` pages a block, `logical` logical blocks and at most `random` random log blocks.
pub record Layer : Type 0 where
  pub pages : ℕ
  pub logical : ℕ
  pub random : ℕ
  pub state : State

abbrev pub sectors : Layer → ℕ
sectors y = y.logical * y.pages

abbrev pub within : ℕ → ℕ → ℕ → Bool
within low n high = nat_le low n && nat_le n high

abbrev pub geometry_fits : Flash → ℕ → ℕ → Bool
geometry_fits f L R =
    within 2 f.pages 32 && nat_le f.blocks 512 && within 1 f.life 100000 && within 1 L 480 && within 1 R 16 && nat_le (L + R + 2) f.blocks

-- what the fit check refuses with, if it does; any first stamp will do
unfoldable pub fit : Flash → ℕ → ℕ → Option ℕ
fit f L R =
    elim (geometry_fits f L R) [
      | false ↦ Some 11
      | true ↦ cond (some_below f.blocks (λ b. nat_le f.life (f.count b))) (Some 12) None
    ]

abbrev pub no_tables : Tables
no_tables = record { data_block = λ _. 0; sequential = None; logs = []; entries = []; free = []; next = 0 }

-- a layer that has no sectors
abbrev pub nothing : Flash → Layer
nothing f = record { pages = 0; logical = 0; random = 0; state = record { flash = f; tables = no_tables } }

-- format: what the fit check refuses becomes a layer of no sectors, on a device that is left alone
unfoldable pub format : Start → Layer
format start =
    let f = start.device in
    elim (fit f start.logical start.random) [
      | Some _ ↦ nothing f
      | None ↦ record {
        pages = f.pages;
        logical = start.logical;
        random = start.random;
        state = (formatted start.logical start.first f).after;
      }
    ]

-- the most erases that one write makes
abbrev pub most_erases : Layer → ℕ
most_erases y = min y.pages y.logical + 1

-- a write of sector n would replace bytes
abbrev pub replaces : Layer → ℕ → Bool
replaces y n = is_some (line (seen y.state.flash (y.state.tables.data_block (n / y.pages)) (n % y.pages)))

-- some block could be worn out by one more overwrite
abbrev pub worn : Layer → Bool
worn y = let f = y.state.flash in some_below f.blocks (λ b. nat_lt f.life (f.count b + most_erases y))

-- what a write is refused with, if it is
unfoldable pub write_refusal : Layer → ℕ → List ℕ → Option ℕ
write_refusal y n bytes =
    elim (nat_lt n (sectors y)) [
      | false ↦ Some 13
      | true ↦ elim (length bytes == 512) [
        | false ↦ Some 3
        | true ↦ elim (replaces y n && worn y) [
          | true ↦ Some 12
          | false ↦ cond (y.state.tables.next == 0xFFFFFFFF) (Some 14) None
        ]
      ]
    ]

-- What a call leaves: the layer, the reply, what was asked of the device, and which roles changed.
pub record Outcome : Type 0 where
  pub after : Layer
  pub reply : Reply
  pub asked : List Moment
  pub changes : List Change

-- the call was for nothing but its reply
abbrev pub unchanged : Layer → Reply → Outcome
unchanged y r = record { after = y; reply = r; asked = []; changes = [] }

-- what the device shows in the places of the sectors
abbrev pub content : Layer → ℕ → Option (List ℕ)
content y n = line (seen_of y.pages y.state (n / y.pages) (n % y.pages))

unfoldable pub call : Layer → Call → Outcome
call y (read n buffer) = unchanged y (reads (sectors y) (content y) n buffer)
call y (write n bytes) =
    elim (write_refusal y n bytes) [
      | Some m ↦ unchanged y (record { answer = refused m; buffer = bytes })
      | None ↦
          let w = write_steps y.pages y.random n bytes y.state in
          record {
            after = record { pages = y.pages; logical = y.logical; random = y.random; state = w.after };
            reply = record { answer = wrote w.erases w.copies; buffer = bytes };
            asked = w.asked;
            changes = w.changes;
          }
    ]

-- One call of a run, with the layer before it.
pub record Turn : Type 0 where
  pub before : Layer
  pub outcome : Outcome

-- the turns of calls on a layer, the layer after them, and their replies
abbrev pub turns : Layer → List Call → List Turn
turns y [] = []
turns y (c ∷ cs) = record { before = y; outcome = call y c } ∷ turns (call y c).after cs

abbrev pub last_layer : Layer → List Call → Layer
last_layer y [] = y
last_layer y (c ∷ cs) = last_layer (call y c).after cs

abbrev pub replies_of : Layer → List Call → List Reply
replies_of y cs = map (λ t. t.outcome.reply) (turns y cs)

-- the run of calls from a start on, the layer that it comes to, and its replies
abbrev pub run : Start → List Call → List Turn
run start calls = turns (format start) calls

abbrev pub reached : Start → List Call → Layer
reached start calls = last_layer (format start) calls

abbrev pub replies : Start → List Call → List Reply
replies start calls = replies_of (format start) calls
