-- What a layer of the code means, and what its answers say in the terms of the ledger: each case with its number and its values.
use Rattle.std.specs.Prelude.{◌≡◌, ℕ, ◌<◌, ◌≤◌, ◌≢◌, cond, List, Some, None, Ok, Err, codes, Option, Result, nat_lt}
use Rattle.flash.specs.Meaning.{Flash}
use Rattle.scheme.specs.Ledger as ledger
use Rattle.scheme.specs.Roles.{Role, role_of}
use Rattle.scheme.specs.Runs as runs
use Rattle.fast.specs.Leaves.{at}
use Rattle.fast.specs.Meaning.{view_of}
use Rattle.fast.specs.declared.fit.Unfit.TheVariants.{OutOfRange, WornOut}
use Rattle.fast.specs.declared.fit.Unfit.{Unfit}
use Rattle.fast.specs.declared.layer.Found.TheVariants.{Bytes, NeverWritten}
use Rattle.fast.specs.declared.layer.Found.{Found}
use Rattle.fast.specs.declared.layer.Layer.{Layer}
use Rattle.fast.specs.declared.refusal.Refusal.TheVariants.{NoSuchSector, BufferNotASector, BlocksWornOut, StampsUsedUp}
use Rattle.fast.specs.declared.refusal.Refusal.{Refusal}
use Rattle.fast.specs.declared.steps.WriteKind.{WriteKind}
use Rattle.fast.specs.declared.tables.Tables.{Tables}

-- a device with tables, or with none
abbrev pub meant : Flash → Option Tables → runs.Layer
meant f None = runs.nothing f
meant f (Some t) =
    record {
      pages = t.sizes.pages;
      logical = t.sizes.logical;
      random = t.sizes.random;
      state = at f (view_of t);
    }

-- what a layer means, by what its device means
abbrev pub layer_of : {D : Type 0} → (D → Flash) → Layer D → runs.Layer
layer_of flash y = meant (flash y.device) y.tables

-- the role of a block, if there are tables and such a block
abbrev pub role_meant : Option Tables → ℕ → Option Role
role_meant None b = None
role_meant (Some t) b = cond (nat_lt b t.sizes.blocks) (Some (role_of (view_of t) b)) None

-- where a run starts
abbrev pub started : Flash → ℕ → ℕ → ℕ → runs.Start
started f logical random first = record { device = f; logical = logical; random = random; first = first }

-- the number of each refusal
abbrev pub refusal_number : Refusal → ℕ
refusal_number NoSuchSector = 13
refusal_number BufferNotASector = 3
refusal_number BlocksWornOut = 12
refusal_number StampsUsedUp = 14

-- and what it says in words
abbrev pub refusal_text : Refusal → List ℕ
refusal_text NoSuchSector = codes "no such sector"
refusal_text BufferNotASector = codes "the buffer is not 512 bytes long"
refusal_text BlocksWornOut = codes "the blocks are worn out"
refusal_text StampsUsedUp = codes "the stamps are used up"

-- What the first checks of a read or a write of sector n answer, where there are so many sectors and the buffer has so many bytes.
abbrev pub Addressed : ℕ → ℕ → ℕ → Result (Unit {0}) Refusal → Type 0
Addressed n size len (Ok u) = (n < size) × (len ≡ 512)
Addressed n size len (Err NoSuchSector) = size ≤ n
Addressed n size len (Err BufferNotASector) = (n < size) × (len ≢ 512)
Addressed n size len (Err BlocksWornOut) = ⊥
Addressed n size len (Err StampsUsedUp) = ⊥

abbrev pub unfit_number : Unfit → ℕ
unfit_number OutOfRange = 11
unfit_number WornOut = 12

abbrev pub unfit_text : Unfit → List ℕ
unfit_text OutOfRange = codes "the sizes are out of range"
unfit_text WornOut = codes "a block is worn out"

abbrev pub fit_told : Result (Unit {0}) Unfit → Option ℕ
fit_told (Ok u) = None
fit_told (Err e) = Some (unfit_number e)

abbrev pub admitted_told : Result WriteKind Refusal → Option ℕ
admitted_told (Ok kind) = None
admitted_told (Err e) = Some (refusal_number e)

-- what a read found, and the buffer after it
abbrev pub found_told : Found → List ℕ → ledger.Reply
found_told Bytes buffer = record { answer = ledger.bytes; buffer = buffer }
found_told NeverWritten buffer = record { answer = ledger.never_written; buffer = buffer }

abbrev pub read_told : Result Found Refusal → List ℕ → ledger.Reply
read_told (Ok found) buffer = found_told found buffer
read_told (Err e) buffer = record { answer = ledger.refused (refusal_number e); buffer = buffer }

-- a write's answer, and the bytes after it
abbrev pub write_told : Result (ℕ × ℕ) Refusal → List ℕ → ledger.Reply
write_told (Ok counts) buffer = record { answer = ledger.wrote counts.0 counts.1; buffer = buffer }
write_told (Err e) buffer = record { answer = ledger.refused (refusal_number e); buffer = buffer }
