-- How the code of a step is held to the scheme's: from the device and the tables before it, it leaves what the step's work leaves.
use Rattle.std.specs.Prelude.{◌≡◌, ℕ, ◌≤◌, Bool, true, false, List, Some, None, Option}
use Rattle.flash.specs.Meaning.{Flash, Page, blank, holds}
use Rattle.flash.specs.declared.device.Mark.{Mark}
use Rattle.scheme.specs.Steps as scheme
use Rattle.scheme.specs.Tables.{Tables as SchemeTables}
use Rattle.scheme.specs.Work.{State, Work}
use Rattle.fast.specs.Meaning.{view_of, Sized}
use Rattle.fast.specs.declared.steps.Fresh.{Fresh}
use Rattle.fast.specs.declared.steps.Page as code
use Rattle.fast.specs.declared.steps.Step.{Step}
use Rattle.fast.specs.declared.steps.WriteKind.TheVariants.{First, Overwrite}
use Rattle.fast.specs.declared.steps.WriteKind.{WriteKind}
use Rattle.fast.specs.declared.tables.Tables.{Tables}

-- the page that a mark and bytes say
abbrev pub page_told : Option Mark → List ℕ → Page
page_told None bytes = blank
page_told (Some m) bytes = holds m.sector.0 m.stamp bytes

-- whether a write is the first of its sector
abbrev pub is_first : WriteKind → Bool
is_first First = true
is_first Overwrite = false

-- the page that is programmed
abbrev pub page_made : code.Page → Page
page_made p = holds p.mark.sector.0 p.mark.stamp p.bytes.now

-- a new page for one offset
abbrev pub fresh_view : Option Fresh → Option scheme.Fresh
fresh_view None = None
fresh_view (Some x) = Some (record { offset = x.offset.0; content = page_made x.page })

abbrev pub at : Flash → SchemeTables → State
at f t = record { flash = f; tables = t }

-- Work that leaves the tables alone: the flash after it, and how many pages were copied.
pub record Copied (w : Work) (f : Flash) (copies : ℕ) : Type 0 where
  pub flash : f ≡ w.after.flash
  pub copied : copies ≡ w.copies

-- Any work: the state after it, and how many blocks were erased and pages copied.
pub record Left (w : Work) (f : Flash) (t : SchemeTables) (e n : ℕ) : Type 0 where
  pub state : at f t ≡ w.after
  pub erases : e ≡ w.erases
  pub copies : n ≡ w.copies

-- A step erased at most m blocks and copied at most n pages.
abbrev pub Few : ℕ → ℕ → Step → Type 0
Few m n step = (step.erases ≤ m) × (step.copies ≤ n)

module _ {D : Type 0} (flash : D → Flash) (work : State → Work) (before : D) (t : Tables) (after : D) where
  -- The step leaves this device and these tables, with these counts.
  abbrev pub Does : Step → Type 0
  Does step = Left (work (at (flash before) (view_of t))) (flash after) (view_of step.tables) step.erases step.copies

  -- It erases and copies nothing.
  abbrev pub Writes : Tables → Type 0
  Writes u = Left (work (at (flash before) (view_of t))) (flash after) (view_of u) 0 0

  -- It copies so many pages, and leaves the tables alone.
  abbrev pub Carries : ℕ → Type 0
  Carries n = Copied (work (at (flash before) (view_of t))) (flash after) n

  -- The step does the work, and leaves the layer as large and the next stamp the same.
  pub record DoesSized (step : Step) : Type 0 where
    pub does : Does step
    pub sized : Sized step.tables t

  -- The same of a step that erases and copies nothing.
  pub record WritesSized (u : Tables) : Type 0 where
    pub writes : Writes u
    pub sized : Sized u t
