-- Whole traces.
use Rattle.std.specs.Prelude.{◌≡◌, ℕ, zero, suc, ◌+◌, List, [], ◌∷◌, ◌++◌, length, drop, Some, None, Ok, Err, Option, Result}
use Rattle.records.specs.Instance.{Instance}
use Rattle.trace.specs.Reading.{Piece, read_at}
use Rattle.trace.specs.Spelling.{Spells}
use Rattle.trace.specs.declared.fault.ReadFault.{ReadFault}
use Rattle.trace.specs.declared.fault.TraceFault.{TraceFault}
use Rattle.trace.specs.declared.fault.TraceFault.TheVariants.{Read, NoMemory}

-- the bytes are spellings of these records, one after the other
abbrev pub SpellAll : List ℕ → List Instance → Type 0
SpellAll bs [] = bs ≡ []
SpellAll bs (i ∷ is) = (s : List ℕ) × (t : List ℕ) × (bs ≡ s ++ t) × Spells s i × SpellAll t is

-- a trace that was read record by record: its records, and the refusal that ended the reading, if one did
pub record Walk : Type 0 where
  pub taken : List Instance
  pub stop : Option ReadFault

-- how far a step goes
abbrev pub size_read : Result (Option Piece) ReadFault → ℕ
size_read (Ok (Some x)) = x.size
size_read (Ok None) = 0
size_read (Err f) = 0

-- one step, and the walk from there on
abbrev pub from_step : Result (Option Piece) ReadFault → Walk → Walk
from_step (Ok (Some x)) w = record { taken = x.meaning ∷ w.taken; stop = w.stop }
from_step (Ok None) w = record { taken = []; stop = None }
from_step (Err f) w = record { taken = []; stop = Some f }

-- bytes that lie at place p, read record by record, n records at most
abbrev pub walk : ℕ → ℕ → List ℕ → Walk
walk zero p bs = record { taken = []; stop = None }
walk (suc n) p bs = from_step (read_at p bs) (walk n (p + size_read (read_at p bs)) (drop (size_read (read_at p bs)) bs))

-- a whole trace; it has no more records than bytes
abbrev pub whole : List ℕ → Walk
whole bs = walk (length bs) 0 bs

-- where a walk ended: at the end, or where the bytes left are refused; what lies before spells its records
abbrev pub Ends : List ℕ → List Instance → Option ReadFault → Type 0
Ends bs is None = SpellAll bs is
Ends bs is (Some f) = (s : List ℕ) × (t : List ℕ) × (bs ≡ s ++ t) × SpellAll s is × (read_at (length s) t ≡ Err f)

-- reading finds the records that the trace spells, and no others
pub record FindsAll (bs : List ℕ) : Type 0 where
  pub spelled : (is : List Instance) → SpellAll bs is → whole bs ≡ record { taken = is; stop = None }
  pub ends : Ends bs (whole bs).taken (whole bs).stop

-- a refusal is the one that ended the walk; want of memory may come at any time
abbrev pub EndedBy : TraceFault → Walk → Type 0
EndedBy (Read f) w = w.stop ≡ Some f
EndedBy NoMemory w = Unit {0}

-- a refusal is that of the bytes which follow the records of some front of the trace
abbrev pub Stops : TraceFault → List ℕ → Type 0
Stops (Read f) bs = (is : List Instance) × Ends bs is (Some f)
Stops NoMemory bs = Unit {0}
