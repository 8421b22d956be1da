-- The text of a whole trace.
use Rattle.std.specs.Prelude.{◌≡◌, ℕ, ◌+◌, ◌<◌, ◌≤◌, if◌then◌else◌, List, [], ◌∷◌, ◌++◌, length, take, Some, None, codes, decimal, Option, nat_lt}
use Rattle.records.specs.Instance.{Instance}
use Rattle.records.specs.Text.{text}
use Rattle.trace.specs.Faults as faults
use Rattle.trace.specs.Traces.{Ends, SpellAll, whole}
use Rattle.trace.specs.declared.fault.ReadFault.{ReadFault}
use Rattle.listing.specs.declared.listing.Listing.{Listing}
use Rattle.listing.specs.declared.fault.ListFault.{ListFault}
use Rattle.listing.specs.declared.fault.ListFault.TheVariants.{TooLong, Read}

-- the number of each refusal
abbrev pub number_of : ListFault → ℕ
number_of TooLong = 48
number_of (Read f) = faults.number_of f

-- the place of each refusal
abbrev pub place_of : ListFault → ℕ
place_of TooLong = 65536
place_of (Read f) = faults.place_of f

-- a refusal as text
abbrev pub refused_text : ListFault → List ℕ
refused_text f = codes "refused " ++ (decimal (number_of f) ++ (codes " at " ++ decimal (place_of f)))

-- the line of the record with this number
abbrev pub line : ℕ → Instance → List ℕ
line n i = decimal n ++ (codes ": " ++ (text i ++ codes "\n"))

-- the lines of records after the first n, and the last line: how many records there are, or the refusal
abbrev pub lines : ℕ → List Instance → Option ReadFault → List ℕ
lines n [] None = decimal n ++ codes " records\n"
lines n [] (Some f) = refused_text (Read f) ++ codes "\n"
lines n (i ∷ is) o = line (n + 1) i ++ lines (n + 1) is o

-- the bytes that a listing lists
abbrev pub bytes_of : Listing → List ℕ
bytes_of x = x.bytes.now

-- the text of a trace, which has at most 65,536 bytes
abbrev pub listing : List ℕ → List ℕ
listing bs = if nat_lt 65536 (length bs) then refused_text TooLong ++ codes "\n" else lines 0 (whole bs).taken (whole bs).stop

-- the text has a line for each record that the trace spells, up to its end or to the bytes that are refused; a trace
-- that spells records to its end has their lines and their number
pub record Lists (bs : List ℕ) : Type 0 where
  pub long : 65536 < length bs → listing bs ≡ codes "refused 48 at 65536\n"
  pub short : length bs ≤ 65536 → (is : List Instance) × (o : Option ReadFault) × Ends bs is o × (listing bs ≡ lines 0 is o)
  pub exact : length bs ≤ 65536 → (is : List Instance) → SpellAll bs is → listing bs ≡ lines 0 is None

-- the first n bytes of a trace tell its text
abbrev pub Suffice : ℕ → Type 0
Suffice n = (bs : List ℕ) → listing (take n bs) ≡ listing bs
