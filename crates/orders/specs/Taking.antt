-- Taking records one after the other, by versions and tallies.
use Rattle.std.specs.Prelude.{◌≡◌, ℕ, ◌+◌, List, All, take, Some}
use Rattle.std.specs.List.{slice_get}
use Rattle.records.specs.Instance.{Instance}
use Rattle.sources.specs.Questions.{earlier, readers, slots_of, writer, writes}

-- the version of a cell after some records: how many of them write it
abbrev pub version : ℕ → List Instance → ℕ
version c r = writes c r

-- the tally of a cell after some records: how many of their read slots hold it at its version
abbrev pub tally : ℕ → List Instance → ℕ
tally c r = readers c (version c r) r

-- after the records r, by the versions alone, i is the instance at p of the list: the version of the cell that it writes
-- names p, the instance there is i, and each cell that it reads is at the version that p sees
pub record VersionsAgree (l r : List Instance) (i : Instance) (p : ℕ) : Type 0 where
  pub named : writer i.written (version i.written r) l ≡ Some p
  pub shown : slice_get l p ≡ Some i
  pub current : All (λ c. version c r ≡ earlier c p l) i.reads

-- the version that i overwrites has been read, with the reads of i itself, as often as the list reads it
abbrev pub TallyFull : List Instance → List Instance → Instance → Type 0
TallyFull l r i = tally i.written r + slots_of i.written i ≡ readers i.written (version i.written r) l

-- after the records r, i may be taken next
abbrev pub MayTake : List Instance → List Instance → Instance → Type 0
MayTake l r i = ((p : ℕ) × VersionsAgree l r i p) × TallyFull l r i

-- the records r were taken one after the other, from nothing: each may be taken after those before it
abbrev pub Taken : List Instance → List Instance → Type 0
Taken l r = (n : ℕ) (i : Instance) → slice_get r n ≡ Some i → MayTake l (take n r) i
