-- A reader's step finds exactly what is spelled.
use Rattle.std.proofs.Common.{◌≡◌, ℕ, ◌+◌, ◌-◌, List, [], ◌∷◌, ◌++◌, length, take, drop, Some, None, Ok, Err, Option, Result, sym, refl, ap, ◌∙◌, subst, arith}
use Rattle.std.proofs.lemmas.List.{take-append-drop, take_rest, drop-drop}
use Rattle.std.specs.Option.{option_map}
use Rattle.std.specs.Result.{result_map_both}
use Rattle.records.specs.Instance.{Instance}
use Rattle.records.specs.Making.{result_map}
use Rattle.trace.proofs.Exact.{spelled_read}
use Rattle.trace.proofs.Sound.{none_left, read_spelled}
use Rattle.trace.specs.Faults.{place_of}
use Rattle.trace.specs.Reader.{Cursor, Finds, left, stepped}
use Rattle.trace.specs.Reading.{Piece, read_at}
use Rattle.trace.specs.Spelling.{Spells}
use Rattle.trace.specs.declared.fault.ReadCause.{ReadCause}
use Rattle.trace.specs.declared.fault.ReadFault.{ReadFault}

-- the meaning of what was read
abbrev pub answer : Result (Option Piece) ReadFault → Result (Option Instance) ReadFault
answer r = result_map (option_map (λ x. x.meaning)) r

-- what was passed, and what is left after it
passed : (c : Cursor) (n : ℕ) → take (c.place + n - c.place) (left c) ≡ take n (left c)
passed c n = grind arith

pub beyond : (c : Cursor) (n : ℕ) → drop (c.place + n) c.bytes ≡ drop n (left c)
beyond c n = sym (drop-drop n c.place c.bytes)

-- a refusal is at the place that the reader came to
placed_at : {A : Type 0} (p : ℕ) (r : Result A ReadCause) (f : ReadFault) → result_map_both (λ x. x) (λ c. record { cause = c; place = p }) r ≡ Err f → place_of f ≡ p
placed_at p r f e = grind arith

fault_place : (p : ℕ) (bs : List ℕ) (f : ReadFault) → read_at p bs ≡ Err f → place_of f ≡ p
fault_place p [] f e = cc
fault_place p (b ∷ bs) f e = placed_at p _ f e

step_by : (c : Cursor) (r : Result (Option Piece) ReadFault) → read_at c.place (left c) ≡ r → Finds c (answer r) (stepped c r)
step_by c (Ok None) e = (none_left c.place (left c) e, refl)
step_by c (Ok (Some x)) e = (
  subst (λ (l : List ℕ). Spells l x.meaning) (sym (passed c x.size)) (read_spelled c.place (left c) x e).0,
  sym (take-append-drop x.size (left c)) ∙ (λ i. sym (passed c x.size) i ++ sym (beyond c x.size) i),
)
step_by c (Err f) e = (
  fault_place c.place (left c) f e,
  (λ s t i q h. let z = spelled_read s t i h c.place in cc),
  refl,
)

-- a step finds what is spelled, once it is known what was read
pub step_finds : (c : Cursor) (x : Result (Option Piece) ReadFault) → x ≡ read_at c.place (take (length c.bytes - c.place) (left c)) → Finds c (answer x) (stepped c x)
step_finds c x e = step_by c x (sym (e ∙ ap (read_at c.place) (take_rest c.bytes c.place)))
