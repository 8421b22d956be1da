-- What is written is the shortest spelling.
use Rattle.std.proofs.Common.{◌≡◌, ℕ, ◌<◌, ◌≤◌, Bool, false, not, nat_eq, List, [], ◌∷◌, ◌++◌, length, Some, Ok, Err, sym, refl, ap, ◌∙◌, arith}
use Rattle.std.proofs.lemmas.Bool.Decides.{nat_tests}
use Rattle.std.specs.List.{slice_get}
use Rattle.records.specs.Instance.{Instance, Recordable}
use Rattle.trace.proofs.Exact.{size_is, spelled_read}
use Rattle.trace.specs.Layouts.{Fields, bit, if_set, size_of}
use Rattle.trace.specs.Spelling.{Hold, Spells}
use Rattle.trace.specs.Writing.{ReadsBack, Shortest, cell_bytes, is_first, over, shortest, shortest_fields, spelled, write_answer, written_to}
use Rattle.trace.specs.declared.fault.WriteFault.TheVariants.{NoRoom}

hold_bytes : (cs : List ℕ) → Hold (cell_bytes cs) cs
hold_bytes [] = tt
hold_bytes (c ∷ cs) = (omega arith, hold_bytes cs)

operator_zero : (c : ℕ) → not (nat_eq c 0) ≡ false → c ≡ 0
operator_zero c e = grind (arith, nat_tests)

first_out : (c : ℕ) (rs : List ℕ) → not (is_first c rs) ≡ false → slice_get rs 0 ≡ Some c
first_out c rs e = grind (arith, nat_tests)

short_spells : (i : Instance) → Recordable i → Spells (shortest i) i
short_spells i h = record {
  fields = shortest_fields i;
  cells = cell_bytes (if_set (shortest_fields i).written i.written ++ i.reads);
  whole = refl;
  held = hold_bytes (if_set (shortest_fields i).written i.written ++ i.reads);
  reads = refl;
  operator = operator_zero i.operator;
  written = first_out i.written i.reads;
  sound = h;
}

-- a field that some spelling leaves out is left out
operator_least : (o : Bool) (c : ℕ) → (o ≡ false → c ≡ 0) → bit (not (nat_eq c 0)) ≤ bit o
operator_least o c h = grind (arith, nat_tests)

written_least : (w : Bool) (c : ℕ) (rs : List ℕ) → (w ≡ false → slice_get rs 0 ≡ Some c) → bit (not (is_first c rs)) ≤ bit w
written_least w c rs h = grind (arith, nat_tests)

short_size : (i : Instance) → Recordable i → length (shortest i) ≡ size_of (shortest_fields i)
unfolding short_spells
short_size i h = size_is (shortest i) [] i (short_spells i h)

short_least : (i : Instance) → Recordable i → (s : List ℕ) → Spells s i → length (shortest i) ≤ length s
short_least i h s q =
    let short = short_size i h in
    let other : length s ≡ size_of q.fields = size_is s [] i q in
    omega (
      arith,
      short,
      other,
      operator_least q.fields.operator i.operator q.operator,
      written_least q.fields.written i.written i.reads q.written,
      q.reads,
    )

pub is_shortest : (i : Instance) → Recordable i → Shortest i
is_shortest i h = (short_spells i h, short_least i h)

pub reads_back : (i : Instance) → Recordable i → ReadsBack i
reads_back i h p t = spelled_read (shortest i) t i (short_spells i h) p

-- what writing answers and leaves where the bytes have room
fitting : (s out : List ℕ) (n : ℕ) → n ≡ length s → n ≤ length out → (Ok n ≡ write_answer s out) × (over s out ≡ written_to s out)
fitting s out n size fits = grind (arith, nat_tests)

-- what writing answers and leaves, by the size of the layout that is the shortest
module _ (i : Instance) (h : Recordable i) (out : List ℕ) (y : Fields) (n : ℕ) (e : n ≡ size_of y) (is : y ≡ shortest_fields i) where
  size_written : n ≡ length (shortest i)
  size_written = e ∙ (ap size_of is ∙ sym (short_size i h))

  pub no_room : length out < n → (Err (NoRoom n) ≡ write_answer (shortest i) out) × (out ≡ written_to (shortest i) out)
  no_room few = grind (arith, nat_tests, size_written)

  pub room : n ≤ length out → (Ok n ≡ write_answer (shortest i) out) × (over (spelled y i) out ≡ written_to (shortest i) out)
  room fits =
      let r = fitting (shortest i) out n size_written fits in
      (r.0, ap (λ (z : Fields). over (spelled z i) out) is ∙ r.1)
