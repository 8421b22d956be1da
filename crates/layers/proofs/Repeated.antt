-- The questions to a list several times over.
use Rattle.std.proofs.Common.{◌≡◌, ℕ, zero, suc, ◌+◌, ◌-◌, ◌*◌, ◌/◌, ◌%◌, ◌<◌, ◌≤◌, min, Bool, cond, List, [], ◌++◌, length, Some, None, Option, sym, refl, ap, ◌∙◌, ◌⊎◌, inl, inr, arith, length-append}
use Rattle.std.proofs.lemmas.Nat.{div-add-mod', mul-le}
use Rattle.std.proofs.lemmas.Bool.{cases_lt, cond_above, cond_below}
use Rattle.std.proofs.Math.Dec.{leb-suc-suc}
use Rattle.std.proofs.Math.Nat.{div-eq_of_lt, div-eq-sub-div, mod-eq_of_lt, mod-eq-sub-mod, zero-div, zero-mod}
use Rattle.std.specs.Option.{option_map}
use Rattle.std.specs.List.{slice_get}
use Rattle.records.specs.Instance.{Instance}
use Rattle.sources.proofs.Items.{mapped_twice}
use Rattle.sources.proofs.Readers.{readers_past}
use Rattle.sources.proofs.Writers.{earlier_none, earlier_past, writer_absent}
use Rattle.sources.specs.Numbers.{total}
use Rattle.sources.specs.Questions.{earlier, readers, writer, writes}
use Rattle.sources.proofs.Joined.{earlier_after, earlier_left, nth_after, nth_left, readers_left, readers_right, writer_left, writer_right, writes_append}
use Rattle.layers.specs.Lists.{copies, in_turn}
use Rattle.layers.specs.Sound.{length_copies}

pub nth_turn : (r p : ℕ) (l : List Instance) → p < length (copies r l) → slice_get (copies r l) p ≡ slice_get l (p % length l)
unfolding copies
nth_turn zero p l h = absurd (omega arith)
nth_turn (suc r) p l h =
    elim (cases_lt p (length l)) [
      | inl here ↦ nth_left l (copies r l) p here ∙ ap (slice_get l) (sym (mod-eq_of_lt here))
      | inr past ↦ nth_after p l (copies r l) past ∙ (nth_turn r (p - length l) l (omega (arith, length-append l (copies r l))) ∙ ap (slice_get l) (sym (mod-eq-sub-mod past)))
    ]

-- an empty list is empty when repeated
pub none_below : (r : ℕ) (l : List Instance) → length l ≡ 0 → length (copies r l) ≡ 0
none_below r l e = rw (length_copies r l, e) (omega arith)

-- earlier writes
writes_copies : (c r : ℕ) (l : List Instance) → writes c (copies r l) ≡ r * writes c l
unfolding copies
writes_copies c zero l = earlier_none c [] ∙ omega arith
writes_copies c (suc r) l = writes_append c l (copies r l) ∙ omega (arith, writes_copies c r l)

-- past the end there are no more
pub earlier_bound : (c p : ℕ) (l : List Instance) → earlier c (min p (length l)) l ≡ earlier c p l
earlier_bound c p l =
    elim (cases_lt p (length l)) [
      | inl h ↦ ap (λ (k : ℕ). earlier c k l) (omega arith)
      | inr h ↦ earlier_past c (min p (length l)) l (omega arith) ∙ sym (earlier_past c p l h)
    ]

pub earlier_turn : (c r p : ℕ) (l : List Instance) → 0 < length l → p ≤ length (copies r l) → earlier c p (copies r l) ≡ p / length l * writes c l + earlier c (p % length l) l
unfolding copies
earlier_turn c zero p l some h =
    let start : p ≡ 0 = omega arith in
    rw (start, zero-div (length l), zero-mod (length l), earlier_none c [], earlier_none c l) (omega arith)
earlier_turn c (suc r) p l some h =
    elim (cases_lt p (length l)) [
      | inl here ↦ rw (div-eq_of_lt here, mod-eq_of_lt here) (omega (arith, earlier_left c p l (copies r l) (omega arith)))
      | inr past ↦ rw (div-eq-sub-div some past, mod-eq-sub-mod past) (omega (arith, earlier_after c p l (copies r l) past, earlier_turn c r (p - length l) l some (omega (arith, length-append l (copies r l)))))
    ]

-- writers
moved_none : (o : Option ℕ) (n : ℕ) → o ≡ option_map (λ p. 0 * n + p) o
moved_none None n = refl
moved_none (Some x) n = let e : x ≡ 0 * n + x = omega arith in ap Some e

pub writer_turn : (c r k : ℕ) (l : List Instance) → 0 < writes c l → k / writes c l < r → writer c k (copies r l) ≡ option_map (λ p. k / writes c l * length l + p) (writer c (k % writes c l) l)
unfolding copies
writer_turn c zero k l some h = absurd (omega arith)
writer_turn c (suc r) k l some h =
    elim (cases_lt k (writes c l)) [
      | inl here ↦ rw (div-eq_of_lt here, mod-eq_of_lt here) (writer_left c k l (copies r l) here ∙ moved_none (writer c k l) (length l))
      | inr past ↦
          let turn = div-eq-sub-div some past in
          rw (turn, mod-eq-sub-mod past)
          (writer_right c k l (copies r l) past
          ∙ (ap (option_map (λ p. length l + p)) (writer_turn c r (k - writes c l) l some (omega (arith, turn)))
          ∙ mapped_twice (λ p. length l + p) (λ p. (k - writes c l) / writes c l * length l + p) (λ p. ((k - writes c l) / writes c l + 1) * length l + p) (λ p. omega arith) (writer c ((k - writes c l) % writes c l) l)))
    ]

pub writer_beyond : (c r k : ℕ) (l : List Instance) → r ≤ k / writes c l → writer c k (copies r l) ≡ None
writer_beyond c r k l h =
    writer_absent c k (copies r l) (rw (writes_copies c r l) (omega (arith, div-add-mod' k (writes c l), mul-le r (writes c l) (k / writes c l) (writes c l) h (omega arith))))

pub writer_unwritten : (c r k : ℕ) (l : List Instance) → writes c l ≡ 0 → writer c k (copies r l) ≡ None
writer_unwritten c r k l z = writer_absent c k (copies r l) (rw (writes_copies c r l, z) (omega arith))

-- readers
readers_nil : (c v : ℕ) → readers c v [] ≡ 0
unfolding readers total
readers_nil c v = refl

pub readers_unwritten : (c v r : ℕ) (l : List Instance) → writes c l ≡ 0 → readers c v (copies r l) ≡ r * readers c v l
unfolding copies
readers_unwritten c v zero l z = readers_nil c v ∙ omega arith
readers_unwritten c v (suc r) l z =
    let same : v - writes c l ≡ v = omega arith in
    readers_right c v l (copies r l) (omega arith)
    ∙ (ap (λ (k : ℕ). readers c v l + readers c k (copies r l)) same
    ∙ omega (arith, readers_unwritten c v r l z))

turn_none : (q c v : ℕ) (l : List Instance) → in_turn 0 q c v l ≡ 0
turn_none q c v l = sym (cond_above q 0 (readers c v l) 0 0 (omega arith) refl)

turn_first : (r c v : ℕ) (l : List Instance) → in_turn (suc r) 0 c v l ≡ readers c v l
turn_first r c v l = sym (cond_below 0 (suc r) (readers c v l) 0 (omega arith))

turn_suc : (r q c v : ℕ) (l : List Instance) → in_turn (suc r) (suc q) c v l ≡ in_turn r q c v l
turn_suc r q c v l = ap (λ (t : Bool). cond t (readers c v l) 0) (leb-suc-suc (suc q) r)

-- a version that begins no turn, or the first, is read in one turn
pub readers_within : (c r q e : ℕ) (l : List Instance) → e < writes c l → (q ≡ 0) ⊎ (0 < e) → readers c (q * writes c l + e) (copies r l) ≡ in_turn r q c e l
unfolding copies
readers_within c zero q e l b h = readers_nil c (q * writes c l + e) ∙ sym (turn_none q c e l)
readers_within c (suc r) zero e l b h =
    let here : 0 * writes c l + e ≡ e = omega arith in
    ap (λ (v : ℕ). readers c v (l ++ copies r l)) here ∙ (readers_left c e l (copies r l) b ∙ sym (turn_first r c e l))
readers_within c (suc r) (suc q) e l b h =
    let some : 0 < e = elim h [ inl first ↦ absurd (omega arith) | inr some ↦ some ] in
    let rest : (suc q * writes c l + e) - writes c l ≡ q * writes c l + e = omega arith in
    omega (
      arith,
      readers_right c (suc q * writes c l + e) l (copies r l) (omega arith),
      readers_past c (suc q * writes c l + e) l (omega arith),
      ap (λ (v : ℕ). readers c v (copies r l)) rest,
      readers_within c r q e l b (inr some),
      turn_suc r q c e l,
    )

-- one that begins a later turn is also read at the end of the turn before
pub readers_between : (c r q : ℕ) (l : List Instance) → 0 < writes c l → readers c (suc q * writes c l) (copies r l) ≡ in_turn r (suc q) c 0 l + in_turn r q c (writes c l) l
unfolding copies
readers_between c zero q l some = omega (arith, readers_nil c (suc q * writes c l), turn_none (suc q) c 0 l, turn_none q c (writes c l) l)
readers_between c (suc r) zero l some =
    let here : 1 * writes c l ≡ writes c l = omega arith in
    let rest : 1 * writes c l - writes c l ≡ 0 * writes c l + 0 = omega arith in
    omega (
      arith,
      readers_right c (1 * writes c l) l (copies r l) (omega arith),
      ap (λ (v : ℕ). readers c v l) here,
      ap (λ (v : ℕ). readers c v (copies r l)) rest,
      readers_within c r 0 0 l some (inl refl),
      turn_first r c (writes c l) l,
      turn_suc r 0 c 0 l,
    )
readers_between c (suc r) (suc q) l some =
    let rest : suc (suc q) * writes c l - writes c l ≡ suc q * writes c l = omega arith in
    omega (
      arith,
      readers_right c (suc (suc q) * writes c l) l (copies r l) (omega arith),
      readers_past c (suc (suc q) * writes c l) l (omega arith),
      ap (λ (v : ℕ). readers c v (copies r l)) rest,
      readers_between c r q l some,
      turn_suc r (suc q) c 0 l,
      turn_suc r q c (writes c l) l,
    )
