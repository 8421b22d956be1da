-- Faithful orders as a relation: of a list to itself, of orders of orders, and turned round.
use Rattle.std.proofs.Common.{◌≡◌, ℕ, ◌<◌, List, length, Some, sym, refl, ap, ◌∙◌, inl, inr, arith}
use Rattle.std.proofs.lemmas.Option.{slice_get_within}
use Rattle.std.proofs.lemmas.Bool.{cases_lt, cases_order}
use Rattle.std.specs.List.{slice_get}
use Rattle.records.specs.Instance.{Instance}
use Rattle.orders.proofs.Wholes.{match_there}
use Rattle.orders.specs.Faithful.{Conflict, Match}
use Rattle.orders.specs.Theorems.{OrdersCompose, OrdersTurn, OwnOrder}

pub own_order : OwnOrder
own_order l = (
  λ j. j,
  record {
    same_length = refl;
    in_range = λ i b. b;
    one_to_one = λ i j a b e. e;
    shows = λ i b. refl;
    keeps = λ i j a b x y conflict less. less;
  },
)

pub orders_compose : OrdersCompose
orders_compose l r q (place, m) (other, k) = (
  λ j. place (other j),
  record {
    same_length = k.same_length ∙ m.same_length;
    in_range = λ i b. m.in_range (other i) (k.in_range i b);
    one_to_one = λ i j a b e. k.one_to_one i j a b (m.one_to_one (other i) (other j) (k.in_range i a) (k.in_range j b) e);
    shows = λ i b. m.shows (other i) (k.in_range i b) ∙ k.shows i b;
    keeps = λ i j a b x y conflict less.
        k.keeps i j a b x y conflict
        (m.keeps (other i) (other j) a b (k.shows i (slice_get_within q i a x) ∙ x) (k.shows j (slice_get_within q j b y) ∙ y) conflict less);
  },
)

conflict_turn : (a b : Instance) → Conflict a b → Conflict b a
conflict_turn a b (inl h) = inr h
conflict_turn a b (inr h) = inl h

-- the record that has the place q
back : (l r : List Instance) (place : ℕ → ℕ) → Match l r place → (q : ℕ) → (j : ℕ) × (q < length l → (j < length r) × (place j ≡ q))
back l r place m q =
    elim (cases_lt q (length l)) [
      | inl b ↦ let (j, c, e) = match_there l r place m q b in (j, λ z. (c, e))
      | inr past ↦ (0, λ b. absurd (omega arith))
    ]

turned : (l r : List Instance) (place : ℕ → ℕ) → Match l r place → (from : ℕ → ℕ) → ((q : ℕ) → q < length l → (from q < length r) × (place (from q) ≡ q)) → Match r l from
turned l r place m from h = record {
  same_length = sym m.same_length;
  in_range = λ i b. (h i b).0;
  one_to_one = λ i j a b e. sym (h i a).1 ∙ (ap place e ∙ (h j b).1);
  shows = λ i b. sym (m.shows (from i) (h i b).0) ∙ ap (slice_get l) (h i b).1;
  keeps = keeps;
}
  where
    there : (i : ℕ) (a : Instance) → slice_get l i ≡ Some a → slice_get r (from i) ≡ Some a
    there i a x = let b = slice_get_within l i a x in sym (m.shows (from i) (h i b).0) ∙ (ap (slice_get l) (h i b).1 ∙ x)

    keeps : (i j : ℕ) (a b : Instance) → slice_get l i ≡ Some a → slice_get l j ≡ Some b → Conflict a b → from i < from j → i < j
    keeps i j a b x y conflict less =
        let (_, e) = h i (slice_get_within l i a x) in
        let (_, f) = h j (slice_get_within l j b y) in
        elim (cases_order i j) [
          | inl same ↦ absurd (omega (arith, ap from same))
          | inr apart ↦ elim apart [
            | inl before ↦ before
            | inr after ↦ absurd (omega (arith, m.keeps (from j) (from i) b a (there j b y) (there i a x) (conflict_turn a b conflict) (omega arith)))
          ]
        ]

pub orders_turn : OrdersTurn
orders_turn l r (place, m) = (λ q. (back l r place m q).0, turned l r place m (λ q. (back l r place m q).0) (λ q. (back l r place m q).1))
