-- The cells that the instances of a list write and read, as numbers.
use Rattle.std.proofs.Common.{◌≡◌, ℕ, ◌+◌, ◌<◌, ◌≤◌, Bool, false, cond, eqb, ◌⊎◌, List, [], ◌∷◌, length, Some, count_by, Option, unwrap_or, sym, refl, ap, ◌∙◌, inl, inr, arith}
use Rattle.std.proofs.lemmas.Option.{slice_get_past}
use Rattle.std.proofs.lemmas.List.Elements.{All-cons, All-contains, All-contains_itself, All-head, All-nil, All-tail}
use Rattle.std.proofs.lemmas.List.Sums.{sum_by-cons}
use Rattle.std.proofs.lemmas.Bool.{cases_eq, cases_lt, eq-eqb, ne_eqb}
use Rattle.std.specs.Option.{option_map}
use Rattle.std.specs.List.{Contains, All, slice_get}
use Rattle.records.specs.Instance.{Instance}
use Rattle.sources.specs.Numbers.{total}
use Rattle.sources.specs.Questions.{earlier, readers, slots_at, slots_of, writes_at}
use Rattle.orders.specs.Faithful.{Conflict, touched}

-- how often the instance at p writes c: once or never
pub writes_of : List Instance → ℕ → ℕ → ℕ
writes_of l c p = cond (writes_at c l p) 1 0

-- how many read slots of the instance at p hold c
pub reads_of : List Instance → ℕ → ℕ → ℕ
reads_of l c p = slots_at c l p

pub earlier_is : (c p : ℕ) (l : List Instance) → earlier c p l ≡ total (writes_of l c) p
unfolding earlier writes_of
earlier_is c p l = refl

pub readers_is : (c v : ℕ) (l : List Instance) → readers c v l ≡ total (λ p. cond (eqb (total (writes_of l c) p) v) (reads_of l c p) 0) (length l)
unfolding readers earlier writes_of reads_of
readers_is c v l = refl

-- both depend on the instance alone
pub writes_same : (l r : List Instance) (c p j : ℕ) → slice_get l p ≡ slice_get r j → writes_of l c p ≡ writes_of r c j
unfolding writes_of
writes_same l r c p j e = ap (λ (o : Option Instance). cond (unwrap_or (option_map (λ (i : Instance). eqb i.written c) o) false) 1 0) e

pub reads_same : (l r : List Instance) (c p j : ℕ) → slice_get l p ≡ slice_get r j → reads_of l c p ≡ reads_of r c j
unfolding reads_of
reads_same l r c p j e = ap (λ (o : Option Instance). unwrap_or (option_map (slots_of c) o) 0) e

pub writes_is : (l : List Instance) (c p : ℕ) (i : Instance) → slice_get l p ≡ Some i → writes_of l c p ≡ cond (eqb i.written c) 1 0
writes_is l c p i e = writes_same l (i ∷ []) c p 0 e ∙ one
  where
    one : writes_of (i ∷ []) c 0 ≡ cond (eqb i.written c) 1 0
    one = unfold writes_of in refl

pub reads_is : (l : List Instance) (c p : ℕ) (i : Instance) → slice_get l p ≡ Some i → reads_of l c p ≡ slots_of c i
reads_is l c p i e = reads_same l (i ∷ []) c p 0 e ∙ one
  where
    one : reads_of (i ∷ []) c 0 ≡ slots_of c i
    one = unfold reads_of in refl

-- an instance writes its written cell and no other
pub writes_own : (l : List Instance) (p : ℕ) (i : Instance) → slice_get l p ≡ Some i → writes_of l i.written p ≡ 1
writes_own l p i e = writes_is l i.written p i e ∙ ap (λ (t : Bool). cond t 1 0) (eq-eqb i.written i.written refl)

pub writes_only : (l : List Instance) (p : ℕ) (i : Instance) → slice_get l p ≡ Some i → (c : ℕ) → 1 ≤ writes_of l c p → c ≡ i.written
writes_only l p i e c h =
    elim (cases_eq i.written c) [
      | inl same ↦ sym same
      | inr ne ↦ absurd (omega (arith, writes_is l c p i e, ap {B = ℕ} (λ (t : Bool). cond t 1 0) (ne_eqb i.written c ne)))
    ]

pub writes_none : (l : List Instance) (p : ℕ) (i : Instance) → slice_get l p ≡ Some i → (c : ℕ) → (i.written ≡ c → ⊥) → writes_of l c p ≡ 0
writes_none l p i e c ne =
    elim (cases_eq (writes_of l c p) 0) [
      | inl z ↦ z
      | inr some ↦ absurd (ne (sym (writes_only l p i e c (omega arith))))
    ]

pub writes_below : (l : List Instance) (c p : ℕ) → 1 ≤ writes_of l c p → p < length l
writes_below l c p h =
    elim (cases_lt p (length l)) [
      | inl b ↦ b
      | inr past ↦ absurd (omega (arith, writes_same l [] c p 0 (slice_get_past l p past), nothing))
    ]
  where
    nothing : writes_of [] c 0 ≡ 0
    nothing = unfold writes_of in refl

-- how often c stands in a list
pub count : ℕ → List ℕ → ℕ
count c cs = count_by (λ r. eqb r c) cs

pub count_cons : (c x : ℕ) (cs : List ℕ) → count c (x ∷ cs) ≡ cond (eqb x c) 1 0 + count c cs
unfolding count
count_cons c x cs = sum_by-cons (λ r. cond (eqb r c) 1 0) x cs

pub slots_count : (c : ℕ) (i : Instance) → slots_of c i ≡ count c i.reads
unfolding count
slots_count c i = refl

count_front : (c x : ℕ) (cs : List ℕ) → x ≡ c → 1 ≤ count c (x ∷ cs)
count_front c x cs e = omega (arith, count_cons c x cs, ap {B = ℕ} (λ (t : Bool). cond t 1 0) (eq-eqb x c e))

pub count_behind : (c x : ℕ) (cs : List ℕ) → (x ≡ c → ⊥) → count c (x ∷ cs) ≡ count c cs
count_behind c x cs ne = omega (arith, count_cons c x cs, ap {B = ℕ} (λ (t : Bool). cond t 1 0) (ne_eqb x c ne))

-- what holds of all elements holds of each that is counted, and the other way round
pub all_counted : (P : ℕ → Type 0) (cs : List ℕ) → All P cs → (c : ℕ) → 1 ≤ count c cs → P c
all_counted P [] h c n = absurd (omega (arith, nothing))
  where
    nothing : count c [] ≡ 0
    nothing = unfold count in refl
all_counted P (x ∷ cs) h c n =
    elim (cases_eq x c) [
      | inl e ↦ rw e at (All-head P x cs h)
      | inr ne ↦ all_counted P cs (All-tail P x cs h) c (omega (arith, count_behind c x cs ne))
    ]

pub counted_all : (P : ℕ → Type 0) (cs : List ℕ) → ((c : ℕ) → 1 ≤ count c cs → P c) → All P cs
counted_all P [] h = All-nil P
counted_all P (x ∷ cs) h =
    All-cons P x cs (h x (count_front x x cs refl)) (counted_all P cs (λ c n. h c (omega (arith, count_cons c x cs))))

pub counted_has : (c : ℕ) (cs : List ℕ) → 1 ≤ count c cs → Contains cs c
counted_has c cs n = all_counted (Contains cs) cs (All-contains_itself cs) c n

pub has_counted : (c : ℕ) (cs : List ℕ) → Contains cs c → 1 ≤ count c cs
has_counted c cs h = All-contains (λ x. 1 ≤ count x cs) cs c (counted_all (λ x. 1 ≤ count x cs) cs (λ x n. n)) h

-- an instance touches the cells that it writes or reads
pub touches : (l : List Instance) (c p : ℕ) (i : Instance) → slice_get l p ≡ Some i → count c (touched i) ≡ writes_of l c p + reads_of l c p
touches l c p i e = omega (arith, count_cons c i.written i.reads, writes_is l c p i e, reads_is l c p i e, slots_count c i)

-- two instances conflict at a cell: the first writes it and the other touches it, or the first reads it and the other writes it
pub conflict_at : (l : List Instance) (p q : ℕ) (i j : Instance) → slice_get l p ≡ Some i → slice_get l q ≡ Some j → Conflict i j → (c : ℕ) × (((1 ≤ writes_of l c p) × (1 ≤ writes_of l c q + reads_of l c q)) ⊎ ((1 ≤ reads_of l c p) × (1 ≤ writes_of l c q)))
conflict_at l p q i j e f (inl h) = (i.written, inl (omega (arith, writes_own l p i e), omega (arith, has_counted i.written (touched j) h, touches l i.written q j f)))
conflict_at l p q i j e f (inr h) =
    let some : 1 ≤ writes_of l j.written p + reads_of l j.written p = omega (arith, has_counted j.written (touched i) h, touches l j.written p i e) in
    let own = writes_own l q j f in
    elim (cases_eq (reads_of l j.written p) 0) [
      | inl none ↦ (j.written, inl (omega arith, omega arith))
      | inr reads ↦ (j.written, inr (omega arith, omega arith))
    ]

-- and the other way round
pub conflict_writes : (l : List Instance) (p q c : ℕ) (i j : Instance) → slice_get l p ≡ Some i → slice_get l q ≡ Some j → 1 ≤ writes_of l c p → 1 ≤ writes_of l c q + reads_of l c q → Conflict i j
conflict_writes l p q c i j e f w t =
    inl (counted_has i.written (touched j) (rw (← writes_only l p i e c w) (omega (arith, touches l c q j f))))

pub conflict_reads : (l : List Instance) (p q c : ℕ) (i j : Instance) → slice_get l p ≡ Some i → slice_get l q ≡ Some j → 1 ≤ reads_of l c p → 1 ≤ writes_of l c q → Conflict i j
conflict_reads l p q c i j e f t w =
    inr (counted_has j.written (touched i) (rw (← writes_only l q j f c w) (omega (arith, touches l c p i e))))
