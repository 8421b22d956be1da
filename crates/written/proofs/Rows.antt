-- Steps over the rows of a written list.
use Rattle.std.proofs.Common.{count_by, is_some, true≢false, ◌≡◌, ℕ, zero, suc, ◌+◌, ◌-◌, ◌<◌, ◌≤◌, min, Bool, true, false, cond, if◌then◌else◌, not, ◌&&◌, eqb, ltb, List, [], ◌∷◌, map, length, get_or, take, Some, None, Ok, Err, Option, Result, unwrap_or, sym, refl, ap, ◌∙◌, inl, inr, add-zero, add-one, arith}
use Rattle.std.proofs.lemmas.List.{length-map}
use Rattle.std.proofs.lemmas.List.{length-take-le, take_all, take-map}
use Rattle.std.proofs.lemmas.Option.{slice_get-get_or, slice_get-map}
use Rattle.std.proofs.lemmas.Bool.{and_parts, cases_lt, eq-eqb, eqb-true, le-ltb, lt-ltb, ltb-false, ltb-true, ne_eqb, not-false}
use Rattle.std.specs.Option.{MatchOption, option_map}
use Rattle.std.proofs.lemmas.List.Elements.{All-cons, All-nil}
use Rattle.std.proofs.lemmas.List.Quantifiers.{position-Some}
use Rattle.std.proofs.lemmas.List.Sums.{count_by_more_no, count_by_more_yes, fails_before_first, length-filter, sum_by-cons, sum_by_more}
use Rattle.std.proofs.lemmas.List.Filters.{length-filter_more}
use Rattle.std.specs.List.{All, AllPass, AllWithin, HoldsAt, position_or_len, scan, slice_get}
use Rattle.records.specs.Instance.{Instance}
use Rattle.records.specs.Meaning.{row_instance}
use Rattle.records.specs.declared.row.Row.{Row}
use Rattle.sources.proofs.Items.{item_nth}
use Rattle.sources.proofs.Readers.{version_slots}
use Rattle.sources.proofs.Totals.{total_more}
use Rattle.sources.proofs.Writers.{earlier_next, earlier_none, earlier_past, writer_absent, writer_from}
use Rattle.sources.specs.Numbers.{total}
use Rattle.sources.specs.Questions.{earlier, slots_at, slots_of, writer, writes_at}
use Rattle.sources.specs.Sound.{Fitting}
use Rattle.written.specs.Rows.{first_misfit, row_fits}
use Rattle.written.specs.Sound.{all_passed}

-- the row that stands for none
abbrev blank : Row
blank = record { operator = 0; written = 0; count = 0; reads = [] }

-- the instance that the row at p means
row_at : (rows : List Row) (p : ℕ) (d : Row) → p < length rows → slice_get (map row_instance rows) p ≡ Some (row_instance (get_or rows p d))
row_at rows p d h = slice_get-map row_instance rows p ∙ ap (option_map row_instance) (slice_get-get_or rows p d h)

row_writes : (c : ℕ) (rows : List Row) (p : ℕ) (d : Row) → p < length rows → writes_at c (map row_instance rows) p ≡ eqb (get_or rows p d).written c
row_writes c rows p d h = ap (λ (o : Option Instance). unwrap_or (option_map (λ (i : Instance). eqb i.written c) o) false) (row_at rows p d h)

row_slots : (c : ℕ) (rows : List Row) (p : ℕ) (d : Row) → p < length rows → slots_at c (map row_instance rows) p ≡ slots_of c (row_instance (get_or rows p d))
row_slots c rows p d h = ap (λ (o : Option Instance). unwrap_or (option_map (slots_of c) o) 0) (row_at rows p d h)

-- the earlier writes, counted in the rows
pub earlier_counted : (c p : ℕ) (rows : List Row) → earlier c p (map row_instance rows) ≡ count_by (λ r. eqb r.written c) (take p rows)
earlier_counted c zero rows = earlier_none c (map row_instance rows)
earlier_counted c (suc p) rows =
    let q = λ (r : Row). eqb r.written c in
    elim (cases_lt p (length rows)) [
      | inl h ↦ omega (
        arith,
        earlier_next c p (map row_instance rows),
        earlier_counted c p rows,
        ap {B = ℕ} (λ (t : Bool). cond t 1 0) (row_writes c rows p blank h),
        ap (λ k. count_by q (take k rows)) (add-one p),
        length-filter q (take (p + 1) rows),
        length-filter q (take p rows),
        length-filter_more q rows p blank h,
      )
      | inr h ↦ omega (
        arith,
        earlier_past c (suc p) (map row_instance rows) (omega (arith, length-map rows row_instance)),
        earlier_past c p (map row_instance rows) (omega (arith, length-map rows row_instance)),
        earlier_counted c p rows,
        ap (count_by q) (take_all p rows h),
        ap (count_by q) (take_all (suc p) rows (omega arith)),
      )
    ]

-- the readers in the first rows, at one row more
pub readers_more : (c v : ℕ) (rows : List Row) (p : ℕ) (d : Row) → p < length rows → total (version_slots c v (map row_instance rows)) (p + 1) ≡ total (version_slots c v (map row_instance rows)) p + cond (eqb (count_by (λ r. eqb r.written c) (take p rows)) v) (slots_of c (row_instance (get_or rows p d))) 0
readers_more c v rows p d h =
    total_more (version_slots c v (map row_instance rows)) p
    ∙ (ap (λ (k : ℕ). total (version_slots c v (map row_instance rows)) p + cond (eqb k v) (slots_at c (map row_instance rows) p) 0) (earlier_counted c p rows)
    ∙ ap (λ (n : ℕ). total (version_slots c v (map row_instance rows)) p + cond (eqb (count_by (λ r. eqb r.written c) (take p rows)) v) n 0) (row_slots c rows p d h))

-- what `record_at` stands on: the row at a place, and what it means
pub ruleset row_gets = (item_nth, slice_get-map)

-- what `length` and `readers` stand on: one row more, and the end
pub ruleset row_steps = (readers_more, eq-eqb, ne_eqb, count_by_more_yes, count_by_more_no, length-map)

-- what is left of k before each element, where each that passes takes one, and whether it passes where none is left
abbrev pub left_after : {X : Type 0} → (X → Bool) → ℕ → X → ℕ
left_after p k x = if p x then k - 1 else k

abbrev pub found_at : {X : Type 0} → (X → Bool) → ℕ → X → Bool
found_at p k x = p x && eqb k 0

length_scan : {X : Type 0} (p : X → Bool) (k : ℕ) (xs : List X) → length (scan (left_after p) (found_at p) k xs) ≡ length xs
length_scan p k [] = refl
length_scan p k (x ∷ xs) = omega (arith, length_scan p (left_after p k x) xs)

left_less : (t : Bool) (k n : ℕ) → cond t (k - 1) k - n ≡ k - (cond t 1 0 + n)
left_less true k n = omega arith
left_less false k n = omega arith

scan_at : {X : Type 0} (p : X → Bool) (k : ℕ) (xs : List X) (j : ℕ) (d : X) (e : Bool) → j < length xs → get_or (scan (left_after p) (found_at p) k xs) j e ≡ (p (get_or xs j d) && eqb (k - count_by p (take j xs)) 0)
scan_at p k [] j d e h = absurd (omega arith)
scan_at p k (x ∷ xs) zero d e h = ap (λ (n : ℕ). p x && eqb n 0) (omega arith)
scan_at p k (x ∷ xs) (suc j) d e h =
    scan_at p (left_after p k x) xs j d e (omega arith)
    ∙ ap (λ (n : ℕ). p (get_or xs j d) && eqb n 0) (left_less (p x) k (count_by p (take j xs)) ∙ ap (λ n. k - n) (sym (sum_by-cons (λ x. cond (p x) 1 0) x (take j xs))))

kth_step : {X : Type 0} (p : X → Bool) (xs : List X) (d : X) (k j : ℕ) (t : Bool) → p (get_or xs j d) ≡ t → k < count_by p (take j xs) + cond t 1 0 → (k < count_by p (take j xs) → (i : ℕ) × (i < j) × (p (get_or xs i d) ≡ true) × (count_by p (take i xs) ≡ k)) → (i : ℕ) × (i < suc j) × (p (get_or xs i d) ≡ true) × (count_by p (take i xs) ≡ k)
kth_step p xs d k j true is more earlier_one =
    elim (cases_lt k (count_by p (take j xs))) [
      | inl less ↦ let (i, below, passes, before) = earlier_one less in (i, omega arith, passes, before)
      | inr all ↦ (j, omega arith, is, omega arith)
    ]
kth_step p xs d k j false is more earlier_one = let (i, below, passes, before) = earlier_one (omega arith) in (i, omega arith, passes, before)

-- where more than k of the first j pass, one of them passes after exactly k others
kth_there : {X : Type 0} (p : X → Bool) (xs : List X) (d : X) (k j : ℕ) → j ≤ length xs → k < count_by p (take j xs) → (i : ℕ) × (i < j) × (p (get_or xs i d) ≡ true) × (count_by p (take i xs) ≡ k)
kth_there p xs d k zero h more = absurd (omega arith)
kth_there p xs d k (suc j) h more =
    kth_step p xs d k j (p (get_or xs j d)) refl (omega (arith, more, sum_by_more (λ x. cond (p x) 1 0) xs j d (omega arith), ap (λ n. count_by p (take n xs)) (add-one j))) (kth_there p xs d k j (omega arith))

-- so where none of the first j is found, at most k of them pass
few_before : {X : Type 0} (p : X → Bool) (xs : List X) (d : X) (k j : ℕ) → j ≤ length xs → AllWithin (λ b. b ≡ false) (scan (left_after p) (found_at p) k xs) 0 j → count_by p (take j xs) ≤ k
few_before p xs d k j h none =
    elim (cases_lt k (count_by p (take j xs))) [
      | inl more ↦ let (i, below, passes, before) = kth_there p xs d k j h more in absurd (true≢false (sym (scan_at p k xs i d true (omega arith) ∙ (ap (λ t. t && eqb (k - count_by p (take i xs)) 0) passes ∙ eq-eqb (k - count_by p (take i xs)) 0 (omega arith))) ∙ none i true (omega arith) below))
      | inr few ↦ few
    ]

-- for each row, whether it writes c where at least k others did before
abbrev founds : ℕ → ℕ → List Row → List Bool
founds c k rows = scan (left_after (λ (r : Row). eqb r.written c)) (found_at (λ (r : Row). eqb r.written c)) k rows

-- what the chain finds, where k of the rows that write c are passed over
pub writer_scanned : (c k : ℕ) (rows : List Row) (o : Option ℕ) → MatchOption o (AllWithin (λ b. b ≡ false) (founds c k rows) 0 (length (founds c k rows))) (λ j. (j < length (founds c k rows)) × HoldsAt (λ b. b ≡ true) (founds c k rows) j × AllWithin (λ b. b ≡ false) (founds c k rows) 0 j) → o ≡ writer c k (map row_instance rows)
writer_scanned c k rows None none =
    let q = λ (r : Row). eqb r.written c in
    let l = map row_instance rows in
    sym (writer_absent c k l (omega (
      arith,
      few_before q rows blank k (length rows) (omega arith) (λ i d a b. none i d a (omega (arith, length_scan q k rows))),
      earlier_counted c (length l) rows,
      ap (count_by q) (take_all (length l) rows (omega (arith, length-map rows row_instance))),
      ap (count_by q) (take_all (length rows) rows (omega arith)),
    )))
writer_scanned c k rows (Some j) (within, here, none) =
    let q = λ (r : Row). eqb r.written c in
    let below : j < length rows = omega (arith, length_scan q k rows) in
    let (writes, out) = and_parts (q (get_or rows j blank)) (eqb (k - count_by q (take j rows)) 0) (sym (scan_at q k rows j blank true below) ∙ here true) in
    sym (writer_from (map row_instance rows) c k j (row_writes c rows j blank below ∙ writes) (omega (arith, earlier_counted c j rows, eqb-true (k - count_by q (take j rows)) 0 out, few_before q rows blank k j (omega arith) none)))

-- the first misfit, by the first row
misfit_first : (C : ℕ) (r : Row) (rs : List Row) → first_misfit C (r ∷ rs) ≡ cond (row_fits C r) (option_map suc (first_misfit C rs)) (Some 0)
misfit_first C r rs = step (row_fits C r) (position_or_len (λ q. not (row_fits C q)) rs) (length rs)
  where
    within : (n m : ℕ) (b : Bool) → ltb n m ≡ b → cond (ltb (1 + n) (suc m)) (Some (1 + n)) None ≡ option_map suc (cond b (Some n) None)
    within n m true e = rw (lt-ltb (1 + n) (suc m) (omega (arith, ltb-true n m e))) (ap Some (omega arith))
    within n m false e = rw (le-ltb (1 + n) (suc m) (omega (arith, ltb-false n m e))) refl

    step : (t : Bool) (n m : ℕ) → cond (ltb (cond (not (not t)) (1 + n) 0) (suc m)) (Some (cond (not (not t)) (1 + n) 0)) None ≡ cond t (option_map suc (cond (ltb n m) (Some n) None)) (Some 0)
    step true n m = within n m (ltb n m) refl
    step false n m = rw (lt-ltb 0 (suc m) (omega arith)) refl

-- where the first row fits and no other is found that does not, none is found
pub fit_first : (t : Bool) (o : Option ℕ) → is_some (cond t (option_map suc o) (Some 0)) ≡ false → (t ≡ true) × (is_some o ≡ false)
fit_first true None e = (refl, refl)
fit_first true (Some x) e = absurd (true≢false e)
fit_first false o e = absurd (true≢false e)

-- where no row is found that does not fit, all do
no_misfit : (C : ℕ) (rows : List Row) → is_some (first_misfit C rows) ≡ false → AllPass (row_fits C) rows
no_misfit C [] e = All-nil (λ r. row_fits C r ≡ true)
no_misfit C (r ∷ rs) e =
    let (fits, rest) = fit_first (row_fits C r) (first_misfit C rs) (ap is_some (sym (misfit_first C r rs)) ∙ e) in
    All-cons (λ r. row_fits C r ≡ true) r rs fits (no_misfit C rs rest)

pub all_rows_fit : (C : ℕ) (rows : List Row) → first_misfit C rows ≡ None → AllPass (row_fits C) rows
all_rows_fit C rows e = no_misfit C rows (ap is_some e)

-- and so do the instances that they mean
pub all_fit : (C : ℕ) (rows : List Row) → is_some (first_misfit C rows) ≡ false → All (Fitting C) (map row_instance rows)
all_fit C rows e = all_passed C rows (no_misfit C rows e)

-- a misfit is one of the rows
pub misfit_below : (C : ℕ) (rows : List Row) (p : ℕ) → first_misfit C rows ≡ Some p → p < length rows
misfit_below C rows p e = (position-Some (λ r. not (row_fits C r)) rows p blank e).0
