-- Taking places one after the other, each after all earlier ones that it conflicts with: what versions and tallies then say.
-- There are m places; the one at q writes a cell c so often as W c q says, once or never, and reads it in R c q slots.
use Rattle.std.proofs.Common.{◌≡◌, ℕ, suc, ◌+◌, ◌<◌, ◌≤◌, Bool, true, false, cond, eqb, sym, refl, ap, ◌∙◌, inl, inr, arith}
use Rattle.std.proofs.lemmas.Bool.{cases_eq, cases_lt, cases_order, cond-false, cond-true, eq-eqb, ne_eqb}
use Rattle.sources.proofs.Totals.{total_grows, total_one, total_plus, total_same}
use Rattle.sources.specs.Numbers.{total}
use Rattle.orders.proofs.Places.{Distinct, kept, kept_all, kept_most, kept_none, kept_says, sum_over, times, times_grows, times_same, times_there}
use Rattle.orders.proofs.Sums.{total_cut, total_rises, total_tight}

-- the place p may come after the first n: it is a new one, and each earlier one that it conflicts with has come
pub record Ready (m : ℕ) (W R : ℕ → ℕ → ℕ) (place : ℕ → ℕ) (p n : ℕ) : Type 0 where
  pub inside : p < m
  pub new : times place p n ≡ 0
  pub after_writes : (q c : ℕ) → q < p → 1 ≤ W c q → 1 ≤ W c p + R c p → 1 ≤ times place q n
  pub after_reads : (q c : ℕ) → q < p → 1 ≤ R c q → 1 ≤ W c p → 1 ≤ times place q n

-- each of the first n places could come when it came
abbrev pub Begun : ℕ → (ℕ → ℕ → ℕ) → (ℕ → ℕ → ℕ) → (ℕ → ℕ) → ℕ → Type 0
Begun m W R place n = (j : ℕ) → j < n → Ready m W R place (place j) j

-- only the first n places count
pub ready_same : (m : ℕ) (W R : ℕ → ℕ → ℕ) (place other : ℕ → ℕ) (p n : ℕ) → ((j : ℕ) → j < n → place j ≡ other j) → Ready m W R place p n → Ready m W R other p n
ready_same m W R place other p n h r =
    let same : (q : ℕ) → times place q n ≡ times other q n = λ q. times_same place other q n h in
    record {
      inside = r.inside;
      new = sym (same p) ∙ r.new;
      after_writes = λ q c b w t. omega (arith, same q, r.after_writes q c b w t);
      after_reads = λ q c b w t. omega (arith, same q, r.after_reads q c b w t);
    }

-- the writes of c among the first n places, and among all places before p
abbrev pub version_of : (ℕ → ℕ → ℕ) → (ℕ → ℕ) → ℕ → ℕ → ℕ
version_of W place c n = total (λ j. W c (place j)) n

-- the read slots of c, if the place q sees the version v
abbrev pub slots_seen : (ℕ → ℕ → ℕ) → (ℕ → ℕ → ℕ) → ℕ → ℕ → ℕ → ℕ
slots_seen W R c v q = cond (eqb (total (W c) q) v) (R c q) 0

-- the read slots of c at version v among the first n places, as they were counted when they came
abbrev pub tally_of : (ℕ → ℕ → ℕ) → (ℕ → ℕ → ℕ) → (ℕ → ℕ) → ℕ → ℕ → ℕ → ℕ
tally_of W R place c v n = total (λ j. cond (eqb (version_of W place c j) v) (R c (place j)) 0) n

nothing_either_way : (t u : Bool) (x : ℕ) → x ≡ 0 → cond t x 0 ≡ cond u x 0
nothing_either_way true true x e = refl
nothing_either_way true false x e = e
nothing_either_way false true x e = sym e
nothing_either_way false false x e = refl

module _ (m : ℕ) (W R : ℕ → ℕ → ℕ) (place : ℕ → ℕ) (n : ℕ) (begun : Begun m W R place n) where
  -- the places taken are distinct, and below m
  pub begun_distinct : Distinct m place n
  begun_distinct j b = ((begun j b).inside, (begun j b).new)

  -- what an earlier place owes to one that has come
  pub closed_writes : (p q c : ℕ) → 1 ≤ times place p n → q < p → 1 ≤ W c q → 1 ≤ W c p + R c p → 1 ≤ times place q n
  closed_writes p q c h b w t =
      let (j, k, e) = times_there place p n h in
      let in_time : 1 ≤ times place q j = (begun j k).after_writes q c (omega arith) w (rw e t) in
      omega (arith, times_grows place q j n (omega arith))

  pub closed_reads : (p q c : ℕ) → 1 ≤ times place p n → q < p → 1 ≤ R c q → 1 ≤ W c p → 1 ≤ times place q n
  closed_reads p q c h b w t =
      let (j, k, e) = times_there place p n h in
      let in_time : 1 ≤ times place q j = (begun j k).after_reads q c (omega arith) w (rw e t) in
      omega (arith, times_grows place q j n (omega arith))

  -- the writers of a cell that have come stand before each place that touches it and has not
  pub writers_before : (p q c : ℕ) → times place p n ≡ 0 → 1 ≤ W c p + R c p → 1 ≤ W c q → 1 ≤ times place q n → q < p
  writers_before p q c new t w h =
      elim (cases_order q p) [
        | inl e ↦ absurd (omega (arith, ap (λ (x : ℕ). times place x n) e))
        | inr apart ↦ elim apart [
          | inl b ↦ b
          | inr b ↦ elim (cases_eq (W c p) 0) [
            | inl none ↦ absurd (omega (arith, closed_reads q p c h b (omega arith) w))
            | inr some ↦ absurd (omega (arith, closed_writes q p c h b (omega arith) (omega arith)))
          ]
        ]
      ]

  -- the version of a cell is the number of its writers before p that have come
  version_before : (p c : ℕ) → p < m → times place p n ≡ 0 → 1 ≤ W c p + R c p → version_of W place c n ≡ total (λ q. kept (times place q n) (W c q)) p
  version_before p c inside new t =
      sum_over (W c) place m n begun_distinct
      ∙ total_cut (λ q. kept (times place q n) (W c q)) p m (omega arith) (λ q l b. none q l)
    where
      none : (q : ℕ) → p ≤ q → kept (times place q n) (W c q) ≡ 0
      none q l =
          elim (cases_eq (times place q n) 0) [
            | inl e ↦ kept_none (times place q n) (W c q) e
            | inr come ↦ elim (cases_eq (W c q) 0) [
              | inl e ↦ omega (arith, kept_most (times place q n) (W c q))
              | inr w ↦ absurd (omega (arith, writers_before p q c new t (omega arith) (omega arith)))
            ]
          ]

  -- it is the version that p sees, where all earlier writers have come
  pub version_ready : (p c : ℕ) → p < m → times place p n ≡ 0 → 1 ≤ W c p + R c p → ((q : ℕ) → q < p → 1 ≤ W c q → 1 ≤ times place q n) → version_of W place c n ≡ total (W c) p
  version_ready p c inside new t all =
      version_before p c inside new t
      ∙ total_same (λ q. kept (times place q n) (W c q)) (W c) p (λ q b. here q b)
    where
      here : (q : ℕ) → q < p → kept (times place q n) (W c q) ≡ W c q
      here q b =
          elim (cases_eq (W c q) 0) [
            | inl e ↦ omega (arith, kept_most (times place q n) (W c q))
            | inr w ↦ kept_all (times place q n) (W c q) (all q b (omega arith))
          ]

  -- and only there
  pub version_says : (p c : ℕ) → p < m → times place p n ≡ 0 → 1 ≤ W c p + R c p → version_of W place c n ≡ total (W c) p → (q : ℕ) → q < p → 1 ≤ W c q → 1 ≤ times place q n
  version_says p c inside new t e q b w =
      let tight = total_tight (λ q. kept (times place q n) (W c q)) (W c) p (λ q b. kept_most (times place q n) (W c q)) (omega (arith, version_before p c inside new t)) q b in
      kept_says (times place q n) (W c q) (omega arith)

-- a writer that has come is counted in the version, with all before it
pub version_past : (m : ℕ) (W R : ℕ → ℕ → ℕ) (place : ℕ → ℕ) (n : ℕ) → Begun m W R place n → (p c : ℕ) → 1 ≤ times place p n → 1 ≤ W c p → total (W c) p < version_of W place c n
unfolding total
version_past m W R place n begun p c h w =
    let (j, b, e) = times_there place p n h in
    let r = begun j b in
    let before = version_ready m W R place j (λ k l. begun k (omega arith)) (place j) c r.inside r.new (rw e (omega arith)) (λ q l v. r.after_writes q c l v (rw e (omega arith))) in
    let here : version_of W place c (suc j) ≡ version_of W place c j + W c (place j) = refl in
    omega (arith, before, here, ap (λ (x : ℕ). W c x) e, ap (total (W c)) e, total_grows (λ j. W c (place j)) (suc j) n b)

-- what was counted as read at a version is what the places taken read of it
pub tally_is : (m : ℕ) (W R : ℕ → ℕ → ℕ) (place : ℕ → ℕ) (n : ℕ) → Begun m W R place n → (c v : ℕ) → tally_of W R place c v n ≡ total (λ q. kept (times place q n) (slots_seen W R c v q)) m
tally_is m W R place n begun c v =
    total_same (λ j. cond (eqb (version_of W place c j) v) (R c (place j)) 0) (λ j. slots_seen W R c v (place j)) n (λ j b. seen j b)
    ∙ sum_over (slots_seen W R c v) place m n (begun_distinct m W R place n begun)
  where
    seen : (j : ℕ) → j < n → cond (eqb (version_of W place c j) v) (R c (place j)) 0 ≡ slots_seen W R c v (place j)
    seen j b =
        elim (cases_eq (R c (place j)) 0) [
          | inl e ↦ nothing_either_way (eqb (version_of W place c j) v) (eqb (total (W c) (place j)) v) (R c (place j)) e
          | inr some ↦
              let r = begun j b in
              let same = version_ready m W R place j (λ k l. begun k (omega arith)) (place j) c r.inside r.new (omega arith) (λ q l w. r.after_writes q c l w (omega arith)) in
              ap (λ (x : ℕ). cond (eqb x v) (R c (place j)) 0) same
        ]

module _ (m : ℕ) (W R : ℕ → ℕ → ℕ) (place : ℕ → ℕ) (n : ℕ) (begun : Begun m W R place n) (p c : ℕ) (inside : p < m) (new : times place p n ≡ 0) (once : W c p ≡ 1) where
  -- the read slots of c at the version that p sees: of the places that have come, and of p itself
  counted : ℕ → ℕ
  counted q = kept (times place q n) (slots_seen W R c (total (W c) p) q) + cond (eqb p q) (R c p) 0

  own_slots : slots_seen W R c (total (W c) p) p ≡ R c p
  own_slots = cond-true (eqb (total (W c) p) (total (W c) p)) (R c p) 0 (eq-eqb (total (W c) p) (total (W c) p) refl)

  counted_own : counted p ≡ slots_seen W R c (total (W c) p) p
  unfolding counted
  counted_own = omega (arith, kept_none (times place p n) (slots_seen W R c (total (W c) p) p) new, cond-true (eqb p p) (R c p) 0 (eq-eqb p p refl), own_slots)

  counted_other : (q : ℕ) → (p ≡ q → ⊥) → counted q ≡ kept (times place q n) (slots_seen W R c (total (W c) p) q)
  unfolding counted
  counted_other q ne = omega (arith, cond-false (eqb p q) (R c p) 0 (ne_eqb p q ne))

  counted_most : (q : ℕ) → q < m → counted q ≤ slots_seen W R c (total (W c) p) q
  counted_most q b =
      elim (cases_eq p q) [
        | inl e ↦ rw (← e) (omega (arith, counted_own))
        | inr ne ↦ omega (arith, counted_other q ne, kept_most (times place q n) (slots_seen W R c (total (W c) p) q))
      ]

  counted_total : total counted m ≡ tally_of W R place c (total (W c) p) n + R c p
  unfolding counted
  counted_total =
      total_plus (λ q. kept (times place q n) (slots_seen W R c (total (W c) p) q)) (λ q. cond (eqb p q) (R c p) 0) m
      ∙ omega (arith, tally_is m W R place n begun c (total (W c) p), total_one p (R c p) m inside)

  -- where the tally is full, each earlier reader of the version has come
  pub tally_says : tally_of W R place c (total (W c) p) n + R c p ≡ total (slots_seen W R c (total (W c) p)) m → (q : ℕ) → q < p → 1 ≤ R c q → total (W c) q ≡ total (W c) p → 1 ≤ times place q n
  tally_says full q b r e =
      let tight = total_tight counted (slots_seen W R c (total (W c) p)) m counted_most (omega (arith, counted_total)) q (omega arith) in
      let seen = cond-true (eqb (total (W c) q) (total (W c) p)) (R c q) 0 (eq-eqb (total (W c) q) (total (W c) p) e) in
      kept_says (times place q n) (slots_seen W R c (total (W c) p) q) (omega (arith, counted_other q (λ z. omega arith)))

  -- and where each earlier reader has come, the tally is full
  pub tally_ready : ((q : ℕ) → q < p → 1 ≤ R c q → 1 ≤ times place q n) → tally_of W R place c (total (W c) p) n + R c p ≡ total (slots_seen W R c (total (W c) p)) m
  unfolding total
  tally_ready all = sym counted_total ∙ total_same counted (slots_seen W R c (total (W c) p)) m same
    where
      none_past : (q : ℕ) → p < q → slots_seen W R c (total (W c) p) q ≡ 0
      none_past q b = cond-false (eqb (total (W c) q) (total (W c) p)) (R c q) 0 (ne_eqb (total (W c) q) (total (W c) p) (λ e. omega (arith, total_grows (W c) (suc p) q b)))

      same : (q : ℕ) → q < m → counted q ≡ slots_seen W R c (total (W c) p) q
      same q b =
          elim (cases_order p q) [
            | inl e ↦ rw (← e) counted_own
            | inr apart ↦ elim apart [
              | inl past ↦ omega (arith, counted_other q (λ z. omega arith), kept_most (times place q n) (slots_seen W R c (total (W c) p) q), none_past q past)
              | inr before ↦ elim (cases_eq (R c q) 0) [
                | inl e ↦ omega (arith, counted_other q (λ z. omega arith), kept_most (times place q n) (slots_seen W R c (total (W c) p) q), nothing_either_way (eqb (total (W c) q) (total (W c) p)) false (R c q) e)
                | inr some ↦ counted_other q (λ z. omega arith) ∙ kept_all (times place q n) (slots_seen W R c (total (W c) p) q) (all q before (omega arith))
              ]
            ]
          ]

module _ (m : ℕ) (W R : ℕ → ℕ → ℕ) (place : ℕ → ℕ) (n : ℕ) (begun : Begun m W R place n) (p c : ℕ) (once : W c p ≡ 1) where
  -- versions and the tally say that p may come next
  pub ready_from : ((d : ℕ) → 1 ≤ W d p → d ≡ c) → p < m → version_of W place c n ≡ total (W c) p → ((d : ℕ) → 1 ≤ R d p → version_of W place d n ≡ total (W d) p) → tally_of W R place c (total (W c) p) n + R c p ≡ total (slots_seen W R c (total (W c) p)) m → Ready m W R place p n
  ready_from only inside writes reads full = record { inside = inside; new = new; after_writes = after_writes; after_reads = after_reads }
    where
      new : times place p n ≡ 0
      new =
          elim (cases_eq (times place p n) 0) [
            | inl e ↦ e
            | inr come ↦ absurd (omega (arith, version_past m W R place n begun p c (omega arith) (omega arith)))
          ]

      current : (d : ℕ) → 1 ≤ W d p + R d p → version_of W place d n ≡ total (W d) p
      current d t =
          elim (cases_eq (R d p) 0) [
            | inl e ↦ rw (only d (omega arith)) writes
            | inr some ↦ reads d (omega arith)
          ]

      after_writes : (q d : ℕ) → q < p → 1 ≤ W d q → 1 ≤ W d p + R d p → 1 ≤ times place q n
      after_writes q d b w t = version_says m W R place n begun p d inside new t (current d t) q b w

      read_before : (q : ℕ) → q < p → 1 ≤ R c q → 1 ≤ times place q n
      read_before q b r =
          elim (cases_lt (total (W c) q) (total (W c) p)) [
            | inr same ↦ tally_says m W R place n begun p c inside new once full q b r (omega (arith, total_grows (W c) q p (omega arith)))
            | inl less ↦
                let (x, l, h, w) = total_rises (W c) q p less in
                let come : 1 ≤ times place x n = after_writes x c h w (omega arith) in
                elim (cases_eq x q) [
                  | inl e ↦ rw e at come
                  | inr ne ↦ closed_reads m W R place n begun x q c come (omega arith) r w
                ]
          ]

      after_reads : (q d : ℕ) → q < p → 1 ≤ R d q → 1 ≤ W d p → 1 ≤ times place q n
      after_reads q d b r w = read_before q b (rw (only d w) at r)

  -- and where p may come next, they say so
  pub ready_writes : Ready m W R place p n → version_of W place c n ≡ total (W c) p
  ready_writes r = version_ready m W R place n begun p c r.inside r.new (omega arith) (λ q b w. r.after_writes q c b w (omega arith))

  pub ready_reads : Ready m W R place p n → (d : ℕ) → 1 ≤ R d p → version_of W place d n ≡ total (W d) p
  ready_reads r d t = version_ready m W R place n begun p d r.inside r.new (omega arith) (λ q b w. r.after_writes q d b w (omega arith))

  pub ready_tally : Ready m W R place p n → tally_of W R place c (total (W c) p) n + R c p ≡ total (slots_seen W R c (total (W c) p)) m
  ready_tally r = tally_ready m W R place n begun p c r.inside r.new once (λ q b t. r.after_reads q c b t (omega arith))
