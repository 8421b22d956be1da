-- Reading record by record finds the records that the trace spells.
use Rattle.std.proofs.Common.{◌≡◌, ℕ, zero, suc, ◌+◌, ◌-◌, ◌<◌, ◌≤◌, List, [], ◌∷◌, ◌++◌, length, take, drop, Some, None, Ok, Err, Option, Result, sym, refl, ap, ◌∙◌, subst, append_assoc, append-nil, add-zero, zero-add, arith, length-append}
use Rattle.std.proofs.lemmas.List.{drop_at, length-drop, length-take-le, take-append-drop}
use Rattle.records.specs.Instance.{Instance}
use Rattle.trace.proofs.Exact.{spelled_read}
use Rattle.trace.proofs.Sound.{none_left, read_spelled}
use Rattle.trace.proofs.Steps.{answer, beyond}
use Rattle.trace.specs.Reader.{Cursor, after, left, next, stepped}
use Rattle.trace.specs.Reading.{Piece, read_at}
use Rattle.trace.specs.Spelling.{Spells}
use Rattle.trace.specs.Traces.{Ends, FindsAll, SpellAll, Walk, from_step, size_read, walk, whole}
use Rattle.trace.specs.declared.fault.ReadFault.{ReadFault}

-- records before a walk
abbrev pub ahead : List Instance → Walk → Walk
ahead is w = record { taken = is ++ w.taken; stop = w.stop }

-- what a reader still finds
abbrev pub rest_of : Cursor → Walk
rest_of c = walk (length (left c)) c.place (left c)

-- a spelling has its map byte
spelled_some : (s : List ℕ) (i : Instance) → Spells s i → 0 < length s
spelled_some s i h = omega (arith, ap length h.whole)

piece_some : (p : ℕ) (bs : List ℕ) (x : Piece) → read_at p bs ≡ Ok (Some x) → (0 < x.size) × (x.size ≤ length bs)
piece_some p bs x e =
    let (h, fits) = read_spelled p bs x e in
    (omega (arith, spelled_some (take x.size bs) x.meaning h, length-take-le x.size bs fits), fits)

walk_nil : (n p : ℕ) → walk n p [] ≡ record { taken = []; stop = None }
walk_nil zero p = refl
walk_nil (suc n) p = refl

-- a walk, once its first step is known
pub walk_step : (n p : ℕ) (bs : List ℕ) (r : Result (Option Piece) ReadFault) → read_at p bs ≡ r → walk (suc n) p bs ≡ from_step r (walk n (p + size_read r) (drop (size_read r) bs))
walk_step n p bs r e = ap (λ (x : Result (Option Piece) ReadFault). from_step x (walk n (p + size_read x) (drop (size_read x) bs))) e

-- the bound on the records does not matter once there are as many as bytes
bound_step : (n m p : ℕ) (bs : List ℕ) → length bs ≤ suc n → length bs ≤ suc m → ((q : ℕ) (ds : List ℕ) → length ds ≤ n → length ds ≤ m → walk n q ds ≡ walk m q ds) → (r : Result (Option Piece) ReadFault) → read_at p bs ≡ r → from_step r (walk n (p + size_read r) (drop (size_read r) bs)) ≡ from_step r (walk m (p + size_read r) (drop (size_read r) bs))
bound_step n m p bs h k same (Ok None) e = refl
bound_step n m p bs h k same (Err f) e = refl
bound_step n m p bs h k same (Ok (Some x)) e =
    let some = piece_some p bs x e in
    let long = length-drop x.size bs in
    ap (from_step (Ok (Some x))) (same (p + x.size) (drop x.size bs) (omega arith) (omega arith))

pub walk_bound : (n m p : ℕ) (bs : List ℕ) → length bs ≤ n → length bs ≤ m → walk n p bs ≡ walk m p bs
walk_bound zero m p [] h k = sym (walk_nil m p)
walk_bound zero m p (b ∷ bs) h k = absurd (omega arith)
walk_bound (suc n) zero p [] h k = refl
walk_bound (suc n) zero p (b ∷ bs) h k = absurd (omega arith)
walk_bound (suc n) (suc m) p bs h k = bound_step n m p bs h k (walk_bound n m) (read_at p bs) refl

walk_spelled : (is : List Instance) (n p : ℕ) (bs : List ℕ) → length bs ≤ n → SpellAll bs is → walk n p bs ≡ record { taken = is; stop = None }
walk_spelled [] n p bs h q = ap (walk n p) q ∙ walk_nil n p
walk_spelled (i ∷ is) zero p bs h q =
    let (s, t, e, spells, more) = q in
    absurd (omega (arith, spelled_some s i spells, length-append s t, ap length e))
walk_spelled (i ∷ is) (suc n) p bs h q =
    let (s, t, e, spells, more) = q in
    let long : length bs ≡ length s + length t = ap length e ∙ length-append s t in
    let some = spelled_some s i spells in
    ap (walk (suc n) p) e
    ∙ (walk_step n p (s ++ t) (Ok (Some (record { meaning = i; size = length s }))) (spelled_read s t i spells p)
    ∙ (ap (λ (l : List ℕ). from_step (Ok (Some (record { meaning = i; size = length s }))) (walk n (p + length s) l)) (drop_at s t (length s) refl)
    ∙ ap (from_step (Ok (Some (record { meaning = i; size = length s })))) (walk_spelled is n (p + length s) t (omega arith) more)))

-- where a walk from place p ends
abbrev EndsFrom : ℕ → List ℕ → List Instance → Option ReadFault → Type 0
EndsFrom p bs is None = SpellAll bs is
EndsFrom p bs is (Some f) = (s : List ℕ) × (t : List ℕ) × (bs ≡ s ++ t) × SpellAll s is × (read_at (p + length s) t ≡ Err f)

ends_more : (p : ℕ) (bs : List ℕ) (x : Piece) (is : List Instance) (o : Option ReadFault) → read_at p bs ≡ Ok (Some x) → EndsFrom (p + x.size) (drop x.size bs) is o → EndsFrom p bs (x.meaning ∷ is) o
ends_more p bs x is None e more =
    (take x.size bs, drop x.size bs, sym (take-append-drop x.size bs), (read_spelled p bs x e).0, more)
ends_more p bs x is (Some f) e more =
    let (s, t, cut, spells, stops) = more in
    let (first, fits) = read_spelled p bs x e in
    let a : List ℕ = take x.size bs in
    let at : p + length (a ++ s) ≡ p + x.size + length s = omega (arith, length-append a s, length-take-le x.size bs fits) in (
      a ++ s,
      t,
      sym (take-append-drop x.size bs) ∙ (ap (λ (l : List ℕ). a ++ l) cut ∙ sym (append_assoc a s t)),
      (a, s, refl, first, spells),
      ap (λ (k : ℕ). read_at k t) at ∙ stops,
    )

ends_step : (n p : ℕ) (bs : List ℕ) → length bs ≤ suc n → ((q : ℕ) (ds : List ℕ) → length ds ≤ n → EndsFrom q ds (walk n q ds).taken (walk n q ds).stop) → (r : Result (Option Piece) ReadFault) → read_at p bs ≡ r → let w = from_step r (walk n (p + size_read r) (drop (size_read r) bs)) in EndsFrom p bs w.taken w.stop
ends_step n p bs h ends (Ok None) e = none_left p bs e
ends_step n p bs h ends (Err f) e = ([], bs, refl, refl, ap (λ (k : ℕ). read_at k bs) (add-zero p) ∙ e)
ends_step n p bs h ends (Ok (Some x)) e =
    let some = piece_some p bs x e in
    let long = length-drop x.size bs in
    ends_more p bs x _ _ e (ends (p + x.size) (drop x.size bs) (omega arith))

walk_ends : (n p : ℕ) (bs : List ℕ) → length bs ≤ n → EndsFrom p bs (walk n p bs).taken (walk n p bs).stop
walk_ends zero p [] h = refl
walk_ends zero p (b ∷ bs) h = absurd (omega arith)
walk_ends (suc n) p bs h = ends_step n p bs h (walk_ends n) (read_at p bs) refl

ends_at : (bs : List ℕ) (is : List Instance) (o : Option ReadFault) → EndsFrom 0 bs is o → Ends bs is o
ends_at bs is None h = h
ends_at bs is (Some f) h = (h.0, h.1, h.2, h.3, ap (λ (k : ℕ). read_at k h.1) (sym (zero-add (length h.0))) ∙ h.4)

pub finds_all : (bs : List ℕ) → FindsAll bs
finds_all bs = record {
  spelled = λ is. walk_spelled is (length bs) 0 bs (omega arith);
  ends = ends_at bs (whole bs).taken (whole bs).stop (walk_ends (length bs) 0 bs (omega arith));
}

-- what a reader finds, by its next step
abbrev pub GoesOn : Cursor → Result (Option Instance) ReadFault → Cursor → Type 0
GoesOn c (Ok (Some i)) d = (rest_of c ≡ ahead (i ∷ []) (rest_of d)) × (length c.bytes - d.place < length c.bytes - c.place)
GoesOn c (Ok None) d = rest_of c ≡ record { taken = []; stop = None }
GoesOn c (Err f) d = rest_of c ≡ record { taken = []; stop = Some f }

rest_step : (c : Cursor) (r : Result (Option Piece) ReadFault) → read_at c.place (left c) ≡ r → rest_of c ≡ from_step r (walk (length (left c)) (c.place + size_read r) (drop (size_read r) (left c)))
rest_step c r e =
    walk_bound (length (left c)) (suc (length (left c))) c.place (left c) (omega arith) (omega arith)
    ∙ walk_step (length (left c)) c.place (left c) r e

goes_by : (c : Cursor) (r : Result (Option Piece) ReadFault) → read_at c.place (left c) ≡ r → GoesOn c (answer r) (stepped c r)
goes_by c (Ok None) e = rest_step c (Ok None) e
goes_by c (Err f) e = rest_step c (Err f) e
goes_by c (Ok (Some x)) e =
    let some = piece_some c.place (left c) x e in
    let long = length-drop c.place c.bytes in
    let more = length-drop x.size (left c) in
    let same = walk_bound (length (left c)) (length (drop x.size (left c))) (c.place + x.size) (drop x.size (left c)) (omega arith) (omega arith) in
    let at = ap (λ (l : List ℕ). walk (length l) (c.place + x.size) l) (sym (beyond c x.size)) in
    (rest_step c (Ok (Some x)) e ∙ ap (from_step (Ok (Some x))) (same ∙ at), omega arith)

pub goes_on : (c : Cursor) → GoesOn c (next c) (after c)
goes_on c = goes_by c (read_at c.place (left c)) refl

-- the same of what a step answered and left
pub stepped_on : (c d : Cursor) (r : Result (Option Instance) ReadFault) → r ≡ next c → d ≡ after c → GoesOn c r d
stepped_on c d r p q = rw (p, q) (goes_on c)

pub ahead_more : (is : List Instance) (i : Instance) (w v : Walk) → w ≡ ahead (i ∷ []) v → ahead is w ≡ ahead (is ++ i ∷ []) v
ahead_more is i w v e = ap (ahead is) e ∙ ap (λ (l : List Instance). record { taken = l; stop = v.stop }) (sym (append_assoc is (i ∷ []) v.taken))

-- where a trace ends whose records were read up to a reader that finds no more
pub ends_at_reader : (bs : List ℕ) (is : List Instance) (c : Cursor) (o : Option ReadFault) → ahead is (rest_of c) ≡ whole bs → rest_of c ≡ record { taken = []; stop = o } → Ends bs is o
ends_at_reader bs is c o all e =
    let w = sym all ∙ (ap (ahead is) e ∙ ap (λ (l : List Instance). record { taken = l; stop = o }) (append-nil is)) in
    subst (λ (x : Walk). Ends bs x.taken x.stop) w (finds_all bs).ends

bytes_by : (c : Cursor) (r : Result (Option Piece) ReadFault) → (stepped c r).bytes ≡ c.bytes
bytes_by c r = grind arith

-- a step keeps the trace
pub same_bytes : (c d : Cursor) → d ≡ after c → d.bytes ≡ c.bytes
same_bytes c d e = ap (λ (x : Cursor). x.bytes) e ∙ bytes_by c (read_at c.place (left c))
