-- Bytes put one after the other.
use Rattle.std.proofs.Common.{◌≡◌, ℕ, ◌+◌, ◌-◌, ◌*◌, ◌/◌, ◌%◌, ◌<◌, Bool, true, false, List, [], ◌∷◌, ◌++◌, length, get_or, take, drop, set, refl, ap, ◌∙◌, append-nil, arith}
use Rattle.std.proofs.lemmas.Grind.{common_steps}
use Rattle.std.proofs.lemmas.List.{take_at, take_rest, drop_all, drop_at, length-take-le}
use Rattle.trace.specs.Layouts.{bit, if_set}
use Rattle.trace.specs.Writing.{cell_bytes, over}

-- bytes over the front of what lies from place n on
abbrev pub put : ℕ → List ℕ → List ℕ → List ℕ
put n s out = take n out ++ over s (drop n out)

-- more, put right after
pub put_more : (s t out : List ℕ) (n : ℕ) → n ≡ length s → put n t (over s out) ≡ over (s ++ t) out
put_more s t out n e = grind (arith, common_steps, take_at, drop_at)

pub cell_bytes_append : (xs ys : List ℕ) → cell_bytes (xs ++ ys) ≡ cell_bytes xs ++ cell_bytes ys
cell_bytes_append [] ys = refl
cell_bytes_append (x ∷ xs) ys = ap (λ (l : List ℕ). x % 256 ∷ (x / 256 ∷ l)) (cell_bytes_append xs ys)

pub length_cell_bytes : (cs : List ℕ) → length (cell_bytes cs) ≡ 2 * length cs
length_cell_bytes [] = refl
length_cell_bytes (c ∷ cs) = omega (arith, length_cell_bytes cs)

-- the bytes of one cell more, as `to_le_bytes` gives them
cell_bytes_more : (cs bs : List ℕ) (i : ℕ) → i < length cs → get_or cs i 0 < 65536 → bs ≡ get_or cs i 0 % 256 ∷ (get_or cs i 0 / 256 % 256 ∷ []) → cell_bytes (take i cs) ++ bs ≡ cell_bytes (take (i + 1) cs)
cell_bytes_more cs bs i lt small e = grind (arith, common_steps, cell_bytes_append)

-- one cell more is written
pub cell_put : (cs bs out now : List ℕ) (i : ℕ) → i < length cs → get_or cs i 0 < 65536 → bs ≡ get_or cs i 0 % 256 ∷ (get_or cs i 0 / 256 % 256 ∷ []) → now ≡ over (cell_bytes (take i cs)) out → put (2 * i) bs now ≡ over (cell_bytes (take (i + 1) cs)) out
cell_put cs bs out now i lt small e was =
    let front : 2 * i ≡ length (cell_bytes (take i cs)) = omega (arith, length_cell_bytes (take i cs), length-take-le i cs (omega arith)) in
    ap (put (2 * i) bs) was ∙ (put_more (cell_bytes (take i cs)) bs out (2 * i) front ∙ ap (λ (l : List ℕ). over l out) (cell_bytes_more cs bs i lt small e))

-- what was put over all that lies from place n on
pub put_rest : (n : ℕ) (s part out : List ℕ) → part ≡ over s (take (length out - n) (drop n out)) → take n out ++ (part ++ drop (length out - n) (drop n out)) ≡ put n s out
put_rest n s part out e = grind (arith, common_steps, take_rest, drop_all, append-nil)

-- the map byte, and after it the operator where its bit stands
pub byte_put : (b : ℕ) (out : List ℕ) → 0 < length out → set out 0 b ≡ over (b ∷ []) out
byte_put b out h = grind (arith, common_steps)

pub operator_put : (o : Bool) (b c : ℕ) (out : List ℕ) → o ≡ true → 1 < length out → set (over (b ∷ []) out) 1 c ≡ over (b ∷ if_set o c) out
operator_put o b c out e h = grind (arith, common_steps)

pub no_operator : (o : Bool) (b c : ℕ) → o ≡ false → b ∷ [] ≡ b ∷ if_set o c
no_operator o b c e = grind arith

-- the written cell, where its bit stands
pub written_put : (w : Bool) (x n : ℕ) (s out : List ℕ) → w ≡ true → n ≡ length s → put n (cell_bytes (x ∷ [])) (over s out) ≡ over (s ++ cell_bytes (if_set w x)) out
written_put w x n s out e h = rw e (put_more s (cell_bytes (x ∷ [])) out n h)

pub no_written : (w : Bool) (x : ℕ) (s : List ℕ) → w ≡ false → s ≡ s ++ cell_bytes (if_set w x)
no_written w x s e = grind (arith, common_steps)

pub length_front : (o : Bool) (b c : ℕ) → length (b ∷ if_set o c) ≡ 1 + bit o
length_front o b c = grind arith

pub length_written : (w : Bool) (x : ℕ) → length (cell_bytes (if_set w x)) ≡ 2 * bit w
length_written w x = grind arith
