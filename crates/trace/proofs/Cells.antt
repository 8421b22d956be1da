-- The cells in bytes.
use Rattle.std.proofs.Common.{◌≡◌, ℕ, zero, suc, ◌+◌, ◌*◌, ◌<◌, List, [], ◌∷◌, ◌++◌, length, take, drop, set, refl, ap, ◌∙◌, arith}
use Rattle.std.proofs.lemmas.List.{drop-drop, take_more_set}
use Rattle.trace.specs.Reading.{cell_in, cells_in}

-- one cell more
cells_push : (k : ℕ) (bs : List ℕ) → cells_in (suc k) bs ≡ cells_in k bs ++ (cell_in (drop (2 * k) bs) ∷ [])
cells_push zero bs = refl
cells_push (suc k) bs =
    let far : 2 + 2 * k ≡ 2 * suc k = omega arith in
    ap (λ (l : List ℕ). cell_in bs ∷ l)
    (cells_push k (drop 2 bs)
    ∙ ap (λ (l : List ℕ). cells_in k (drop 2 bs) ++ (cell_in l ∷ [])) (drop-drop (2 * k) 2 bs ∙ ap (λ (n : ℕ). drop n bs) far))

-- one more is read
pub cells_more : (bs cells : List ℕ) (k x : ℕ) → k < length cells → take k cells ≡ cells_in k bs → x ≡ cell_in (drop (2 * k) bs) → take (k + 1) (set cells k x) ≡ cells_in (k + 1) bs
cells_more bs cells k x h before e = grind (arith, take_more_set, cells_push)
