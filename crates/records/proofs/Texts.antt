-- The text of a list of cells, one cell more.
use Rattle.std.proofs.Common.{◌≡◌, ℕ, ◌+◌, ◌<◌, List, [], ◌∷◌, ◌++◌, length, get_or, take, codes, decimal, sym, refl, ap, ◌∙◌, append_assoc, append-nil}
use Rattle.std.proofs.lemmas.List.{take_more}
use Rattle.records.specs.Text.{cells_text}

cells_append : (xs ys : List ℕ) → cells_text (xs ++ ys) ≡ cells_text xs ++ cells_text ys
cells_append [] ys = refl
cells_append (x ∷ xs) ys =
    ap (λ (l : List ℕ). (codes " " ++ decimal x) ++ l) (cells_append xs ys)
    ∙ sym (append_assoc (codes " " ++ decimal x) (cells_text xs) (cells_text ys))

pub cells_more : (xs : List ℕ) (i : ℕ) → i < length xs → cells_text (take i xs) ++ (codes " " ++ decimal (get_or xs i 0)) ≡ cells_text (take (i + 1) xs)
cells_more xs i h =
    sym
    (ap cells_text (take_more xs i 0 h)
    ∙ (cells_append (take i xs) (get_or xs i 0 ∷ [])
    ∙ ap (λ (l : List ℕ). cells_text (take i xs) ++ l) (append-nil (codes " " ++ decimal (get_or xs i 0)))))
