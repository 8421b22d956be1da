-- Bytes that hold cells.
use Rattle.std.proofs.Common.{◌≡◌, ℕ, zero, suc, ◌*◌, ◌≤◌, List, [], ◌∷◌, ◌++◌, length, take, sym, refl, arith}
use Rattle.trace.specs.Reading.{cells_in}
use Rattle.trace.specs.Spelling.{Hold}

pub length_held : (bs cs : List ℕ) → Hold bs cs → length bs ≡ 2 * length cs
length_held [] [] h = refl
length_held (b ∷ bs) [] h = absurd h
length_held [] (c ∷ cs) h = absurd h
length_held (l ∷ []) (c ∷ cs) h = absurd h
length_held (l ∷ (g ∷ bs)) (c ∷ cs) h = omega (arith, length_held bs cs h.1)

-- the cells that bytes hold are read from them, whatever follows
pub cells_held : (bs cs t : List ℕ) → Hold bs cs → cells_in (length cs) (bs ++ t) ≡ cs
cells_held [] [] t h = refl
cells_held (b ∷ bs) [] t h = absurd h
cells_held [] (c ∷ cs) t h = absurd h
cells_held (l ∷ []) (c ∷ cs) t h = absurd h
cells_held (l ∷ (g ∷ bs)) (c ∷ cs) t h = λ i. sym h.0 i ∷ cells_held bs cs t h.1 i

-- and what is read from bytes is held by them
pub held_cells : (n : ℕ) (bs : List ℕ) → 2 * n ≤ length bs → Hold (take (2 * n) bs) (cells_in n bs)
held_cells zero bs h = tt
held_cells (suc n) [] h = absurd (omega arith)
held_cells (suc n) (l ∷ []) h = absurd (omega arith)
held_cells (suc n) (l ∷ (g ∷ bs)) h =
    let twice : 2 * suc n ≡ suc (suc (2 * n)) = omega arith in
    rw twice (refl, held_cells n bs (omega arith))
