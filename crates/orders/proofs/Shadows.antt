-- How a record that is taken changes versions and tallies.
use Rattle.std.proofs.Common.{◌≡◌, ℕ, ◌+◌, ◌-◌, Bool, true, false, cond, eqb, List, [], ◌∷◌, ◌++◌, refl, ap, ◌∙◌, zero-add, arith}
use Rattle.records.specs.Instance.{Instance}
use Rattle.sources.proofs.Joined.{readers_right, writes_append}
use Rattle.sources.proofs.Readers.{readers_past}
use Rattle.sources.specs.Numbers.{total}
use Rattle.sources.specs.Questions.{earlier, readers, slots_of, writes}
use Rattle.orders.specs.Taking.{tally, version}
use Rattle.orders.specs.Theorems.{ShadowMoves}

one_writes : (c : ℕ) (i : Instance) → writes c (i ∷ []) ≡ cond (eqb i.written c) 1 0
unfolding earlier total
one_writes c i = zero-add (cond (eqb i.written c) 1 0)

-- an instance sees version 0 of the list of it alone
one_reads : (c : ℕ) (i : Instance) → readers c 0 (i ∷ []) ≡ slots_of c i
unfolding readers earlier total
one_reads c i = zero-add (slots_of c i)

one_read_later : (c : ℕ) (i : Instance) → readers c 1 (i ∷ []) ≡ 0
unfolding readers earlier total
one_read_later c i = refl

pub version_more : (r : List Instance) (i : Instance) (c : ℕ) → version c (r ++ i ∷ []) ≡ version c r + cond (eqb i.written c) 1 0
version_more r i c = omega (arith, writes_append c r (i ∷ []), one_writes c i)

-- the tally, where the record writes the cell and where it does not
tally_by : (r : List Instance) (i : Instance) (c : ℕ) (t : Bool) → version c (r ++ i ∷ []) ≡ version c r + cond t 1 0 → tally c (r ++ i ∷ []) ≡ cond t 0 (tally c r + slots_of c i)
tally_by r i c true e =
    ap (λ (v : ℕ). readers c v (r ++ i ∷ [])) e
    ∙ omega (arith, readers_right c (version c r + 1) r (i ∷ []) (omega arith), readers_past c (version c r + 1) r (omega arith), ap (λ (v : ℕ). readers c v (i ∷ [])) one, one_read_later c i)
  where
    one : version c r + 1 - version c r ≡ 1
    one = omega arith
tally_by r i c false e =
    ap (λ (v : ℕ). readers c v (r ++ i ∷ [])) same
    ∙ omega (arith, readers_right c (version c r) r (i ∷ []) (omega arith), ap (λ (v : ℕ). readers c v (i ∷ [])) none, one_reads c i)
  where
    same : version c (r ++ i ∷ []) ≡ version c r
    same = omega arith

    none : version c r - version c r ≡ 0
    none = omega arith

pub shadow_moves : ShadowMoves
shadow_moves r i c = (version_more r i c, tally_by r i c (eqb i.written c) (version_more r i c))
