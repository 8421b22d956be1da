use Rattle.std.proofs.Common.{◌≡◌, ◌∷◌, [], refl}
use Rattle.records.specs.Doing.{done, leaves, values}
use Rattle.records.specs.Instance.{Instance}
use Rattle.orders.specs.Example.{copy, first_read, start}
use Rattle.orders.proofs.Relations.{orders_compose, orders_turn, own_order}
use Rattle.orders.proofs.examples.instances.Goals as goal

-- what the three instances leave, whatever spells them
left : (a b d : Instance) → a ≡ copy 1 0 → b ≡ copy 2 0 → d ≡ copy 0 3 → leaves first_read (a ∷ b ∷ d ∷ []) start ≡ 8 ∷ 5 ∷ 5 ∷ 8 ∷ []
unfolding leaves done values
left a b d p q r = rw (p, q, r) refl

pub returns-clause-store : goal.returns-clause-store
returns-clause-store c = left _ _ _ c.copy_row.ensures c.copy_row-2.ensures c.copy_row-3.ensures

pub returns-clause-own : goal.returns-clause-own
returns-clause-own c = own_order

pub returns-clause-compose : goal.returns-clause-compose
returns-clause-compose c = orders_compose

pub returns-clause-turn : goal.returns-clause-turn
returns-clause-turn c = orders_turn
