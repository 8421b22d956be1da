use Rattle.std.proofs.Common.{suc, map, refl, arith}
use Rattle.std.proofs.lemmas.List.{length-map}
use Rattle.std.proofs.lemmas.Option.{slice_get_within}
use Rattle.std.proofs.lemmas.Bool.{both_ways, false≢true}
use Rattle.records.specs.Meaning.{instance}
use Rattle.orders.specs.Faithful.{Conflict}
use Rattle.orders.proofs.Exchanges.{exchange_breaks}
use Rattle.orders.proofs.Swaps.{bound_from, exchange_faithful, free_from}
use Rattle.orders.proofs.neighbours.exchange.Goals as goal

pub returns-then-at-saturating_sub-clause-answer : goal.returns-then-at-saturating_sub-clause-answer
returns-then-at-saturating_sub-clause-answer c = (λ e. absurd (false≢true e), λ h. absurd (omega (arith, slice_get_within (map instance c.args.order.now) (suc c.args.at) h.second h.second_there, length-map c.args.order.now instance)))

pub returns-then-conflict-clause-answer : goal.returns-then-conflict-clause-answer
returns-then-conflict-clause-answer c = (
  λ e. absurd (false≢true e),
  λ h. absurd (bound_from instance c.args.order.now c.args.at c.index-order-at.result c.index-order-at-2.result c.index-order-at.is c.index-order-at-2.is (omega arith) (c.conflict.ensures.0 c.if-conflict.true) h),
)

-- the two do not conflict
free : (c : goal.After-order-1) → Conflict (instance c.index-order-at.result) (instance c.index-order-at-2.result) → ⊥
free c h = both_ways c.conflict.result c.if-conflict.false (c.conflict.ensures.1 h)

pub returns-clause-answer : goal.returns-clause-answer
returns-clause-answer c = (λ e. free_from instance c.args.order.now c.args.at _ _ c.index-order-at.is c.index-order-at-2.is (omega arith) (free c), λ h. refl)

pub returns-clause-faithful : goal.returns-clause-faithful
returns-clause-faithful c = exchange_faithful instance c.args.order.now c.args.at _ _ c.index-order-at.is c.index-order-at-2.is (omega arith) (free c) c.swap.new.self c.swap.ensures.by_index.3

pub returns-then-at-saturating_sub-clause-bound : goal.returns-then-at-saturating_sub-clause-bound
returns-then-at-saturating_sub-clause-bound c = exchange_breaks

pub returns-then-conflict-clause-bound : goal.returns-then-conflict-clause-bound
returns-then-conflict-clause-bound c = exchange_breaks

pub returns-clause-bound : goal.returns-clause-bound
returns-clause-bound c = exchange_breaks
