use Rattle.std.proofs.Common.{◌+◌, get_or, rules, arith}
use Rattle.std.proofs.lemmas.List.Sorted.{answers_always}
use Rattle.epoch_tags.specs.declared.tuple.Pair.{Pair}
use Rattle.pair_collector.proofs.Neighbours.{in_order, not_less}
use Rattle.pair_collector.proofs.order.sort_pairs.Goals as goal

pub returns-clause-order : goal.returns-clause-order
returns-clause-order c =
    let pairs = c.sort_unstable_by_key.new.self in
    let sorted = c.sort_unstable_by_key.ensures.sorted (λ (p : Pair). (p.i, p.j))
    (answers_always _ _ _ (λ f a r g h. search rules)) in
    in_order pairs (λ k d low. not_less (get_or pairs k d) (get_or pairs (k + 1) d) (sorted k d (omega arith) low))
