use Rattle.std.proofs.Common.{rules}
use Rattle.std.proofs.lemmas.List.Sorted.{IsNonDecreasingBy-from_sort_by_key}
use Rattle.epoch_tags.specs.declared.tuple.Tuple.{Tuple}
use Rattle.elastic_grow.proofs.whole.sort_tuples.Goals as goal

pub returns-clause-order : goal.returns-clause-order
returns-clause-order c =
    IsNonDecreasingBy-from_sort_by_key (λ (t : Tuple). t.index) c.sort_unstable_by_key.new.self
    c.sort_unstable_by_key.ensures.sorted (λ a r f called. search rules)
