use Rattle.std.proofs.Common.{◌≡◌, ◌∙◌, ◌-◌, ◌^◌, min, ap, List, length}
use Rattle.std.specs.Prelude.{map, flat_map}
use Rattle.std.specs.List.{range_with_len}
use Rattle.pair_collector.specs.Kept.{Kept}
use Rattle.pair_collector.specs.Standing.{CollectorState, held_of, longest, moved_by}
use Rattle.pair_collector.proofs.AnswerOfLists.{collects}
use Rattle.pair_collector.proofs.collector.Collector.finish.Goals as goal

pub returns : goal.returns
returns c = λ joiners lists stands.
    let parts : c.self.inside.parts.items ≡ c.args.self.joiners =
    ap (λ (state : CollectorState). state.joiners) c.self.view_is in
    collects joiners lists c.args.self stands _ c.in_ok-pairs.pairs.items
    (c.in_ok-pairs.ensures ∙ ap (flat_map (λ (kept : Kept). kept.pairs)) parts)
    c.in_order.ensures.permutation
    c.in_order.ensures.order
    (c.in_ok-made.ensures ∙ ap (map (λ (kept : Kept). length kept.pairs)) (c.deref.ensures.value ∙ parts))
    (c.in_ok-loads.ensures ∙ ap (map (λ (kept : Kept). held_of kept.last)) (c.deref-2.ensures.value ∙ parts))
    (c.in_ok-moved.ensures
    ∙ ap (λ (kept : List Kept). map (λ step. min (moved_by kept step (length kept)) (2 ^ 64 - 1))
    (range_with_len 0 (longest kept (length kept)))) (c.deref-3.ensures.value ∙ parts))
