use Rattle.std.proofs.Common.{◌≡◌, ◌∙◌, ap, subst, List, length}
use Rattle.std.specs.Prelude.{map, IsPermutation}
use Rattle.epoch_tags.specs.declared.tuple.Pair.{Pair}
use Rattle.pair_collector.specs.Kept.{Kept}
use Rattle.pair_collector.specs.Standing.{CollectorState}
use Rattle.pair_collector.specs.Fresh.{kept_behind}
use Rattle.pair_collector.proofs.Fresh.{behind_is_since, all_given}
use Rattle.pair_collector.proofs.collector.Collector.fresh.Goals as goal

pub returns-clause-gives : goal.returns-clause-gives
returns-clause-gives c = λ joiners earlier lists stands gave.
    let old = c.args.self.now in
    let kept : c.deref-2.result.now ≡ old.joiners = c.deref-2.ensures.value
    ∙ ap (λ (state : CollectorState). state.joiners) c.self.view_is in
    let given : c.self.inside.given ≡ old.given = ap (λ (state : CollectorState). state.given) c.self.view_is in
    subst (λ (ps : List Pair). IsPermutation ps c.in_order.result)
    (c.in_ok-pairs.ensures
    ∙ ap (λ (kept : List Kept). kept_behind c.self.inside.given kept (length kept)) kept
    ∙ ap (λ given. kept_behind given old.joiners (length old.joiners)) given
    ∙ behind_is_since joiners lists old stands earlier gave)
    c.in_order.ensures.permutation

pub returns-clause-given : goal.returns-clause-given
returns-clause-given c = λ joiners lists stands.
    let kept = c.deref.ensures.value ∙ ap (λ (state : CollectorState). state.joiners) c.self.view_is in
    all_given joiners lists c.args.self.now stands c.in_ok-given.given
    (c.in_ok-given.ensures ∙ ap (map (λ (kept : Kept). length kept.pairs)) kept)
