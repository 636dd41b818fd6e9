use Rattle.std.proofs.Common.{◌≡◌, ◌∙◌, ap}
use Rattle.std.specs.Prelude.{is_some}
use Rattle.std.specs.List.{list_all}
use Rattle.pair_collector.specs.Kept.{Kept}
use Rattle.pair_collector.specs.Standing.{CollectorState, is_complete}
use Rattle.pair_collector.proofs.KeptMessages.{complete_says}
use Rattle.pair_collector.proofs.collector.Collector.complete.Goals as goal

pub returns-clause-stands : goal.returns-clause-stands
returns-clause-stands c = λ joiners lists stands.
    let is : c.all_ended.result ≡ is_complete c.args.self.now =
    c.all_ended.ensures ∙ ap (list_all (λ (kept : Kept). is_some kept.last)) c.deref.ensures.value
    ∙ ap (λ (state : CollectorState). is_complete state) c.self.view_is in
    rw is (complete_says joiners lists c.args.self.now stands)
