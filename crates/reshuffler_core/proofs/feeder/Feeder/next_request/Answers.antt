use Rattle.std.proofs.Common.{◌≡◌, sym, ap, ◌∙◌, arith, drop, length}
use Rattle.std.proofs.lemmas.List.{length-drop}
use Rattle.reshuffler_core.specs.Standing.{FeederState, next_request}
use Rattle.reshuffler_core.proofs.BatchCuts.{cut_none}
use Rattle.reshuffler_core.proofs.feeder.Feeder.next_request.Goals as goal

pub returns-else-self-as_slice : goal.returns-else-self-as_slice
returns-else-self-as_slice c =
    let f = c.self.inside in
    let left = length-drop f.sent f.load in
    let rows = ap length c.as_slice.ensures in
    let none : length (drop f.sent f.load) ≡ 0 = omega arith in
    ap next_request (sym (cut_none f.batch (drop f.sent f.load) c.self.invariant.some none))
    ∙ ap (λ (s : FeederState). next_request s.to_come) c.self.view_is
