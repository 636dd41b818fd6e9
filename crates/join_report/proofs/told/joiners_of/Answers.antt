use Rattle.std.proofs.Common.{◌≤◌, ◌∙◌, List, [], ◌∷◌, ◌++◌, ap, arith, length, min, sym, take}
use Rattle.report_lines.specs.declared.report_numbers.Joiner.{Joiner}
use Rattle.join_report.specs.Report.{joiner_told, joiners_told}
use Rattle.join_report.proofs.Sums.{zip2_more, zip2_whole}
use Rattle.join_report.proofs.told.joiners_of.Goals as goal

pub loop-id-preserved : goal.loop-id-preserved
loop-id-preserved c =
    record {
      last = c.loop-id.invariant.last;
      joiners = c.in_ok-push.ensures.ok
          ∙ ap (λ (joiners : List Joiner). joiners ++ c.joiner_of.result ∷ []) c.loop-id.invariant.joiners
          ∙ ap (λ (joiner : Joiner). take c.loop-id.id (joiners_told c.args.loads.now c.args.made.now) ++ joiner ∷ [])
          c.joiner_of.ensures
          ∙ sym (zip2_more joiner_told c.args.loads.now c.args.made.now c.loop-id.id c.at-held.result.now
          c.at-pairs.result.now c.at-held.ensures c.at-pairs.ensures);
    }

pub returns : goal.returns
returns c =
    let last = c.loop-id.invariant.last in
    let all : min (length c.args.loads.now) (length c.args.made.now) ≤ c.loop-id.id = omega arith in
    c.loop-id.invariant.joiners ∙ zip2_whole joiner_told c.args.loads.now c.args.made.now c.loop-id.id all
