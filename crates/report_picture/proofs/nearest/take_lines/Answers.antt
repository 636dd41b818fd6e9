use Rattle.std.proofs.Common.{◌∙◌, List, [], ◌∷◌, ◌++◌, ℕ, Bor, ap, sym, map, rules, tests}
use Rattle.std.specs.Prelude.{◌==◌}
use Rattle.std.specs.List.{slice_split}
use Rattle.std.proofs.lemmas.List.{map-append}
use Rattle.std.proofs.lemmas.List.Elements.{All-push}
use Rattle.std.proofs.lemmas.Iterator.Consumers.{YieldsList-at, YieldsList-end}
use Rattle.std.proofs.lemmas.Iterator.Splits.{YieldsList-from_slice_split}
use Rattle.report_picture.specs.Reading.{Blank, IsReadable}
use Rattle.report_picture.proofs.Folded.{blank_taken, none_taken, one_line_more}
use Rattle.report_picture.proofs.Parted.{lines_parted}
use Rattle.report_picture.proofs.nearest.take_lines.Goals as goal

pub loop-line-init : goal.loop-line-init
loop-line-init c = record {
  grids = c.requires;
  exact = λ entries fit none. none_taken c.args.report.now entries none;
}

pub loop-line-preserved : goal.loop-line-preserved
loop-line-preserved c =
    let now : Bor (List ℕ) → List ℕ = λ line. line.now in
    record {
      grids = c.in_ok-take_line.ensures.grids;
      exact = λ entries fit same.
          one_line_more c.args.report.now c.loop-line.report
          c.take_line.new.report (map now c.loop-line.yielded) c.in-Some.line.now
          c.loop-line.invariant.exact c.in_ok-take_line.ensures.exact entries fit
          (sym (map-append now c.loop-line.yielded (c.in-Some.line ∷ [])) ∙ same);
    }

pub returns-clause-exact : goal.returns-clause-exact
returns-clause-exact c entries fit is =
    let parts = c.split-line-items.ensures in
    let all =
    YieldsList-end
    (YieldsList-at c.into_iter-line-iterator.ensures.into_iter_gives
    (YieldsList-from_slice_split _ (λ byte. byte == 10) c.args.text.now parts.rest parts.done parts.closure
    (λ x r q k. search (rules, tests))))
    c.loop-line.yielded _ c.loop-line.yielded_by _ _ c.in-None.is c.next.ensures.steps in
    c.loop-line.invariant.exact (entries ++ Blank ∷ []) (All-push IsReadable entries Blank fit tt)
    (all.0 ∙ ap (slice_split (λ byte. byte == 10)) is ∙ lines_parted entries fit)
    ∙ blank_taken c.args.report.now entries
