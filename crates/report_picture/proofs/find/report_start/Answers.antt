use Rattle.std.proofs.Common.{◌<◌, length, arith}
use Rattle.std.proofs.lemmas.Slice.{between_to_end}
use Rattle.report_picture.proofs.Starts.{behind_line, last_so_far, may_begin_within, start_within, there_so_far}
use Rattle.report_picture.proofs.find.report_start.Goals as goal

pub loop-place-preserved : goal.loop-place-preserved
loop-place-preserved c =
    let text = c.args.text.now in
    let place = c.loop-place.place in
    let start = c.loop-place.start in
    let rest = between_to_end c.args.text.now c.loop-place.place (length c.args.text.now) (omega arith) in
    record {
      within = start_within text place start _ c.loop-place.invariant.within c.loop-place-test.true
          c.later_start-start.ensures.either;
      line = behind_line text _ place c.line_len.result rest c.line_len.ensures.feed;
      there = there_so_far text place start _ c.loop-place.invariant.there c.later_start-start.ensures.either;
      last = last_so_far text _ place c.line_len.result start _ rest c.line_len.ensures.line c.loop-place-test.true
          c.loop-place.invariant.last c.later_start-start.ensures.yes c.later_start-start.ensures.either;
    }

pub returns-clause-found : goal.returns-clause-found
returns-clause-found c place may =
    let inside : place < length c.args.text.now = may_begin_within c.args.text.now place may in
    (c.loop-place.invariant.last place (omega (arith, inside, c.loop-place-test.false)) may).2
