use Rattle.std.proofs.Common.{◌∙◌, sym, arith}
use Rattle.join_runtime.proofs.UnderWay.{begun, goes_on, one_bout_more, tells}
use Rattle.join_runtime.proofs.runs.wave_by.Goals as goal

pub loop-init : goal.loop-init
loop-init g c = record {
  way = λ task is. begun task c.args.begun is.stands is.empty;
  joins = λ theta joins. joins;
}

pub loop-preserved : goal.loop-preserved
loop-preserved g c =
    let said = c.in_ok-bout_by.ensures in
    let sum = c.saturating_add-bouts.ensures in
    record {
      way = λ task is.
          let before = c.loop.invariant.way task is in
          let went = goes_on c.in_ok-bout_by.field-0 _
          (λ rested. said.collected rested task is.is_task before.stands)
          (sym c.complete.ensures ∙ c.if-complete.false) in
          one_bout_more task c.loop.seats c.bout_by.new.seats c.loop.bouts
          c.saturating_add-bouts.result (said.went went) (said.ready went) said.agrees
          (said.stands task) (omega (arith, sum)) before;
      joins = λ theta joins. said.joins theta (c.loop.invariant.joins theta joins);
    }

pub returns : goal.returns
returns g c =
    tells c.events_are_few.ensures c.args.begun c.loop.seats c.loop.bouts c.loop.invariant.way c.loop.invariant.joins
    c.finish_wave.result c.finish_wave.ensures.family c.finish_wave.ensures.run c.finish_wave.ensures.rest
    c.finish_wave.ensures.line c.finish_wave.ensures.ends c.finish_wave.ensures.bouts
