use Rattle.std.proofs.Common.{◌∙◌, Ok, add-one, ap, arith, inr, refl, subst, suc, sym}
use Rattle.actor_core.specs.Players.{Runs}
use Rattle.join_runtime.specs.Views.{player}
use Rattle.join_runtime.proofs.SeatTurns.{ends_joined, ends_self, turn_ends, works_rested, works_spent}
use Rattle.join_runtime.proofs.seat.Seat.turns_up_to.Goals as goal

pub loop-round-init : goal.loop-round-init
loop-round-init g c = record { runs = refl; ends = ends_self c.args.self.now c.args.self.now refl; none = λ z. refl }

pub loop-round-preserved : goal.loop-round-preserved
loop-round-preserved g c =
    let turn = c.in-Ok-Took.ensures.took (ap Ok c.in-Ok-Took.field-0-is) in
    let first = c.args.self.now in
    let middle = c.loop-round.self in
    let last = c.turn.new.self in
    let more : Runs (suc c.loop-round.round) (player first) (player last) =
    (player middle, c.loop-round.invariant.runs, turn.event) in
    record {
      runs = subst (λ n. Runs n (player first) (player last)) (sym (add-one c.loop-round.round)) more;
      ends = ends_joined first middle last c.loop-round.invariant.ends (turn_ends middle last turn);
      none = λ z. absurd (omega (arith, z));
    }

pub returns-in-Ok-Idle : goal.returns-in-Ok-Idle
returns-in-Ok-Idle g c =
    let is = ap Ok c.in-Ok-Idle.field-0-is in
    let said = c.in-Ok-Idle.ensures in
    works_rested c.loop-round.round c.args.self.now c.loop-round.self c.turn.new.self c.loop-round.invariant.runs
    c.loop-round.invariant.ends c.loop-round.invariant.none (said.idle is)
    (record { none_known = said.none_known is; waits = said.waits is })

pub returns-in-Err : goal.returns-in-Err
returns-in-Err g c = works_spent c.args.self.now c.turn.new.self
    (c.in-Err.ensures.frame ∙ c.loop-round.invariant.ends.frame) c.in-Err.ensures.fails

pub returns : goal.returns
returns g c =
    let some = c.requires in
    let over = c.loop-round-test.false in
    record {
      frame = c.loop-round.invariant.ends.frame;
      advances = inr (record {
        count = c.loop-round.round;
        runs = c.loop-round.invariant.runs;
        ends = c.loop-round.invariant.ends;
        none = λ z. absurd (omega (arith, z, some, over));
      });
    }
