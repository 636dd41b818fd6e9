use Rattle.theta_pred.specs.Formula.{Meaning}
use Rattle.actor_core.specs.Tasks.{Task}
use Rattle.join_runtime.specs.Bouts.{AllJoinBy}
use Rattle.join_runtime.specs.Runs.{IsBegun}
use Rattle.join_runtime.proofs.UnderWay.{IsUnderWay}
use Rattle.join_runtime.proofs.runs.wave_by.Given as goal

abbrev pub invariant-loop : goal.invariant-loop
invariant-loop g l = record {
  way : (task : Task) → IsBegun task l.fn.begun → IsUnderWay task l.seats l.bouts;
  joins : (theta : Meaning) → AllJoinBy theta l.fn.begun → AllJoinBy theta l.seats;
}
