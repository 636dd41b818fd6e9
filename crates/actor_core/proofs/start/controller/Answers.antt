use Rattle.std.proofs.Common.{ap}
use Rattle.trace_law.specs.Family.{rules_of, first_rest}
use Rattle.actor_core.proofs.Fresh.{fresh_controller}
use Rattle.actor_core.specs.declared.machines.Core.TheVariants.{Controller as TheController}
use Rattle.actor_core.proofs.start.controller.Goals as goal

pub returns-clause-stands : goal.returns-clause-stands
returns-clause-stands c = fresh_controller (rules_of c.args.setting.now)
    (first_rest c.args.setting.now).line c.in_ok-start.field-0 c.in_ok-start.ensures

pub returns-clause-first : goal.returns-clause-first
returns-clause-first c = ap TheController c.in_ok-start.ensures.whole
