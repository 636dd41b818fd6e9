use Rattle.std.proofs.Common.{sym, subst}
use Rattle.load_controller.specs.Journal.{Fits, IsFirst, begun}
use Rattle.load_controller.specs.Standing.{IsFresh}
use Rattle.trace_law.specs.Family.{rules_of}
use Rattle.trace_law.proofs.Begun.{fits_begun}
use Rattle.actor_core.proofs.Fresh.{fresh_controller}
use Rattle.actor_core.proofs.WaveBeginnings.{begins_wave}
use Rattle.actor_core.proofs.waves.controller_in_wave.Goals as goal

pub start_at-requires-clause-fits : goal.start_at-requires-clause-fits
start_at-requires-clause-fits c =
    subst (Fits (rules_of c.args.setting.now)) (sym c.first_line.ensures)
    (fits_begun (rules_of c.args.setting.now) c.args.line.now c.requires.fits)

pub start_at-requires-clause-cause : goal.start_at-requires-clause-cause
start_at-requires-clause-cause c =
    subst (λ line. IsFirst line.cause) (sym c.first_line.ensures) (begins_wave c.args.line.now.cause)

pub returns-clause-stands : goal.returns-clause-stands
returns-clause-stands c =
    fresh_controller (rules_of c.args.setting.now) (begun c.args.line.now) c.in_ok-start_at.field-0
    (subst (λ line. IsFresh (rules_of c.args.setting.now) line c.in_ok-start_at.field-0) c.first_line.ensures
    c.in_ok-start_at.ensures)
