use Rattle.std.proofs.Common.{subst}
use Rattle.std.specs.Prelude.{IfOk}
use Rattle.join_cli.specs.WaveSteps.{AreWavesBehind}
use Rattle.join_cli.proofs.growth.waves_from.Goals as goal
use Rattle.join_cli.specs.Works.{view_of}

pub returns-in-Ok : goal.returns-in-Ok
returns-in-Ok g c =
    subst (λ r. IfOk c.through.result (AreWavesBehind (view_of c.args.work.now)
    (record { run = r; trail = c.args.trail; rest = c.args.rest }) c.args.ends.now))
    c.in-Ok.ensures c.through.ensures
