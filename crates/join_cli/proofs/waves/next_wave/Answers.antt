use Rattle.std.proofs.lemmas.Result.{IfOk-weaker}
use Rattle.join_cli.proofs.WaveRuns.{wave_behind}
use Rattle.join_cli.proofs.waves.next_wave.Goals as goal

pub returns-in-Ok : goal.returns-in-Ok
returns-in-Ok g c =
    IfOk-weaker c.waves_of_both.result _ _
    (λ both are. wave_behind c.args.work.now c.args.before c.args.end.now c.in-Ok.next both c.requires c.in-Ok.ensures
    are) c.waves_of_both.ensures
