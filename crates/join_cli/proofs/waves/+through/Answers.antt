use Rattle.std.proofs.lemmas.Result.{IfOk-weaker}
use Rattle.join_cli.proofs.WaveRuns.{none_left, some_left}
use Rattle.join_cli.proofs.waves.+through.Goals as goal
use Rattle.join_cli.specs.Works.{view_of}

pub returns-in_default : goal.returns-in_default
returns-in_default g t c =
    none_left (view_of c.args.work.now) c.args.before c.args.ends.now
    c.in_default.len_below

pub returns : goal.returns
returns g t c =
    IfOk-weaker c.through.result _ _
    (λ all more. some_left (view_of c.args.work.now) c.args.before
    c.in_ok-after.after all
    c.args.ends.now _ c.in-len1-up.len_at_least c.in_ok-after.ensures more) c.through.ensures
