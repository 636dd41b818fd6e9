use Rattle.std.proofs.Common.{refl, rules}
use Rattle.std.proofs.lemmas.Result.{IfOk-weaker}
use Rattle.join_cli.specs.Works.{view_of}
use Rattle.join_cli.specs.declared.waves.Waved.{Waved}
use Rattle.join_cli.proofs.WaveRuns.{from_none, limits_of, may_begin}
use Rattle.join_cli.proofs.waves.all_waves.Goals as goal

pub through-requires : goal.through-requires
through-requires g c =
    let work = c.args.work.now in (
      search rules,
      (
        search rules,
        may_begin work c.in_ok-rest.rest c.args.ends.now (c.in_ok-rest.ensures.first work.setting.now refl refl)
            (c.in_ok-rest.ensures.stands work.input.now work.setting.now (limits_of work) refl refl refl)
            c.in_ok-rest.ensures.epoch c.requires,
      ),
    )

pub returns : goal.returns
returns g c =
    let none : Waved = record { run = c.in_ok-run.run'; trail = c.new.result; rest = c.in_ok-rest.rest } in
    let work = c.args.work.now in
    IfOk-weaker c.through.result _ _
    (λ all more. from_none (view_of work) none all c.args.ends.now
    (c.in_ok-rest.ensures.first work.setting.now refl refl) c.in_ok-run.ensures c.new.ensures more)
    c.through.ensures
