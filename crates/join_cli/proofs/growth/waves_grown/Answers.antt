use Rattle.std.proofs.Common.{ap, rules}
use Rattle.trace_law.specs.declared.setting.Setting.{Setting}
use Rattle.join_cli.specs.Works.{view_of}
use Rattle.join_cli.proofs.GrownRuns.{may_go_on, waves_since_growth}
use Rattle.join_cli.proofs.growth.waves_grown.Goals as goal

pub waves_from-requires : goal.waves_from-requires
waves_from-requires g c = (
  search rules,
  (
    search rules,
    may_go_on c.args.work.now _ c.args.rest c.in-Ok.rest c.args.ends.now c.in-Ok.ensures.line c.in-Ok.ensures.rest
        (ap (λ (s : Setting). record (view_of c.args.work.now) { setting = s }) c.grown_setting-setting.ensures)
        c.requires.waves,
  ),
)

pub returns-in_ok-waves-in-Ok : goal.returns-in_ok-waves-in-Ok
returns-in_ok-waves-in-Ok g c =
    waves_since_growth (view_of c.args.work.now) _ c.args.trail c.in-Ok.rest c.args.rest.line c.args.ends.now
    c.in_ok-waves-in-Ok.waves c.in-Ok.ensures.line c.in-Ok.ensures.rest
    (ap (λ (s : Setting). record (view_of c.args.work.now) { setting = s }) c.grown_setting-setting.ensures)
    c.in_ok-waves-in-Ok.ensures
