use Rattle.std.proofs.Common.{rules}
use Rattle.join_cli.proofs.GrownRuns.{split_behind, split_early, split_grown}
use Rattle.join_cli.proofs.growth.grown_waves.Goals as goal

pub first_waves-requires : goal.first_waves-requires
first_waves-requires g c = (
  search rules,
  (
    search rules,
    split_early c.args.work.now c.args.wave c.args.ends.now c.in-Some.early.now c.in-Some.later.now
        c.in-Some.ensures.cases c.requires.ends,
  ),
)

pub waves_grown-requires-clause-waves : goal.waves_grown-requires-clause-waves
waves_grown-requires-clause-waves g c lifetimes within =
    split_behind c.args.work.now c.args.wave c.args.ends.now c.in-Some.early.now c.in-Some.later.now
    c.in-Some.ensures.cases c.in_ok-first.first c.in_ok-first.ensures c.requires.ends

pub returns-in-Ok : goal.returns-in-Ok
returns-in-Ok g c =
    split_grown c.args.work.now c.args.wave c.args.ends.now c.in-Some.early.now c.in-Some.later.now
    c.in-Some.ensures.cases c.in_ok-first.first c.in_ok-first.ensures c.in-Ok.line c.in-Ok.waves c.in-Ok.ensures
