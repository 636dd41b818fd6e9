use Rattle.join_plan.proofs.WaveLemmas.{within_ended}
use Rattle.join_plan.proofs.continued.with_more.Goals as goal

pub returns-in-Ok-ended-clause-within : goal.returns-in-Ok-ended-clause-within
returns-in-Ok-ended-clause-within c =
    within_ended c.args.file.now.side c.args.waves.tables c.in-Ok.tables c.args.waves.ends c.in-Ok-ended.waves
    c.requires.ends c.in-Ok.ensures.grows c.in-Ok-ended.ensures
