use Rattle.join_words.specs.Words.{asked}
use Rattle.join_plan.proofs.LaterFiles.{waves_asked}
use Rattle.join_plan.proofs.files.all_waves.Goals as goal

pub returns-in-Ok-clause-refused : goal.returns-in-Ok-clause-refused
returns-in-Ok-clause-refused g c =
    c.read_later.ensures.refused (asked c.args.options.now)
    (rw c.later.ensures (waves_asked (asked c.args.options.now) c.args.options.now.together.made_once))
