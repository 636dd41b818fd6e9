use Rattle.join_runtime.proofs.runs.in_threads.Goals as goal

pub returns : goal.returns
returns g c = c.scoped.ensures.1
