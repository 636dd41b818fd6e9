use Rattle.trace_law.proofs.Few.{few_events}
use Rattle.trace_law.proofs.laws.events_are_few.Goals as goal

pub returns : goal.returns
returns c = λ input setting rest f valid stands agrees. few_events input setting rest f agrees valid stands
