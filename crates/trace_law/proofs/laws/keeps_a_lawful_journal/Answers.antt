use Rattle.trace_law.proofs.Lawful.{lawful_so_far}
use Rattle.trace_law.proofs.laws.keeps_a_lawful_journal.Goals as goal

pub returns : goal.returns
returns c = λ input setting rest f valid stands agrees. lawful_so_far input setting valid rest stands f agrees
