use Rattle.trace_law.proofs.Stored.{stores_its_rows}
use Rattle.trace_law.proofs.laws.stores_what_it_holds.Goals as goal

pub returns : goal.returns
returns c = λ input setting rest f valid stands agrees. stores_its_rows input setting valid rest stands f agrees
