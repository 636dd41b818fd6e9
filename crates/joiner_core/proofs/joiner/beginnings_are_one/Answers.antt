use Rattle.joiner_core.proofs.OneBeginning.{one_beginning}
use Rattle.joiner_core.proofs.joiner.beginnings_are_one.Goals as goal

pub returns : goal.returns
returns c = one_beginning
