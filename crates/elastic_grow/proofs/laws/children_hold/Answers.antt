use Rattle.elastic_grow.proofs.Parents.{children_hold}
use Rattle.elastic_grow.proofs.laws.children_hold.Goals as goal

pub returns : goal.returns
returns c = λ k b id a d ticket within small low_a low_d. children_hold k b id a d ticket within small low_a low_d
