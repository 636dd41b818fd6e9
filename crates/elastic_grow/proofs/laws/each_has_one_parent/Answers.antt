use Rattle.elastic_grow.proofs.Parents.{has_one_parent}
use Rattle.elastic_grow.proofs.laws.each_has_one_parent.Goals as goal

pub returns : goal.returns
returns c = λ k b j within small. has_one_parent k b j within small
