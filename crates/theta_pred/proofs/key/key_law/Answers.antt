use Rattle.theta_pred.proofs.KeyMembers.{key_of-law}
use Rattle.theta_pred.proofs.key.key_law.Goals as goal

pub returns : goal.returns
returns c = λ atom is. key_of-law _ atom c.requires is
