use Rattle.journal_picture.proofs.Lawful.{stays_within}
use Rattle.journal_picture.proofs.laws.points_stay_within.Goals as goal

pub returns : goal.returns
returns c = λ rules first journal fits free follows. stays_within rules first journal fits free follows
