use Rattle.journal_picture.proofs.Kept.{each_has_its_point}
use Rattle.journal_picture.proofs.laws.each_line_has_its_point.Goals as goal

pub returns : goal.returns
returns c = λ rules first journal fits follows few. each_has_its_point rules first journal fits follows few
