use Rattle.report_picture.specs.Drawing.{ground}
use Rattle.report_picture.proofs.words.write_ground.Goals as goal

pub returns : goal.returns
unfolding ground
returns c = c.write.ensures.bytes
