use Rattle.report_picture.specs.Drawing.{placed_of}
use Rattle.report_picture.proofs.life.write_placed.Goals as goal

pub returns : goal.returns
unfolding placed_of
returns c = c.write.ensures.bytes
