use Rattle.report_picture.specs.Drawing.{opening_of}
use Rattle.report_picture.proofs.life.write_opening.Goals as goal

pub returns : goal.returns
unfolding opening_of
returns c = c.write.ensures.bytes
