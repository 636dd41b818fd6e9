use Rattle.report_picture.specs.Drawing.{filled_of}
use Rattle.report_picture.proofs.life.write_filled.Goals as goal

pub returns : goal.returns
unfolding filled_of
returns c = c.write.ensures.bytes
