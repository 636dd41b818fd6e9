use Rattle.report_picture.specs.Drawing.{moved_of}
use Rattle.report_picture.proofs.life.write_moved.Goals as goal

pub returns : goal.returns
unfolding moved_of
returns c = c.write.ensures.bytes
