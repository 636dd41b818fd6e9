use Rattle.report_picture.specs.Drawing.{head_of}
use Rattle.report_picture.proofs.svg.write_head.Goals as goal

pub returns : goal.returns
unfolding head_of
returns c = c.write.ensures.bytes
