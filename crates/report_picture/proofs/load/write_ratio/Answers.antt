use Rattle.report_picture.specs.Drawing.{ratio_of}
use Rattle.report_picture.proofs.load.write_ratio.Goals as goal

pub returns : goal.returns
unfolding ratio_of
returns c = c.write.ensures.bytes
