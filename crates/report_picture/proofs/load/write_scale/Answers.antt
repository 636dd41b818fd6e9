use Rattle.report_picture.specs.Drawing.{scale_of}
use Rattle.report_picture.proofs.load.write_scale.Goals as goal

pub returns : goal.returns
unfolding scale_of
returns c = c.write.ensures.bytes
