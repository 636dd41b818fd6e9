use Rattle.report_picture.specs.Drawing.{shape_of}
use Rattle.report_picture.proofs.words.write_shape.Goals as goal

pub returns : goal.returns
unfolding shape_of
returns c = c.write.ensures.bytes
