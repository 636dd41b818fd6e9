use Rattle.report_picture.specs.Drawing.{name_of}
use Rattle.report_picture.proofs.words.write_name.Goals as goal

pub returns : goal.returns
unfolding name_of
returns c = c.write.ensures.bytes
