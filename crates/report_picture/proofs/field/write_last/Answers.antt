use Rattle.report_picture.specs.Drawing.{last_of}
use Rattle.report_picture.proofs.field.write_last.Goals as goal

pub returns : goal.returns
unfolding last_of
returns c = c.write.ensures.bytes
