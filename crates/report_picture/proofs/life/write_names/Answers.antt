use Rattle.report_picture.specs.Drawing.{names_of}
use Rattle.report_picture.proofs.life.write_names.Goals as goal

pub returns : goal.returns
unfolding names_of
returns c = c.write.ensures.bytes
