use Rattle.report_picture.specs.Drawing.{first_names_of}
use Rattle.report_picture.proofs.life.write_first_names.Goals as goal

pub returns : goal.returns
unfolding first_names_of
returns c = c.write.ensures.bytes
