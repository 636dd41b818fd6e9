use Rattle.report_picture.specs.Drawing.{grown_names_of}
use Rattle.report_picture.proofs.life.write_grown_names.Goals as goal

pub returns : goal.returns
unfolding grown_names_of
returns c = c.write.ensures.bytes
