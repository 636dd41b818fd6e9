use Rattle.report_picture.specs.Drawing.{load_name_of}
use Rattle.report_picture.proofs.load.write_load_name.Goals as goal

pub returns : goal.returns
unfolding load_name_of
returns c = c.write.ensures.bytes
