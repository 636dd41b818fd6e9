use Rattle.report_picture.specs.Drawing.{best_name_of}
use Rattle.report_picture.proofs.load.write_best_name.Goals as goal

pub returns : goal.returns
unfolding best_name_of
returns c = c.write.ensures.bytes
