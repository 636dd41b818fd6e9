use Rattle.report_picture.specs.Drawing.{title_of}
use Rattle.report_picture.proofs.svg.write_title.Goals as goal

pub returns : goal.returns
unfolding title_of
returns c = c.write.ensures.bytes
