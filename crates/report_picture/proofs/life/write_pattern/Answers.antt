use Rattle.report_picture.specs.Drawing.{pattern_of}
use Rattle.report_picture.proofs.life.write_pattern.Goals as goal

pub returns : goal.returns
unfolding pattern_of
returns c = c.write.ensures.bytes
