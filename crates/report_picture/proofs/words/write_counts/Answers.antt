use Rattle.report_picture.specs.Drawing.{counts_of}
use Rattle.report_picture.proofs.words.write_counts.Goals as goal

pub returns : goal.returns
unfolding counts_of
returns c = c.write.ensures.bytes
