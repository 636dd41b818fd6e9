use Rattle.report_picture.specs.Drawing.{legend_of}
use Rattle.report_picture.proofs.field.write_legend.Goals as goal

pub returns : goal.returns
unfolding legend_of
returns c = c.write.ensures.bytes
