use Rattle.report_picture.specs.Drawing.{labels_of}
use Rattle.report_picture.proofs.field.write_labels.Goals as goal

pub returns : goal.returns
unfolding labels_of
returns c = c.write.ensures.bytes
