use Rattle.report_picture.specs.Drawing.{cell_of}
use Rattle.report_picture.proofs.field.write_cell.Goals as goal

pub returns : goal.returns
unfolding cell_of
returns c = c.write.ensures.bytes
