use Rattle.std.proofs.Common.{◌∙◌, ap}
use Rattle.std.specs.List.{slice_get}
use Rattle.row_cells.specs.Numbers.{number_of}
use Rattle.row_cells.proofs.SharedRows.{text-number}
use Rattle.row_cells.proofs.cells.Cells.number_at.Goals as goal

pub returns : goal.returns
returns c = c.number_in.ensures.value ∙ ap number_of c.text_at.ensures ∙ text-number (slice_get c.args.self.now c.args.place)
