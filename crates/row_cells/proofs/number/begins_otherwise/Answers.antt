use Rattle.std.proofs.Common.{arith}
use Rattle.row_cells.proofs.ShortNumbers.{number-otherwise}
use Rattle.row_cells.proofs.number.begins_otherwise.Goals as goal

pub returns-in-len1-up : goal.returns-in-len1-up
returns-in-len1-up c past = number-otherwise c.args.text.now (grind (arith, past))
