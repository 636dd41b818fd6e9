use Rattle.trace_law.proofs.LateLaws.{finished_with_an_old_row}
use Rattle.trace_law.proofs.laws.some_family_moves_an_old_row.Goals as goal

pub returns : goal.returns
returns c = finished_with_an_old_row
