use Rattle.trace_law.proofs.HeldMoved.{holds_a_moved_row}
use Rattle.trace_law.proofs.laws.some_family_holds_a_moved_row.Goals as goal

pub returns : goal.returns
returns c = holds_a_moved_row
