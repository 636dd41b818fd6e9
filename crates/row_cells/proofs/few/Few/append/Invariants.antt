use Rattle.std.proofs.Common.{◌≡◌, ◌++◌, take}
use Rattle.row_cells.proofs.few.Few.append.Given as goal

abbrev pub invariant-loop-item : goal.invariant-loop-item
invariant-loop-item g l = l.self ≡ l.fn.self ++ take l.item-index l.items
