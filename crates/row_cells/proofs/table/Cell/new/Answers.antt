use Rattle.row_cells.proofs.table.Cell.new.Goals as goal

pub returns-clause-number : goal.returns-clause-number
returns-clause-number c = rw c.as_slice.ensures at c.number_in-num.ensures.exact
