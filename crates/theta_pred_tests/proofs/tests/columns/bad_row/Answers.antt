use Rattle.std.proofs.Common.{◌≡◌, ◌<◌, List, length, sym, subst}
use Rattle.std.proofs.lemmas.List.Elements.{All-weaker}
use Rattle.row_cells.specs.declared.table.Cell.{Cell}
use Rattle.theta_pred_tests.proofs.tests.columns.bad_row.Goals as goal

pub numbers-requires-clause-rows : goal.numbers-requires-clause-rows
numbers-requires-clause-rows c =
    let column = c.args.column in
    let names = c.args.table.now.names in
    All-weaker (λ (row : List Cell). length row ≡ length names) (λ row. column < length row)
    (λ row is. subst (λ n. column < n) (sym is) c.requires.column) c.args.table.now.rows c.requires.table.wide
