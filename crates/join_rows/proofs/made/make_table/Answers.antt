use Rattle.std.proofs.Common.{ap, subst, sym}
use Rattle.std.specs.List.{range_with_len}
use Rattle.std.proofs.lemmas.Simd.{map-map}
use Rattle.row_cells.specs.Cells.{cells_of}
use Rattle.row_cells.proofs.SharedRows.{cells-counted}
use Rattle.join_rows.specs.Made.{made_fields, made_table}
use Rattle.join_rows.specs.Records.{IsTable}
use Rattle.join_rows.proofs.MadeTables.{made-shape, made_rows}
use Rattle.join_rows.proofs.made.make_table.Goals as goal

pub rows_over-requires : goal.rows_over-requires
rows_over-requires c = record {
  whole = cells-counted (made_rows c.args.side c.args.count) 3 c.args.count c.in_ok-texts.texts c.in_ok-texts.ensures;
}

pub returns-clause-made : goal.returns-clause-made
returns-clause-made c =
    rw (c.in_ok-names.ensures, c.in_ok-rows.ensures (made_rows c.args.side c.args.count) c.in_ok-texts.ensures)
    (ap (λ (rows : _). record { names = (made_table c.args.side c.args.count).names; rows = rows })
    (map-map cells_of (made_fields c.args.side) (range_with_len 0 c.args.count)))

pub returns-clause-table : goal.returns-clause-table
returns-clause-table c =
    subst IsTable (sym (returns-clause-made c)) (made-shape c.args.side c.args.count c.requires.few)
