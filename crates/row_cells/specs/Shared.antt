-- What cells that may be shared stand for.
use Rattle.std.specs.Prelude.{◌≡◌, ℕ, List, [], Option, None, Some, drop, length, take}
use Rattle.std.specs.List.{AllByRecursion, flat_map}
use Rattle.std.specs.Arc.{arc_value}
use Rattle.std.specs.declared.sync.Arc.{Arc}
use Rattle.row_cells.specs.declared.cells.Sheet.{Sheet}
use Rattle.row_cells.specs.declared.table.Cell.{Cell}
use Rattle.row_cells.specs.Cells.{cells_of}

-- so many of the items, from the first on
abbrev pub part_of : {T : Type 0} → List T → ℕ → ℕ → List T
part_of items first count = take count (drop first items)

-- the row whose texts begin at this one of those that are shared, or none
abbrev pub row_at : {Z : Type 0} → Option (Arc Sheet Z) → ℕ → List Cell
row_at None first = []
row_at (Some shared) first = cells_of (part_of (arc_value shared).texts first (arc_value shared).width)

-- so many rows of this width, which have the cells one behind the other
pub record AreRowsOf {T : Type 0} (rows : List (List T)) (width count : ℕ) (cells : List T) : Type 0 where
  pub joined : flat_map (λ row. row) rows ≡ cells
  pub counted : length rows ≡ count
  pub wide : AllByRecursion (λ row. length row ≡ width) rows
