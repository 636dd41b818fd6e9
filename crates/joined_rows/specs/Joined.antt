-- The header and the rows of a join.
use Rattle.std.specs.Prelude.{◌++◌, ℕ, List, [], map, codes}
use Rattle.std.specs.List.{slice_index_or}
use Rattle.row_cells.specs.declared.table.Cell.{Cell}
use Rattle.epoch_tags.specs.declared.tuple.Pair.{Pair}

-- the names of R, each after `r_`, and then those of S, each after `s_`
abbrev pub joined_names : List (List ℕ) → List (List ℕ) → List (List ℕ)
joined_names names_r names_s = map (λ name. codes "r_" ++ name) names_r ++ map (λ name. codes "s_" ++ name) names_s

-- the row at a place; one that isn't there has no cell
abbrev pub row_at : List (List Cell) → ℕ → List Cell
row_at rows place = slice_index_or rows place []

-- the cells of a pair's row of R, and then those of its row of S
abbrev pub joined_row : List (List Cell) → List (List Cell) → Pair → List Cell
joined_row rows_r rows_s pair = row_at rows_r pair.i ++ row_at rows_s pair.j
