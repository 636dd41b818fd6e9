-- A chain of three relations: R is joined with S, and the joined rows with Q.
use Rattle.std.specs.Prelude.{◌≡◌, ◌++◌, ◌&&◌, ℕ, Bool, All, List, map, length}
use Rattle.std.specs.List.{range_with_len}
use Rattle.row_cells.specs.declared.table.Cell.{Cell}
use Rattle.row_cells.specs.declared.table.Side.{Side}
use Rattle.row_cells.specs.declared.table.Side.TheVariants.{R, S}
use Rattle.row_cells.specs.declared.table.Table.{Table}
use Rattle.epoch_tags.specs.declared.tuple.Pair.{Pair}
use Rattle.theta_pred.specs.Truth.{holds}
use Rattle.row_tickets.specs.Tickets.{ticket_of}
use Rattle.joined_rows.specs.Joined.{joined_names, joined_row as joined_row_of}
use Rattle.trace_law.specs.declared.input.Input.{Input}
use Rattle.trace_law.specs.declared.setting.Setting.{Setting}
use Rattle.trace_law.specs.Join.{matches_of, nested_loop, rows_of}
use Rattle.join_runtime.specs.declared.ends.Told.{Told}
use Rattle.actor_core.specs.Players.{IsFinishedFamily}
use Rattle.actor_core.specs.Tasks.{IsRun, task_of}
use Rattle.join_runtime.specs.Endings.{lists_left}
use Rattle.chain_join.specs.declared.second.Third.{Third}
use Rattle.chain_join.specs.declared.triples.Triple.{Triple}
use Rattle.chain_join.specs.Triples.{triple_loop}

-- ---- the joined rows, and what is joined with the third table

-- the joined row of a pair
abbrev pub joined_row : Input → Pair → List Cell
joined_row input pair = joined_row_of (rows_of input R) (rows_of input S) pair

-- a joined row for each of the nested loop's matching pairs, in its order
abbrev pub joined_rows : Input → List (List Cell)
joined_rows input = map (joined_row input) (nested_loop input)

-- the tickets of a side's rows
abbrev pub tickets_of : ℕ → Side → List (List Cell) → List ℕ
tickets_of seed side rows = map (ticket_of seed side) (range_with_len 0 (length rows))

-- what the second run joins: the joined rows under their names with the third table, by its predicate, with the tickets
-- of a seed
abbrev pub second_input : Input → Third → ℕ → Input
second_input input third seed = record {
  table_r = record { names = joined_names input.table_r.names input.table_s.names; rows = joined_rows input };
  table_s = third.table;
  theta = third.theta;
  tickets_r = tickets_of seed R (joined_rows input);
  tickets_s = tickets_of seed S third.table.rows;
}

-- ---- the answer

-- the first predicate is true of a row of R and a row of S, and the second of the two, one after the other, and a row
-- of Q
abbrev pub matches_chain : Input → Third → List Cell → List Cell → List Cell → Bool
matches_chain input third r s q = matches_of input r s && holds third.theta (r ++ s) q

-- the matching triples of all three relations
abbrev pub nested3 : Input → Third → List Triple
nested3 input third = triple_loop (matches_chain input third) (rows_of input R) (rows_of input S) third.table.rows

-- ---- a run

-- the header and each row of a table have this width
pub record IsWide (table : Table) (width : ℕ) : Type 0 where
  pub header : length table.names ≡ width
  pub rows : All (λ row. length row ≡ width) table.rows

-- a run of this input and setting, and its ends, whose lists are a finished, agreeing family with the run's journal
pub record IsToldOf (input : Input) (setting : Setting) (told : Told) : Type 0 where
  pub run : IsRun (task_of input setting) told.run.journal told.run
  pub family : IsFinishedFamily (task_of input setting) told.run.journal (lists_left told.ends)
