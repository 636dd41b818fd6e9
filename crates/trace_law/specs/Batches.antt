-- Which rows a feeder has, in which batches, and the stamps that a journal gives them.
use Rattle.std.specs.Prelude.{ℕ, ◌/◌, ◌%◌, ◌==◌, Bool, ◌&&◌, slice_get, Option, List, count_by}
use Rattle.std.specs.List.{position_or_len}
use Rattle.row_tickets.specs.declared.place.Place.{Place}
use Rattle.row_cells.specs.declared.table.Side.TheVariants.{R, S}
use Rattle.migration_plan.specs.Steps.{same_side}
use Rattle.load_controller.specs.declared.line.TurnLine.{TurnLine}
use Rattle.load_controller.specs.Journal.{count_epochs}

-- the two are one row
abbrev pub same_place : Place → Place → Bool
same_place a b = same_side a.side b.side && (a.index == b.index)

-- how many places of a batch are of R, and of S
abbrev pub size_of : List Place → ℕ × ℕ
size_of batch = (count_by (λ a. same_side R a.side) batch, count_by (λ a. same_side S a.side) batch)

-- the epoch of the line that counted the row's batch, where there is one; each feeder deals its own rows
abbrev pub stamp_of : ℕ → ℕ → (ℕ → List Place) → List TurnLine → Place → Option ℕ
stamp_of feeders size own journal place =
    let p = place.index % feeders in
    slice_get (count_epochs p journal) (position_or_len (same_place place) (own p) / size)
