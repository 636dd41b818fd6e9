-- How many events a run has at most.
use Rattle.std.specs.Prelude.{ℕ, ◌+◌, ◌*◌, ◌^◌}
use Rattle.row_cells.specs.declared.table.Side.TheVariants.{R, S}
use Rattle.trace_law.specs.Join.{row_count}
use Rattle.trace_law.specs.declared.input.Input.{Input}
use Rattle.trace_law.specs.declared.setting.Setting.{Setting}

-- the most events that a run with so many migrations has
abbrev pub most_events : Input → Setting → ℕ → ℕ
most_events input setting migrations =
    8 * (row_count input R + row_count input S + setting.feeders + 2) * 2 ^ setting.k * (migrations + 2)
