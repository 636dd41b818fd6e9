-- Where a point is drawn.
use Rattle.std.specs.Prelude.{◌+◌, ◌-◌, ◌*◌, ◌/◌, ◌^◌, ◌==◌, ℕ, if◌then◌else◌, min}
use Rattle.load_controller.specs.declared.line.TurnLine.{TurnLine}
use Rattle.journal_picture.specs.declared.point.Point.{Point}

-- how many thousandths of the best the load is, the rest dropped; 1000 where the best is nothing
abbrev pub thousandths_of : ℕ → ℕ → ℕ
thousandths_of load best = if best == 0 then 1000 else load * 1000 / best

-- the same of a point
abbrev pub height_of : Point → ℕ
height_of point = thousandths_of point.load point.best

-- how far to the right of the axis so many of all rows are, of 600; 0 where there are none
abbrev pub across : ℕ → ℕ → ℕ
across total rows = if total == 0 then 0 else min rows total * 600 / total

-- the column of a point
abbrev pub column_of : ℕ → Point → ℕ
column_of total point = across total point.rows

-- how far below the top of the axis so many thousandths are, of 200, where the axis goes up to five times the tick
-- over the best
abbrev pub down : ℕ → ℕ → ℕ
down tick thousandths = if tick == 0 then 200 else 200 - (thousandths - 1000) * 40 / tick

-- the rows that a line counts, at most 2 ^ 64 - 1
abbrev pub rows_of : TurnLine → ℕ
rows_of line = min (line.rows_r + line.rows_s) (2 ^ 64 - 1)
