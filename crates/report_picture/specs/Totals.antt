-- What the joiners of a report have together, and the most that one has.
use Rattle.std.specs.Prelude.{◌+◌, ℕ, List, max, sum_by}
use Rattle.std.specs.List.{fold}
use Rattle.report_lines.specs.declared.report_numbers.Joiner.{Joiner}

-- how many rows a joiner holds
abbrev pub held_by : Joiner → ℕ
held_by joiner = joiner.rows_r + joiner.rows_s

-- the most rows that one joiner holds
abbrev pub most_held : List Joiner → ℕ
most_held joiners = fold (λ most joiner. max most (held_by joiner)) 0 joiners

-- the rows of R that all joiners hold
abbrev pub all_rows_r : List Joiner → ℕ
all_rows_r joiners = sum_by (λ joiner. joiner.rows_r) joiners

-- the rows of S that all joiners hold
abbrev pub all_rows_s : List Joiner → ℕ
all_rows_s joiners = sum_by (λ joiner. joiner.rows_s) joiners

-- the pairs that all joiners made
abbrev pub all_made : List Joiner → ℕ
all_made joiners = sum_by (λ joiner. joiner.made) joiners
