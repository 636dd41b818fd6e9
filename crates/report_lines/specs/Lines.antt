-- The lines of a report.
use Rattle.std.specs.Prelude.{◌+◌, ◌++◌, ℕ, List, [], Option, None, Some, flat_map, length, codes}
use Rattle.std.specs.List.{enumerate_from}
use Rattle.std.specs.Fmt.{decimal}
use Rattle.report_lines.specs.declared.report_numbers.Step.{Step}
use Rattle.report_lines.specs.declared.report_numbers.Growth.{Growth}
use Rattle.report_lines.specs.declared.report_numbers.Joiner.{Joiner}
use Rattle.report_lines.specs.declared.report_numbers.Report.{Report}

-- the numbers of rows
abbrev pub input_line : ℕ → ℕ → List ℕ
input_line x y = codes "input " ++ decimal x ++ codes " " ++ decimal y ++ codes "\n"

-- the grid of an epoch, and how many rows moved in the step to it
abbrev pub grid_line : ℕ → Step → List ℕ
grid_line epoch step =
    codes "grid " ++ decimal epoch ++ codes " " ++ decimal step.n ++ codes " " ++ decimal step.m
    ++ codes " moved " ++ decimal step.moved ++ codes "\n"

-- the lines of the steps behind so many
abbrev pub grid_lines : ℕ → List Step → List ℕ
grid_lines before steps = flat_map (λ step. grid_line (step.0 + 1) step.1) (enumerate_from before steps)

-- the grid after each joiner has split into four, and how many rows the new joiners were given
abbrev pub grow_line : Growth → List ℕ
grow_line growth =
    codes "grow " ++ decimal growth.n ++ codes " " ++ decimal growth.m
    ++ codes " placed " ++ decimal growth.placed ++ codes "\n"

-- the line of a growth, if there was one
abbrev pub growth_lines : Option Growth → List ℕ
growth_lines None = []
growth_lines (Some growth) = grow_line growth

-- the last grid, its copies, and the fewest
abbrev pub final_line : ℕ → ℕ → ℕ → ℕ → List ℕ
final_line n m copies best =
    codes "final " ++ decimal n ++ codes " " ++ decimal m
    ++ codes " copies " ++ decimal copies ++ codes " best " ++ decimal best ++ codes "\n"

-- the rows that a joiner holds, and the pairs that it made
abbrev pub joiner_line : ℕ → Joiner → List ℕ
joiner_line id joiner =
    codes "joiner " ++ decimal id ++ codes " held " ++ decimal joiner.rows_r ++ codes " " ++ decimal joiner.rows_s
    ++ codes " made " ++ decimal joiner.made ++ codes "\n"

-- the lines of all joiners, numbered from 0
abbrev pub joiner_lines : List Joiner → List ℕ
joiner_lines joiners = flat_map (λ joiner. joiner_line joiner.0 joiner.1) (enumerate_from 0 joiners)

-- the numbers of rows, the steps, the growth and the steps since, numbered on, the last grid, and the joiners
abbrev pub report_lines : Report → List ℕ
report_lines report =
    input_line report.x report.y ++ grid_lines 0 report.steps
    ++ growth_lines report.growth ++ grid_lines (length report.steps) report.later
    ++ final_line report.n report.m report.copies report.best
    ++ joiner_lines report.joiners
