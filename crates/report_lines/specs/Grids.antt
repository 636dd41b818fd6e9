-- Reports whose grids have 1 to 256 rows and columns, as those of runs do.
use Rattle.std.specs.Prelude.{◌≡◌, ◌≤◌, ◌<◌, ◌*◌, ◌^◌, ℕ, All, [], None, IfSome, length}
use Rattle.report_lines.specs.declared.report_numbers.Step.{Step}
use Rattle.report_lines.specs.declared.report_numbers.Growth.{Growth}
use Rattle.report_lines.specs.declared.report_numbers.Report.{Report}

-- a number of rows or columns of a grid
abbrev pub IsSide : ℕ → Type 0
IsSide n = (0 < n) × (n ≤ 256)

-- the grid that a step leads to has a number of rows and of columns
abbrev pub HasSides : Step → Type 0
HasSides step = IsSide step.n × IsSide step.m

-- the grid of a growth has a number of rows and of columns
abbrev pub HasGrownSides : Growth → Type 0
HasGrownSides growth = IsSide growth.n × IsSide growth.m

-- each grid has 1 to 256 rows and as many columns, there are at most 2 ^ 16 steps, and as many since a growth, which
-- there are only where there was one
pub record HasGrids (report : Report) : Type 0 where
  pub steps : All HasSides report.steps
  pub few : length report.steps ≤ 2 ^ 16
  pub growth : IfSome report.growth HasGrownSides
  pub later : All HasSides report.later
  pub few_later : length report.later ≤ 2 ^ 16
  pub since : report.growth ≡ None → report.later ≡ []
  pub n : IsSide report.n
  pub m : IsSide report.m

-- and the last grid has all its joiners
pub record IsWhole (report : Report) : Type 0 where
  pub grids : HasGrids report
  pub joiners : length report.joiners ≡ report.n * report.m
