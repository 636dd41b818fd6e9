-- What each line of a report says, and what a reader makes of the lines, one after the other.
use Rattle.std.specs.Prelude.{◌<◌, ◌^◌, ◌++◌, ℕ, All, List, [], ◌∷◌, Option, None, Some, IfSome}
use Rattle.std.specs.Prelude.{cond, nat_lt, length, codes, flat_map}
use Rattle.std.specs.List.{join_with_byte}
use Rattle.std.specs.Fmt.{decimal}
use Rattle.report_lines.specs.declared.report_numbers.Step.{Step}
use Rattle.report_lines.specs.declared.report_numbers.Growth.{Growth}
use Rattle.report_lines.specs.declared.report_numbers.Joiner.{Joiner}
use Rattle.report_lines.specs.declared.report_numbers.Report.{Report}
use Rattle.report_lines.specs.Grids.{IsSide, HasSides, HasGrownSides}

-- a step's number of rows fits 64 bits
abbrev pub MovedFits : Step → Type 0
MovedFits step = step.moved < 2 ^ 64

-- so does a growth's
abbrev pub PlacedFits : Growth → Type 0
PlacedFits growth = growth.placed < 2 ^ 64

-- and so do a joiner's three numbers
abbrev pub HeldFits : Joiner → Type 0
HeldFits joiner = (joiner.rows_r < 2 ^ 64) × (joiner.rows_s < 2 ^ 64) × (joiner.made < 2 ^ 64)

-- each number of rows and of pairs in a report fits 64 bits
pub record NumbersFit (report : Report) : Type 0 where
  pub x : report.x < 2 ^ 64
  pub y : report.y < 2 ^ 64
  pub steps : All MovedFits report.steps
  pub growth : IfSome report.growth PlacedFits
  pub later : All MovedFits report.later
  pub copies : report.copies < 2 ^ 64
  pub best : report.best < 2 ^ 64
  pub joiners : All HeldFits report.joiners

-- what a line says: the numbers of rows, the grid of an epoch, a growth, the last grid, what the joiner of an id holds
-- and made, or nothing
pub data Entry : Type 0 where
  Input : ℕ → ℕ → Entry
  Grid : ℕ → Step → Entry
  Grow : Growth → Entry
  Final : ℕ → ℕ → ℕ → ℕ → Entry
  Held : ℕ → Joiner → Entry
  Blank : Entry

-- the words of the line that says it
abbrev pub words_of : Entry → List (List ℕ)
words_of (Input x y) = codes "input" ∷ decimal x ∷ decimal y ∷ []
words_of (Grid epoch step) =
    codes "grid" ∷ decimal epoch ∷ decimal step.n ∷ decimal step.m ∷ codes "moved" ∷ decimal step.moved ∷ []
words_of (Grow growth) =
    codes "grow" ∷ decimal growth.n ∷ decimal growth.m ∷ codes "placed" ∷ decimal growth.placed ∷ []
words_of (Final n m copies best) =
    codes "final" ∷ decimal n ∷ decimal m ∷ codes "copies" ∷ decimal copies ∷ codes "best" ∷ decimal best ∷ []
words_of (Held id joiner) =
    codes "joiner" ∷ decimal id ∷ codes "held" ∷ decimal joiner.rows_r ∷ decimal joiner.rows_s ∷ codes "made"
    ∷ decimal joiner.made ∷ []
words_of Blank = [] ∷ []

-- that line, without its line feed
abbrev pub line_of : Entry → List ℕ
line_of entry = join_with_byte 32 (words_of entry)

-- the lines of these entries
abbrev pub text_of : List Entry → List ℕ
text_of entries = flat_map (λ entry. line_of entry ++ 10 ∷ []) entries

-- the numbers of a line fit 64 bits, and those of rows and columns of a grid are such
abbrev pub IsReadable : Entry → Type 0
IsReadable (Input x y) = (x < 2 ^ 64) × (y < 2 ^ 64)
IsReadable (Grid epoch step) = (epoch < 2 ^ 64) × HasSides step × MovedFits step
IsReadable (Grow growth) = HasGrownSides growth × PlacedFits growth
IsReadable (Final n m copies best) = IsSide n × IsSide m × (copies < 2 ^ 64) × (best < 2 ^ 64)
IsReadable (Held id joiner) = (id < 2 ^ 64) × HeldFits joiner
IsReadable Blank = Unit {0}

-- one step more, up to 2 ^ 16
abbrev pub with_step : List Step → Step → List Step
with_step steps step = cond (nat_lt (length steps) (2 ^ 16)) (steps ++ step ∷ []) steps

-- a step stands before the growth as long as there was none, and else behind it
abbrev pub with_grid_by : Option Growth → Report → Step → Report
with_grid_by None report step = record report { steps = with_step report.steps step }
with_grid_by (Some growth) report step = record report { later = with_step report.later step }

-- the grid of one more step
abbrev pub with_grid : Report → Step → Report
with_grid report step = with_grid_by report.growth report step

-- what a reader begins with
abbrev pub nothing_yet : Report
nothing_yet = record {
  x = 0;
  y = 0;
  steps = [];
  growth = None;
  later = [];
  n = 1;
  m = 1;
  copies = 0;
  best = 0;
  joiners = [];
}

-- what a line adds
abbrev pub taken : Report → Entry → Report
taken report (Input x y) = record report { x = x; y = y }
taken report (Grid epoch step) = with_grid report step
taken report (Grow growth) = record report { growth = Some growth }
taken report (Final n m copies best) = record report { n = n; m = m; copies = copies; best = best }
taken report (Held id joiner) = record report { joiners = report.joiners ++ joiner ∷ [] }
taken report Blank = report
