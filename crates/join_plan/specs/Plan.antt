-- What the words and the files come to, in the order in which they are looked at.
use Rattle.std.specs.Prelude.{◌≡◌, ◌+◌, ℕ, List, [], ◌∷◌, length, Option, None, Some, Result, Ok, Err, IfSome, is_some}
use Rattle.row_cells.specs.declared.table.Table.{Table}
use Rattle.join_rows.specs.Records.{IsTable}
use Rattle.join_rows.specs.Shelves.{Told}
use Rattle.joined_rows.specs.Joined.{joined_names}
use Rattle.theta_tree.specs.Grammar.{Tree}
use Rattle.theta_pred.specs.Formula.{Meaning}
use Rattle.join_words.specs.Words.{Asked, chain_of, later_of}
use Rattle.join_plan.specs.declared.fault.InputFault.{InputFault}
use Rattle.join_plan.specs.declared.fault.Refusal.{Refusal}
use Rattle.join_plan.specs.declared.fault.Refusal.TheVariants.{Input}
use Rattle.join_plan.specs.declared.files.Gathered.{Gathered}
use Rattle.join_plan.specs.declared.files.Tables.{Tables}
use Rattle.join_plan.specs.declared.fitting.Planned.{Planned}
use Rattle.join_plan.specs.declared.fitting.Third.{Third}
use Rattle.join_plan.specs.declared.refusal_of_fault.Which.TheVariants.{On, Then}
use Rattle.join_plan.specs.declared.waves.WaveEnd.{WaveEnd}
use Rattle.join_plan.specs.Columns.{theta_over}
use Rattle.join_plan.specs.Files.{made_tables}
use Rattle.join_plan.specs.Later.{gathered_by}
use Rattle.join_plan.specs.Numbers.{number_fault_of}
use Rattle.join_plan.specs.Refusals.{then_of}
use Rattle.join_plan.specs.Texts.{AreRead, HaveTrees, Readings, Trees, trees_of}
use Rattle.join_plan.specs.Waves.{AreEnds, end_of}

-- what was planned, unless a cell doesn't fit a predicate
abbrev pub unless_unfit : Option InputFault → Planned → Result Planned Refusal
unless_unfit None planned = Ok planned
unless_unfit (Some fault) planned = Err (Input fault)

-- the cells that are to be numbers are numbers or empty
abbrev pub checked : Planned → Result Planned Refusal
checked planned = unless_unfit (number_fault_of planned) planned

-- the predicate of a second join, over the joined header and the third table's own
abbrev pub second_theta : Tables → Tree → Table → Result Meaning Refusal
second_theta tables tree table = theta_over Then (joined_names tables.of_r.names tables.of_s.names) table.names tree

-- the third table with its predicate
abbrev pub third_over : Tables → Tree → Table → Result Third Refusal
third_over tables tree table =
    then_of (second_theta tables tree table) (λ theta. Ok (record { table = table; theta = theta }))

-- the same, where there is one
abbrev pub third_fitted : Tables → Option Tree → Option Table → Result (Option Third) Refusal
third_fitted tables (Some tree) (Some table) = then_of (third_over tables tree table) (λ third. Ok (Some third))
third_fitted tables _ _ = Ok None

-- the plan of two tables and a predicate, behind which the names of the second have their columns, and the columns
-- their numbers
abbrev pub planned_with : Tables → List WaveEnd → Meaning → Option Tree → Option Table → Result Planned Refusal
planned_with tables ends theta further table = then_of (third_fitted tables further table)
    (λ third. checked (record { tables = tables; ends = ends; theta = theta; third = third }))

-- the plan of what was gathered: the names have their columns, and then as above
abbrev pub fitted : Trees → Gathered → Result Planned Refusal
fitted trees found = then_of (theta_over On found.tables.of_r.names found.tables.of_s.names trees.on)
    (λ theta. planned_with found.tables found.ends theta trees.further found.third)

-- the texts, the tables, the columns, the numbers
abbrev pub plan_of : Asked → Readings → (List ℕ → Option (List ℕ)) → Result Planned Refusal
plan_of asked readings files = then_of (trees_of readings) (λ trees. then_of (gathered_by asked files) (fitted trees))

-- it is the plan of what is asked for over these files, as the texts read
pub record IsPlanOf (asked : Asked) (files : List ℕ → Option (List ℕ)) (plan : Result Planned Refusal) : Type 0 where
  pub readings : Readings
  pub read : AreRead asked readings
  pub is : plan ≡ plan_of asked readings files

-- over any files there is a plan of what is asked for
abbrev pub EveryRequestHasAPlan : Type 0
EveryRequestHasAPlan = (asked : Asked) (files : List ℕ → Option (List ℕ))
    → (plan : Result Planned Refusal) × IsPlanOf asked files plan

-- and only one
abbrev pub RequestsHaveOnePlan : Type 0
RequestsHaveOnePlan = (asked : Asked) (files : List ℕ → Option (List ℕ)) (one other : Result Planned Refusal)
    → IsPlanOf asked files one → IsPlanOf asked files other → one ≡ other

-- a third table with a predicate over the joined header and its own
pub record IsThirdFit (tables : Tables) (third : Third) : Type 0 where
  pub table : IsTable third.table
  pub width_r : third.theta.width_r ≡ length tables.of_r.names + length tables.of_s.names
  pub width_s : third.theta.width_s ≡ length third.table.names

-- tables with the ends of their waves and a predicate over their headers, and a third table that fits them, where there
-- is one
pub record IsFit (planned : Planned) : Type 0 where
  pub table_r : IsTable planned.tables.of_r
  pub table_s : IsTable planned.tables.of_s
  pub width_r : planned.theta.width_r ≡ length planned.tables.of_r.names
  pub width_s : planned.theta.width_s ≡ length planned.tables.of_s.names
  pub ends : AreEnds planned.tables planned.ends
  pub third : IfSome planned.third (IsThirdFit planned.tables)

-- these are tables and predicates that were asked for: the texts have trees which fit the tables, and these are the
-- made ones, or those of the told files; there is a third table just where a second join is asked for, and there are as
-- many ends as waves, so of one wave that of the tables
pub record IsAsked (told : Told) (asked : Asked) (planned : Planned) : Type 0 where
  pub trees : Trees
  pub have : HaveTrees asked trees
  pub found : Gathered
  pub fits : fitted trees found ≡ Ok planned
  pub files : (files : List ℕ → Option (List ℕ)) → told ≡ Some files → gathered_by asked files ≡ Ok found
  pub made : (count : ℕ) → asked.make ≡ Some count → found.tables ≡ made_tables count
  pub chained : is_some planned.third ≡ is_some (chain_of asked.kind)
  pub waves : length planned.ends ≡ length (later_of asked.kind) + 1
  pub single : later_of asked.kind ≡ [] → planned.ends ≡ end_of planned.tables ∷ []
