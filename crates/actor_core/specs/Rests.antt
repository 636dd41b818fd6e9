-- What a wave leaves for the next, where a wave ends, and the machines of a wave before its first event.
use Rattle.std.specs.Prelude.{◌≡◌, ◌≤◌, ◌^◌, ℕ, All, List, [], Some, length, map, take, slice_get, slice_index_or}
use Rattle.row_cells.specs.declared.table.Side.TheVariants.{R, S}
use Rattle.epoch_tags.specs.declared.tuple.Tuple.{Tuple}
use Rattle.theta_pred.specs.Formula.{Meaning}
use Rattle.store_parts.specs.Stored.{Stored}
use Rattle.joiner_core.specs.State.{tuples_of, IsKeyOf, IsAccessOf}
use Rattle.load_controller.specs.declared.line.TurnLine.{TurnLine}
use Rattle.trace_law.specs.declared.input.Input.{Input}
use Rattle.trace_law.specs.declared.setting.Setting.{Setting}
use Rattle.trace_law.specs.Join.{row_count}
use Rattle.trace_law.specs.Family.{IsRestFor}
use Rattle.trace_law.specs.Family.{Rest as WaveRest}
use Rattle.actor_core.specs.declared.machines.Core.{Core}
use Rattle.actor_core.specs.declared.rests.Rest.{Rest}
use Rattle.actor_core.specs.declared.rests.Upto.{Upto}
use Rattle.actor_core.specs.Families.{start_for}
use Rattle.actor_core.specs.Lists.{no_lists}
use Rattle.actor_core.specs.Numbers.{actor_at, cast_of}
use Rattle.actor_core.specs.Standing.{Stands, HasGivenNone, IsLive, JoinsBy}
use Rattle.actor_core.specs.Tasks.{Task}

-- ---- where a wave ends

-- the input up to a wave's end: the first rows of each side, with their tickets
abbrev pub upto : Upto → Input → Input
upto end input =
    record {
      table_r = record { names = input.table_r.names; rows = take end.rows_r input.table_r.rows };
      table_s = record { names = input.table_s.names; rows = take end.rows_s input.table_s.rows };
      theta = input.theta;
      tickets_r = take end.rows_r input.tickets_r;
      tickets_s = take end.rows_s input.tickets_s;
    }

-- the input has all rows up to there
pub record IsWithin (end : Upto) (input : Input) : Type 0 where
  pub rows_r : end.rows_r ≤ row_count input R
  pub rows_s : end.rows_s ≤ row_count input S

-- ---- rests

-- the store has no tuples, and the key and the access of the predicate
pub record IsFirstStore (theta : Meaning) (store : Stored) : Type 0 where
  pub empty : tuples_of store ≡ []
  pub key : IsKeyOf theta store.key
  pub access : IsAccessOf theta store.access

-- the tuples of the store at this place
abbrev pub tuples_at : List Stored → ℕ → List Tuple
tuples_at stores j = slice_index_or (map tuples_of stores) j []

-- the line and what each joiner has stored, as the laws of a wave have them
abbrev pub rest_of : Rest → WaveRest
rest_of rest = record { line = rest.line; stores = tuples_at rest.stores }

-- the task of a wave that goes on from this rest and ends there
abbrev pub task_upto : Upto → Input → Setting → Rest → Task
task_upto end input setting rest = record { input = upto end input; setting = setting; rest = rest_of rest }

-- the rest stands for the input: it has a store for each joiner, with the key of the input's predicate, and its line
-- and what they store are a rest of the input
pub record IsRestOf (input : Input) (setting : Setting) (rest : Rest) : Type 0 where
  pub grid : rest.k ≡ setting.k
  pub many : length rest.stores ≡ 2 ^ setting.k
  pub keys : All (λ store. IsKeyOf input.theta store.key) rest.stores
  pub stands : IsRestFor input setting (rest_of rest)

-- a wave that goes on from this line can end there: no counted row is left out, and the input has the rows
pub record IsUpto (line : TurnLine) (end : Upto) (input : Input) : Type 0 where
  pub counted_r : line.rows_r ≤ end.rows_r
  pub counted_s : line.rows_s ≤ end.rows_s
  pub within : IsWithin end input

-- a rest that stands for an input stands for it up to where a wave can end
abbrev pub StandsUpto : Type 0
StandsUpto = (end : Upto) (input : Input) (setting : Setting) (rest : Rest) → IsUpto rest.line end input
    → IsRestOf input setting rest → IsRestOf (upto end input) setting rest

-- and a rest that stands for an input up to an end stands for all of it
abbrev pub StandsBeyond : Type 0
StandsBeyond = (end : Upto) (input : Input) (setting : Setting) (rest : Rest) → IsWithin end input
    → IsRestOf (upto end input) setting rest → IsRestOf input setting rest

-- ---- the machines of a wave

-- a rest with this line, for what looks at no store
abbrev pub at_line : TurnLine → WaveRest
at_line line = record { line = line; stores = λ j. [] }

-- a rest with this line and these tuples, for what looks at one store
abbrev pub with_base : TurnLine → List Tuple → WaveRest
with_base line tuples = record { line = line; stores = λ j. tuples }

-- the machine of the actor with this number, before the first event of a wave
pub record IsMade (task : Task) (n : ℕ) (core : Core) : Type 0 where
  pub stands : Stands (start_for task (actor_at (cast_of task.setting) n)) no_lists core
  pub live : IsLive core
  pub given : HasGivenNone (2 ^ task.setting.k) core
  pub joins : JoinsBy task.input.theta core

-- the machines of the first so many actors, in the order of their numbers
pub record AreMade (task : Task) (count : ℕ) (cores : List Core) : Type 0 where
  pub all : length cores ≡ count
  pub each : (n : ℕ) (core : Core) → slice_get cores n ≡ Some core → IsMade task n core
