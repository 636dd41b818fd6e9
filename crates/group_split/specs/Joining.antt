-- How the answers of groups are put together, one after the other.
use Rattle.std.specs.Prelude.{◌≡◌, ℕ, List, [], ◌∷◌, ◌++◌, map, drop, sum_by}
use Rattle.row_cells.specs.Lists.{total}
use Rattle.epoch_tags.specs.declared.tuple.Pair.{Pair}
use Rattle.trace_law.specs.declared.input.Input.{Input}
use Rattle.trace_law.specs.declared.setting.Setting.{Setting}
use Rattle.trace_law.specs.declared.run.Run.{Run}
use Rattle.trace_law.specs.Join.{nested_loop}
use Rattle.join_runtime.specs.Endings.{EndsView}
use Rattle.group_split.specs.declared.join.GroupsRun.{GroupsRun}
use Rattle.group_split.specs.Groups.{digits, part, input_of_part, pair_in, IsGroupRun, AreGroups, AreGroupsFrom}

-- the matching pairs of a part, by the numbers that its rows have in the whole table
abbrev pub pairs_of_part : Input → List ℕ → List Pair
pairs_of_part input indices = map (pair_in indices) (nested_loop (input_of_part input indices))

-- one more run was added, that of this input and setting, and these pairs
pub record AddsRun (input : Input) (setting : Setting) (pairs : List Pair) (old new : GroupsRun) : Type 0 where
  pub answer : Run
  pub ends : EndsView
  pub is : IsGroupRun input setting answer ends
  pub pairs_are : new.pairs ≡ old.pairs ++ pairs
  pub runs_are : new.runs ≡ old.runs ++ answer ∷ []
  pub trail_is : new.trail ≡ old.trail ++ ends ∷ []

-- the groups below g were joined: with any runs of the groups from g on these are all groups' runs, and the pairs are
-- those of the parts so far
pub record HasJoined (input : Input) (joiners : ℕ) (numbers : List ℕ) (setting : Setting) (g : ℕ)
    (found : GroupsRun) : Type 0 where
  pub groups : (runs : List Run) (trail : List EndsView)
      → AreGroupsFrom input joiners numbers setting g (drop g (digits joiners)) runs trail
      → AreGroups input joiners numbers setting (found.runs ++ runs) (found.trail ++ trail)
  pub pairs : (f : Pair → ℕ)
      → sum_by f found.pairs ≡ total g (λ h. sum_by f (pairs_of_part input (part joiners numbers h)))
