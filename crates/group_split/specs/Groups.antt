-- What a join in groups answers.
use Rattle.std.specs.Prelude.{ℕ, ◌+◌, ⊤, List, [], ◌∷◌}
use Rattle.trace_law.specs.declared.input.Input.{Input}
use Rattle.trace_law.specs.declared.setting.Setting.{Setting}
use Rattle.trace_law.specs.declared.run.Run.{Run}
use Rattle.actor_core.specs.Players.{IsFinishedFamily}
use Rattle.actor_core.specs.Tasks.{IsRun, task_of}
use Rattle.join_runtime.specs.Endings.{EndsView, lists_left}
pub use Rattle.group_split.specs.Sizes.{digits, sizes, before, IsGroupOf, is_of, word_of, numbers_of}
pub use Rattle.group_split.specs.Parts.{part, input_of_part, setting_of_group, pair_in}

-- the run of a group's input and setting, and what its actors leave, which is a finished family with the run's journal
pub record IsGroupRun (input : Input) (setting : Setting) (answer : Run) (ends : EndsView) : Type 0 where
  pub run : IsRun (task_of input setting) answer.journal answer
  pub family : IsFinishedFamily (task_of input setting) answer.journal (lists_left ends)

-- of the groups from g on, whose digits these are, each has its run and its ends, in their order
abbrev pub AreGroupsFrom : Input → ℕ → List ℕ → Setting → ℕ → List ℕ → List Run → List EndsView → Type 0
AreGroupsFrom input joiners numbers setting g [] [] [] = ⊤
AreGroupsFrom input joiners numbers setting g (k ∷ digits) (answer ∷ runs) (ends ∷ trail) =
    IsGroupRun (input_of_part input (part joiners numbers g)) (setting_of_group setting k) answer ends
    × AreGroupsFrom input joiners numbers setting (g + 1) digits runs trail
AreGroupsFrom input joiners numbers setting g digits runs trail = ⊥

-- each group has its run and its ends, in their order: that of group g over the rows of its part, with as many joiners
-- as its size
abbrev pub AreGroups : Input → ℕ → List ℕ → Setting → List Run → List EndsView → Type 0
AreGroups input joiners numbers setting runs trail =
    AreGroupsFrom input joiners numbers setting 0 (digits joiners) runs trail
