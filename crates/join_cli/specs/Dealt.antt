-- The runs of groups of joiners, to which the rows of R are dealt out.
use Rattle.std.specs.Prelude.{◌≡◌, ◌+◌, ◌≤◌, ⊤, ℕ, None, List, [], ◌∷◌}
use Rattle.trace_law.specs.declared.input.Input.{Input}
use Rattle.trace_law.specs.declared.run.Run.{Run}
use Rattle.trace_law.specs.declared.setting.Setting.{Setting}
use Rattle.actor_core.specs.Tasks.{IsRun, task_of}
use Rattle.group_split.specs.Parts.{input_of_part, part, setting_of_group}
use Rattle.join_cli.specs.declared.work_of_groups.Dealt.{Dealt}

-- so many joiners may form groups: there are some and few, and no shift is fixed
pub record MayDeal (setting : Setting) (joiners : ℕ) : Type 0 where
  pub free : setting.fixed ≡ None
  pub some : 1 ≤ joiners
  pub few : joiners ≤ 64

-- what a group joins: its part of R, and all of S
abbrev pub group_input : Dealt → ℕ → Input
group_input dealt g = input_of_part dealt.work.input.now (part dealt.joiners dealt.numbers.now g)

-- with the setting of a group of 2 ^ k joiners
abbrev pub group_setting : Dealt → ℕ → Setting
group_setting dealt k = setting_of_group dealt.work.setting.now k

-- a run of the group of so many joiners
abbrev pub IsRunOfGroup : Dealt → ℕ → ℕ → Run → Type 0
IsRunOfGroup dealt g k run = IsRun (task_of (group_input dealt g) (group_setting dealt k)) run.journal run

-- of the groups from g on, with these exponents, each has its run: over its part of R by these numbers of rows
abbrev pub HaveRuns : Input → ℕ → List ℕ → Setting → ℕ → List ℕ → List Run → Type 0
HaveRuns input joiners numbers setting g [] [] = ⊤
HaveRuns input joiners numbers setting g (k ∷ digits) (run ∷ runs) =
    IsRun (task_of (input_of_part input (part joiners numbers g)) (setting_of_group setting k)) run.journal run
    × HaveRuns input joiners numbers setting (g + 1) digits runs
HaveRuns input joiners numbers setting g _ _ = ⊥

-- so it is of what is dealt out
abbrev pub AreRunsFrom : Dealt → ℕ → List ℕ → List Run → Type 0
AreRunsFrom dealt g digits runs =
    HaveRuns dealt.work.input.now dealt.joiners dealt.numbers.now dealt.work.setting.now g digits runs
