-- What a verdict says of words and files.
use Rattle.std.specs.Prelude.{◌≡◌, ◌≢◌, ◌⊎◌, ℕ, List, Option, Some, Result, Ok, Err}
use Rattle.join_rows.specs.declared.shelf.Shelf.{Ghosts as ShelfGhosts}
use Rattle.theta_tree.specs.Grammar.{Tree}
use Rattle.theta_tree.specs.declared.fault.PredFault.{PredFault}
use Rattle.theta_tree.specs.Texts.{IsFaultOf, TextReads, limits}
use Rattle.join_words.specs.Words.{Asked, AskedChain, asked_of, chain_of}
use Rattle.join_words.specs.declared.options.WordsFault.{WordsFault}
use Rattle.join_plan.specs.declared.fault.Refusal.{Refusal}
use Rattle.join_plan.specs.declared.fault.Refusal.TheVariants as refusals
use Rattle.join_plan.specs.declared.fitting.Planned.{Planned}
use Rattle.join_plan.specs.declared.refusal_of_fault.Which.{Which}
use Rattle.join_plan.specs.declared.refusal_of_fault.Which.TheVariants.{On, Then}
use Rattle.join_plan.specs.Plan.{IsPlanOf}
use Rattle.join_plan.specs.Refusals.{text_refusal}
use Rattle.join_plan.specs.Seen.{IsSeenPlan}
use Rattle.join_why.specs.declared.verdict.Verdict.{Verdict}
use Rattle.join_why.specs.declared.verdict.Verdict.TheVariants.{Joins, Refuses, Words}

-- the verdict that tells a plan, or a refusal
abbrev pub verdict_of : Result Planned Refusal → Verdict
verdict_of (Ok planned) = Joins planned
verdict_of (Err refusal) = Refuses refusal

-- the exit status with which a refusal ends a program
abbrev pub refusal_status : Refusal → ℕ
refusal_status (refusals.Predicate fault) = 3
refusal_status (refusals.Then fault) = 3
refusal_status (refusals.Input fault) = 4
refusal_status (refusals.Limit fault) = 5
refusal_status refusals.Read = 6
refusal_status refusals.Memory = 8

-- and that of a verdict
abbrev pub status_of : Verdict → ℕ
status_of (Joins planned) = 0
status_of (Words fault) = 2
status_of (Refuses refusal) = refusal_status refusal

-- memory ran out
abbrev pub lacks_memory : Verdict
lacks_memory = Refuses refusals.Memory

-- the text's own fault is told, or memory ran out
abbrev pub TellsEarly : Which → PredFault → Verdict → Type 0
TellsEarly which fault verdict = (verdict ≡ lacks_memory) ⊎ (verdict ≡ Refuses (text_refusal which fault))

-- the verdict is that of the plan over these files
pub record TellsPlan (asked : Asked) (files : List ℕ → Option (List ℕ)) (verdict : Verdict) : Type 0 where
  pub plan : Result Planned Refusal
  pub of : IsPlanOf asked files plan
  pub is : verdict ≡ verdict_of plan

-- what a verdict says of what is asked for, over what the shelf tells before and after
pub record Tells {H : Type 0} (h : ShelfGhosts H) (asked : Asked) (old new : H) (verdict : Verdict) : Type 0 where
  -- of a text that is no predicate its fault, before any call of the shelf
  pub early : (fault : PredFault) → IsFaultOf limits asked.on fault → TellsEarly On fault verdict × (new ≡ old)
  -- and of a second text behind one that is a predicate
  pub further_early : (tree : Tree) (chain : AskedChain) (fault : PredFault) → TextReads limits asked.on tree
      → chain_of asked.kind ≡ Some chain → IsFaultOf limits chain.on fault → TellsEarly Then fault verdict × (new ≡ old)
  -- where no call failed, what the plan is, or its first refusal
  pub answer : (files : List ℕ → Option (List ℕ)) → h.told old ≡ Some files → h.faults new ≡ h.faults old
      → (verdict ≡ lacks_memory) ⊎ TellsPlan asked files verdict
  -- and over each shelf that of the texts, and behind them of what was read
  pub seen : verdict ≢ Refuses refusals.Read → verdict ≢ lacks_memory
      → (result : Result Planned Refusal) × IsSeenPlan (h.told old) (h.picked new) asked result
      × (verdict ≡ verdict_of result)

-- what it leaves of the shelf
pub record Leaves {H : Type 0} (h : ShelfGhosts H) (old new : H) (verdict : Verdict) : Type 0 where
  -- the shelf tells the same files
  pub told : h.told new ≡ h.told old
  -- a shelf of which no call fails but for a missing file stays so
  pub sound : h.sound old → h.sound new × (h.faults new ≡ h.faults old)
  -- and a failed call is told
  pub counts : verdict ≢ Refuses refusals.Read → h.faults new ≡ h.faults old

-- what a verdict says of words
pub record Judges {H : Type 0} (h : ShelfGhosts H) (words : List (List ℕ)) (old new : H)
    (verdict : Verdict) : Type 0 where
  -- of words that ask for nothing their fault, without a call of the shelf
  pub words_fault : (fault : WordsFault) → asked_of words ≡ Err fault
      → ((verdict ≡ Words fault) ⊎ (verdict ≡ lacks_memory)) × (new ≡ old)
  -- which is told only of such words
  pub only_words : (fault : WordsFault) → verdict ≡ Words fault → asked_of words ≡ Err fault
  -- of words that ask for something, what is made of it
  pub tells : (asked : Asked) → asked_of words ≡ Ok asked → Tells h asked old new verdict
  -- and what is left
  pub leaves : Leaves h old new verdict

-- an exit status is that of a verdict on these words, or memory was wanting, or the explanation couldn't be put; so it
-- is 0 only where the verdict is that they would be joined
pub record IsJudgedBy {H : Type 0} (h : ShelfGhosts H) (words : List (List ℕ)) (old : H) (status : ℕ) : Type 0 where
  pub new : H
  pub verdict : Verdict
  pub judges : Judges h words old new verdict
  pub is : (status ≡ status_of verdict) ⊎ (status ≡ 7) ⊎ (status ≡ 8)
