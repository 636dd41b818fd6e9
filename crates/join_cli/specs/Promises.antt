-- What the top call promises, over what shelf and sink tell before and after it.
use Rattle.std.specs.Prelude.{◌≡◌, ◌≢◌, ◌⊎◌, ◌<◌, ℕ, List, false, Some, Ok, Err}
use Rattle.join_rows.specs.Sinks.{PutsSome}
use Rattle.join_rows.specs.declared.shelf.Shelf.{Ghosts as ShelfGhosts}
use Rattle.join_rows.specs.declared.sink.Sink.{Ghosts as SinkGhosts}
use Rattle.row_cells.specs.declared.table.Side.{Side}
use Rattle.theta_tree.specs.Grammar.{Tree}
use Rattle.theta_tree.specs.declared.fault.PredFault.{PredFault}
use Rattle.theta_tree.specs.Texts.{IsFaultOf, TextReads, limits}
use Rattle.join_words.specs.Words.{Asked, AskedChain, asked_of, chain_of, is_early}
use Rattle.join_words.specs.declared.options.WordsFault.{WordsFault}
use Rattle.join_cli.specs.declared.outcome.Outcome.{Outcome}
use Rattle.join_cli.specs.declared.outcome.Outcome.TheVariants.{Limit, Memory, Predicate, Read, Then, Words, Write}
use Rattle.join_plan.specs.declared.fault.TextFault.{TextFault}
use Rattle.join_plan.specs.declared.fault.LimitFault.TheVariants.{TooLong}
use Rattle.join_plan.specs.declared.refusal_of_fault.Which.TheVariants as texts
use Rattle.join_plan.specs.Causes.{IsTrueFurther, LacksOne, StandsPast}
use Rattle.join_plan.specs.Files.{sources}
use Rattle.join_plan.specs.Texts.{IsTrueOf}
use Rattle.join_cli.specs.ExitStatus.{status_of}
use Rattle.join_cli.specs.Seen.{EndsSeen}
use Rattle.join_cli.specs.Courses.{Course}
use Rattle.join_cli.specs.Ends.{EndsAs, EndsEarly, IsDone, Suffices, Wrote, WroteFront, WroteSoFar, course_of}
use Rattle.join_cli.specs.Programs.{WroteFrontBy, WroteOver}

-- which outcome it is, of what is asked for
pub record Answers {H K : Type 0} (h : ShelfGhosts H) (k : SinkGhosts K) (asked : Asked)
    (old new : H) (before after : K) (outcome : Outcome) : Type 0 where
  -- of a text that is no predicate, before any call of the shelf
  pub early : (fault : PredFault) → IsFaultOf limits asked.on fault → EndsEarly texts.On fault outcome × (new ≡ old)
  -- and of a second text behind one that is a predicate
  pub further_early : (tree : Tree) (chain : AskedChain) (fault : PredFault) → TextReads limits asked.on tree
      → chain_of asked.kind ≡ Some chain → IsFaultOf limits chain.on fault → EndsEarly texts.Then fault outcome
      × (new ≡ old)
  -- where no call failed, that of the plan
  pub answer : h.faults new ≡ h.faults old → k.faults after ≡ k.faults before → EndsAs (h.told old) asked outcome
  -- and over each shelf that of the texts, and behind them of what was read, or of the made tables
  pub seen : outcome ≢ Read → outcome ≢ Memory
      → EndsSeen (h.told old) (h.picked new) asked (k.written before) (k.written after) outcome
  -- of made tables without a call of the shelf
  pub made : (count : ℕ) → asked.make ≡ Some count → (new ≡ old) × (outcome ≢ Read)
  -- where all is well it is done
  pub complete : Suffices (h.told old) asked (k.takes before) → h.sound old → IsDone outcome ⊎ (outcome ≡ Memory)

-- what an outcome tells is so
pub record Causes {H K : Type 0} (h : ShelfGhosts H) (k : SinkGhosts K) (asked : Asked)
    (old new : H) (before after : K) (outcome : Outcome) : Type 0 where
  -- a fault of the text is the text's
  pub text : (fault : TextFault) → outcome ≡ Predicate fault → IsTrueOf asked.on fault
  -- and one of the second text is that text's
  pub further_text : (fault : TextFault) → outcome ≡ Then fault → IsTrueFurther (chain_of asked.kind) fault
  -- of a file that is too long the place is past the limit
  pub long : (side : Side) (wave : ℕ) → outcome ≡ Limit (TooLong side wave)
      → StandsPast (h.picked new) side wave (sources asked)
  -- a call of the shelf failed, or a file isn't there
  pub read : outcome ≡ Read → (h.faults old < h.faults new) ⊎ LacksOne (h.told old) (sources asked)
  -- what was written where memory ran out
  pub memory : outcome ≡ Memory
      → (k.written after ≡ k.written before) ⊎ WroteSoFar (h.told old) asked (k.written before) (k.written after)
  -- and without early output nothing was
  pub spared : is_early asked.kind ≡ false → outcome ≡ Memory → after ≡ before

-- what it leaves of shelf and sink, whatever is asked for
pub record Leaves {H K : Type 0} (h : ShelfGhosts H) (k : SinkGhosts K)
    (old new : H) (before after : K) (outcome : Outcome) : Type 0 where
  -- the shelf tells the same files
  pub told : h.told new ≡ h.told old
  -- a shelf of which no call fails but for a missing file stays so
  pub sound : h.sound old → h.sound new × (h.faults new ≡ h.faults old)
  -- a failed call of the shelf is told
  pub shelf_counts : outcome ≢ Read → h.faults new ≡ h.faults old
  -- so is one of the sink
  pub sink_counts : outcome ≢ Write → k.faults after ≡ k.faults before
  -- and only such a one is
  pub write : outcome ≡ Write → k.faults before < k.faults after
  -- the sink takes what it took behind what was put
  pub left : PutsSome (k.written before) (k.written after) (k.takes before) (k.takes after)
  -- a refusal writes nothing
  pub nothing : (IsDone outcome → ⊥) → outcome ≢ Write → outcome ≢ Memory → after ≡ before

-- all of it, of what is asked for
pub record PromisesOf {H K : Type 0} (h : ShelfGhosts H) (k : SinkGhosts K) (asked : Asked)
    (old new : H) (before after : K) (outcome : Outcome) : Type 0 where
  -- it is no fault of words
  pub words : (fault : WordsFault) → outcome ≢ Words fault
  -- which outcome it is
  pub answers : Answers h k asked old new before after outcome
  -- why
  pub causes : Causes h k asked old new before after outcome
  -- and what it leaves
  pub leaves : Leaves h k old new before after outcome
  -- the output over a run that went so was written
  pub done : (way : Course) → course_of outcome ≡ Some way
      → Wrote (h.told old) asked way (k.written before) (k.written after)
  -- and where a put failed, a front of such an output
  pub front : outcome ≡ Write → WroteFront (h.told old) asked (k.written before) (k.written after)

-- all of it, of words
pub record Promises {H K : Type 0} (h : ShelfGhosts H) (k : SinkGhosts K) (words : List (List ℕ))
    (old new : H) (before after : K) (outcome : Outcome) : Type 0 where
  -- of words that ask for nothing it is their fault, without a call of shelf or sink
  pub words_fault : (fault : WordsFault) → asked_of words ≡ Err fault
      → ((outcome ≡ Words fault) ⊎ (outcome ≡ Memory)) × (new ≡ old) × (after ≡ before)
  -- which is told only of such words
  pub only_words : (fault : WordsFault) → outcome ≡ Words fault → asked_of words ≡ Err fault
  -- of words that ask for something, which outcome it is
  pub answers : (asked : Asked) → asked_of words ≡ Ok asked → Answers h k asked old new before after outcome
  -- why
  pub causes : (asked : Asked) → asked_of words ≡ Ok asked → Causes h k asked old new before after outcome
  -- and what it leaves
  pub leaves : Leaves h k old new before after outcome
  -- the headline: the output over a run that went so was written
  pub done : (way : Course) → course_of outcome ≡ Some way
      → WroteOver words (h.told old) way (k.written before) (k.written after)
  -- and where a put failed, a front of such an output
  pub front : outcome ≡ Write → WroteFrontBy words (h.told old) (k.written before) (k.written after)

-- a status is that of an outcome of which all this holds, and which was told so
pub record RanAs {H K : Type 0} (h : ShelfGhosts H) (k : SinkGhosts K) (words : List (List ℕ))
    (old new : H) (before after : K) (IsTold : Outcome → Type 0) (status : ℕ) : Type 0 where
  -- the outcome
  pub outcome : Outcome
  -- whose status it is
  pub is : status ≡ status_of outcome
  -- and which is as promised
  pub promises : Promises h k words old new before after outcome
  -- with its line
  pub line : IsTold outcome
