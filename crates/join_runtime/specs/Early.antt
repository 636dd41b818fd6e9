-- What a run has written that puts the lines of pairs as they come, and what its collector gave.
use Rattle.std.specs.Prelude.{◌≡◌, ◌≢◌, ◌<◌, ◌≤◌, ◌+◌, ℕ, Option, Some, None, Result, Err, IfOk, OnOk, List, []}
use Rattle.std.specs.Prelude.{length, slice_index, IsPermutation}
use Rattle.std.specs.Io.KnownBytes.{append_known}
use Rattle.row_cells.specs.Lists.{IsWithinBag}
use Rattle.join_rows.specs.Sinks.{AppendsFront, PutsSome}
use Rattle.epoch_tags.specs.declared.tuple.Pair.{Pair}
use Rattle.epoch_tags.specs.declared.actor.Actor.{Actor}
use Rattle.epoch_tags.specs.declared.actor.Actor.TheVariants.{Collector}
use Rattle.epoch_tags.specs.Messages.{found_before_fin}
use Rattle.pair_collector.specs.Law.{CollectorLists}
use Rattle.pair_collector.specs.Fresh.{pairs_since}
use Rattle.load_controller.specs.Journal.{last_epoch}
use Rattle.trace_law.specs.declared.input.Input.{Input}
use Rattle.trace_law.specs.declared.setting.Setting.{Setting}
use Rattle.trace_law.specs.Family.{first_rest}
use Rattle.trace_law.specs.Join.{nested_loop}
use Rattle.trace_law.specs.MostEvents.{most_events}
use Rattle.trace_law.specs.Runs.{IsRunOf}
use Rattle.actor_core.specs.Lists.{ActorLists, collector_lists}
use Rattle.actor_core.specs.Standing.{OfCollector, Start, Stands, IsLive, given_by}
use Rattle.actor_core.specs.Families.{core_in}
use Rattle.actor_core.specs.Players.{AgreesOnLinks, IsFinishedFamily}
use Rattle.actor_core.specs.Tasks.{task_of}
use Rattle.actor_core.specs.declared.machines.Core.{Core}
use Rattle.join_report.specs.PairLines.{pair_lines}
use Rattle.join_runtime.specs.Kinds.{IsMachineOf}
use Rattle.join_runtime.specs.Bouts.{SeatsView, cores_in, lists_in}
use Rattle.join_runtime.specs.Endings.{lists_left}
use Rattle.join_runtime.specs.declared.ends.Told.{Told}
use Rattle.join_runtime.specs.declared.early_lines.EarlyFault.{EarlyFault}
use Rattle.join_runtime.specs.declared.early_lines.EarlyFault.TheVariants.{Write}

-- ---- what was written

-- a front of the lines of some pairs was appended, where the bytes are told: pairs of the nested loop, and none of them
-- more often than it has it
pub record WroteSome (input : Input) (old new : Option (List ℕ)) : Type 0 where
  pub pairs : List Pair
  pub right : IsWithinBag pairs (nested_loop input)
  pub front : AppendsFront old new (pair_lines pairs)

-- the lines of just these pairs were appended, each whole, in some order
pub record WroteEach (pairs : List Pair) (old new : Option (List ℕ)) : Type 0 where
  pub order : List Pair
  pub each : IsPermutation pairs order
  pub written : new ≡ append_known old (pair_lines order)

-- what is told of a run whose lines were all written
pub record ToldEach (input : Input) (setting : Setting) (old new : Option (List ℕ)) (told : Told) : Type 0 where
  pub family : IsFinishedFamily (task_of input setting) told.run.journal (lists_left told.ends)
  pub linked : AgreesOnLinks setting (lists_left told.ends)
  pub run : IsRunOf input setting (first_rest setting).line told.run.journal told.run
  pub bound : told.run.bouts ≤ most_events input setting (last_epoch told.run.journal)
  pub whole : WroteEach told.run.pairs old new

-- how a run ends that writes lines as they come, by what its sink tells before and after: the bytes, what it takes, and
-- how many puts failed
pub record EndsEarly (input : Input) (setting : Setting) (old new : Option (List ℕ)) (takes takes' : ℕ → Type 0)
    (faults faults' : ℕ) (result : Result Told EarlyFault) : Type 0 where
  pub told : IfOk result (ToldEach input setting old new)
  pub lines : WroteSome input old new
  pub write : result ≡ Err Write → faults < faults'
  pub kept : result ≢ Err Write → faults' ≡ faults
  pub room : (more : ℕ) → takes (length (pair_lines (nested_loop input)) + more)
      → (result ≢ Err Write) × OnOk result (takes' more)
  pub left : PutsSome old new takes takes'

-- ---- what the collector gave

-- what the collector of these seats received
abbrev pub collected_in : SeatsView → CollectorLists
collected_in v = collector_lists (lists_in v Collector)

-- how many pairs of each joiner a machine gave, where there is one
abbrev pub given_at : Option Core → List ℕ
given_at None = []
given_at (Some core) = given_by core

-- how many pairs of each joiner it gave
abbrev pub given_in : SeatsView → List ℕ
given_in v = given_at (core_in v.cast (cores_in v) Collector)

-- of each joiner as many as these lists have
abbrev pub AreGiven : ℕ → CollectorLists → List ℕ → Type 0
AreGiven joiners lists given = (j : ℕ) → j < joiners → slice_index given j
    ≡ length (found_before_fin (lists.from_joiner j))

-- a collector's machine gave the pairs that it had taken and not yet given; what it stands for is the same
pub record Gives (old new : Core) (pairs : List Pair) : Type 0 where
  pub gives : (joiners : ℕ) (earlier : CollectorLists) (ls : ActorLists) → Stands (OfCollector joiners) ls old
      → AreGiven joiners earlier (given_by old) → IsPermutation (pairs_since joiners earlier (collector_lists ls)) pairs
  pub given : (joiners : ℕ) (ls : ActorLists) → Stands (OfCollector joiners) ls old
      → AreGiven joiners (collector_lists ls) (given_by new)
  pub stands : (start : Start) (ls : ActorLists) → Stands start ls old → Stands start ls new
  pub live : IsLive old → IsLive new
  pub own : (a : Actor) → IsMachineOf old a → IsMachineOf new a
