-- What the collector's machine holds, and the lists for which it stands. It stores none of them.
use Rattle.std.specs.Prelude.{◌≡◌, ℕ, ◌==◌, Bool, true, false, ◌++◌, ◌∷◌, [], ⊤, List, Option, Some, None, is_some}
use Rattle.std.specs.Prelude.{flat_map, length, replicate, slice_get, slice_index, slice_index_or, slice_set}
use Rattle.std.specs.Prelude.{if◌then◌else◌}
use Rattle.std.specs.List.{list_all}
use Rattle.row_cells.specs.Lists.{greatest, total}
use Rattle.epoch_tags.specs.declared.actor.Actor.{Actor}
use Rattle.epoch_tags.specs.declared.actor.Actor.TheVariants.{Feeder, Joiner, Controller, Collector}
use Rattle.epoch_tags.specs.declared.tuple.Pair.{Pair}
use Rattle.epoch_tags.specs.declared.message.ToCollector.{ToCollector}
use Rattle.epoch_tags.specs.declared.message.ToCollector.TheVariants.{Found, Fin}
use Rattle.epoch_tags.specs.Messages.{found_before_fin}
use Rattle.pair_collector.specs.declared.collected.Held.{Held}
use Rattle.pair_collector.specs.declared.part.Last.{Last}
use Rattle.pair_collector.specs.Kept.{Kept}
use Rattle.pair_collector.specs.Law.{CollectorLists, CollectorLaw}

-- ---- of one joiner

-- what the first `Fin` carries
abbrev pub last_of : List ToCollector → Option Last
last_of [] = None
last_of (Found pairs ∷ ms) = last_of ms
last_of (Fin rows_r rows_s moved ∷ ms) = Some (record {
  held = record { rows_r = rows_r; rows_s = rows_s };
  moved = moved;
})

-- what is to be kept of a joiner's messages
abbrev pub kept_of : List ToCollector → Kept
kept_of ms = record { pairs = found_before_fin ms; last = last_of ms }

-- before any message
abbrev pub nothing_kept : Kept
nothing_kept = record { pairs = []; last = None }

-- and after one message more
abbrev pub kept_after : Kept → ToCollector → Kept
kept_after kept (Found pairs) = if is_some kept.last then kept else record kept { pairs = kept.pairs ++ pairs }
kept_after kept (Fin rows_r rows_s moved) =
    if is_some kept.last then kept
    else record kept { last = Some (record { held = record { rows_r = rows_r; rows_s = rows_s }; moved = moved }) }

-- the rows that a joiner holds in the end
abbrev pub held_of : Option Last → Held
held_of None = record { rows_r = 0; rows_s = 0 }
held_of (Some last) = last.held

-- how many rows it moved in each step
abbrev pub moves_of : Option Last → List ℕ
moves_of None = []
moves_of (Some last) = last.moved

-- of the joiners at the places below n, how many steps the longest list of moves has
abbrev pub longest : List Kept → ℕ → ℕ
longest joiners n = greatest n (λ j. length (moves_of (slice_index_or joiners j nothing_kept).last))

-- how many rows these joiners moved in a step, a shorter list counting as 0 past its end
abbrev pub moved_by : List Kept → ℕ → ℕ → ℕ
moved_by joiners step n = total n (λ j. slice_index (moves_of (slice_index_or joiners j nothing_kept).last) step)

-- ---- of the machine

-- `given` has how many pairs of each joiner were given, and 0 past its end
pub record CollectorState : Type 0 where
  pub joiners : List Kept
  pub given : List ℕ
  pub spent : Bool

-- the pairs of all joiners
abbrev pub pairs_kept : CollectorState → List Pair
pairs_kept state = flat_map (λ kept. kept.pairs) state.joiners

-- it began with so many joiners; what is kept is read off the lists, and so the law holds
pub record StandsFor (joiners : ℕ) (lists : CollectorLists) (state : CollectorState) : Type 0 where
  pub began : length state.joiners ≡ joiners
  pub each : (j : ℕ) (kept : Kept) → slice_get state.joiners j ≡ Some kept → kept ≡ kept_of (lists.from_joiner j)
  pub law : CollectorLaw joiners (pairs_kept state) lists

-- what it holds when it has just begun with so many joiners
abbrev pub just_begun : ℕ → CollectorState
just_begun joiners = record { joiners = replicate joiners nothing_kept; given = []; spent = false }

-- a new machine stands for empty lists
abbrev pub nothing_yet : CollectorLists
nothing_yet = record { from_joiner = λ j. [] }

-- the lists with this message at the end of its joiner's
abbrev pub with_message : Actor → ToCollector → CollectorLists → CollectorLists
with_message (Feeder p) m lists = lists
with_message (Joiner j) m lists = record {
  from_joiner = λ i. if i == j then lists.from_joiner i ++ m ∷ []
      else lists.from_joiner i;
}
with_message Controller m lists = lists
with_message Collector m lists = lists

-- the machine after a message: of a joiner that it has, what is kept after the message; any other changes nothing
abbrev pub state_after : Actor → ToCollector → CollectorState → CollectorState
state_after (Feeder p) m state = state
state_after (Joiner j) m state = record state {
  joiners = slice_set state.joiners j (kept_after (slice_index_or state.joiners j nothing_kept) m);
}
state_after Controller m state = state
state_after Collector m state = state

-- for whatever lists the machine stood, it stands for them with the message at its end
pub record TakesMessage (from : Actor) (m : ToCollector) (old new : CollectorState) : Type 0 where
  pub start : length new.joiners ≡ length old.joiners
  pub stands : (joiners : ℕ) (lists : CollectorLists) → StandsFor joiners lists old
      → StandsFor joiners (with_message from m lists) new

-- a message that doesn't count: its sender is none of the joiners, or has ended
abbrev pub IsPassedOver : CollectorState → Actor → Type 0
IsPassedOver state (Feeder p) = ⊤
IsPassedOver state (Joiner j) = (kept : Kept) → slice_get state.joiners j ≡ Some kept → is_some kept.last ≡ true
IsPassedOver state Controller = ⊤
IsPassedOver state Collector = ⊤

-- each joiner has ended
abbrev pub is_complete : CollectorState → Bool
is_complete state = list_all (λ kept. is_some kept.last) state.joiners
