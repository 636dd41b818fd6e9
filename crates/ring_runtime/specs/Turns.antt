-- What a turn of a seat does, and several turns.
use Rattle.std.specs.Prelude.{◌≡◌, ◌<◌, ◌⊎◌, ⊤, ℕ, Bool, true, false, Option, Some, None, List}
use Rattle.row_cells.specs.Lists.{IsPrefix}
use Rattle.epoch_tags.specs.declared.actor.Actor.{Actor}
use Rattle.epoch_tags.specs.declared.message.Envelope.{Envelope}
use Rattle.epoch_tags.specs.declared.message.Post.{Post}
use Rattle.ring_links.specs.Rings.{Receiving}
use Rattle.actor_core.specs.declared.cast.Cast.{Cast}
use Rattle.actor_core.specs.Lists.{Cause, Took, Began, with_cause}
use Rattle.actor_core.specs.Standing.{Occurs, Waits, IsLive, given_by}
use Rattle.actor_core.specs.Families.{journal_of}
use Rattle.actor_core.specs.Players.{MakesEvent, MayBegin, Player, Runs}
use Rattle.actor_core.specs.declared.machines.Core.{Core}
use Rattle.ring_runtime.specs.Seats.{RingSeatView, AllStuck, NoneKnown, frame_of, player_of, received_through}
use Rattle.ring_runtime.specs.Seats.{waiting_in}

-- ---- one turn

-- by what was taken: the message came from its sender's ring, or nothing was known to be left in any
abbrev pub Receives : Cast → Option Envelope → List (Option Receiving) → List (Option Receiving) → Type 0
Receives cast None old new = (new ≡ old) × NoneKnown old
Receives cast (Some m) old new = (from : Actor)
    → received_through cast new from
    ≡ with_cause (Took m.from m.msg) (received_through cast old) from

-- where the actor began, nothing was known to be left for it
abbrev pub HasLooked : Cause → List (Option Receiving) → Type 0
HasLooked (Took from m) ins = ⊤
HasLooked Began ins = NoneKnown ins

-- one event of the actor of a seat that had these ends before
pub record MakesTurn (ins : List (Option Receiving)) (old new : Player) : Type 0 where
  pub event : MakesEvent old new
  pub looked : HasLooked event.cause ins

-- nothing is known to be left for the seat, and its machine would not begin
pub record Rests (core : Core) (ins : List (Option Receiving)) : Type 0 where
  pub none_known : NoneKnown ins
  pub waits : Waits core

-- the first half of an event: the message or the beginning, and the machine's call
pub record IsCaused (cast : Cast) (old new : Core) (before after : List (Option Receiving))
    (none sends : List Post) : Type 0 where
  pub cause : Cause
  pub occurs : Occurs cause old new none sends
  pub free : MayBegin cause old
  pub looked : HasLooked cause before
  pub live : IsLive new
  pub given : given_by new ≡ given_by old
  pub grows : IsPrefix (journal_of old) (journal_of new)
  pub received : (from : Actor)
      → received_through cast after from ≡ with_cause cause (received_through cast before) from

-- by whether there was one: the first half of an event, or nothing was to be done
abbrev pub Opens : Bool → Cast → Core → Core → List (Option Receiving) → List (Option Receiving) → List Post
    → List Post → Type 0
Opens true cast old new before after none sends = IsCaused cast old new before after none sends
Opens false cast old new before after none sends = (new ≡ old) × (after ≡ before) × Rests old before

-- no event was made, and fewer messages wait
pub record Moves (old new : RingSeatView) : Type 0 where
  pub player : player_of new ≡ player_of old
  pub fewer : waiting_in new.outs < waiting_in old.outs

-- no event was made, and no message left an outlet
pub record IsIdle (old new : RingSeatView) : Type 0 where
  pub player : player_of new ≡ player_of old
  pub as_many : waiting_in new.outs ≡ waiting_in old.outs

-- ---- several turns

-- some events; none only where the seat rested, and then fewer messages wait, or none could leave its outlet
pub record Advances (old new : RingSeatView) : Type 0 where
  pub count : ℕ
  pub runs : Runs count (player_of old) (player_of new)
  pub none : count ≡ 0 → Rests old.core old.ins
  pub moves : count ≡ 0 → (waiting_in new.outs < waiting_in old.outs) ⊎ AllStuck old.outs

-- the turns of one seat in a bout: it is spent, or has advanced
pub record Works (old new : RingSeatView) : Type 0 where
  pub frame : frame_of new ≡ frame_of old
  pub advances : (new.spent ≡ true) ⊎ Advances old new
