-- All seats of a run, their lists, and what a bout does.
use Rattle.std.specs.Prelude.{◌≡◌, ◌<◌, ◌⊎◌, ℕ, Bool, false, Option, Some, None, List, length, map, slice_get}
use Rattle.std.specs.Prelude.{slice_index_or}
use Rattle.epoch_tags.specs.declared.actor.Actor.{Actor}
use Rattle.ruled_links.specs.Ends.{Sending}
use Rattle.ruled_links.specs.Inboxes.{all_known}
use Rattle.theta_pred.specs.Formula.{Meaning}
use Rattle.actor_core.specs.declared.cast.Cast.{Cast}
use Rattle.actor_core.specs.Elements.{IsAllAt}
use Rattle.actor_core.specs.Lists.{ActorLists}
use Rattle.actor_core.specs.Standing.{JoinsBy, Waits, IsLive}
use Rattle.actor_core.specs.Numbers.{number, at_number}
use Rattle.actor_core.specs.Players.{AllReceived, AllStand, lists_among}
use Rattle.actor_core.specs.Tasks.{Task}
use Rattle.actor_core.specs.declared.machines.Core.{Core}
use Rattle.join_runtime.specs.Views.{SeatView, lists_of}
use Rattle.join_runtime.specs.Turns.{Rests, Advances}

-- the seats of a run, by the numbers of actors
pub record SeatsView : Type 0 where
  pub cast : Cast
  pub seats : List SeatView
  pub spent : Bool

-- the seat of an actor, where there is one
abbrev pub seat_of : SeatsView → Actor → Option SeatView
seat_of v a = at_number None (number v.cast a) (λ n. slice_get v.seats n)

-- the mouth that leads to the actor of this number, where there is one
abbrev pub mouth_at : Option SeatView → Option ℕ → Option Sending
mouth_at None place = None
mouth_at (Some seat) place = at_number None place (λ n. slice_index_or seat.mouths n None)

-- the mouth of one actor to another
abbrev pub mouth_of : SeatsView → Actor → Actor → Option Sending
mouth_of v from to = mouth_at (seat_of v from) (number v.cast to)

-- the machines of these seats, by the numbers of actors
abbrev pub cores_in : SeatsView → List Core
cores_in v = map (λ seat. seat.core) v.seats

-- what each actor has received and sent
abbrev pub lists_in : SeatsView → Actor → ActorLists
lists_in v = lists_among lists_of v.cast v.seats

-- there is a seat for each actor of this task; its machine began as the task says, and stands for the lists of the seat
abbrev pub StandsFor : Task → SeatsView → Type 0
StandsFor task v = AllStand task v.cast (cores_in v) (lists_in v)

-- each joiner's machine joins by this predicate
abbrev pub AllJoinBy : Meaning → SeatsView → Type 0
AllJoinBy theta v = IsAllAt (JoinsBy theta) (cores_in v)

-- nothing is left on any link, and no machine would begin
pub record IsStill (v : SeatsView) : Type 0 where
  pub received : AllReceived (lists_in v)
  pub waits : (n : ℕ) (d : SeatView) → n < length v.seats → Waits (slice_index_or v.seats n d).core

-- each seat made some events, and none only where it rested
abbrev pub AllAdvance : List SeatView → List SeatView → Type 0
AllAdvance old new = (n : ℕ) (d : SeatView) → n < length old
    → Advances (slice_index_or old n d) (slice_index_or new n d)

-- nothing is known to be left for any seat, and no machine would begin
abbrev pub AllRest : List SeatView → Type 0
AllRest seats = (n : ℕ) (d : SeatView) → n < length seats → Rests (slice_index_or seats n d).core
    (slice_index_or seats n d).inbox

-- a message is known to be left for the seat, or its machine would begin
abbrev pub IsReady : SeatView → Type 0
IsReady seat = (0 < all_known seat.inbox.senders) ⊎ (¬ Waits seat.core)

-- so it is of some seat
pub record SomeReady (seats : List SeatView) : Type 0 where
  pub place : ℕ
  pub there : place < length seats
  pub ready : (d : SeatView) → IsReady (slice_index_or seats place d)

-- no seat is spent
abbrev pub NoneSpent : List SeatView → Type 0
NoneSpent seats = (n : ℕ) (d : SeatView) → n < length seats → (slice_index_or seats n d).spent ≡ false

-- no seat's machine is spent
abbrev pub AllLive : List SeatView → Type 0
AllLive seats = (n : ℕ) (d : SeatView) → n < length seats → IsLive (slice_index_or seats n d).core
