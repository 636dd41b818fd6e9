-- The seats of a run at its beginning, and how mouths come to their senders.
use Rattle.std.specs.Prelude.{◌≡◌, ◌≢◌, ◌<◌, ◌^◌, ◌⊎◌, ℕ, false, Option, Some, None, IsSome}
use Rattle.std.specs.Prelude.{Contains, List, [], map, length}
use Rattle.std.specs.Prelude.{slice_get, slice_set, slice_index_or}
use Rattle.epoch_tags.specs.declared.actor.Actor.{Actor}
use Rattle.epoch_tags.specs.Links.{HasLink}
use Rattle.ruled_links.specs.Ends.{Sending}
use Rattle.ruled_links.specs.Inboxes.{Differ, InboxView, fresh, opened}
use Rattle.actor_core.specs.declared.cast.Cast.{Cast}
use Rattle.actor_core.specs.Lists.{no_lists}
use Rattle.actor_core.specs.Standing.{Stands, HasGivenNone, IsLive}
use Rattle.actor_core.specs.Families.{start_for}
use Rattle.actor_core.specs.declared.machines.Core.{Core}
use Rattle.actor_core.specs.Numbers.{actor_at, cast_of, count_of, number}
use Rattle.actor_core.specs.Tasks.{Task}
use Rattle.join_runtime.specs.Views.{SeatView}
use Rattle.join_runtime.specs.Joins.{slot_of}

-- different actors, each with a number below this one
pub record AreBelow (cast : Cast) (below : ℕ) (actors : List Actor) : Type 0 where
  pub each : (k : ℕ) (d : Actor) → k < length actors → (n : ℕ)
      × (number cast (slice_index_or actors k d) ≡ Some n) × (n < below)
  pub differ : Differ actors

-- those with a number below this one that have a link to `to`
pub record AreLinked (cast : Cast) (below : ℕ) (to : Actor) (actors : List Actor) : Type 0 where
  pub sound : (k : ℕ) → cast.joiners ≡ 2 ^ k → (a : Actor) → Contains actors a → HasLink k cast.feeders a to
  pub whole : (k : ℕ) → cast.joiners ≡ 2 ^ k → (a : Actor) (n : ℕ) → number cast a ≡ Some n → n < below
      → HasLink k cast.feeders a to → Contains actors a

-- the machine of the actor with this number, before the first event of a task
pub record IsFresh (task : Task) (n : ℕ) (core : Core) : Type 0 where
  pub stands : Stands (start_for task (actor_at (cast_of task.setting) n)) no_lists core
  pub live : IsLive core
  pub given : HasGivenNone (2 ^ task.setting.k) core

-- the machines of the first so many actors, in the order of their numbers
pub record AreFresh (task : Task) (count : ℕ) (cores : List Core) : Type 0 where
  pub all : length cores ≡ count
  pub each : (n : ℕ) (core : Core) → slice_get cores n ≡ Some core → IsFresh task n core

-- an inbox of the actor with this number as it was made, its mouths, and a place with no mouth for each actor
pub record IsRoom (cast : Cast) (n : ℕ) (inbox : InboxView) (mouths : List Sending) (places : List (Option Sending))
    : Type 0 where
  pub to : inbox.to ≡ actor_at cast n
  pub received : inbox.received ≡ []
  pub names : List Actor
  pub below : ℕ
  pub numbers : AreBelow cast below names
  pub links : AreLinked cast (count_of cast) (actor_at cast n) names
  pub senders : inbox.senders ≡ map fresh names
  pub mouths_are : mouths ≡ map (opened inbox.link inbox.to) names
  pub many : length places ≡ count_of cast
  pub no_mouth : (r : ℕ) → slice_index_or places r None ≡ None

-- the seat of the actor with this number as it was made for this machine, and the mouths of its inbox
pub record IsNewSeat (cast : Cast) (n : ℕ) (core : Core) (seat : SeatView) (mouths : List Sending) : Type 0 where
  pub cast_is : seat.cast ≡ cast
  pub actor : seat.actor ≡ actor_at cast n
  pub core_is : seat.core ≡ core
  pub to : seat.inbox.to ≡ seat.actor
  pub received : seat.inbox.received ≡ []
  pub names : List Actor
  pub below : ℕ
  pub numbers : AreBelow cast below names
  pub links : AreLinked cast (count_of cast) (actor_at cast n) names
  pub senders : seat.inbox.senders ≡ map fresh names
  pub mouths_are : mouths ≡ map (opened seat.inbox.link seat.inbox.to) names
  pub many : length seat.mouths ≡ count_of cast
  pub no_mouth : (r : ℕ) → slice_index_or seat.mouths r None ≡ None

-- so many seats for these machines, with the mouths of their inboxes
pub record AreNew (cast : Cast) (count : ℕ) (cores : List Core) (seats : List SeatView)
    (mouths : List (List Sending)) : Type 0 where
  pub all : length seats ≡ count
  pub each : length mouths ≡ count
  pub new : (n : ℕ) (d : SeatView) → n < count → IsNewSeat cast n (slice_index_or cores n d.core)
      (slice_index_or seats n d) (slice_index_or mouths n [])

-- the actor has one of so many seats
pub record HasSeat (cast : Cast) (count : ℕ) (a : Actor) : Type 0 where
  pub place : ℕ
  pub is : number cast a ≡ Some place
  pub there : place < count

-- each seat has a place for a mouth to the actor with this number
abbrev pub HavePlaces : ℕ → List SeatView → Type 0
HavePlaces receiver seats = (n : ℕ) (d : SeatView) → n < length seats
    → receiver < length (slice_index_or seats n d).mouths

-- the mouth came to its sender, as that one's to the actor with the number `receiver`
pub record Puts (cast : Cast) (receiver : ℕ) (mouth : Sending) (old new : List SeatView) : Type 0 where
  pub sender : ℕ
  pub is : number cast mouth.from ≡ Some sender
  pub there : sender < length old
  pub room : (d : SeatView) → receiver < length (slice_index_or old sender d).mouths
  pub now : (d : SeatView) → let seat = slice_index_or old sender d in
      new ≡ slice_set old sender (record seat { mouths = slice_set seat.mouths receiver (Some mouth) })

-- a mouth of these, of the sender with the number n
pub record IsOneOf (cast : Cast) (n : ℕ) (mouths : List Sending) (mouth : Sending) : Type 0 where
  pub one : Contains mouths mouth
  pub sender : number cast mouth.from ≡ Some n

-- these mouths came to their senders, and nothing else changed
pub record Places (cast : Cast) (receiver : ℕ) (mouths : List Sending) (old new : List SeatView) : Type 0 where
  pub all : length new ≡ length old
  pub same : (n : ℕ) (d : SeatView) → n < length old → slice_index_or new n d
      ≡ record (slice_index_or old n d) { mouths = (slice_index_or new n d).mouths }
  pub many : (n : ℕ) (d : SeatView) → n < length old
      → length (slice_index_or new n d).mouths ≡ length (slice_index_or old n d).mouths
  pub others : (n r : ℕ) (d : SeatView) → n < length old → r ≢ receiver → slot_of new d n r ≡ slot_of old d n r
  pub own : (n : ℕ) (d : SeatView) (mouth : Sending) → n < length old → slot_of new d n receiver ≡ Some mouth
      → (slot_of old d n receiver ≡ Some mouth) ⊎ IsOneOf cast n mouths mouth
  pub has : (n : ℕ) (d : SeatView) (mouth : Sending) → IsOneOf cast n mouths mouth → (n < length old)
      × IsSome (slot_of new d n receiver)

-- of the receivers below this number, each mouth came to its sender; nothing else changed, but whether seats are spent
pub record AreFilled (cast : Cast) (below : ℕ) (mouths : List (List Sending)) (old new : List SeatView) : Type 0 where
  pub all : length new ≡ length old
  pub same : (n : ℕ) (d : SeatView) → n < length old → slice_index_or new n d
      ≡ record (slice_index_or old n d) {
        mouths = (slice_index_or new n d).mouths;
        spent = (slice_index_or new n d).spent;
      }
  pub many : (n : ℕ) (d : SeatView) → n < length old
      → length (slice_index_or new n d).mouths ≡ length (slice_index_or old n d).mouths
  pub own : (n r : ℕ) (d : SeatView) (mouth : Sending) → n < length old → slot_of new d n r ≡ Some mouth
      → (r < below) × IsOneOf cast n (slice_index_or mouths r []) mouth
  pub has : (n r : ℕ) (d : SeatView) (mouth : Sending) → r < below
      → IsOneOf cast n (slice_index_or mouths r []) mouth
      → (n < length old) × IsSome (slot_of new d n r)

-- each seat is the same, and not spent
pub record AreAwake (old new : List SeatView) : Type 0 where
  pub all : length new ≡ length old
  pub each : (n : ℕ) (d : SeatView) → n < length old
      → slice_index_or new n d ≡ record (slice_index_or old n d) { spent = false }

-- these are the first machines of some task, by the numbers of actors
pub record AreFirst (cast : Cast) (cores : List Core) : Type 0 where
  pub task : Task
  pub cast_is : cast ≡ cast_of task.setting
  pub fresh : AreFresh task (length cores) cores

-- the seats for these machines, of which each mouth came to its sender
pub record AreSeated (cast : Cast) (cores : List Core) (seats : List SeatView) : Type 0 where
  pub first : List SeatView
  pub mouths : List (List Sending)
  pub new : AreNew cast (length cores) cores first mouths
  pub filled : AreFilled cast (length mouths) mouths first seats
