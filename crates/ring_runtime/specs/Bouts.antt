-- All seats of a run over rings, their lists, and what a bout does.
use Rattle.std.specs.Prelude.{◌≡◌, ◌<◌, ◌⊎◌, ℕ, suc, Bool, false, Option, Some, None, List, [], length, map, slice_get}
use Rattle.std.specs.Prelude.{slice_index_or}
use Rattle.epoch_tags.specs.declared.actor.Actor.{Actor}
use Rattle.epoch_tags.specs.declared.actor.Actor.TheVariants.{Collector}
use Rattle.load_controller.specs.declared.line.TurnLine.{TurnLine}
use Rattle.ring_links.specs.Rings.{Receiving}
use Rattle.ring_links.specs.Outlets.{OutletView}
use Rattle.actor_core.specs.declared.cast.Cast.{Cast}
use Rattle.actor_core.specs.Lists.{ActorLists}
use Rattle.actor_core.specs.Standing.{Waits, IsLive, given_by}
use Rattle.actor_core.specs.Families.{core_in}
use Rattle.actor_core.specs.Numbers.{number, at_number}
use Rattle.actor_core.specs.Players.{AllReceived, AllStand, Runs, is_complete_among, journal_among, lists_among}
use Rattle.actor_core.specs.declared.machines.Core.{Core}
use Rattle.actor_core.specs.Tasks.{Task}
use Rattle.ring_runtime.specs.Seats.{RingSeatView, NoneWaits, known_at, lists_of, player_of, waiting_at}
use Rattle.ring_runtime.specs.Turns.{Advances, Rests, Works}

-- ---- all seats

-- the seats of a run, by the numbers of actors
pub record RingSeatsView : Type 0 where
  pub cast : Cast
  pub seats : List RingSeatView
  pub spent : Bool

-- the seat of an actor, where there is one
abbrev pub seat_of : RingSeatsView → Actor → Option RingSeatView
seat_of v a = at_number None (number v.cast a) (λ n. slice_get v.seats n)

-- the outlet that leads to the actor of this number, where there is one
abbrev pub outlet_at : Option RingSeatView → Option ℕ → Option OutletView
outlet_at None place = None
outlet_at (Some seat) place = at_number None place (λ n. slice_index_or seat.outs n None)

-- the outlet of one actor to another
abbrev pub outlet_of : RingSeatsView → Actor → Actor → Option OutletView
outlet_of v from to = outlet_at (seat_of v from) (number v.cast to)

-- the machines of these seats, by the numbers of actors
abbrev pub cores_in : RingSeatsView → List Core
cores_in v = map (λ seat. seat.core) v.seats

-- what each actor has received and sent
abbrev pub lists_in : RingSeatsView → Actor → ActorLists
lists_in v = lists_among lists_of v.cast v.seats

-- the journal of the controller among these seats
abbrev pub journal_in : RingSeatsView → List TurnLine
journal_in v = journal_among v.cast (cores_in v)

-- the collector of these seats is complete
abbrev pub is_collected : RingSeatsView → Bool
is_collected v = is_complete_among v.cast (cores_in v)

-- how many pairs of each joiner a machine gave, where there is one
abbrev pub given_at : Option Core → List ℕ
given_at None = []
given_at (Some core) = given_by core

-- how many pairs of each joiner the collector of these seats gave
abbrev pub given_in : RingSeatsView → List ℕ
given_in v = given_at (core_in v.cast (cores_in v) Collector)

-- there is a seat for each actor; its machine began as the task says, and stands for the lists of the seat
abbrev pub StandsFor : Task → RingSeatsView → Type 0
StandsFor task v = AllStand task v.cast (cores_in v) (lists_in v)

-- they are seats of some task
pub record StandsForSome (v : RingSeatsView) : Type 0 where
  pub task : Task
  pub stands : StandsFor task v

-- ---- what is left to do

-- a message is known to be left in some ring of these
pub record SomeKnown (ins : List (Option Receiving)) : Type 0 where
  pub place : ℕ
  pub some : 0 < known_at (slice_index_or ins place None)

-- a message waits in some outlet of these
pub record SomeWaits (outs : List (Option OutletView)) : Type 0 where
  pub place : ℕ
  pub some : 0 < waiting_at (slice_index_or outs place None)

-- nothing is known to be left for the seat, its machine would not begin, and nothing waits in its outlets
pub record IsAtRest (seat : RingSeatView) : Type 0 where
  pub rests : Rests seat.core seat.ins
  pub none_waits : NoneWaits seat.outs

-- a message is known to be left for the seat, or its machine would begin
abbrev pub IsReady : RingSeatView → Type 0
IsReady seat = SomeKnown seat.ins ⊎ (¬ Waits seat.core)

-- or a message waits in an outlet
abbrev pub IsBusy : RingSeatView → Type 0
IsBusy seat = IsReady seat ⊎ SomeWaits seat.outs

-- P of some seat
pub record SomeSeat (P : RingSeatView → Type 0) (seats : List RingSeatView) : Type 0 where
  pub place : ℕ
  pub there : place < length seats
  pub holds : (d : RingSeatView) → P (slice_index_or seats place d)

-- P of each seat
abbrev pub EachSeat : (RingSeatView → Type 0) → List RingSeatView → Type 0
EachSeat P seats = (n : ℕ) (d : RingSeatView) → n < length seats → P (slice_index_or seats n d)

-- no seat is spent
abbrev pub NoneSpent : List RingSeatView → Type 0
NoneSpent seats = EachSeat (λ seat. seat.spent ≡ false) seats

-- no seat's machine is spent
abbrev pub AllLive : List RingSeatView → Type 0
AllLive seats = EachSeat (λ seat. IsLive seat.core) seats

-- nothing is left on any link, and no machine would begin
pub record IsStill (v : RingSeatsView) : Type 0 where
  pub received : AllReceived (lists_in v)
  pub waits : EachSeat (λ seat. Waits seat.core) v.seats

-- ---- what a bout does

-- the turns of all seats
abbrev pub AllWork : List RingSeatView → List RingSeatView → Type 0
AllWork old new = (n : ℕ) (d : RingSeatView) → n < length old → Works (slice_index_or old n d) (slice_index_or new n d)

-- each seat has advanced
abbrev pub AllAdvance : List RingSeatView → List RingSeatView → Type 0
AllAdvance old new = (n : ℕ) (d : RingSeatView) → n < length old → Advances (slice_index_or old n d)
    (slice_index_or new n d)

-- some seat made an event
pub record SomeEvent (old new : List RingSeatView) : Type 0 where
  pub place : ℕ
  pub there : place < length old
  pub before : ℕ
  pub runs : (d : RingSeatView)
      → Runs (suc before) (player_of (slice_index_or old place d)) (player_of (slice_index_or new place d))
