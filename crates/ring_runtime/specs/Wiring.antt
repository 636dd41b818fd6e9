-- How the rings of a run come to the seats of their actors.
use Rattle.std.specs.Prelude.{◌≡◌, ◌<◌, ◌≤◌, ◌^◌, ℕ, Option, Some, None, List, [], length, slice_set}
use Rattle.std.specs.Prelude.{slice_index_or}
use Rattle.epoch_tags.specs.declared.actor.Actor.{Actor}
use Rattle.epoch_tags.specs.Links.{HasLink}
use Rattle.ring_links.specs.Rings.{Receiving, AreEnds}
use Rattle.ring_links.specs.Outlets.{OutletView}
use Rattle.actor_core.specs.declared.cast.Cast.{Cast}
use Rattle.actor_core.specs.Lists.{no_lists}
use Rattle.actor_core.specs.Standing.{Stands, HasGivenNone, IsLive}
use Rattle.actor_core.specs.Families.{start_for}
use Rattle.actor_core.specs.Numbers.{actor_at, cast_of, count_of}
use Rattle.actor_core.specs.Tasks.{Task}
use Rattle.ring_runtime.specs.Seats.{RingSeatView}

-- the two ends of a new ring, through which nothing went, and for which nothing waits
pub record AreNew (sender receiver : Actor) (out : OutletView) (inn : Receiving) : Type 0 where
  pub ends : AreEnds out.out inn
  pub from : out.out.from ≡ sender
  pub to : out.out.to ≡ receiver
  pub room : out.out.room ≡ 64
  pub places : out.out.places ≡ 64
  pub sent : out.out.sent ≡ []
  pub none_waits : out.waiting ≡ []
  pub received : inn.received ≡ []
  pub known : inn.known ≡ 0

-- the outlet came to the one
pub record GivesOut (from to : ℕ) (out : OutletView) (old new : List RingSeatView) : Type 0 where
  pub there : from < length old
  pub room : (d : RingSeatView) → to < length (slice_index_or old from d).outs
  pub now : (d : RingSeatView) → let seat = slice_index_or old from d in
      new ≡ slice_set old from (record seat { outs = slice_set seat.outs to (Some out) })

-- the other end came to the other
pub record GivesIn (from to : ℕ) (inn : Receiving) (old new : List RingSeatView) : Type 0 where
  pub there : to < length old
  pub room : (d : RingSeatView) → from < length (slice_index_or old to d).ins
  pub now : (d : RingSeatView) → let seat = slice_index_or old to d in
      new ≡ slice_set old to (record seat { ins = slice_set seat.ins from (Some inn) })

-- the one and then the other, of a new ring
pub record Wires (from to : ℕ) (sender receiver : Actor) (old new : List RingSeatView) : Type 0 where
  pub out : OutletView
  pub inn : Receiving
  pub middle : List RingSeatView
  pub are_new : AreNew sender receiver out inn
  pub first : GivesOut from to out old middle
  pub second : GivesIn from to inn middle new

-- the outlet of one seat to another
abbrev pub out_of : List RingSeatView → RingSeatView → ℕ → ℕ → Option OutletView
out_of seats d n r = slice_index_or (slice_index_or seats n d).outs r None

-- the end at which one seat receives from another
abbrev pub in_of : List RingSeatView → RingSeatView → ℕ → ℕ → Option Receiving
in_of seats d r n = slice_index_or (slice_index_or seats r d).ins n None

-- between two actors of a run there is a new ring, or no link and no ring
abbrev pub IsNewBetween : Cast → Actor → Actor → Option OutletView → Option Receiving → Type 0
IsNewBetween cast from to None None = (k : ℕ) → cast.joiners ≡ 2 ^ k → ¬ HasLink k cast.feeders from to
IsNewBetween cast from to (Some out) (Some inn) =
    ((k : ℕ) → cast.joiners ≡ 2 ^ k → HasLink k cast.feeders from to) × AreNew from to out inn
IsNewBetween cast from to _ _ = ⊥

-- seats that differ from these at most in the ends of rings, of which they have as many places
pub record HasSamePlaces (old new : RingSeatView) : Type 0 where
  pub same : new ≡ record old { ins = new.ins; outs = new.outs }
  pub ins : length new.ins ≡ length old.ins
  pub outs : length new.outs ≡ length old.outs

-- where there was no ring, the seat of the number `from` has its new rings to those below this number, and no other
-- changed
pub record WiresRow (cast : Cast) (from below : ℕ) (old new : List RingSeatView) : Type 0 where
  pub all : length new ≡ length old
  pub same : (n : ℕ) (d : RingSeatView) → n < length old
      → HasSamePlaces (slice_index_or old n d) (slice_index_or new n d)
  pub done : (r : ℕ) (d : RingSeatView) → r < below → out_of old d from r ≡ None → in_of old d r from ≡ None
      → IsNewBetween cast (actor_at cast from) (actor_at cast r)
      (out_of new d from r) (in_of new d r from)
  pub rest : (n r : ℕ) (d : RingSeatView) → ((n ≡ from) → below ≤ r)
      → (out_of new d n r ≡ out_of old d n r) × (in_of new d r n ≡ in_of old d r n)

-- where there was no ring, each of the seats below this number has its new rings to all
pub record AreWiredBelow (cast : Cast) (below : ℕ) (old new : List RingSeatView) : Type 0 where
  pub all : length new ≡ length old
  pub same : (n : ℕ) (d : RingSeatView) → n < length old
      → HasSamePlaces (slice_index_or old n d) (slice_index_or new n d)
  pub done : (n r : ℕ) (d : RingSeatView) → n < below → r < count_of cast → out_of old d n r ≡ None
      → in_of old d r n ≡ None
      → IsNewBetween cast (actor_at cast n) (actor_at cast r)
      (out_of new d n r) (in_of new d r n)
  pub rest : (n r : ℕ) (d : RingSeatView) → below ≤ n
      → (out_of new d n r ≡ out_of old d n r) × (in_of new d r n ≡ in_of old d r n)

-- ---- the seats of a run at its beginning

-- the seat of the actor with this number as it was made, with no end of any ring
pub record IsNewSeat (task : Task) (n : ℕ) (seat : RingSeatView) : Type 0 where
  pub cast_is : seat.cast ≡ cast_of task.setting
  pub actor : seat.actor ≡ actor_at (cast_of task.setting) n
  pub no_in : (r : ℕ) → slice_index_or seat.ins r None ≡ None
  pub no_out : (r : ℕ) → slice_index_or seat.outs r None ≡ None
  pub ins : length seat.ins ≡ count_of (cast_of task.setting)
  pub outs : length seat.outs ≡ count_of (cast_of task.setting)
  pub stands : Stands (start_for task (actor_at (cast_of task.setting) n)) no_lists seat.core
  pub live : IsLive seat.core
  pub given : HasGivenNone (2 ^ task.setting.k) seat.core

-- so many seats
pub record AreNewSeats (task : Task) (count : ℕ) (seats : List RingSeatView) : Type 0 where
  pub all : length seats ≡ count
  pub new : (n : ℕ) (d : RingSeatView) → n < count → IsNewSeat task n (slice_index_or seats n d)
