-- How the seats of a run are joined by rings, and what is known of each ring once its two ends were held together.
use Rattle.std.specs.Prelude.{◌≡◌, ◌≢◌, ◌<◌, ◌≤◌, ◌+◌, ⊤, ℕ, Option, Some, None, List, length, slice_index_or}
use Rattle.epoch_tags.specs.declared.actor.Actor.{Actor}
use Rattle.ring_links.specs.Rings.{Receiving, AreEnds, AreLeft}
use Rattle.ring_links.specs.Outlets.{OutletView}
use Rattle.actor_core.specs.declared.cast.Cast.{Cast}
use Rattle.actor_core.specs.Standing.{IsLive}
use Rattle.actor_core.specs.Numbers.{actor_at, count_of}
use Rattle.ring_runtime.specs.Seats.{RingSeatView, Address, Frame, frame_of, player_of, waiting_in}
use Rattle.ring_runtime.specs.Wiring.{HasSamePlaces, in_of, out_of}

-- ---- who has the ends of which rings

-- the seat at this number is that actor's, with a place for each actor
pub record IsPlaced (cast : Cast) (n : ℕ) (frame : Frame) : Type 0 where
  pub cast_is : frame.cast ≡ cast
  pub actor : frame.actor ≡ actor_at cast n
  pub ins : length frame.ins ≡ count_of cast
  pub outs : length frame.outs ≡ count_of cast

-- the two are the ends of one ring, from the one actor to the other, with some room
pub record AreOfOneRing (from to : Actor) (out inn : Address) : Type 0 where
  pub same : inn ≡ out
  pub from_is : out.from ≡ from
  pub to_is : out.to ≡ to
  pub some : 0 < out.room

-- or there is no end
abbrev pub Meet : Actor → Actor → Option Address → Option Address → Type 0
Meet from to None None = ⊤
Meet from to (Some out) (Some inn) = AreOfOneRing from to out inn
Meet from to _ _ = ⊥

-- there is a seat for each actor, and between two of them both ends of a ring, or none
pub record AreWired (cast : Cast) (frames : List Frame) : Type 0 where
  pub all : length frames ≡ count_of cast
  pub placed : (n : ℕ) (d : Frame) → n < length frames → IsPlaced cast n (slice_index_or frames n d)
  pub meet : (n r : ℕ) (d : Frame) → n < length frames → r < length frames
      → Meet (actor_at cast n) (actor_at cast r)
      (slice_index_or (slice_index_or frames n d).outs r None) (slice_index_or (slice_index_or frames r d).ins n None)

-- ---- two ends that are held together

-- the two are ends of one ring with some room
pub record AreEndsWith (out : OutletView) (inn : Receiving) : Type 0 where
  pub ends : AreEnds out.out inn
  pub some : 0 < out.out.room

-- or there is none
abbrev pub AreEndsOf : Option OutletView → Option Receiving → Type 0
AreEndsOf None None = ⊤
AreEndsOf (Some out) (Some inn) = AreEndsWith out inn
AreEndsOf _ _ = ⊥

-- what was received begins what was sent, it is known how many messages are left, and all other places are known to be
-- free
pub record IsHeld (out : OutletView) (inn : Receiving) : Type 0 where
  pub left : AreLeft out.out.sent inn.received inn.known
  pub room : out.out.room ≤ out.out.places + inn.known
  pub some : 0 < out.out.room

-- so it is, or there is no ring
abbrev pub IsHeldAt : Option OutletView → Option Receiving → Type 0
IsHeldAt None None = ⊤
IsHeldAt (Some out) (Some inn) = IsHeld out inn
IsHeldAt _ _ = ⊥

-- the two were held together: only what they know changed
pub record IsHeldWith (out : OutletView) (inn : Receiving) (out' : OutletView) (inn' : Receiving) : Type 0 where
  pub held : IsHeld out' inn'
  pub outlet : out' ≡ record out { out = record out.out { places = out'.out.places; refused = out'.out.refused } }
  pub ring_in : inn' ≡ record inn { known = inn'.known }

-- so they were, or there was no ring
abbrev pub AllHeld : Option OutletView → Option Receiving → Option OutletView → Option Receiving → Type 0
AllHeld None None None None = ⊤
AllHeld (Some out) (Some inn) (Some out') (Some inn') = IsHeldWith out inn out' inn'
AllHeld _ _ _ _ = ⊥

-- an outlet and the end of its ring at this seat were held together, where there are two
pub record HoldsIn (sender : ℕ) (out : Option OutletView) (old : RingSeatView) (out' : Option OutletView)
    (new : RingSeatView) : Type 0 where
  pub held : AllHeld out (slice_index_or old.ins sender None) out' (slice_index_or new.ins sender None)
  pub others : (n : ℕ) → n ≢ sender → slice_index_or new.ins n None ≡ slice_index_or old.ins n None
  pub rest : new ≡ record old { ins = new.ins }
  pub long : length new.ins ≡ length old.ins

-- so were those of the first so many seats and a row of outlets
pub record AllHoldIn (sender below : ℕ) (outs : List (Option OutletView)) (old : List RingSeatView)
    (outs' : List (Option OutletView)) (new : List RingSeatView) : Type 0 where
  pub many : length outs' ≡ length outs
  pub long : length new ≡ length old
  pub done : (r : ℕ) (d : RingSeatView) → r < below
      → HoldsIn sender (slice_index_or outs r None) (slice_index_or old r d)
      (slice_index_or outs' r None) (slice_index_or new r d)

-- each outlet of one seat was held with the end to which it leads, and nothing else changed
pub record HoldsFrom (sender : ℕ) (old new : List RingSeatView) : Type 0 where
  pub long : length new ≡ length old
  pub held : (r : ℕ) (d : RingSeatView) → r < length old
      → AllHeld (out_of old d sender r) (in_of old d r sender) (out_of new d sender r) (in_of new d r sender)
  pub other_outs : (n r : ℕ) (d : RingSeatView) → n < length old → n ≢ sender → out_of new d n r ≡ out_of old d n r
  pub other_ins : (r n : ℕ) (d : RingSeatView) → r < length old → n ≢ sender → in_of new d r n ≡ in_of old d r n
  pub same : (n : ℕ) (d : RingSeatView) → n < length old
      → HasSamePlaces (slice_index_or old n d) (slice_index_or new n d)

-- so was each outlet of the seats below this number
pub record HoldsBelow (below : ℕ) (old new : List RingSeatView) : Type 0 where
  pub long : length new ≡ length old
  pub held : (n r : ℕ) (d : RingSeatView) → n < below → r < length old
      → AllHeld (out_of old d n r) (in_of old d r n) (out_of new d n r) (in_of new d r n)
  pub rest : (n r : ℕ) (d : RingSeatView) → below ≤ n → n < length old → r < length old
      → (out_of new d n r ≡ out_of old d n r) × (in_of new d r n ≡ in_of old d r n)
  pub same : (n : ℕ) (d : RingSeatView) → n < length old
      → HasSamePlaces (slice_index_or old n d) (slice_index_or new n d)

-- ---- the seats between two bouts

-- the same machine, lists and ends, and as much waits: they differ at most in what is known
pub record IsAlike (old new : RingSeatView) : Type 0 where
  pub player : player_of new ≡ player_of old
  pub frame : frame_of new ≡ frame_of old
  pub waiting : waiting_in new.outs ≡ waiting_in old.outs
  pub spent : new.spent ≡ old.spent

-- each ring was held: what is left in it is known
abbrev pub AreHeld : List RingSeatView → Type 0
AreHeld seats = (n r : ℕ) (d : RingSeatView) → n < length seats → r < length seats → IsHeldAt (out_of seats d n r)
    (in_of seats d r n)

-- the seats that are not spent: no machine is spent, and each ring was held
pub record AreSettled (seats : List RingSeatView) : Type 0 where
  pub live : (n : ℕ) (d : RingSeatView) → n < length seats → IsLive (slice_index_or seats n d).core
  pub held : AreHeld seats
