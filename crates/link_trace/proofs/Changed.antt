-- What is read off places, where one of them changed.
use Rattle.std.proofs.Common.{◌≡◌, ℕ, ◌<◌, sym, ap, subst, ◌∙◌, Option, Some, None, List, [], ◌∷◌, ◌++◌, get_or, set}
use Rattle.std.proofs.Common.{map, length, MatchOption, MatchBool, Bool, true, false}
use Rattle.std.specs.Prelude.{slice_get}
use Rattle.std.proofs.Math.Seq.{map-set_same}
use Rattle.std.proofs.lemmas.List.{map-set, get_or-map, length-map}
use Rattle.std.proofs.lemmas.Option.{slice_get-get_or, get_or_from_slice_get}
use Rattle.epoch_tags.specs.declared.message.Msg.{Msg}
use Rattle.epoch_tags.specs.declared.message.Post.{Post}
use Rattle.actor_core.specs.Lists.{Cause}
use Rattle.actor_core.specs.Standing.{Event, Occurs}
use Rattle.actor_core.specs.declared.machines.Core.{Core}
use Rattle.link_trace.specs.Worlds.{cores_of, waiting_at, waiting_of, waits, with_waiting, HasRoom, TakesOff, PutsOn}
use Rattle.link_trace.specs.Worlds.{OccursAt}
use Rattle.link_trace.specs.declared.places.Place.{Place}

-- g of an element is that element of g of all
module _ {X Y : Type 0} (g : X → Y) (xs : List X) (i : ℕ) (x : X) (is : x ≡ get_or xs i x) (low : i < length xs) where
  -- in the list of what g gives of each, what g gives of x stands at the place of x
  pub map_at : (d : Y) → get_or (map g xs) i d ≡ g x
  map_at d = get_or-map g xs i x d low ∙ ap g (sym is)

  -- where g gives of another element what it gives of x, putting that one in the place of x changes nothing of it
  pub set_same : (new : X) → g new ≡ g x → map g (set xs i new) ≡ map g xs
  set_same new same = map-set_same g xs i new x (same ∙ ap g is)

-- ---- one queue

module _ {Q : Type 0} (items : Q → List Msg) (queues : List Q) (i : ℕ) (queue new : Q)
    (is : queue ≡ get_or queues i queue) (low : i < length queues) where
  -- where a message was popped off one queue, it was the first there, and is gone in the list of what the queues hold;
  -- where none was, that queue is empty and nothing changed
  pub popped : (o : Option Msg) → MatchOption o ((items new ≡ items queue)
      × (items queue ≡ [])) (λ m. items queue ≡ m ∷ items new)
      → MatchOption o ((map items (set queues i new) ≡ map items queues) × (get_or (map items queues) i [] ≡ []))
      (λ m. (rest : List Msg) × (i < length (map items queues)) × (get_or (map items queues) i [] ≡ m ∷ rest)
      × (map items (set queues i new) ≡ set (map items queues) i rest))
  popped None e = (set_same items queues i queue is low new e.0, map_at items queues i queue is low [] ∙ e.1)
  popped (Some m) e = (
    items new,
    subst (λ n. i < n) (sym (length-map queues items)) low,
    map_at items queues i queue is low [] ∙ e,
    map-set items queues i new,
  )

  -- where a message was pushed to one queue, the list of what the queues hold has it as the last one there
  pub pushed : (m : Msg) → items new ≡ items queue ++ m ∷ []
      → map items (set queues i new) ≡ set (map items queues) i (get_or (map items queues) i [] ++ m ∷ [])
  pushed m e = map-set items queues i new ∙ ap (set (map items queues) i)
      (e ∙ ap (λ ms. ms ++ m ∷ []) (sym (map_at items queues i queue is low [])))

-- ---- one place

module _ (places : List Place) (at : ℕ) (place new : Place) (is : place ≡ get_or places at place)
    (low : at < length places) where
  -- what waits at one place is what waits at its number
  pub row : get_or (waiting_of places) at [] ≡ waiting_at place
  row = map_at waiting_at places at place is low []

  room : (sender : ℕ) → sender < length (waiting_at place) → HasRoom (waiting_of places) at sender
  room sender low' = record {
    receiver_is = subst (λ n. at < n) (sym (length-map places waiting_at)) low;
    sender_is = subst (λ ms. sender < length ms) (sym row) low';
  }

  with_row : (sender : ℕ) (ms : List Msg) → waiting_at new ≡ set (waiting_at place) sender ms
      → waiting_of (set places at new) ≡ with_waiting (waiting_of places) at sender ms
  with_row sender ms e = map-set waiting_at places at new ∙ ap (set (waiting_of places) at)
      (e ∙ ap (λ r. set r sender ms) (sym row))

  -- where a message of a sender was popped at one place, it was taken off what waits there of that sender; where none
  -- was, nothing waits there of it and nothing changed
  pub takes_off : (sender : ℕ) (o : Option Msg)
      → MatchOption o ((waiting_at new ≡ waiting_at place) × (get_or (waiting_at place) sender [] ≡ []))
      (λ m. (rest : List Msg) × (sender < length (waiting_at place)) × (get_or (waiting_at place) sender [] ≡ m ∷ rest)
      × (waiting_at new ≡ set (waiting_at place) sender rest))
      → MatchOption o ((waiting_of (set places at new) ≡ waiting_of places)
      × (waits (waiting_of places) at sender ≡ []))
      (λ m. TakesOff at sender m (waiting_of places) (waiting_of (set places at new)))
  takes_off sender None e = (set_same waiting_at places at place is low new e.0, ap (λ r. get_or r sender []) row ∙ e.1)
  takes_off sender (Some m) e = record {
    room = room sender e.1;
    rest = e.0;
    first = ap (λ r. get_or r sender []) row ∙ e.2;
    left = with_row sender e.0 e.3;
  }

  -- where a message of a sender was put behind what waits at one place, one message more waits there of that sender
  pub puts_on : (sender : ℕ) (m : Msg) → HasRoom (waiting_of places) at sender
      → waiting_at new ≡ set (waiting_at place) sender (get_or (waiting_at place) sender [] ++ m ∷ [])
      → PutsOn at sender m (waiting_of places) (waiting_of (set places at new))
  puts_on sender m there e = record {
    room = there;
    left = with_row sender _ e ∙ ap (λ r. with_waiting (waiting_of places) at sender (get_or r sender [] ++ m ∷ []))
        (sym row);
  }

  -- where what waits at one place is as it was, what waits at all places is
  pub same_waiting : waiting_at new ≡ waiting_at place → waiting_of (set places at new) ≡ waiting_of places
  same_waiting e = set_same waiting_at places at place is low new e

  -- where the machine of one place is as it was, the machines of all places are
  pub same_cores : new.core ≡ place.core → cores_of (set places at new) ≡ cores_of places
  same_cores e = set_same (λ (p : Place). p.core) places at place is low new e

  -- where an event occurred in the machine of one place before which nothing was posted, it occurred in that machine
  -- among those of all places
  pub occurs_at : (cause : Cause) (before posts : List Post) → before ≡ []
      → Occurs cause place.core new.core before posts
      → OccursAt at cause (cores_of places) (cores_of (set places at new)) posts
  occurs_at cause before posts none occurs = record {
    core = place.core;
    next = new.core;
    was =
        slice_get-get_or (cores_of places) at place.core (subst (λ n. at < n)
        (sym (length-map places (λ (p : Place). p.core))) low)
        ∙ ap Some (map_at (λ (p : Place). p.core) places at place is low place.core);
    now = map-set (λ (p : Place). p.core) places at new;
    event = subst (Event cause place.core new.core)
        (sym (occurs.sends ∙ ap (λ (ps : List Post). ps ++ occurs.added) none)) occurs.event;
  }

  -- where the flag is up, a beginning occurred so; where it isn't, no machine changed
  pub begins_at : (cause : Cause) (b : Bool) (before posts : List Post) → before ≡ []
      → MatchBool b (Occurs cause place.core new.core before posts) (new.core ≡ place.core)
      → MatchBool b (OccursAt at cause (cores_of places) (cores_of (set places at new)) posts)
      (cores_of (set places at new) ≡ cores_of places)
  begins_at cause true before posts none e = occurs_at cause before posts none e
  begins_at cause false before posts none e = same_cores e

-- the machine at a number is that of the place there
pub core_there : (places : List Place) (n : ℕ) (place : Place) (core : Core) → n < length places
    → place ≡ get_or places n place → slice_get (cores_of places) n ≡ Some core → place.core ≡ core
core_there places n place core low is there =
    sym (map_at (λ (p : Place). p.core) places n place is low place.core)
    ∙ get_or_from_slice_get (cores_of places) n core place.core there
