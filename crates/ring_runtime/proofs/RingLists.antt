-- What was received and sent between two actors of a run, once the two ends of each ring were held together.
use Rattle.std.proofs.Common.{◌≡◌, ℕ, zero, suc, ◌+◌, ◌<◌, ◌≤◌, inl, inr, refl, sym, ap, subst, ◌∙◌, true, Option, Some}
use Rattle.std.proofs.Common.{None, List, [], ◌∷◌, ◌++◌, get_or, map, length, append-nil, append_assoc, arith}
use Rattle.std.specs.Prelude.{slice_get}
use Rattle.std.proofs.lemmas.Bool.{cases_lt}
use Rattle.std.proofs.lemmas.List.{get_or-map, get_or_past, length-append, length-map, map-append}
use Rattle.row_cells.specs.Lists.{IsPrefix}
use Rattle.epoch_tags.specs.declared.actor.Actor.{Actor}
use Rattle.epoch_tags.specs.declared.actor.Actor.TheVariants.{Feeder}
use Rattle.epoch_tags.specs.declared.message.Envelope.{Envelope}
use Rattle.epoch_tags.specs.declared.message.Msg.{Msg}
use Rattle.ring_links.specs.Rings.{Receiving}
use Rattle.ring_links.specs.Outlets.{OutletView, contents}
use Rattle.trace_law.specs.Laws.{QuietIsFinished}
use Rattle.actor_core.specs.declared.cast.Cast.{Cast}
use Rattle.actor_core.specs.Lists.{ActorLists, no_lists}
use Rattle.actor_core.specs.Standing.{Waits}
use Rattle.actor_core.specs.Families.{AreFronts, core_in}
use Rattle.actor_core.specs.Numbers.{actor_at, at_number, count_of, number}
use Rattle.actor_core.specs.Players.{AllReceived, lists_among, lists_at}
use Rattle.actor_core.specs.declared.machines.Core.{Core}
use Rattle.actor_core.specs.Tasks.{Task, IsTask}
use Rattle.actor_core.proofs.Beginnings.{there}
use Rattle.actor_core.proofs.OwnNumbers.{none_some, number_there, some_is}
use Rattle.actor_core.proofs.Seated.{core_there, lists_there, number_low}
use Rattle.actor_core.proofs.Stilled.{still_complete}
use Rattle.ring_runtime.specs.Seats.{RingSeatView, Address, Frame, frame_of, in_address, known_at, lists_of}
use Rattle.ring_runtime.specs.Seats.{out_address, received_at, received_from, received_through, sent_at, sent_through}
use Rattle.ring_runtime.specs.Seats.{sent_to, waiting_at}
use Rattle.ring_runtime.specs.Wiring.{in_of, out_of}
use Rattle.ring_runtime.specs.Joins.{AreEndsOf, AreHeld, AreWired, IsHeldAt, IsPlaced, Meet}
use Rattle.ring_runtime.specs.Bouts.{EachSeat, IsAtRest, IsBusy, IsStill, RingSeatsView, SomeSeat, StandsFor, cores_in}
use Rattle.ring_runtime.specs.Bouts.{is_collected, lists_in}

-- ---- one ring

-- what was received, what is known to be left and what waits are as many as what was sent
pub lengths : (out : Option OutletView) (inn : Option Receiving) → IsHeldAt out inn
    → length (received_at inn) + (known_at inn + waiting_at out) ≡ length (sent_at out)
lengths None None held = refl
lengths None (Some inn) held = absurd held
lengths (Some out) None held = absurd held
lengths (Some out) (Some inn) held =
    let whole = sym (ap length held.left.joins) ∙ length-append inn.received held.left.rest in
    let left = held.left.left in
    let got = length-map inn.received (λ (e : Envelope). e.msg) in
    let gone = length-map out.out.sent (λ (e : Envelope). e.msg) in
    let all = length-append (contents out.out.sent) out.waiting in
    omega (arith, whole, left, got, gone, all)

-- what was received begins what was sent
front : (out : Option OutletView) (inn : Option Receiving) → IsHeldAt out inn → IsPrefix (received_at inn) (sent_at out)
front None None held = record { rest = []; joins = refl }
front None (Some inn) held = absurd held
front (Some out) None held = absurd held
front (Some out) (Some inn) held = record {
  rest = contents held.left.rest ++ out.waiting;
  joins =
      sym (append_assoc (contents inn.received) (contents held.left.rest) out.waiting)
      ∙ ap (λ ms. ms ++ out.waiting)
      (sym (map-append (λ (e : Envelope). e.msg) inn.received held.left.rest) ∙ ap contents held.left.joins);
}

no_rest : {X : Type 0} (xs ys rest : List X) → xs ++ rest ≡ ys → length rest ≡ 0 → xs ≡ ys
no_rest xs ys [] e long = sym (append-nil xs) ∙ e
no_rest xs ys (z ∷ rest) e long = absurd (omega arith)

-- a front as long as the whole is the whole
front_whole : {X : Type 0} (xs ys : List X) → IsPrefix xs ys → length xs ≡ length ys → xs ≡ ys
front_whole xs ys front long =
    let parts = sym (ap length front.joins) ∙ length-append xs front.rest in
    no_rest xs ys front.rest front.joins (omega (arith, parts, long))

-- where nothing is known to be left and nothing waits, all was received
all_taken : (out : Option OutletView) (inn : Option Receiving) → IsHeldAt out inn → known_at inn ≡ 0
    → waiting_at out ≡ 0
    → received_at inn ≡ sent_at out
all_taken out inn held known waiting =
    let whole = lengths out inn held in
    front_whole (received_at inn) (sent_at out) (front out inn held) (omega (arith, whole, known, waiting))

-- ends with such addresses are ends of one ring
ends_of : (from to : Actor) (out : Option OutletView) (inn : Option Receiving)
    → Meet from to (out_address out) (in_address inn)
    → AreEndsOf out inn
ends_of from to None None meet = tt
ends_of from to None (Some inn) meet = absurd meet
ends_of from to (Some out) None meet = absurd meet
ends_of from to (Some out) (Some inn) meet = record {
  ends = record {
    ring = ap (λ (a : Address). a.ring) meet.same;
    from = ap (λ (a : Address). a.from) meet.same;
    to = ap (λ (a : Address). a.to) meet.same;
    room = ap (λ (a : Address). a.room) meet.same;
  };
  some = meet.some;
}

-- ---- the seats

-- a default that f maps to one gives what f maps the other to
pub slot_at : {X Y : Type 0} (f : X → Y) (xs : List X) (n : ℕ) (d : X) → get_or (map f xs) n (f d) ≡ f (get_or xs n d)
slot_at f [] n d = refl
slot_at f (x ∷ xs) zero d = refl
slot_at f (x ∷ xs) (suc n) d = slot_at f xs n d

module _ (cast : Cast) (seats : List RingSeatView) (wired : AreWired cast (map frame_of seats)) where
  -- there is a seat for each actor
  pub many : length seats ≡ count_of cast
  many = sym (length-map seats frame_of) ∙ wired.all

  within : (n : ℕ) → n < length seats → n < length (map frame_of seats)
  within n low = subst (λ z. n < z) (sym (length-map seats frame_of)) low

  frame_at : (n : ℕ) (d : RingSeatView) → n < length seats
      → get_or (map frame_of seats) n (frame_of d) ≡ frame_of (get_or seats n d)
  frame_at n d low = get_or-map frame_of seats n d (frame_of d) low

  placed_at : (n : ℕ) (d : RingSeatView) → n < length seats → IsPlaced cast n (frame_of (get_or seats n d))
  placed_at n d low = subst (IsPlaced cast n) (frame_at n d low) (wired.placed n (frame_of d) (within n low))

  -- and at each seat a place for an outlet to each
  pub outs_many : (n : ℕ) (d : RingSeatView) → n < length seats → length (get_or seats n d).outs ≡ length seats
  outs_many n d low = sym (length-map (get_or seats n d).outs out_address) ∙ ((placed_at n d low).outs ∙ sym many)

  -- and one for the end of a ring from each
  pub ins_many : (n : ℕ) (d : RingSeatView) → n < length seats → length (get_or seats n d).ins ≡ length seats
  ins_many n d low = sym (length-map (get_or seats n d).ins in_address) ∙ ((placed_at n d low).ins ∙ sym many)

  -- between two seats are the two ends of one ring, or none
  pub ends_at : (n r : ℕ) (d : RingSeatView) → n < length seats → r < length seats
      → AreEndsOf (out_of seats d n r) (in_of seats d r n)
  ends_at n r d low low' =
      let from = actor_at cast n in
      let to = actor_at cast r in
      let one = ap (λ (f : Frame). get_or f.outs r None) (frame_at n d low)
      ∙ slot_at out_address (get_or seats n d).outs r None in
      let other = ap (λ (f : Frame). get_or f.ins n None) (frame_at r d low')
      ∙ slot_at in_address (get_or seats r d).ins n None in
      ends_of from to (out_of seats d n r) (in_of seats d r n)
      (subst (λ a. Meet from to a (in_address (in_of seats d r n))) one
      (subst (λ a. Meet from to (get_or (get_or (map frame_of seats) n (frame_of d)).outs r None) a) other
      (wired.meet n r (frame_of d) (within n low) (within r low'))))

  -- what the seat of a number has received and sent
  pub sent_there : (n : ℕ) (to : Actor) (o : Option ℕ) (d : RingSeatView) → n < length seats
      → number cast to ≡ o
      → (lists_of (get_or seats n d)).sent to ≡ at_number [] o (sent_to (get_or seats n d).outs)
  sent_there n to o d low is =
      let s = get_or seats n d in
      let p = placed_at n d low in
      ap (λ c. sent_through c s.outs to) p.cast_is ∙ ap (λ (i : Option ℕ). at_number [] i (sent_to s.outs)) is

  -- and has received
  pub received_there : (r : ℕ) (from : Actor) (o : Option ℕ) (d : RingSeatView) → r < length seats
      → number cast from ≡ o
      → (lists_of (get_or seats r d)).received from ≡ at_number [] o (received_from (get_or seats r d).ins)
  received_there r from o d low is =
      let s = get_or seats r d in
      let p = placed_at r d low in
      ap (λ c. received_through c s.ins from) p.cast_is
      ∙ ap (λ (i : Option ℕ). at_number [] i (received_from s.ins)) is

  abbrev lists : Actor → ActorLists
  lists = lists_among lists_of cast seats

  lists_none : (a : Actor) → number cast a ≡ None → lists a ≡ no_lists
  lists_none a is = ap (λ (o : Option ℕ). lists_at lists_of (at_number None o (λ k. slice_get seats k))) is

  low_of : (a : Actor) (n : ℕ) → number cast a ≡ Some n → n < length seats
  low_of a n is = subst (λ z. n < z) (sym many) (number_low cast a n is)

  -- what was sent by one seat and received at another, by the actors' lists
  pub sent_is : (n r : ℕ) (from to : Actor) (d : RingSeatView) → n < length seats
      → number cast from ≡ Some n → number cast to ≡ Some r
      → (lists from).sent to ≡ sent_at (out_of seats d n r)
  sent_is n r from to d low is is' =
      ap (λ (ls : ActorLists). ls.sent to) (lists_there lists_of cast seats from n d is low)
      ∙ sent_there n to (Some r) d low is'

  -- and received at another
  pub received_is : (n r : ℕ) (from to : Actor) (d : RingSeatView) → r < length seats
      → number cast from ≡ Some n → number cast to ≡ Some r
      → (lists to).received from ≡ received_at (in_of seats d r n)
  received_is n r from to d low is is' =
      ap (λ (ls : ActorLists). ls.received from) (lists_there lists_of cast seats to r d is' low)
      ∙ received_there r from (Some n) d low is

  -- what holds of empty lists and at each two ends holds of all lists
  module _ (P : List Msg → List Msg → Type 0) (none : P [] [])
      (some : (n r : ℕ) (d : RingSeatView) → n < length seats → r < length seats → P (received_at (in_of seats d r n))
      (sent_at (out_of seats d n r))) where
    both : (xs ys xs' ys' : List Msg) → xs' ≡ xs → ys' ≡ ys → P xs ys → P xs' ys'
    both xs ys xs' ys' same same' holds = subst (λ zs. P zs ys') (sym same) (subst (P xs) (sym same') holds)

    -- so it is from each actor to each
    pub between : (from to : Actor) → P ((lists to).received from) ((lists from).sent to)
    between from to = go (number cast from) (number cast to) refl refl
      where
        go : (i k : Option ℕ) → number cast from ≡ i → number cast to ≡ k
            → P ((lists to).received from) ((lists from).sent to)
        go None None is is' =
            both [] [] ((lists to).received from) ((lists from).sent to)
            (ap (λ (ls : ActorLists). ls.received from) (lists_none to is'))
            (ap (λ (ls : ActorLists). ls.sent to) (lists_none from is)) none
        go None (Some r) is is' =
            let low = low_of to r is' in
            let d = (there seats r low).0 in
            both [] [] ((lists to).received from) ((lists from).sent to)
            (ap (λ (ls : ActorLists). ls.received from) (lists_there lists_of cast seats to r d is' low)
            ∙ received_there r from None d low is)
            (ap (λ (ls : ActorLists). ls.sent to) (lists_none from is)) none
        go (Some n) None is is' =
            let low = low_of from n is in
            let d = (there seats n low).0 in
            both [] [] ((lists to).received from) ((lists from).sent to)
            (ap (λ (ls : ActorLists). ls.received from) (lists_none to is'))
            (ap (λ (ls : ActorLists). ls.sent to) (lists_there lists_of cast seats from n d is low)
            ∙ sent_there n to None d low is') none
        go (Some n) (Some r) is is' =
            let low = low_of from n is in
            let low' = low_of to r is' in
            let d = (there seats n low).0 in
            both (received_at (in_of seats d r n)) (sent_at (out_of seats d n r)) ((lists to).received from)
            ((lists from).sent to)
            (received_is n r from to d low' is is') (sent_is n r from to d low is is') (some n r d low low')

  module _ (held : AreHeld seats) where
    -- what was received begins what was sent
    pub fronts : AreFronts (lists_among lists_of cast seats)
    fronts = between IsPrefix (record { rest = []; joins = refl })
        (λ n r d low low'. front (out_of seats d n r) (in_of seats d r n) (held n r d low low'))

    -- where all seats rest, what was sent was received
    pub all_received : EachSeat IsAtRest seats → AllReceived (lists_among lists_of cast seats)
    all_received rest =
        between (λ xs ys. xs ≡ ys) refl
        (λ n r d low low'.
        all_taken (out_of seats d n r) (in_of seats d r n) (held n r d low low') ((rest r d low').rests.none_known n)
        ((rest n d low).none_waits r))

    -- a message that is known to be left, or waits, was not received
    apart : (n r : ℕ) (d : RingSeatView) → n < length seats → r < length seats
        → 0 < known_at (in_of seats d r n) + waiting_at (out_of seats d n r)
        → ¬ AllReceived (lists_among lists_of cast seats)
    apart n r d low low' some all =
        let from = actor_at cast n in
        let to = actor_at cast r in
        let is = number_there cast n (subst (λ z. n < z) many low) in
        let is' = number_there cast r (subst (λ z. r < z) many low') in
        let same = ap length
        (sym (received_is n r from to d low' is is') ∙ (all from to ∙ sent_is n r from to d low is is')) in
        let whole = lengths (out_of seats d n r) (in_of seats d r n) (held n r d low low') in
        omega (arith, some, same, whole)

    -- where a message is known, there is a place for its sender
    pub known_within : (r n : ℕ) (d : RingSeatView) → r < length seats → 0 < known_at (in_of seats d r n)
        → n < length seats
    known_within r n d low some = elim (cases_lt n (length seats)) [
      | inl below ↦ below
      | inr past ↦
          let none = ap known_at
          (get_or_past (get_or seats r d).ins n None (subst (λ z. z ≤ n) (sym (ins_many r d low)) past)) in
          absurd (omega (arith, some, none))
    ]

    -- where a message waits, there is a place for its receiver
    pub waits_within : (n r : ℕ) (d : RingSeatView) → n < length seats → 0 < waiting_at (out_of seats d n r)
        → r < length seats
    waits_within n r d low some = elim (cases_lt r (length seats)) [
      | inl below ↦ below
      | inr past ↦
          let none = ap waiting_at
          (get_or_past (get_or seats n d).outs r None (subst (λ z. z ≤ r) (sym (outs_many n d low)) past)) in
          absurd (omega (arith, some, none))
    ]

    busy_at : (m : ℕ) (d : RingSeatView) → m < length seats → IsBusy (get_or seats m d)
        → AllReceived (lists_among lists_of cast seats)
        → EachSeat (λ seat. Waits seat.core) seats → ⊥
    busy_at m d low (inl (inl known)) all waits =
        let some = known.some in
        let within' = known_within m known.place d low some in
        apart known.place m d within' low (omega (arith, some)) all
    busy_at m d low (inl (inr free)) all waits = free (waits m d low)
    busy_at m d low (inr waiting) all waits =
        let some = waiting.some in
        let within' = waits_within m waiting.place d low some in
        apart m waiting.place d low within' (omega (arith, some)) all

module _ (v : RingSeatsView) (wired : AreWired v.cast (map frame_of v.seats))
    (held : AreHeld v.seats) where
  waits_there : EachSeat IsAtRest v.seats → (a : Actor) (core : Core)
      → core_in v.cast (cores_in v) a ≡ Some core → Waits core
  waits_there rest a core is = go (number v.cast a) refl
    where
      go : (o : Option ℕ) → number v.cast a ≡ o → Waits core
      go None at = absurd (none_some core
          (sym (ap (λ (o : Option ℕ). at_number None o (λ k. slice_get (cores_in v) k)) at) ∙ is))
      go (Some n) at =
          let low = subst (λ z. n < z) (sym (many v.cast v.seats wired))
          (number_low v.cast a n at) in
          let d = (there v.seats n low).0 in
          subst Waits
          (some_is (get_or v.seats n d).core core
          (sym (core_there (λ (s : RingSeatView). s.core) v.cast v.seats a n d at low) ∙ is))
          (rest n d low).rests.waits

  -- where all rest, nothing is left to do
  pub still : EachSeat IsAtRest v.seats → IsStill v
  still rest = record {
    received = all_received v.cast v.seats wired held rest;
    waits = λ n d low.
        (rest n d low).rests.waits;
  }

  -- so of a task within the limits the collector is complete
  pub rest_collected : EachSeat IsAtRest v.seats → QuietIsFinished → (task : Task) → IsTask task
      → StandsFor task v → is_collected v ≡ true
  rest_collected rest law task is_task stands =
      still_complete task v.cast (cores_in v) (lists_in v) stands
      (fronts v.cast v.seats wired held)
      (λ from to link. all_received v.cast v.seats wired held rest from to)
      (λ p low core is. waits_there rest (Feeder p) core is) law is_task

  -- and where some seat is busy, something is
  pub busy : SomeSeat IsBusy v.seats → ¬ IsStill v
  busy some is =
      let d = (there v.seats some.place some.there).0 in
      busy_at v.cast v.seats wired held some.place d some.there (some.holds d) is.received is.waits
