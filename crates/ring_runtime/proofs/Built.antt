-- New seats with the rings of all links are wired, settled, and have empty lists.
use Rattle.std.proofs.Common.{◌≡◌, ℕ, ◌+◌, ◌<◌, ◌^◌, ◌↔◌, inl, inr, refl, sym, ap, subst, ◌∙◌, Bool, true≢false, Option}
use Rattle.std.proofs.Common.{Some, None, List, [], ◌∷◌, ◌++◌, get_or, map, length, arith}
use Rattle.std.specs.Prelude.{IsSome, slice_get, slice_index}
use Rattle.std.proofs.Math.Pow.{pow-lt}
use Rattle.std.proofs.Math.Seq.{get_or-append_seam}
use Rattle.std.proofs.lemmas.Bool.{cases_lt}
use Rattle.std.proofs.lemmas.Nat.{xor_lt}
use Rattle.std.proofs.lemmas.List.{get_or-map, get_or_append_left, length-append, length-map}
use Rattle.std.proofs.lemmas.Option.{slice_get-get_or}
use Rattle.epoch_tags.specs.declared.actor.Actor.{Actor}
use Rattle.epoch_tags.specs.declared.actor.Actor.TheVariants.{Collector}
use Rattle.epoch_tags.specs.Links.{HasLink, feeder_joiner, joiner_joiner, controller_feeder, feeder_controller}
use Rattle.epoch_tags.specs.Links.{joiner_controller, joiner_collector}
use Rattle.ring_links.specs.Rings.{Receiving}
use Rattle.ring_links.specs.Outlets.{OutletView, contents}
use Rattle.trace_law.specs.declared.setting.Setting.{Setting}
use Rattle.actor_core.specs.declared.cast.Cast.{Cast}
use Rattle.actor_core.specs.Lists.{no_lists}
use Rattle.actor_core.specs.Standing.{Stands, IsLive, given_by}
use Rattle.actor_core.specs.Families.{IsActor, start_for}
use Rattle.actor_core.specs.Numbers.{actor_at, at_number, cast_of, count_of, number}
use Rattle.actor_core.specs.Players.{lists_among, lists_at}
use Rattle.actor_core.specs.Tasks.{Task}
use Rattle.actor_core.proofs.Beginnings.{has_number, there}
use Rattle.actor_core.proofs.OwnNumbers.{number_actor}
use Rattle.actor_core.proofs.Seated.{core_there, lists_there, number_low}
use Rattle.ring_runtime.specs.Seats.{RingSeatView, Frame, frame_of, in_address, lists_of, out_address, received_at}
use Rattle.ring_runtime.specs.Seats.{received_from, sent_at, sent_to}
use Rattle.ring_runtime.specs.Wiring.{AreNewSeats, AreWiredBelow, IsNewBetween, IsNewSeat, in_of, out_of}
use Rattle.ring_runtime.specs.Joins.{AreSettled, AreWired, IsHeldAt, IsPlaced, Meet}
use Rattle.ring_runtime.specs.Bouts.{RingSeatsView, StandsFor, given_at, given_in, lists_in, outlet_at, outlet_of}
use Rattle.ring_runtime.specs.Bouts.{seat_of}
use Rattle.ring_runtime.proofs.RingLists.{slot_at}

-- ---- between two actors

new_meet : (cast : Cast) (from to : Actor) (out : Option OutletView) (inn : Option Receiving)
    → IsNewBetween cast from to out inn
    → Meet from to (out_address out) (in_address inn)
new_meet cast from to None None new = tt
new_meet cast from to None (Some inn) new = absurd new
new_meet cast from to (Some out) None new = absurd new
new_meet cast from to (Some out) (Some inn) new =
    let ends = new.1.ends in
    let room = new.1.room in
    record {
      same = λ i. record { ring = ends.ring i; from = ends.from i; to = ends.to i; room = ends.room i };
      from_is = new.1.from;
      to_is = new.1.to;
      some = omega (arith, room);
    }

new_held : (cast : Cast) (from to : Actor) (out : Option OutletView) (inn : Option Receiving)
    → IsNewBetween cast from to out inn
    → IsHeldAt out inn
new_held cast from to None None new = tt
new_held cast from to None (Some inn) new = absurd new
new_held cast from to (Some out) None new = absurd new
new_held cast from to (Some out) (Some inn) new =
    let room = new.1.room in
    let places = new.1.places in
    record {
      left = record { rest = []; joins = ap (λ es. es ++ []) new.1.received ∙ sym new.1.sent; left = sym new.1.known };
      room = omega (arith, room, places);
      some = omega (arith, room);
    }

new_sent : (cast : Cast) (from to : Actor) (out : Option OutletView) (inn : Option Receiving)
    → IsNewBetween cast from to out inn
    → sent_at out ≡ []
new_sent cast from to None None new = refl
new_sent cast from to None (Some inn) new = absurd new
new_sent cast from to (Some out) None new = absurd new
new_sent cast from to (Some out) (Some inn) new = ap (λ es. contents es ++ out.waiting) new.1.sent
    ∙ new.1.none_waits

new_received : (cast : Cast) (from to : Actor) (out : Option OutletView) (inn : Option Receiving)
    → IsNewBetween cast from to out inn
    → received_at inn ≡ []
new_received cast from to None None new = refl
new_received cast from to None (Some inn) new = absurd new
new_received cast from to (Some out) None new = absurd new
new_received cast from to (Some out) (Some inn) new = ap contents new.1.received

new_linked : (k : ℕ) (cast : Cast) (from to : Actor) (out : Option OutletView) (inn : Option Receiving)
    → cast.joiners ≡ 2 ^ k → IsNewBetween cast from to out inn
    → (IsSome out ↔ HasLink k cast.feeders from to)
new_linked k cast from to None None grid new =
    ((λ some. absurd (true≢false (sym some))), (λ link. absurd (new k grid link)))
new_linked k cast from to None (Some inn) grid new = absurd new
new_linked k cast from to (Some out) None grid new = absurd new
new_linked k cast from to (Some out) (Some inn) grid new = ((λ some. new.0 k grid), (λ link. refl))

-- the two ends of a link are actors of the run
actors_linked : (setting : Setting) (from to : Actor) → HasLink setting.k setting.feeders from to
    → IsActor setting from × IsActor setting to
actors_linked setting _ _ (feeder_joiner low high) = (low, high)
actors_linked setting _ _ (joiner_joiner {i = i} {low = low} high within) =
    (high, xor_lt setting.k i (2 ^ low) high (pow-lt within))
actors_linked setting _ _ (controller_feeder low) = (tt, low)
actors_linked setting _ _ (feeder_controller low) = (low, tt)
actors_linked setting _ _ (joiner_controller low) = (low, tt)
actors_linked setting _ _ (joiner_collector low) = (low, tt)

-- ---- new seats, one after another

-- one seat more
pub new_more : (task : Task) (count : ℕ) (seats : List RingSeatView) (seat : RingSeatView)
    → AreNewSeats task count seats
    → IsNewSeat task count seat → AreNewSeats task (count + 1) (seats ++ seat ∷ [])
new_more task count seats seat old one = record {
  all = length-append seats (seat ∷ []) ∙ ap (λ n. n + 1) old.all;
  new = λ n d low. elim (cases_lt n count) [
    | inl less ↦
        subst (IsNewSeat task n) (sym (get_or_append_left seats (seat ∷ []) d n (omega (arith, old.all))))
        (old.new n d less)
    | inr more ↦
        let is : count ≡ n = omega arith in
        let here : length seats ≡ n = old.all ∙ is in
        subst (IsNewSeat task n)
        (sym (subst (λ z. get_or (seats ++ seat ∷ []) z d ≡ seat) here (get_or-append_seam seats seat [] d)))
        (subst (λ z. IsNewSeat task z seat) is one)
  ];
}

-- ---- all seats, with their rings

module _ (task : Task) (cast : Cast) (first seats : List RingSeatView)
    (is : cast ≡ cast_of task.setting) (made : AreNewSeats task (count_of (cast_of task.setting)) first)
    (wired : AreWiredBelow cast (count_of cast) first seats) where
  abbrev count : ℕ
  count = count_of cast

  new : AreNewSeats task count first
  new = subst (λ c. AreNewSeats task (count_of c) first) (sym is) made

  long : length seats ≡ count
  long = wired.all ∙ new.all

  low_of : (n : ℕ) → n < length seats → n < count
  low_of n low = subst (λ z. n < z) long low

  -- a seat is as it was made, but for its rings
  still : (n : ℕ) (d : RingSeatView) → n < count
      → get_or seats n d ≡ record (get_or first n d) { ins = (get_or seats n d).ins; outs = (get_or seats n d).outs }
  still n d low = (wired.same n d (subst (λ z. n < z) (sym new.all) low)).same

  between : (n r : ℕ) (d : RingSeatView) → n < count → r < count
      → IsNewBetween cast (actor_at cast n) (actor_at cast r)
      (out_of seats d n r) (in_of seats d r n)
  between n r d low low' = wired.done n r d low low' ((new.new n d low).no_out r) ((new.new r d low').no_in n)

  actor_is : (n : ℕ) (a : Actor) → a ≡ actor_at (cast_of task.setting) n → a ≡ actor_at cast n
  actor_is n a same = same ∙ ap (λ c. actor_at c n) (sym is)

  placed : (n : ℕ) (f : Frame) → n < length (map frame_of seats)
      → IsPlaced cast n (get_or (map frame_of seats) n f)
  placed n f low =
      let here = subst (λ z. n < z) (length-map seats frame_of) low in
      let d = (there seats n here).0 in
      let low' = low_of n here in
      let same = still n d low' in
      let one = new.new n d low' in
      let places = wired.same n d (subst (λ z. n < z) (sym new.all) low') in
      let all : count_of (cast_of task.setting) ≡ count = ap count_of (sym is) in
      subst (IsPlaced cast n) (sym (get_or-map frame_of seats n d f here)) (record {
        cast_is = ap (λ (s : RingSeatView). s.cast) same ∙ (one.cast_is ∙ sym is);
        actor = ap (λ (s : RingSeatView). s.actor) same ∙ actor_is n (get_or first n d).actor one.actor;
        ins = length-map (get_or seats n d).ins in_address ∙ (places.ins ∙ (one.ins ∙ all));
        outs = length-map (get_or seats n d).outs out_address ∙ (places.outs ∙ (one.outs ∙ all));
      })

  meet : (n r : ℕ) (f : Frame) → n < length (map frame_of seats) → r < length (map frame_of seats)
      → Meet (actor_at cast n) (actor_at cast r)
      (get_or (get_or (map frame_of seats) n f).outs r None) (get_or (get_or (map frame_of seats) r f).ins n None)
  meet n r f low low' =
      let here = subst (λ z. n < z) (length-map seats frame_of) low in
      let here' = subst (λ z. r < z) (length-map seats frame_of) low' in
      let d = (there seats n here).0 in
      let from = actor_at cast n in
      let to = actor_at cast r in
      let one = ap (λ (x : Frame). get_or x.outs r None) (get_or-map frame_of seats n d f here)
      ∙ slot_at out_address (get_or seats n d).outs r None in
      let other = ap (λ (x : Frame). get_or x.ins n None) (get_or-map frame_of seats r d f here')
      ∙ slot_at in_address (get_or seats r d).ins n None in
      subst (λ a. Meet from to a (get_or (get_or (map frame_of seats) r f).ins n None)) (sym one)
      (subst (λ a. Meet from to (out_address (out_of seats d n r)) a) (sym other)
      (new_meet cast from to (out_of seats d n r) (in_of seats d r n)
      (between n r d (low_of n here) (low_of r here'))))

  -- the seats are wired
  pub start_wired : AreWired cast (map frame_of seats)
  start_wired = record { all = length-map seats frame_of ∙ long; placed = placed; meet = meet }

  -- and settled
  pub start_settled : AreSettled seats
  start_settled = record {
    live = λ n d low. subst IsLive (sym (ap (λ (s : RingSeatView). s.core) (still n d (low_of n low))))
        (new.new n d (low_of n low)).live;
    held = λ n r d low low'.
        new_held cast (actor_at cast n) (actor_at cast r) (out_of seats d n r)
        (in_of seats d r n) (between n r d (low_of n low) (low_of r low'));
  }

  -- nothing was received or sent at any seat
  nothing_in : (r : ℕ) (d : RingSeatView) → r < count → (o : Option ℕ) → ((n : ℕ) → o ≡ Some n → n < count)
      → at_number [] o (received_from (get_or seats r d).ins) ≡ []
  nothing_in r d low None within = refl
  nothing_in r d low (Some n) within =
      new_received cast (actor_at cast n) (actor_at cast r) (out_of seats d n r)
      (in_of seats d r n) (between n r d (within n refl) low)

  nothing_out : (n : ℕ) (d : RingSeatView) → n < count → (o : Option ℕ) → ((r : ℕ) → o ≡ Some r → r < count)
      → at_number [] o (sent_to (get_or seats n d).outs) ≡ []
  nothing_out n d low None within = refl
  nothing_out n d low (Some r) within =
      new_sent cast (actor_at cast n) (actor_at cast r) (out_of seats d n r)
      (in_of seats d r n) (between n r d low (within r refl))

  empty_lists : (n : ℕ) (d : RingSeatView) → n < count → lists_of (get_or seats n d) ≡ no_lists
  empty_lists n d low = λ i. record { received = λ from. none_of from i; sent = λ to. none_to to i }
    where
      here : (get_or seats n d).cast ≡ cast
      here = ap (λ (s : RingSeatView). s.cast) (still n d low) ∙ ((new.new n d low).cast_is ∙ sym is)

      low_at : (a : Actor) (m : ℕ) → number (get_or seats n d).cast a ≡ Some m → m < count
      low_at a m at = number_low cast a m (subst (λ c. number c a ≡ Some m) here at)

      none_of : (from : Actor) → (lists_of (get_or seats n d)).received from ≡ []
      none_of from = nothing_in n d low (number (get_or seats n d).cast from)
          (low_at from)

      none_to : (to : Actor) → (lists_of (get_or seats n d)).sent to ≡ []
      none_to to = nothing_out n d low (number (get_or seats n d).cast to) (low_at to)

  module _ (spent : Bool) where
    -- all of them
    abbrev pub v : RingSeatsView
    v = record { cast = cast; seats = seats; spent = spent }

    low_number : (a : Actor) (n : ℕ) → number cast a ≡ Some n → n < length seats
    low_number a n at = subst (λ z. n < z) (sym long) (number_low cast a n at)

    -- no list has a message
    pub start_empty : (a : Actor) → lists_in v a ≡ no_lists
    start_empty a = go (number cast a) refl
      where
        go : (o : Option ℕ) → number cast a ≡ o → lists_among lists_of cast seats a ≡ no_lists
        go None at = ap (λ (o : Option ℕ). lists_at lists_of (at_number None o (λ k. slice_get seats k))) at
        go (Some n) at =
            let low = low_number a n at in
            let d = (there seats n low).0 in
            lists_there lists_of cast seats a n d at low ∙ empty_lists n d (low_of n low)

    -- each machine stands for empty lists, and these are its seat's
    pub start_stands : StandsFor task v
    start_stands = record {
      cast_is = is;
      all = length-map seats (λ (s : RingSeatView). s.core) ∙ long;
      stands = λ a actor.
          let num = has_number task.setting a actor in
          let at : number cast a ≡ Some num.0 = ap (λ c. number c a) is ∙ num.1 in
          let low = low_number a num.0 at in
          let d = (there seats num.0 low).0 in
          let one = new.new num.0 d (low_of num.0 low) in (
            (get_or seats num.0 d).core,
            core_there (λ (s : RingSeatView). s.core) cast seats a num.0 d at low,
            subst (λ ls. Stands (start_for task a) ls (get_or seats num.0 d).core) (sym (start_empty a))
                (subst (λ c. Stands (start_for task a) no_lists c)
                (sym (ap (λ (s : RingSeatView). s.core) (still num.0 d (low_of num.0 low))))
                (subst (λ z. Stands (start_for task z) no_lists (get_or first num.0 d).core)
                (number_actor (cast_of task.setting) a num.0 num.1) one.stands)),
          );
    }

    -- its collector gave no pair
    pub start_given : (j : ℕ) → j < 2 ^ task.setting.k → slice_index (given_in v) j ≡ 0
    start_given j below =
        let place = cast.feeders + cast.joiners + 1 in
        let low : place < count = omega arith in
        let low' = low_number Collector place refl in
        let d = (there seats place low').0 in
        ap (λ given. slice_index given j)
        (ap given_at (core_there (λ (s : RingSeatView). s.core) cast seats Collector place d refl low')
        ∙ ap (λ (s : RingSeatView). given_by s.core) (still place d low))
        ∙ (new.new place d low).given j below

    -- ---- one actor has an outlet to another exactly where there is a link

    outlet_is : (from to : Actor) (n r : ℕ) (d : RingSeatView) → number cast from ≡ Some n
        → number cast to ≡ Some r → n < length seats
        → outlet_of v from to ≡ out_of seats d n r
    outlet_is from to n r d at at' low =
        ap (λ (o : Option ℕ). outlet_at (at_number None o (λ k. slice_get seats k)) (number cast to)) at
        ∙ (ap (outlet_at (slice_get seats n)) at'
        ∙ ap (λ (o : Option RingSeatView). outlet_at o (Some r)) (slice_get-get_or seats n d low))

    linked_at : (from to : Actor) (n r : ℕ) → number cast from ≡ Some n → number cast to ≡ Some r
        → (IsSome (outlet_of v from to) ↔ HasLink task.setting.k task.setting.feeders from to)
    linked_at from to n r at at' =
        let low = low_number from n at in
        let low' = low_number to r at' in
        let d = (there seats n low).0 in
        let both = new_linked task.setting.k cast (actor_at cast n) (actor_at cast r)
        (out_of seats d n r) (in_of seats d r n) (ap (λ (c : Cast). c.joiners) is)
        (between n r d (low_of n low) (low_of r low')) in
        subst (λ (c : Cast). IsSome (outlet_of v from to) ↔ HasLink task.setting.k c.feeders from to) is
        (subst (λ o. IsSome o ↔ HasLink task.setting.k cast.feeders from to) (sym (outlet_is from to n r d at at' low))
        (subst (λ a. IsSome (out_of seats d n r) ↔ HasLink task.setting.k cast.feeders a to)
        (number_actor cast from n at)
        (subst (λ a. IsSome (out_of seats d n r) ↔ HasLink task.setting.k cast.feeders (actor_at cast n) a)
        (number_actor cast to r at') both)))

    nowhere : (o : Option RingSeatView) → outlet_at o None ≡ None
    nowhere None = refl
    nowhere (Some seat) = refl

    none_there : (from to : Actor) → outlet_of v from to ≡ None → IsSome (outlet_of v from to)
        → HasLink task.setting.k task.setting.feeders from to
    none_there from to none some = absurd (true≢false (sym (subst IsSome none some)))

    link_of : (from to : Actor) → IsSome (outlet_of v from to) → HasLink task.setting.k task.setting.feeders from to
    link_of from to = go (number cast from) (number cast to) refl refl
      where
        go : (i k : Option ℕ) → number cast from ≡ i → number cast to ≡ k
            → IsSome (outlet_of v from to) → HasLink task.setting.k task.setting.feeders from to
        go None k at at' = none_there from to
            (ap (λ (o : Option ℕ). outlet_at (at_number None o (λ z. slice_get seats z)) (number cast to))
            at)
        go (Some n) None at at' = none_there from to (ap (outlet_at (seat_of v from)) at' ∙ nowhere (seat_of v from))
        go (Some n) (Some r) at at' = (linked_at from to n r at at').0

    has_outlet : (from to : Actor) → HasLink task.setting.k task.setting.feeders from to → IsSome (outlet_of v from to)
    has_outlet from to link =
        let ends = actors_linked task.setting from to link in
        let num = has_number task.setting from ends.0 in
        let num' = has_number task.setting to ends.1 in
        (linked_at from to num.0 num'.0 (ap (λ c. number c from) is ∙ num.1)
        (ap (λ c. number c to) is ∙ num'.1)).1 link

    -- so it is between any two
    pub start_linked : (from to : Actor)
        → (IsSome (outlet_of v from to) ↔ HasLink task.setting.k task.setting.feeders from to)
    start_linked from to = (link_of from to, has_outlet from to)
