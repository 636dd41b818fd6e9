-- Rings as they come to the seats of their actors, one after another.
use Rattle.std.proofs.Common.{◌≡◌, ◌≢◌, ℕ, ◌+◌, ◌<◌, ◌^◌, inl, inr, refl, sym, ap, subst, ◌∙◌, Option, None, Some, List}
use Rattle.std.proofs.Common.{get_or, set, length, arith}
use Rattle.std.proofs.lemmas.Bool.{cases_eq}
use Rattle.std.proofs.lemmas.List.{get_or-set_other, get_or-set_same, length-set}
use Rattle.epoch_tags.specs.declared.actor.Actor.{Actor}
use Rattle.epoch_tags.specs.Links.{HasLink}
use Rattle.ring_links.specs.Rings.{Receiving}
use Rattle.ring_links.specs.Outlets.{OutletView}
use Rattle.actor_core.specs.declared.cast.Cast.{Cast}
use Rattle.actor_core.specs.Numbers.{actor_at, count_of}
use Rattle.actor_core.proofs.Beginnings.{there}
use Rattle.ring_runtime.specs.Seats.{RingSeatView}
use Rattle.ring_runtime.specs.Wiring.{AreWiredBelow, GivesIn, GivesOut, HasSamePlaces, IsNewBetween, Wires, WiresRow}
use Rattle.ring_runtime.specs.Wiring.{in_of, out_of}

-- a seat has the places that it has
pub same_places : (s : RingSeatView) → HasSamePlaces s s
same_places s = record { same = refl; ins = refl; outs = refl }

-- and after two changes
pub places_then : (s t u : RingSeatView) → HasSamePlaces s t → HasSamePlaces t u → HasSamePlaces s u
places_then s t u one two = record {
  same = two.same ∙ ap (λ (v : RingSeatView). record v { ins = u.ins; outs = u.outs }) one.same;
  ins = two.ins ∙ one.ins;
  outs = two.outs ∙ one.outs;
}

-- ---- an outlet that came to its seat

module _ (from to : ℕ) (out : OutletView) (old new : List RingSeatView) (gives : GivesOut from to out old new) where
  out_there : (d : RingSeatView)
      → get_or new from d ≡ record (get_or old from d) { outs = set (get_or old from d).outs to (Some out) }
  out_there d =
      let seat = get_or old from d in
      ap (λ seats. get_or seats from d) (gives.now d)
      ∙ get_or-set_same old from (record seat { outs = set seat.outs to (Some out) }) d gives.there

  out_elsewhere : (n : ℕ) (d : RingSeatView) → n ≢ from → get_or new n d ≡ get_or old n d
  out_elsewhere n d other =
      let seat = get_or old from d in
      ap (λ seats. get_or seats n d) (gives.now d)
      ∙ get_or-set_other old from n (record seat { outs = set seat.outs to (Some out) }) d other

  out_long : (d : RingSeatView) → length new ≡ length old
  out_long d =
      let seat = get_or old from d in
      ap length (gives.now d) ∙ length-set old from (record seat { outs = set seat.outs to (Some out) })

  out_here : (d : RingSeatView) → out_of new d from to ≡ Some out
  out_here d =
      ap (λ (s : RingSeatView). get_or s.outs to None) (out_there d)
      ∙ get_or-set_same (get_or old from d).outs to (Some out) None (gives.room d)

  out_others : (n r : ℕ) (d : RingSeatView) → (n ≡ from → r ≢ to) → out_of new d n r ≡ out_of old d n r
  out_others n r d other = elim (cases_eq n from) [
    | inl is ↦
        subst (λ z. out_of new d z r ≡ out_of old d z r) (sym is)
        (ap (λ (s : RingSeatView). get_or s.outs r None) (out_there d)
        ∙ get_or-set_other (get_or old from d).outs to r (Some out) None (other is))
    | inr away ↦ ap (λ (s : RingSeatView). get_or s.outs r None) (out_elsewhere n d away)
  ]

  out_ins : (n : ℕ) (d : RingSeatView) → (get_or new n d).ins ≡ (get_or old n d).ins
  out_ins n d = elim (cases_eq n from) [
    | inl is ↦
        subst (λ z. (get_or new z d).ins ≡ (get_or old z d).ins) (sym is)
        (ap (λ (s : RingSeatView). s.ins) (out_there d))
    | inr away ↦ ap (λ (s : RingSeatView). s.ins) (out_elsewhere n d away)
  ]

  out_places : (n : ℕ) (d : RingSeatView) → HasSamePlaces (get_or old n d) (get_or new n d)
  out_places n d = elim (cases_eq n from) [
    | inl is ↦
        subst (λ z. HasSamePlaces (get_or old z d) (get_or new z d)) (sym is)
        (subst (HasSamePlaces (get_or old from d)) (sym (out_there d))
        (record { same = refl; ins = refl; outs = length-set (get_or old from d).outs to (Some out) }))
    | inr away ↦ subst (HasSamePlaces (get_or old n d)) (sym (out_elsewhere n d away)) (same_places (get_or old n d))
  ]

-- ---- the other end that came to the other seat

module _ (from to : ℕ) (inn : Receiving) (old new : List RingSeatView) (gives : GivesIn from to inn old new) where
  in_there : (d : RingSeatView)
      → get_or new to d ≡ record (get_or old to d) { ins = set (get_or old to d).ins from (Some inn) }
  in_there d =
      let seat = get_or old to d in
      ap (λ seats. get_or seats to d) (gives.now d)
      ∙ get_or-set_same old to (record seat { ins = set seat.ins from (Some inn) }) d gives.there

  in_elsewhere : (n : ℕ) (d : RingSeatView) → n ≢ to → get_or new n d ≡ get_or old n d
  in_elsewhere n d other =
      let seat = get_or old to d in
      ap (λ seats. get_or seats n d) (gives.now d)
      ∙ get_or-set_other old to n (record seat { ins = set seat.ins from (Some inn) }) d other

  in_long : (d : RingSeatView) → length new ≡ length old
  in_long d =
      let seat = get_or old to d in
      ap length (gives.now d) ∙ length-set old to (record seat { ins = set seat.ins from (Some inn) })

  in_here : (d : RingSeatView) → in_of new d to from ≡ Some inn
  in_here d =
      ap (λ (s : RingSeatView). get_or s.ins from None) (in_there d)
      ∙ get_or-set_same (get_or old to d).ins from (Some inn) None (gives.room d)

  in_others : (n r : ℕ) (d : RingSeatView) → (n ≡ from → r ≢ to) → in_of new d r n ≡ in_of old d r n
  in_others n r d other = elim (cases_eq r to) [
    | inl is ↦
        subst (λ z. in_of new d z n ≡ in_of old d z n) (sym is)
        (ap (λ (s : RingSeatView). get_or s.ins n None) (in_there d)
        ∙ get_or-set_other (get_or old to d).ins from n (Some inn) None (λ same. other same is))
    | inr away ↦ ap (λ (s : RingSeatView). get_or s.ins n None) (in_elsewhere r d away)
  ]

  in_outs : (n : ℕ) (d : RingSeatView) → (get_or new n d).outs ≡ (get_or old n d).outs
  in_outs n d = elim (cases_eq n to) [
    | inl is ↦
        subst (λ z. (get_or new z d).outs ≡ (get_or old z d).outs) (sym is)
        (ap (λ (s : RingSeatView). s.outs) (in_there d))
    | inr away ↦ ap (λ (s : RingSeatView). s.outs) (in_elsewhere n d away)
  ]

  in_places : (n : ℕ) (d : RingSeatView) → HasSamePlaces (get_or old n d) (get_or new n d)
  in_places n d = elim (cases_eq n to) [
    | inl is ↦
        subst (λ z. HasSamePlaces (get_or old z d) (get_or new z d)) (sym is)
        (subst (HasSamePlaces (get_or old to d)) (sym (in_there d))
        (record { same = refl; ins = length-set (get_or old to d).ins from (Some inn); outs = refl }))
    | inr away ↦ subst (HasSamePlaces (get_or old n d)) (sym (in_elsewhere n d away)) (same_places (get_or old n d))
  ]

-- ---- both

module _ (from to : ℕ) (sender receiver : Actor) (old new : List RingSeatView)
    (wires : Wires from to sender receiver old new) where
  abbrev middle : List RingSeatView
  middle = wires.middle

  wired_long : (d : RingSeatView) → length new ≡ length old
  wired_long d = in_long from to wires.inn middle new wires.second d
      ∙ out_long from to wires.out old middle wires.first d

  wired_out : (d : RingSeatView) → out_of new d from to ≡ Some wires.out
  wired_out d =
      ap (λ outs. get_or outs to None) (in_outs from to wires.inn middle new wires.second from d)
      ∙ out_here from to wires.out old middle wires.first d

  wired_in : (d : RingSeatView) → in_of new d to from ≡ Some wires.inn
  wired_in d = in_here from to wires.inn middle new wires.second d

  wired_others : (n r : ℕ) (d : RingSeatView) → (n ≡ from → r ≢ to)
      → (out_of new d n r ≡ out_of old d n r) × (in_of new d r n ≡ in_of old d r n)
  wired_others n r d other = (
    ap (λ outs. get_or outs r None) (in_outs from to wires.inn middle new wires.second n d)
        ∙ out_others from to wires.out old middle wires.first n r d other,
    in_others from to wires.inn middle new wires.second n r d other
        ∙ ap (λ ins. get_or ins n None) (out_ins from to wires.out old middle wires.first r d),
  )

  wired_places : (n : ℕ) (d : RingSeatView) → HasSamePlaces (get_or old n d) (get_or new n d)
  wired_places n d =
      places_then (get_or old n d) (get_or middle n d) (get_or new n d)
      (out_places from to wires.out old middle wires.first n d)
      (in_places from to wires.inn middle new wires.second n d)

module _ (cast : Cast) (from to : Actor) where
  -- what is new between two actors, for the slots that are so
  between_is : (out out' : Option OutletView) (inn inn' : Option Receiving) → out' ≡ out → inn' ≡ inn
      → IsNewBetween cast from to out inn → IsNewBetween cast from to out' inn'
  between_is out out' inn inn' same same' new =
      subst (λ o. IsNewBetween cast from to o inn') (sym same)
      (subst (λ i. IsNewBetween cast from to out i) (sym same') new)

-- ---- the rings of one sender

-- no link to the next
pub row_pass : (cast : Cast) (from below : ℕ) (first old : List RingSeatView)
    → ((k : ℕ) → cast.joiners ≡ 2 ^ k → ¬ HasLink k cast.feeders (actor_at cast from) (actor_at cast below))
    → WiresRow cast from below first old → WiresRow cast from (below + 1) first old
row_pass cast from below first old apart before = record {
  all = before.all;
  same = before.same;
  done = λ r d low none none'. elim (cases_eq r below) [
    | inl is ↦
        let past = before.rest from r d (λ e. omega (arith, is)) in
        subst (λ z. IsNewBetween cast (actor_at cast from) (actor_at cast z)
        (out_of old d from r) (in_of old d r from)) (sym is)
        (between_is cast (actor_at cast from) (actor_at cast below) None
        (out_of old d from r) None (in_of old d r from) (past.0 ∙ none) (past.1 ∙ none') apart)
    | inr other ↦ before.done r d (omega (arith, low, other)) none none'
  ];
  rest = λ n r d past. before.rest n r d (λ e. let more = past e in omega (arith, more));
}

-- a new ring to the next
pub row_more : (cast : Cast) (from below : ℕ) (first old new : List RingSeatView)
    → ((k : ℕ) → cast.joiners ≡ 2 ^ k → HasLink k cast.feeders (actor_at cast from) (actor_at cast below))
    → WiresRow cast from below first old
    → Wires from below (actor_at cast from) (actor_at cast below) old new
    → WiresRow cast from (below + 1) first new
row_more cast from below first old new linked before wires =
    let sender = actor_at cast from in
    let receiver = actor_at cast below in
    record {
      all = wired_long from below sender receiver old new wires (there old from wires.first.there).0 ∙ before.all;
      same = λ n d low.
          places_then (get_or first n d) (get_or old n d) (get_or new n d) (before.same n d low)
          (wired_places from below sender receiver old new wires n d);
      done = λ r d low none none'. elim (cases_eq r below) [
        | inl is ↦
            subst (λ z. IsNewBetween cast sender (actor_at cast z) (out_of new d from z)
            (in_of new d z from)) (sym is)
            (between_is cast sender receiver (Some wires.out) (out_of new d from below) (Some wires.inn)
            (in_of new d below from)
            (wired_out from below sender receiver old new wires d)
            (wired_in from below sender receiver old new wires d) (linked, wires.are_new))
        | inr other ↦
            let past = wired_others from below sender receiver old new wires from r d (λ e. other) in
            between_is cast sender (actor_at cast r) (out_of old d from r) (out_of new d from r)
            (in_of old d r from) (in_of new d r from)
            past.0 past.1 (before.done r d (omega (arith, low, other)) none none')
      ];
      rest = λ n r d past.
          let old_past = before.rest n r d (λ e. let more = past e in omega (arith, more)) in
          let new_past = wired_others from below sender receiver old new wires n r d
          (λ e same. let more = past e in omega (arith, more, same)) in
          (new_past.0 ∙ old_past.0, new_past.1 ∙ old_past.1);
    }

module _ (cast : Cast) (from below : ℕ) (first old : List RingSeatView) where
  -- a new ring to the next, by what is known of these two actors
  pub row_next : (sender receiver : Actor) (new : List RingSeatView)
      → sender ≡ actor_at cast from → receiver ≡ actor_at cast below
      → ((k : ℕ) → cast.joiners ≡ 2 ^ k → HasLink k cast.feeders sender receiver)
      → WiresRow cast from below first old → Wires from below sender receiver old new
      → WiresRow cast from (below + 1) first new
  row_next sender receiver new is is' linked before wires =
      let sender' = actor_at cast from in
      row_more cast from below first old new
      (λ k grid. subst (λ a. HasLink k cast.feeders sender' a) is'
      (subst (λ a. HasLink k cast.feeders a receiver) is (linked k grid)))
      before
      (subst (λ a. Wires from below sender' a old new) is' (subst (λ a. Wires from below a receiver old new) is wires))

  -- and no link to it
  pub row_skip : (sender receiver : Actor)
      → sender ≡ actor_at cast from → receiver ≡ actor_at cast below
      → ((k : ℕ) → cast.joiners ≡ 2 ^ k → ¬ HasLink k cast.feeders sender receiver)
      → WiresRow cast from below first old → WiresRow cast from (below + 1) first old
  row_skip sender receiver is is' apart before =
      let sender' = actor_at cast from in
      row_pass cast from below first old
      (λ k grid. subst (λ a. ¬ HasLink k cast.feeders sender' a) is'
      (subst (λ a. ¬ HasLink k cast.feeders a receiver) is (apart k grid)))
      before

-- ---- the rings of all senders

-- the rings of the next sender
pub all_more : (cast : Cast) (below : ℕ) (first old new : List RingSeatView)
    → AreWiredBelow cast below first old
    → WiresRow cast below (count_of cast) old new
    → AreWiredBelow cast (below + 1) first new
all_more cast below first old new before row = record {
  all = row.all ∙ before.all;
  same = λ n d low.
      places_then (get_or first n d) (get_or old n d) (get_or new n d) (before.same n d low)
      (row.same n d (subst (λ z. n < z) (sym before.all) low));
  done = λ n r d low low' none none'. elim (cases_eq n below) [
    | inl is ↦
        let past = before.rest n r d (omega (arith, is)) in
        subst (λ z. IsNewBetween cast (actor_at cast z) (actor_at cast r)
        (out_of new d z r) (in_of new d r z)) (sym is)
        (row.done r d low' (subst (λ z. out_of old d z r ≡ None) is (past.0 ∙ none))
        (subst (λ z. in_of old d r z ≡ None) is (past.1 ∙ none')))
    | inr other ↦
        let past = row.rest n r d (λ e. absurd (other e)) in
        between_is cast (actor_at cast n) (actor_at cast r) (out_of old d n r)
        (out_of new d n r) (in_of old d r n) (in_of new d r n)
        past.0 past.1 (before.done n r d (omega (arith, low, other)) low' none none')
  ];
  rest = λ n r d past.
      let old_past = before.rest n r d (omega (arith, past)) in
      let new_past = row.rest n r d (λ e. omega (arith, past, e)) in
      (new_past.0 ∙ old_past.0, new_past.1 ∙ old_past.1);
}
