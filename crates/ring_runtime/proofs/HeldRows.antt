-- The outlets of one seat, taken out of it, held with the ends to which they lead, and put back.
use Rattle.std.proofs.Common.{◌≡◌, ◌≢◌, ℕ, ◌+◌, ◌<◌, inl, inr, refl, sym, ap, subst, ◌∙◌, Option, None, List, []}
use Rattle.std.proofs.Common.{get_or, set, length, arith}
use Rattle.std.proofs.lemmas.Bool.{cases_eq}
use Rattle.std.proofs.lemmas.List.{get_or-set_other, get_or-set_same, get_or_default, length-set}
use Rattle.ring_links.specs.Rings.{Receiving}
use Rattle.ring_links.specs.Outlets.{OutletView}
use Rattle.ring_runtime.specs.Seats.{RingSeatView}
use Rattle.ring_runtime.specs.Wiring.{HasSamePlaces, in_of, out_of}
use Rattle.ring_runtime.specs.Joins.{AllHeld, AllHoldIn, AreEndsOf, HoldsBelow, HoldsFrom}
use Rattle.ring_runtime.proofs.NewRings.{places_then, same_places}

-- the two that were held together, by other names
before_is : (x x' : Option OutletView) (y y' : Option Receiving) (z : Option OutletView) (w : Option Receiving)
    → x ≡ x' → y ≡ y' → AllHeld x y z w → AllHeld x' y' z w
before_is x x' y y' z w one two held = subst (λ v. AllHeld x' v z w) two (subst (λ v. AllHeld v y z w) one held)

-- and what they are then
after_is : (x : Option OutletView) (y : Option Receiving) (z z' : Option OutletView) (w w' : Option Receiving)
    → z ≡ z' → w ≡ w' → AllHeld x y z w → AllHeld x y z' w'
after_is x y z z' w w' one two held = subst (λ v. AllHeld x y z' v) two (subst (λ v. AllHeld x y v w) one held)

-- one list of seats with other outlets for one of them
module _ (seats : List RingSeatView) (sender : ℕ) (low : sender < length seats) (d0 : RingSeatView)
    (outs : List (Option OutletView)) where
  abbrev changed : List RingSeatView
  changed = set seats sender (record (get_or seats sender d0) { outs = outs })

  at_sender : (d : RingSeatView) → get_or changed sender d ≡ record (get_or seats sender d0) { outs = outs }
  at_sender d = get_or-set_same seats sender (record (get_or seats sender d0) { outs = outs }) d low

  elsewhere : (n : ℕ) (d : RingSeatView) → n ≢ sender → get_or changed n d ≡ get_or seats n d
  elsewhere n d other = get_or-set_other seats sender n (record (get_or seats sender d0) { outs = outs }) d other

  -- but for its outlets each seat is as it was
  same_but : (n : ℕ) (d : RingSeatView)
      → record (get_or changed n d) { outs = [] } ≡ record (get_or seats n d) { outs = [] }
  same_but n d = elim (cases_eq n sender) [
    | inl is ↦
        subst (λ k. record (get_or changed k d) { outs = [] } ≡ record (get_or seats k d) { outs = [] }) (sym is)
        (ap (λ (s : RingSeatView). record s { outs = [] }) (at_sender d)
        ∙ ap (λ (s : RingSeatView). record s { outs = [] }) (get_or_default seats sender d0 d low))
    | inr other ↦ ap (λ (s : RingSeatView). record s { outs = [] }) (elsewhere n d other)
  ]

  same_ins : (n : ℕ) (d : RingSeatView) → (get_or changed n d).ins ≡ (get_or seats n d).ins
  same_ins n d = ap (λ (s : RingSeatView). s.ins) (same_but n d)

  these_outs : (d : RingSeatView) → (get_or changed sender d).outs ≡ outs
  these_outs d = ap (λ (s : RingSeatView). s.outs) (at_sender d)

  other_outs : (n : ℕ) (d : RingSeatView) → n ≢ sender → (get_or changed n d).outs ≡ (get_or seats n d).outs
  other_outs n d other = ap (λ (s : RingSeatView). s.outs) (elsewhere n d other)

module _ (old worked : List RingSeatView) (sender : ℕ) (d0 d1 : RingSeatView) (low : sender < length old)
    (outs outs' : List (Option OutletView)) (is : outs ≡ (get_or old sender d0).outs)
    (holds : AllHoldIn sender (length (set old sender (record (get_or old sender d0) { outs = [] }))) outs
    (set old sender (record (get_or old sender d0) { outs = [] })) outs' worked) where
  abbrev emptied : List RingSeatView
  emptied = set old sender (record (get_or old sender d0) { outs = [] })

  abbrev last : List RingSeatView
  last = set worked sender (record (get_or worked sender d1) { outs = outs' })

  many : length emptied ≡ length old
  many = length-set old sender (record (get_or old sender d0) { outs = [] })

  low' : sender < length worked
  low' = let long = holds.long in omega (arith, long, many, low)

  below : (r : ℕ) → r < length old → r < length emptied
  below r low_r = omega (arith, many, low_r)

  -- what the seat of a number is at the end
  seat_is : (n : ℕ) (d : RingSeatView) → n < length old
      → record (get_or last n d) { outs = [] } ≡ record (get_or old n d) { ins = (get_or worked n d).ins; outs = [] }
  seat_is n d low_n =
      same_but worked sender low' d1 outs' n d
      ∙ (ap (λ (s : RingSeatView). record s { outs = [] }) (holds.done n d (below n low_n)).rest
      ∙ ap (λ (s : RingSeatView). record s { ins = (get_or worked n d).ins }) (same_but old sender low d0 [] n d))

  outs_long : (n : ℕ) (d : RingSeatView) → n < length old → length (get_or last n d).outs ≡ length (get_or old n d).outs
  outs_long n d low_n = elim (cases_eq n sender) [
    | inl same ↦
        subst (λ k. length (get_or last k d).outs ≡ length (get_or old k d).outs) (sym same)
        (ap length (these_outs worked sender low' d1 outs' d)
        ∙ (holds.many ∙ ap length (is ∙ ap (λ (s : RingSeatView). s.outs) (get_or_default old sender d0 d low))))
    | inr other ↦
        ap length
        (other_outs worked sender low' d1 outs' n d other
        ∙ (ap (λ (s : RingSeatView). s.outs) (holds.done n d (below n low_n)).rest
        ∙ other_outs old sender low d0 [] n d other))
  ]

  places_still : (n : ℕ) (d : RingSeatView) → n < length old → HasSamePlaces (get_or old n d) (get_or last n d)
  places_still n d low_n = record {
    same = ap (λ (s : RingSeatView). record s { ins = (get_or last n d).ins; outs = (get_or last n d).outs })
        (seat_is n d low_n);
    ins =
        ap length (same_ins worked sender low' d1 outs' n d)
        ∙ ((holds.done n d (below n low_n)).long ∙ ap length (same_ins old sender low d0 [] n d));
    outs = outs_long n d low_n;
  }

  -- so the outlets of this seat were held, and nothing else changed
  pub held_from : HoldsFrom sender old (set worked sender (record (get_or worked sender d1) { outs = outs' }))
  held_from = record {
    long = length-set worked sender (record (get_or worked sender d1) { outs = outs' }) ∙ (holds.long ∙ many);
    held = λ r d low_r.
        let one = (holds.done r d (below r low_r)).held in
        let old_out : get_or outs r None ≡ out_of old d sender r =
        ap (λ xs. get_or xs r None) (is ∙ ap (λ (s : RingSeatView). s.outs) (get_or_default old sender d0 d low)) in
        let old_in = ap (λ xs. get_or xs sender None) (same_ins old sender low d0 [] r d) in
        let new_out = ap (λ xs. get_or xs r None) (sym (these_outs worked sender low' d1 outs' d)) in
        let new_in = ap (λ xs. get_or xs sender None) (sym (same_ins worked sender low' d1 outs' r d)) in
        let worked_in = get_or (get_or worked r d).ins sender None in
        after_is (out_of old d sender r) (in_of old d r sender) (get_or outs' r None) (out_of last d sender r)
        worked_in (in_of last d r sender) new_out new_in
        (before_is (get_or outs r None) (out_of old d sender r) (in_of emptied d r sender) (in_of old d r sender)
        (get_or outs' r None) worked_in old_out old_in one);
    other_outs = λ n r d low_n other.
        ap (λ xs. get_or xs r None)
        (other_outs worked sender low' d1 outs' n d other
        ∙ (ap (λ (s : RingSeatView). s.outs) (holds.done n d (below n low_n)).rest
        ∙ other_outs old sender low d0 [] n d other));
    other_ins = λ r n d low_r other.
        ap (λ xs. get_or xs n None) (same_ins worked sender low' d1 outs' r d)
        ∙ ((holds.done r d (below r low_r)).others n other
        ∙ ap (λ xs. get_or xs n None) (same_ins old sender low d0 [] r d));
    same = places_still;
  }

-- ---- one seat after another

-- before the first
pub below_none : (seats : List RingSeatView) → HoldsBelow 0 seats seats
below_none seats = record {
  long = refl;
  held = λ n r d low low'. absurd (omega arith);
  rest = λ n r d past low low'. (refl, refl);
  same = λ n d low. same_places (get_or seats n d);
}

-- the next seat
pub below_more : (below : ℕ) (first old new : List RingSeatView) → below < length old → HoldsBelow below first old
    → HoldsFrom below old new
    → HoldsBelow (below + 1) first new
below_more below first old new within before holds =
    let low_of : (n : ℕ) → n < length first → n < length old = λ n low. subst (λ z. n < z) (sym before.long) low in
    record {
      long = holds.long ∙ before.long;
      held = λ n r d low low'. elim (cases_eq n below) [
        | inl is ↦
            let past = before.rest n r d (omega (arith, is))
            (subst (λ z. n < z) before.long (omega (arith, within, is))) low' in
            before_is (out_of old d n r) (out_of first d n r) (in_of old d r n) (in_of first d r n)
            (out_of new d n r) (in_of new d r n) past.0 past.1
            (subst (λ z. AllHeld (out_of old d z r) (in_of old d r z) (out_of new d z r) (in_of new d r z)) (sym is)
            (holds.held r d (low_of r low')))
        | inr other ↦
            after_is (out_of first d n r) (in_of first d r n) (out_of old d n r) (out_of new d n r)
            (in_of old d r n) (in_of new d r n) (sym (holds.other_outs n r d (omega (arith, low, within)) other))
            (sym (holds.other_ins r n d (low_of r low') other))
            (before.held n r d (omega (arith, low, other)) low')
      ];
      rest = λ n r d past low low'.
          let other : n ≢ below = λ is. absurd (omega (arith, past, is)) in
          let old_past = before.rest n r d (omega (arith, past)) low low' in (
            holds.other_outs n r d (low_of n low) other ∙ old_past.0,
            holds.other_ins r n d (low_of r low') other ∙ old_past.1,
          );
      same = λ n d low. places_then (get_or first n d) (get_or old n d) (get_or new n d) (before.same n d low)
          (holds.same n d (low_of n low));
    }

-- the outlets of the next seat and the ends to which they lead are still ends of one ring
pub ends_still : (below : ℕ) (first old : List RingSeatView) → below < length old → HoldsBelow below first old
    → ((n r : ℕ) (d : RingSeatView) → n < length first → r < length first
    → AreEndsOf (out_of first d n r) (in_of first d r n))
    → (r : ℕ) (d : RingSeatView) → r < length old → AreEndsOf (out_of old d below r) (in_of old d r below)
ends_still below first old within before ends r d low =
    let within' : below < length first = subst (λ z. below < z) before.long within in
    let low' : r < length first = subst (λ z. r < z) before.long low in
    let past = before.rest below r d (omega arith) within' low' in
    subst (λ o. AreEndsOf o (in_of old d r below)) (sym past.0)
    (subst (λ i. AreEndsOf (out_of first d below r) i) (sym past.1) (ends below r d within' low'))

-- and it has as many places
pub many_still : (below : ℕ) (first old : List RingSeatView) → below < length old → HoldsBelow below first old
    → ((n : ℕ) (d : RingSeatView) → n < length first → length (get_or first n d).outs ≡ length first)
    → (d : RingSeatView) → length (get_or old below d).outs ≡ length old
many_still below first old within before many d =
    let within' : below < length first = subst (λ z. below < z) before.long within in
    (before.same below d within').outs ∙ (many below d within' ∙ sym before.long)
