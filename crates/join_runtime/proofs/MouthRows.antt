-- Mouths that come to their senders, one after another.
use Rattle.std.proofs.Common.{◌≡◌, ◌≢◌, ℕ, ◌+◌, ◌==◌, ◌<◌, ◌⊎◌, inl, inr, eqb-true, refl, sym, ap, subst, ◌∙◌, Bool}
use Rattle.std.proofs.Common.{true, false, Option, Some, None, List, [], ◌∷◌, ◌++◌, get_or, set, length, arith}
use borrow.Author.Tests.{eqb-false}
use Rattle.std.specs.Prelude.{IsSome, Contains}
use Rattle.std.proofs.lemmas.List.{length-set, get_or_default, get_or-set_same, get_or-set_other}
use Rattle.std.proofs.lemmas.List.Elements.{Contains-push, Contains-append_left, Contains-push_cases}
use Rattle.ruled_links.specs.Ends.{Sending}
use Rattle.actor_core.specs.declared.cast.Cast.{Cast}
use Rattle.actor_core.specs.Numbers.{number}
use Rattle.actor_core.proofs.OwnNumbers.{none_some, some_is}
use Rattle.join_runtime.specs.Views.{SeatView}
use Rattle.join_runtime.specs.Joins.{slot_of}
use Rattle.actor_core.proofs.Beginnings.{there}
use Rattle.join_runtime.specs.Seating.{AreAwake, AreFilled, HasSeat, HavePlaces, IsOneOf, Places, Puts}

-- ---- one mouth

module _ (cast : Cast) (receiver : ℕ) (mouth : Sending) (old new : List SeatView)
    (puts : Puts cast receiver mouth old new) where
  put_at : SeatView → SeatView
  put_at d = record (get_or old puts.sender d) { mouths = set (get_or old puts.sender d).mouths receiver (Some mouth) }

  long : length new ≡ length old
  unfolding put_at
  long = let d = (there old puts.sender puts.there).0 in ap length (puts.now d) ∙ length-set old puts.sender (put_at d)

  at_sender : (d : SeatView) → get_or new puts.sender d ≡ put_at d
  unfolding put_at
  at_sender d = ap (λ xs. get_or xs puts.sender d) (puts.now d)
      ∙ get_or-set_same old puts.sender (put_at d) d puts.there

  elsewhere : (n : ℕ) (d : SeatView) → n ≢ puts.sender → get_or new n d ≡ get_or old n d
  unfolding put_at
  elsewhere n d other = ap (λ xs. get_or xs n d) (puts.now d) ∙ get_or-set_other old puts.sender n (put_at d) d other

  same_seat : (n : ℕ) (d : SeatView) → get_or new n d ≡ record (get_or old n d) { mouths = (get_or new n d).mouths }
  unfolding put_at
  same_seat n d = go (n == puts.sender) refl
    where
      go : (b : Bool) → (n == puts.sender) ≡ b → get_or new n d
          ≡ record (get_or old n d) { mouths = (get_or new n d).mouths }
      go true e =
          let here = eqb-true n puts.sender e in
          subst (λ z. get_or new z d ≡ record (get_or old z d) { mouths = (get_or new z d).mouths }) (sym here)
          (subst (λ (s : SeatView). s ≡ record (get_or old puts.sender d) { mouths = s.mouths }) (sym (at_sender d))
          refl)
      go false e = subst (λ (s : SeatView). s ≡ record (get_or old n d) { mouths = s.mouths })
          (sym (elsewhere n d (eqb-false n puts.sender e))) refl

  same_many : (n : ℕ) (d : SeatView) → length (get_or new n d).mouths ≡ length (get_or old n d).mouths
  unfolding put_at
  same_many n d = go (n == puts.sender) refl
    where
      go : (b : Bool) → (n == puts.sender) ≡ b → length (get_or new n d).mouths ≡ length (get_or old n d).mouths
      go true e =
          subst (λ z. length (get_or new z d).mouths ≡ length (get_or old z d).mouths)
          (sym (eqb-true n puts.sender e))
          (ap (λ (s : SeatView). length s.mouths) (at_sender d)
          ∙ length-set (get_or old puts.sender d).mouths receiver (Some mouth))
      go false e = ap (λ (s : SeatView). length s.mouths) (elsewhere n d (eqb-false n puts.sender e))

  slot_here : (d : SeatView) → slot_of new d puts.sender receiver ≡ Some mouth
  unfolding put_at
  slot_here d = ap (λ (s : SeatView). get_or s.mouths receiver None) (at_sender d)
      ∙ get_or-set_same (get_or old puts.sender d).mouths receiver (Some mouth) None (puts.room d)

  slot_other : (n r : ℕ) (d : SeatView) → r ≢ receiver → slot_of new d n r ≡ slot_of old d n r
  unfolding put_at
  slot_other n r d other = go (n == puts.sender) refl
    where
      go : (b : Bool) → (n == puts.sender) ≡ b → slot_of new d n r ≡ slot_of old d n r
      go true e =
          subst (λ z. slot_of new d z r ≡ slot_of old d z r) (sym (eqb-true n puts.sender e))
          (ap (λ (s : SeatView). get_or s.mouths r None) (at_sender d)
          ∙ get_or-set_other (get_or old puts.sender d).mouths receiver r (Some mouth) None other)
      go false e = ap (λ (s : SeatView). get_or s.mouths r None) (elsewhere n d (eqb-false n puts.sender e))

  slot_elsewhere : (n r : ℕ) (d : SeatView) → n ≢ puts.sender → slot_of new d n r ≡ slot_of old d n r
  slot_elsewhere n r d other = ap (λ (s : SeatView). get_or s.mouths r None) (elsewhere n d other)

module _ (cast : Cast) (receiver : ℕ) (mouth : Sending) where
  -- where a mouth comes to a place of its sender's seat, it has come to its sender
  pub puts_there : (sender : ℕ) (seat : SeatView)
      (old new : List SeatView) → number cast mouth.from ≡ Some sender
      → HasSeat cast (length old) mouth.from → HavePlaces receiver old → seat ≡ get_or old sender seat
      → new ≡ set old sender (record seat { mouths = set seat.mouths receiver (Some mouth) })
      → Puts cast receiver mouth old new
  puts_there sender seat old new is has places here now =
      let same : has.place ≡ sender = some_is has.place sender (sym has.is ∙ is) in
      let low : sender < length old = omega (arith, same, has.there) in
      record {
        sender = sender;
        is = is;
        there = low;
        room = λ d. places sender d low;
        now = λ d.
            let own : seat ≡ get_or old sender d = here ∙ get_or_default old sender seat d low in
            now ∙ ap (λ (s : SeatView). set old sender (record s { mouths = set s.mouths receiver (Some mouth) })) own;
      }

-- ---- several

one_more : (cast : Cast) (n : ℕ) (mouths : List Sending) (last mouth : Sending)
    → IsOneOf cast n mouths mouth → IsOneOf cast n (mouths ++ last ∷ []) mouth
one_more cast n mouths last mouth is = record {
  one = Contains-append_left mouths (last ∷ []) mouth is.one;
  sender = is.sender;
}

some_still : (o : Option Sending) (mouth : Sending) → o ≡ Some mouth → IsSome o
some_still o mouth e = subst IsSome (sym e) refl

-- where no mouth comes to its sender, nothing changes
pub places_none : (cast : Cast) (receiver : ℕ) (seats : List SeatView)
    → Places cast receiver [] seats seats
places_none cast receiver seats = record {
  all = refl;
  same = λ n d low. refl;
  many = λ n d low. refl;
  others = λ n r d low other. refl;
  own = λ n d mouth low is. inl is;
  has = λ n d mouth is. let one = is.one in absurd (omega (arith, one.1));
}

-- where some mouths came to their senders and then one more, those and that one did
pub places_more : (cast : Cast) (receiver : ℕ) (mouths : List Sending) (mouth : Sending)
    (first old new : List SeatView) → Places cast receiver mouths first old
    → Puts cast receiver mouth old new
    → Places cast receiver (mouths ++ mouth ∷ []) first new
places_more cast receiver mouths mouth first old new before puts = record {
  all = long cast receiver mouth old new puts ∙ before.all;
  same = same;
  many = λ n d low. same_many cast receiver mouth old new puts n d ∙ before.many n d low;
  others = λ n r d low other. slot_other cast receiver mouth old new puts n r d other
      ∙ before.others n r d low other;
  own = own;
  has = has;
}
  where
    same : (n : ℕ) (d : SeatView) → n < length first → get_or new n d
        ≡ record (get_or first n d) { mouths = (get_or new n d).mouths }
    same n d low =
        same_seat cast receiver mouth old new puts n d
        ∙ ap (λ (s : SeatView). record s { mouths = (get_or new n d).mouths }) (before.same n d low)

    own : (n : ℕ) (d : SeatView) (m : Sending) → n < length first → slot_of new d n receiver ≡ Some m
        → (slot_of first d n receiver ≡ Some m) ⊎ IsOneOf cast n (mouths ++ mouth ∷ []) m
    own n d m low is = go (n == puts.sender) refl
      where
        go : (b : Bool) → (n == puts.sender) ≡ b → (slot_of first d n receiver ≡ Some m)
            ⊎ IsOneOf cast n (mouths ++ mouth ∷ []) m
        go true e =
            let here = eqb-true n puts.sender e in
            let same : mouth ≡ m = some_is mouth m (sym (slot_here cast receiver mouth old new puts d)
            ∙ subst (λ z. slot_of new d z receiver ≡ Some m) here is) in
            inr (record {
              one = subst (Contains (mouths ++ mouth ∷ [])) same (Contains-push mouths mouth);
              sender = subst (λ (x : Sending). number cast x.from ≡ Some n) same
                  (puts.is ∙ ap Some (sym here));
            })
        go false e =
            elim (before.own n d m low (sym (slot_elsewhere cast receiver mouth old new puts n receiver d
            (eqb-false n puts.sender e)) ∙ is)) [
              | inl first_is ↦ inl first_is
              | inr one ↦ inr (one_more cast n mouths mouth m one)
            ]

    has : (n : ℕ) (d : SeatView) (m : Sending) → IsOneOf cast n (mouths ++ mouth ∷ []) m → (n < length first)
        × IsSome (slot_of new d n receiver)
    has n d m is = elim (Contains-push_cases mouths mouth m is.one) [
      | inl one ↦
          let old_one = before.has n d m (record { one = one; sender = is.sender }) in
          (old_one.0, kept (n == puts.sender) refl old_one.1)
      | inr same ↦
          let here : puts.sender ≡ n = some_is puts.sender n
          (sym puts.is ∙ subst (λ (x : Sending). number cast x.from ≡ Some n) (sym same) is.sender) in (
            subst (λ z. n < z) before.all (subst (λ z. z < length old) here puts.there),
            subst (λ z. IsSome (slot_of new d z receiver)) here
                (some_still (slot_of new d puts.sender receiver) mouth
                (slot_here cast receiver mouth old new puts d)),
          )
    ]
      where
        kept : (b : Bool) → (n == puts.sender) ≡ b → IsSome (slot_of old d n receiver)
            → IsSome (slot_of new d n receiver)
        kept true e some =
            let here = eqb-true n puts.sender e in
            subst (λ z. IsSome (slot_of new d z receiver)) (sym here)
            (some_still (slot_of new d puts.sender receiver) mouth
            (slot_here cast receiver mouth old new puts d))
        kept false e some = subst IsSome (sym (slot_elsewhere cast receiver mouth old new puts n receiver d
            (eqb-false n puts.sender e))) some

-- ---- all receivers

-- where no seat has a mouth, the mouths of the receivers below 0 have come to their senders, and no other
pub filled_none : (cast : Cast) (mouths : List (List Sending)) (seats : List SeatView)
    → ((n r : ℕ) (d : SeatView) → n < length seats → slot_of seats d n r ≡ None)
    → AreFilled cast 0 mouths seats seats
filled_none cast mouths seats none = record {
  all = refl;
  same = λ n d low. refl;
  many = λ n d low. refl;
  own = λ n r d mouth low is. absurd (none_some mouth (sym (none n r d low) ∙ is));
  has = λ n r d mouth low is. absurd (omega arith);
}

-- where the mouths of the receivers below a number had come to their senders, and now those of that number, those of
-- the receivers below the next have
pub filled_more : (cast : Cast) (below : ℕ) (mouths : List (List Sending)) (first old new : List SeatView)
    → AreFilled cast below mouths first old
    → Places cast below (get_or mouths below []) old new
    → AreFilled cast (below + 1) mouths first new
filled_more cast below mouths first old new before places = record {
  all = places.all ∙ before.all;
  same = same;
  many = λ n d low. places.many n d (subst (λ z. n < z) (sym before.all) low) ∙ before.many n d low;
  own = own;
  has = has;
}
  where
    same : (n : ℕ) (d : SeatView) → n < length first → get_or new n d
        ≡ record (get_or first n d) { mouths = (get_or new n d).mouths; spent = (get_or new n d).spent }
    same n d low =
        let last = places.same n d (subst (λ z. n < z) (sym before.all) low) in
        last
        ∙ ap (λ (s : SeatView). record s { mouths = (get_or new n d).mouths }) (before.same n d low)
        ∙ ap (λ b. record (get_or first n d) { mouths = (get_or new n d).mouths; spent = b })
        (sym (ap (λ (s : SeatView). s.spent) last))

    own : (n r : ℕ) (d : SeatView) (m : Sending) → n < length first → slot_of new d n r ≡ Some m → (r < below + 1)
        × IsOneOf cast n (get_or mouths r []) m
    own n r d m low is = go (r == below) refl
      where
        low' : n < length old
        low' = subst (λ z. n < z) (sym before.all) low

        go : (b : Bool) → (r == below) ≡ b → (r < below + 1) × IsOneOf cast n (get_or mouths r []) m
        go true e =
            let here = eqb-true r below e in
            elim (places.own n d m low' (subst (λ z. slot_of new d n z ≡ Some m) here is)) [
              | inl old_is ↦ let past = before.own n below d m low old_is in absurd (omega (arith, past.0))
              | inr one ↦ (omega arith, subst (λ z. IsOneOf cast n (get_or mouths z []) m) (sym here) one)
            ]
        go false e =
            let past = before.own n r d m low (sym (places.others n r d low' (eqb-false r below e)) ∙ is) in
            (omega (arith, past.0), past.1)

    has : (n r : ℕ) (d : SeatView) (m : Sending) → r < below + 1 → IsOneOf cast n (get_or mouths r []) m
        → (n < length first) × IsSome (slot_of new d n r)
    has n r d m low is = go (r == below) refl
      where
        go : (b : Bool) → (r == below) ≡ b → (n < length first) × IsSome (slot_of new d n r)
        go true e =
            let here = eqb-true r below e in
            let now = places.has n d m (subst (λ z. IsOneOf cast n (get_or mouths z []) m) here is) in
            (subst (λ z. n < z) before.all now.0, subst (λ z. IsSome (slot_of new d n z)) (sym here) now.1)
        go false e =
            let other = eqb-false r below e in
            let past = before.has n r d m (omega arith) is in
            (past.0, subst IsSome (sym (places.others n r d (subst (λ z. n < z) (sym before.all) past.0) other)) past.1)

-- where each mouth came to its sender, and then all seats are awake, each mouth came to its sender
pub filled_awake : (cast : Cast) (below : ℕ) (mouths : List (List Sending)) (first old new : List SeatView)
    → AreFilled cast below mouths first old → AreAwake old new
    → AreFilled cast below mouths first new
filled_awake cast below mouths first old new filled awake = record {
  all = awake.all ∙ filled.all;
  same = λ n d low.
      let is = awake.each n d (within n low) in
      is ∙ ap (λ (s : SeatView). record s { spent = false }) (filled.same n d low)
      ∙ (ap (λ ms. record (get_or first n d) { mouths = ms; spent = false }) (sym (ap (λ (s : SeatView). s.mouths) is))
      ∙ ap (λ b. record (get_or first n d) { mouths = (get_or new n d).mouths; spent = b })
      (sym (ap (λ (s : SeatView). s.spent) is)));
  many = λ n d low. ap (λ (s : SeatView). length s.mouths) (awake.each n d (within n low)) ∙ filled.many n d low;
  own = λ n r d mouth low is. filled.own n r d mouth low (sym (slot_still n r d low) ∙ is);
  has = λ n r d mouth low is.
      let one = filled.has n r d mouth low is in
      (one.0, subst IsSome (sym (slot_still n r d one.0)) one.1);
}
  where
    within : (n : ℕ) → n < length first → n < length old
    within n low = subst (λ z. n < z) (sym filled.all) low

    slot_still : (n r : ℕ) (d : SeatView) → n < length first → slot_of new d n r ≡ slot_of old d n r
    slot_still n r d low = ap (λ (s : SeatView). get_or s.mouths r None) (awake.each n d (within n low))
