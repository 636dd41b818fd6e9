-- Where mouths all came to their senders, one stands exactly where there is a link.
use Rattle.std.proofs.Common.{◌≡◌, ℕ, ◌<◌, ◌^◌, ◌↔◌, refl, sym, ap, subst, ◌∙◌, Bool, Option, Some, None, List}
use Rattle.std.proofs.Common.{get_or, length, true≢false}
use Rattle.std.specs.Prelude.{slice_get, IsSome, Contains}
use Rattle.std.proofs.Math.Pow.{pow-lt}
use Rattle.std.proofs.lemmas.Nat.{xor_lt}
use Rattle.std.proofs.lemmas.Option.{slice_get-get_or}
use Rattle.epoch_tags.specs.declared.actor.Actor.{Actor}
use Rattle.epoch_tags.specs.Links.{HasLink, feeder_joiner, joiner_joiner, controller_feeder, feeder_controller}
use Rattle.epoch_tags.specs.Links.{joiner_controller, joiner_collector}
use Rattle.ruled_links.specs.Ends.{Sending}
use Rattle.ruled_links.specs.Inboxes.{opened}
use Rattle.trace_law.specs.declared.setting.Setting.{Setting}
use Rattle.actor_core.specs.declared.cast.Cast.{Cast}
use Rattle.actor_core.specs.declared.machines.Core.{Core}
use Rattle.actor_core.specs.Families.{IsActor}
use Rattle.actor_core.specs.Numbers.{at_number, cast_of, count_of, number}
use Rattle.actor_core.proofs.OwnNumbers.{number_actor}
use Rattle.join_runtime.specs.Views.{SeatView}
use Rattle.join_runtime.specs.Joins.{slot_of}
use Rattle.join_runtime.specs.Bouts.{SeatsView, mouth_at, mouth_of, seat_of}
use Rattle.join_runtime.specs.Seating.{AreNew, AreFilled, AreSeated}
use Rattle.join_runtime.proofs.FreshSenders.{contains_map, map_contains}
use Rattle.actor_core.proofs.Beginnings.{has_number, there}
use Rattle.actor_core.proofs.Seated.{number_low}

-- the two ends of a link are actors of the run
actors_linked : (setting : Setting) (from to : Actor) → HasLink setting.k setting.feeders from to → IsActor setting from
    × IsActor setting to
actors_linked setting _ _ (feeder_joiner low high) = (low, high)
actors_linked setting _ _ (joiner_joiner {i = i} {low = low} high within) =
    (high, xor_lt setting.k i (2 ^ low) high (pow-lt within))
actors_linked setting _ _ (controller_feeder low) = (tt, low)
actors_linked setting _ _ (feeder_controller low) = (low, tt)
actors_linked setting _ _ (joiner_controller low) = (low, tt)
actors_linked setting _ _ (joiner_collector low) = (low, tt)

-- the seats for the machines of a run's actors
module _ (setting : Setting) (cores : List Core) (seats : List SeatView)
    (seated : AreSeated (cast_of setting) cores seats) (many : length cores ≡ count_of (cast_of setting)) where
  abbrev cast : Cast
  cast = cast_of setting

  abbrev count : ℕ
  count = length cores

  abbrev first : List SeatView
  first = seated.first

  abbrev new : AreNew cast count cores first seated.mouths
  new = seated.new

  filled : AreFilled cast count seated.mouths first seats
  filled = subst (λ n. AreFilled cast n seated.mouths first seats) new.each seated.filled

  long : length seats ≡ count
  long = filled.all ∙ new.all

  module _ (spent : Bool) where
    -- these seats as those of a run, spent or not
    abbrev pub v : SeatsView
    v = record { cast = cast; seats = seats; spent = spent }

    mouth_is : (from to : Actor) (n r : ℕ) (d : SeatView) → number cast from ≡ Some n
        → number cast to ≡ Some r → n < length seats
        → mouth_of v from to ≡ slot_of seats d n r
    mouth_is from to n r d is is' low =
        ap (λ (o : Option ℕ). mouth_at (at_number None o (λ k. slice_get seats k))
        (number cast to)) is
        ∙ ap (mouth_at (slice_get seats n)) is'
        ∙ ap (λ (o : Option SeatView). mouth_at o (Some r)) (slice_get-get_or seats n d low)

    low_number : (a : Actor) (n : ℕ) → number cast a ≡ Some n → n < count
    low_number a n is = subst (λ z. n < z) (sym many) (number_low cast a n is)

    link_of : (from to : Actor) → IsSome (mouth_of v from to) → HasLink setting.k setting.feeders from to
    link_of from to some = go (number cast from) refl
      where
        by_mouth : (n r : ℕ) (d : SeatView) → number cast from ≡ Some n
            → number cast to ≡ Some r → n < count → (slot : Option Sending)
            → slot_of seats d n r ≡ slot → IsSome slot → HasLink setting.k setting.feeders from to
        by_mouth n r d is is' low None slot none = absurd (true≢false (sym none))
        by_mouth n r d is is' low (Some mouth) slot there' =
            let own = filled.own n r d mouth (subst (λ z. n < z) (sym new.all) low) slot in
            let one = new.new r d own.0 in
            let inbox = (get_or first r d).inbox in
            let found = contains_map (opened inbox.link inbox.to) one.names mouth
            (subst (λ ms. Contains ms mouth) one.mouths_are own.1.one) in
            let from_is : found.0 ≡ from =
            ap (λ (m : Sending). m.from) found.2
            ∙ (sym (number_actor cast mouth.from n own.1.sender)
            ∙ number_actor cast from n is) in
            subst (λ a. HasLink setting.k setting.feeders a to) from_is
            (subst (HasLink setting.k setting.feeders found.0) (number_actor cast to r is')
            (one.links.sound setting.k refl found.0 found.1))

        nowhere : (o : Option SeatView) → mouth_at o None ≡ None
        nowhere None = refl
        nowhere (Some seat) = refl

        to_there : (n : ℕ) → number cast from ≡ Some n → (o : Option ℕ)
            → number cast to ≡ o → HasLink setting.k setting.feeders from to
        to_there n is None is' =
            absurd (true≢false (sym (subst IsSome (ap (mouth_at (seat_of v from)) is' ∙ nowhere (seat_of v from))
            some)))
        to_there n is (Some r) is' =
            let low = low_number from n is in
            let low' = subst (λ z. n < z) (sym long) low in
            let d = (there seats n low').0 in
            by_mouth n r d is is' low (slot_of seats d n r) refl
            (subst IsSome (mouth_is from to n r d is is' low') some)

        go : (o : Option ℕ) → number cast from ≡ o
            → HasLink setting.k setting.feeders from to
        go None is = absurd (true≢false
            (sym (subst IsSome (ap (λ (o : Option ℕ). mouth_at (at_number None o (λ k. slice_get seats k))
            (number cast to)) is) some)))
        go (Some n) is = to_there n is (number cast to) refl

    -- at the seat of the one stands the mouth, at the number of the other
    pub slot_there : (from to : Actor) (n : ℕ) (d : SeatView) → HasLink setting.k setting.feeders from to
        → number cast from ≡ Some n
        → (r : ℕ) × (number cast to ≡ Some r) × IsSome (slot_of seats d n r)
    slot_there from to n d link is =
        let ends = actors_linked setting from to link in
        let num' = has_number setting to ends.1 in
        let low = low_number to num'.0 num'.1 in
        let low_from = low_number from n is in
        let one = new.new num'.0 d low in
        let inbox = (get_or first num'.0 d).inbox in
        let name = one.links.whole setting.k refl from n is (subst (λ z. n < z) many low_from)
        (subst (HasLink setting.k setting.feeders from)
        (sym (number_actor cast to num'.0 num'.1)) link) in
        let has = subst (λ ms. Contains ms (opened inbox.link inbox.to from)) (sym one.mouths_are)
        (map_contains (opened inbox.link inbox.to) one.names from name) in
        let given = filled.has n num'.0 d (opened inbox.link inbox.to from) low (record { one = has; sender = is }) in
        (num'.0, num'.1, given.1)

    has_mouth : (from to : Actor) → HasLink setting.k setting.feeders from to → IsSome (mouth_of v from to)
    has_mouth from to link =
        let ends = actors_linked setting from to link in
        let num = has_number setting from ends.0 in
        let low_seat = subst (λ z. num.0 < z) (sym long) (low_number from num.0 num.1) in
        let d = (there seats num.0 low_seat).0 in
        let slot = slot_there from to num.0 d link num.1 in
        subst IsSome (sym (mouth_is from to num.0 slot.0 d num.1 slot.1 low_seat)) slot.2

    -- one actor has a mouth to another exactly where there is a link
    pub all_linked : (from to : Actor) → (IsSome (mouth_of v from to) ↔ HasLink setting.k setting.feeders from to)
    all_linked from to = (link_of from to, has_mouth from to)
