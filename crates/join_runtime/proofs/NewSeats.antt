-- Seats as they are made, one after another.
use Rattle.std.proofs.Common.{◌≡◌, ℕ, ◌+◌, ◌<◌, inl, inr, refl, sym, ap, subst, ◌∙◌, true, Option, List, [], ◌∷◌, ◌++◌}
use Rattle.std.proofs.Common.{get_or, length, arith, Some}
use Rattle.std.specs.Prelude.{Contains}
use Rattle.std.proofs.lemmas.Bool.{cases_lt}
use Rattle.std.proofs.Math.Seq.{get_or-append_seam}
use Rattle.std.proofs.lemmas.List.{length-append, get_or_append_left}
use Rattle.epoch_tags.specs.declared.actor.Actor.{Actor}
use Rattle.ruled_links.specs.Ends.{Sending}
use Rattle.ruled_links.specs.Inboxes.{InboxView, opened}
use Rattle.actor_core.specs.declared.cast.Cast.{Cast}
use Rattle.actor_core.specs.Numbers.{actor_at, count_of, number}
use Rattle.actor_core.specs.declared.machines.Core.{Core}
use Rattle.actor_core.proofs.Beginnings.{there}
use Rattle.actor_core.proofs.Seated.{number_low}
use Rattle.join_runtime.specs.Views.{SeatView}
use Rattle.join_runtime.specs.Seating.{AreNew, HasSeat, HavePlaces, IsNewSeat, IsRoom}
use Rattle.join_runtime.proofs.FreshSenders.{contains_map}

-- a machine with a room as it was made is a seat as it was made
pub room_seat : (cast : Cast) (n : ℕ) (core : Core) (actor : Actor) (inbox : InboxView) (mouths : List Sending)
    (places : List (Option Sending)) → actor ≡ actor_at cast n
    → IsRoom cast n inbox mouths places
    → IsNewSeat cast n core (record {
      cast = cast;
      actor = actor;
      core = core;
      inbox = inbox;
      mouths = places;
      spent = true;
    }) mouths
room_seat cast n core actor inbox mouths places is room = record {
  cast_is = refl;
  actor = is;
  core_is = refl;
  to = room.to ∙ sym is;
  received = room.received;
  names = room.names;
  below = room.below;
  numbers = room.numbers;
  links = room.links;
  senders = room.senders;
  mouths_are = room.mouths_are;
  many = room.many;
  no_mouth = room.no_mouth;
}

-- seats as they were made, and one more of the next number for one machine more, are seats as they were made, with the
-- mouths of their inboxes
pub new_more : (cast : Cast) (cores : List Core) (core : Core) (seats : List SeatView)
    (mouths : List (List Sending)) (seat : SeatView) (own : List Sending)
    → AreNew cast (length cores) cores seats mouths
    → IsNewSeat cast (length cores) core seat own
    → AreNew cast (length (cores ++ core ∷ [])) (cores ++ core ∷ []) (seats ++ seat ∷ [])
    (mouths ++ own ∷ [])
new_more cast cores core seats mouths seat own old one =
    subst (λ n. AreNew cast n (cores ++ core ∷ []) (seats ++ seat ∷ []) (mouths ++ own ∷ []))
    (sym (length-append cores (core ∷ [])))
    (record {
      all = length-append seats (seat ∷ []) ∙ ap (λ n. n + 1) old.all;
      each = length-append mouths (own ∷ []) ∙ ap (λ n. n + 1) old.each;
      new = new;
    })
  where
    new : (n : ℕ) (d : SeatView) → n < length cores + 1
        → IsNewSeat cast n (get_or (cores ++ core ∷ []) n d.core) (get_or (seats ++ seat ∷ []) n d)
        (get_or (mouths ++ own ∷ []) n [])
    new n d low = elim (cases_lt n (length cores)) [
      | inl less ↦
          let machine = get_or_append_left cores (core ∷ []) d.core n less in
          let left = get_or_append_left seats (seat ∷ []) d n (omega (arith, old.all)) in
          let right = get_or_append_left mouths (own ∷ []) [] n (omega (arith, old.each)) in
          subst (λ c. IsNewSeat cast n c (get_or (seats ++ seat ∷ []) n d)
          (get_or (mouths ++ own ∷ []) n [])) (sym machine)
          (subst (λ s. IsNewSeat cast n (get_or cores n d.core) s (get_or (mouths ++ own ∷ []) n []))
          (sym left)
          (subst (IsNewSeat cast n (get_or cores n d.core) (get_or seats n d)) (sym right)
          (old.new n d less)))
      | inr more ↦
          let is : length cores ≡ n = omega arith in
          let here : length seats ≡ n = old.all ∙ is in
          let there' : length mouths ≡ n = old.each ∙ is in
          let machine = subst (λ z. get_or (cores ++ core ∷ []) z d.core ≡ core) is
          (get_or-append_seam cores core [] d.core) in
          let left = subst (λ z. get_or (seats ++ seat ∷ []) z d ≡ seat) here (get_or-append_seam seats seat [] d) in
          let right = subst (λ z. get_or (mouths ++ own ∷ []) z [] ≡ own) there'
          (get_or-append_seam mouths own [] []) in
          subst (λ c. IsNewSeat cast n c (get_or (seats ++ seat ∷ []) n d)
          (get_or (mouths ++ own ∷ []) n [])) (sym machine)
          (subst (λ s. IsNewSeat cast n core s (get_or (mouths ++ own ∷ []) n [])) (sym left)
          (subst (IsNewSeat cast n core seat) (sym right)
          (subst (λ z. IsNewSeat cast z core seat own) is one)))
    ]

module _ (cast : Cast) (count : ℕ) (cores : List Core) (seats : List SeatView) (mouths : List (List Sending))
    (new : AreNew cast count cores seats mouths) (all : count ≡ count_of cast) where
  -- where there is a new seat for each actor, the sender of each mouth has one
  pub new_senders : (r : ℕ) (mouth : Sending) → r < length mouths → Contains (get_or mouths r []) mouth
      → HasSeat cast (length seats) mouth.from
  new_senders r mouth low has =
      let low' : r < length seats = omega (arith, new.all, new.each) in
      let d = (there seats r low').0 in
      let one = new.new r d (omega (arith, new.each)) in
      let inbox = (get_or seats r d).inbox in
      let found = contains_map (opened inbox.link inbox.to) one.names mouth
      (subst (λ ms. Contains ms mouth) one.mouths_are has) in
      let is_from : found.0 ≡ mouth.from = ap (λ (m : Sending). m.from) found.2 in
      let own = one.numbers.each found.1.0 found.0 found.1.1 in
      let is : number cast mouth.from ≡ Some own.0 =
      subst (λ a. number cast a ≡ Some own.0) (found.1.2 ∙ is_from) own.1 in
      let within = number_low cast mouth.from own.0 is in
      record { place = own.0; is = is; there = omega (arith, within, all, new.all) }

  -- and each seat has a place for each actor
  pub new_places : (r : ℕ) → r < length mouths → HavePlaces r seats
  new_places r low n d low' =
      let one = new.new n d (omega (arith, new.all)) in
      omega (arith, one.many, all, new.each)
