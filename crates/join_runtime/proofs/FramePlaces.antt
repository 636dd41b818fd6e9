-- The numbers of actors, and frames at their places.
use Rattle.std.proofs.Common.{◌≡◌, ℕ, zero, suc, ◌<◌, refl, sym, ap, ◌∙◌, Option, None, List, [], ◌∷◌, get_or, map}
use Rattle.std.proofs.Common.{length, arith, subst, Some}
use Rattle.std.specs.Prelude.{IsSome}
use Rattle.std.proofs.lemmas.List.{get_or-map, length-map}
use Rattle.ruled_links.specs.Ends.{Sending}
use Rattle.actor_core.specs.declared.cast.Cast.{Cast}
use Rattle.actor_core.specs.Numbers.{actor_at, count_of, number}
use Rattle.actor_core.proofs.OwnNumbers.{some_is, number_there}
use Rattle.actor_core.proofs.Beginnings.{there}
use Rattle.join_runtime.specs.Views.{SeatView, frame_of, address_of, Frame}
use Rattle.join_runtime.specs.Joins.{AllLead, Leads, slot_of}

-- so at two places stand two actors
pub actors_differ : (cast : Cast) (i k : ℕ) → i < count_of cast → k < count_of cast
    → actor_at cast i ≡ actor_at cast k → i ≡ k
actors_differ cast i k low low' e =
    some_is i k (sym (number_there cast i low) ∙ (ap (number cast) e
    ∙ number_there cast k low'))

-- ---- frames

-- at a place of the seats, the list of their frames has that seat's frame
pub frame_at : (seats : List SeatView) (n : ℕ) (d : SeatView) → n < length seats
    → get_or (map frame_of seats) n (frame_of d) ≡ frame_of (get_or seats n d)
frame_at seats n d low = get_or-map frame_of seats n d (frame_of d) low

-- at each place, the list of addresses of mouths has the address of the mouth there, and none where there is none
pub address_at : (mouths : List (Option Sending)) (r : ℕ) → get_or (map address_of mouths) r None
    ≡ address_of (get_or mouths r None)
address_at [] r = refl
address_at (m ∷ mouths) zero = refl
address_at (m ∷ mouths) (suc r) = address_at mouths r

-- as many seats as before, each with the frame that it had, have the same frames together
pub frames_same : (old new : List SeatView) → length new ≡ length old
    → ((n : ℕ) (d : SeatView) → n < length old → frame_of (get_or new n d) ≡ frame_of (get_or old n d))
    → map frame_of new ≡ map frame_of old
frames_same [] [] long same = refl
frames_same [] (y ∷ ys) long same = absurd (omega arith)
frames_same (x ∷ xs) [] long same = absurd (omega arith)
frames_same (x ∷ xs) (y ∷ ys) long same =
    let first : frame_of y ≡ frame_of x = same 0 x (omega arith) in
    let rest = frames_same xs ys (omega arith) (λ n d low. same (suc n) d (omega arith)) in
    λ i. first i ∷ rest i

-- where there is a mouth, it has an address
pub some_address : (o : Option Sending) → IsSome o → IsSome (address_of o)
some_address None is = is
some_address (Some mouth) is = refl

-- where each mouth leads from its seat to the seat at its place, so do all addresses of their frames
pub lead_frames : (seats : List SeatView) → ((n r : ℕ) (d : SeatView) → n < length seats → r < length seats
    → Leads (address_of (slot_of seats d n r)) (frame_of (get_or seats n d)) (frame_of (get_or seats r d)))
    → AllLead (map frame_of seats)
lead_frames seats leads n r f low low' =
    let here = subst (λ z. n < z) (length-map seats frame_of) low in
    let there' = subst (λ z. r < z) (length-map seats frame_of) low' in
    let d = (there seats n here).0 in
    let one = get_or-map frame_of seats n d f here in
    let other = get_or-map frame_of seats r d f there' in
    subst (λ (x : Frame). Leads (get_or x.addresses r None) x (get_or (map frame_of seats) r f)) (sym one)
    (subst (λ (x : Frame). Leads (get_or (frame_of (get_or seats n d)).addresses r None) (frame_of (get_or seats n d))
    x) (sym other)
    (subst (λ a. Leads a (frame_of (get_or seats n d)) (frame_of (get_or seats r d)))
    (sym (address_at (get_or seats n d).mouths r)) (leads n r d here there')))
