-- Each link's two ends held together, one row of mouths after another.
use Rattle.std.proofs.Common.{◌≡◌, ◌≢◌, ℕ, ◌+◌, ◌<◌, inl, inr, refl, sym, ap, subst, ◌∙◌, Option, Some, None, List}
use Rattle.std.proofs.Common.{get_or, map, length, arith}
use Rattle.std.proofs.lemmas.Bool.{cases_lt}
use Rattle.std.proofs.lemmas.List.{length-map}
use Rattle.ruled_links.specs.Ends.{Sending}
use Rattle.ruled_links.specs.Delivery.{number_of}
use Rattle.ruled_links.proofs.PartsLemmas.{name_once, senders_told}
use Rattle.join_runtime.specs.Views.{SeatView, Frame, lists_of, frame_of, address_of}
use Rattle.join_runtime.specs.Turns.{IsAlike}
use Rattle.join_runtime.specs.Joins.{AllLead, ActorsDiffer, Leads, Tells, IsSlotOf, IsGathered, IsKnown}
use Rattle.join_runtime.specs.Joins.{AreGatheredBelow, slot_of}
use Rattle.join_runtime.proofs.KnownCounts.{knows_told, knows_other, sender_told}
use Rattle.join_runtime.proofs.FramePlaces.{frames_same, frame_at, address_at}

-- ---- one mouth

-- where a seat was told what is left of a mouth, or there is no mouth, the seat is alike
pub tells_alike : (slot : Option Sending) (old new : SeatView) → Tells slot old new → IsAlike old new
tells_alike None old new is = record {
  core = ap (λ (s : SeatView). s.core) is;
  lists = ap lists_of is;
  frame = ap frame_of is;
}
tells_alike (Some mouth) old new is = record {
  core = ap (λ (s : SeatView). s.core) is.now;
  lists = ap lists_of is.now;
  frame = ap frame_of is.now ∙ ap (λ ss. record (frame_of old) { senders = ss })
      (senders_told mouth.from is.count old.inbox.senders);
}

-- and has the same mouths
pub tells_mouths : (slot : Option Sending) (old new : SeatView) → Tells slot old new → new.mouths ≡ old.mouths
tells_mouths None old new is = ap (λ (s : SeatView). s.mouths) is
tells_mouths (Some mouth) old new is = ap (λ (s : SeatView). s.mouths) is.now

-- and is spent only if it was
pub tells_spent : (slot : Option Sending) (old new : SeatView) → Tells slot old new → new.spent ≡ old.spent
tells_spent None old new is = ap (λ (s : SeatView). s.spent) is
tells_spent (Some mouth) old new is = ap (λ (s : SeatView). s.spent) is.now

-- it is known of this mouth
pub gathers : (slot : Option Sending) (old new : SeatView) → Tells slot old new → IsGathered slot new.inbox
gathers None old new is = tt
gathers (Some mouth) old new is = subst (λ (s : SeatView). IsKnown mouth s.inbox) (sym is.now) (record {
  count = is.count;
  agrees = is.agrees;
  knows = knows_told mouth.from is.count old.inbox.senders;
  sender = sender_told mouth.from mouth.from is.count old.inbox.senders ∙ is.sender;
})

-- two mouths of different senders
abbrev AreApart : Option Sending → Option Sending → Type 0
AreApart one other = (a b : Sending) → one ≡ Some a → other ≡ Some b → number_of a.from ≢ number_of b.from

-- and still of another
pub keeps : (one slot : Option Sending) (old new : SeatView) → AreApart one slot → Tells slot old new
    → IsGathered one old.inbox → IsGathered one new.inbox
keeps None slot old new apart is known = tt
keeps (Some mouth) None old new apart is known = subst (λ (s : SeatView). IsKnown mouth s.inbox) (sym is) known
keeps (Some mouth) (Some other) old new apart is known = subst (λ (s : SeatView). IsKnown mouth s.inbox) (sym is.now)
    (record {
      count = known.count;
      agrees = known.agrees;
      knows = knows_other other.from mouth.from is.count known.count old.inbox.senders (apart mouth other refl refl)
          known.knows;
      sender = sender_told mouth.from other.from is.count old.inbox.senders ∙ known.sender;
    })

-- ---- mouths lead where the frames say

leads_slot : (slot : Option Sending) (s t : SeatView) → Leads (address_of slot) (frame_of s) (frame_of t)
    → IsSlotOf slot t.inbox
leads_slot None s t leads = tt
leads_slot (Some mouth) s t leads = record { link = leads.link; to = leads.to }

leads_from : (slot : Option Sending) (mouth : Sending) (s t : SeatView)
    → Leads (address_of slot) (frame_of s) (frame_of t) → slot ≡ Some mouth → mouth.from ≡ s.actor
leads_from slot mouth s t leads is = (subst (λ (o : Option Sending). Leads (address_of o) (frame_of s) (frame_of t))
    is leads).from

-- a place of the seats is a place of their frames
pub within : (seats : List SeatView) (n : ℕ) → n < length seats → n < length (map frame_of seats)
within seats n low = subst (λ k. n < k) (sym (length-map seats frame_of)) low

module _ (seats : List SeatView) (leads : AllLead (map frame_of seats))
    (differ : ActorsDiffer (map frame_of seats)) where
  -- where the frames say that mouths lead to their receivers' inboxes, the mouth of one seat to another, if it has one,
  -- leads to that one's inbox
  pub leads_at : (d : SeatView) (n r : ℕ) → n < length seats → r < length seats
      → Leads (address_of (slot_of seats d n r)) (frame_of (get_or seats n d)) (frame_of (get_or seats r d))
  leads_at d n r low low' =
      let given = leads n r (frame_of d) (within seats n low) (within seats r low') in
      let one = frame_at seats n d low in
      let other = frame_at seats r d low' in
      subst (λ a. Leads a (frame_of (get_or seats n d)) (frame_of (get_or seats r d)))
      (address_at (get_or seats n d).mouths r)
      (subst (λ (f : Frame). Leads (get_or (frame_of (get_or seats n d)).addresses r None) (frame_of (get_or seats n d))
      f) other
      (subst (λ (f : Frame). Leads (get_or f.addresses r None) f (get_or (map frame_of seats) r (frame_of d)))
      one given))

  -- and is a mouth of that inbox
  pub slots_lead : (d : SeatView) (n r : ℕ) → n < length seats → r < length seats
      → IsSlotOf (slot_of seats d n r) (get_or seats r d).inbox
  slots_lead d n r low low' = leads_slot (slot_of seats d n r) (get_or seats n d) (get_or seats r d)
      (leads_at d n r low low')

  from_there : (d : SeatView) (n r : ℕ) (mouth : Sending) → n < length seats → r < length seats
      → slot_of seats d n r ≡ Some mouth → mouth.from ≡ (get_or seats n d).actor
  from_there d n r mouth low low' is = leads_from (slot_of seats d n r) mouth (get_or seats n d) (get_or seats r d)
      (leads_at d n r low low') is

  actors_apart : (d : SeatView) (k n : ℕ) → k < n → n < length seats
      → (get_or seats k d).actor ≢ (get_or seats n d).actor
  actors_apart d k n before low same =
      let one = ap (λ (f : Frame). f.actor) (frame_at seats k d (omega arith)) in
      let other = ap (λ (f : Frame). f.actor) (frame_at seats n d low) in
      differ k n (frame_of d) before (within seats n low) (one ∙ (same ∙ sym other))

  apart_at : (d : SeatView) (k n r : ℕ) → k < n → n < length seats → r < length seats
      → AreApart (slot_of seats d k r) (slot_of seats d n r)
  apart_at d k n r before low low' = λ a b is is' same.
      let one = from_there d k r a (omega arith) low' is in
      let other = from_there d n r b low low' is' in
      actors_apart d k n before low (sym one ∙ (name_once a.from b.from same ∙ other))

  -- the rows below n were gathered, and now row n is
  pub gathered_more : (n : ℕ) (new : List SeatView) → n < length seats → length new ≡ length seats
      → ((r : ℕ) (d : SeatView) → r < length seats → Tells (slot_of seats d n r) (get_or seats r d) (get_or new r d))
      → AreGatheredBelow n seats → AreGatheredBelow (n + 1) new
  gathered_more n new low long told below = λ k r d here there.
      let low' : r < length seats = omega (arith, long) in
      let before : k < length seats = omega arith in
      let same = tells_mouths (slot_of seats d n k) (get_or seats k d) (get_or new k d) (told k d before) in
      subst (λ (ms : List (Option Sending)). IsGathered (get_or ms r None) (get_or new r d).inbox) (sym same)
      (elim (cases_lt k n) [
        | inl less ↦ keeps (slot_of seats d k r) (slot_of seats d n r) (get_or seats r d) (get_or new r d)
            (apart_at d k n r less low low') (told r d low') (below k r d less low')
        | inr more ↦
            let is : n ≡ k = omega arith in
            subst (λ z. IsGathered (slot_of seats d z r) (get_or new r d).inbox) is
            (gathers (slot_of seats d n r) (get_or seats r d) (get_or new r d) (told r d low'))
      ])

  -- where each seat was told what is left of one seat's mouth to it, the frames are as they were
  pub tells_frames : (n : ℕ) (new : List SeatView) → length new ≡ length seats
      → ((r : ℕ) (d : SeatView) → r < length seats → Tells (slot_of seats d n r) (get_or seats r d) (get_or new r d))
      → map frame_of new ≡ map frame_of seats
  tells_frames n new long told = frames_same seats new long
      (λ r d low. (tells_alike (slot_of seats d n r) (get_or seats r d) (get_or new r d) (told r d low)).frame)

-- a seat that is alike and then told what is left is alike still
pub alike_more : (one other last : SeatView) (slot : Option Sending) → IsAlike one other → Tells slot other last
    → IsAlike one last
alike_more one other last slot before told =
    let after = tells_alike slot other last told in
    record { core = after.core ∙ before.core; lists = after.lists ∙ before.lists; frame = after.frame ∙ before.frame }
