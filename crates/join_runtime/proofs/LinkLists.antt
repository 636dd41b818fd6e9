-- What was received and sent between two actors of a run, once the two ends of each link were held together.
use Rattle.std.proofs.Common.{◌≡◌, ◌≢◌, ℕ, ◌<◌, ◌⊎◌, inl, inr, true≢false, refl, sym, ap, subst, ◌∙◌, Bool, true}
use Rattle.std.proofs.Common.{false, Option, Some, None, List, [], ◌∷◌, ◌++◌, get_or, map, length, append-nil, arith}
use Rattle.std.specs.Prelude.{slice_get, IsSome}
use Rattle.std.proofs.lemmas.List.{length-map, length-append, map-append}
use Rattle.row_cells.specs.Lists.{IsPrefix}
use Rattle.epoch_tags.specs.declared.actor.Actor.{Actor}
use Rattle.epoch_tags.specs.declared.actor.Actor.TheVariants.{Feeder}
use Rattle.epoch_tags.specs.declared.message.Msg.{Msg}
use Rattle.epoch_tags.specs.declared.message.Envelope.{Envelope}
use Rattle.ruled_links.specs.Ends.{Sending}
use Rattle.ruled_links.specs.Inboxes.{messages_of, is_sender, fresh, all_known}
use Rattle.trace_law.specs.Laws.{QuietIsFinished}
use Rattle.actor_core.specs.Lists.{ActorLists, no_lists}
use Rattle.actor_core.specs.Families.{AreFronts, core_in}
use Rattle.actor_core.specs.Standing.{Waits}
use Rattle.actor_core.specs.Numbers.{actor_at, at_number, count_of, number}
use Rattle.actor_core.specs.Players.{lists_at}
use Rattle.actor_core.specs.declared.machines.Core.{Core}
use Rattle.actor_core.specs.Tasks.{IsTask, Task}
use Rattle.actor_core.proofs.OwnNumbers.{number_actor, none_some, some_is, number_there}
use Rattle.actor_core.proofs.Beginnings.{there}
use Rattle.actor_core.proofs.Seated.{core_there, number_low, lists_there as seat_lists}
use Rattle.actor_core.proofs.Stilled.{still_complete}
use Rattle.join_runtime.specs.Views.{SeatView, Frame, lists_of, frame_of, address_of, contents, received_of, sent_by}
use Rattle.join_runtime.specs.Views.{sent_at, sent_through}
use Rattle.join_runtime.specs.Joins.{AreJoined, ActorsDiffer, Leads, AreSettled, HasMouthTo, IsKnown, IsGathered, Knows}
use Rattle.join_runtime.specs.Joins.{slot_of}
use Rattle.join_runtime.specs.Bouts.{SeatsView, StandsFor, cores_in, lists_in, AllRest, IsReady, IsStill}
use Rattle.join_runtime.specs.Bouts.{SomeReady}
use Rattle.join_runtime.specs.Endings.{is_collected}
use Rattle.join_runtime.proofs.KnownCounts.{is_sender-named, knows_none, knows_some}
use Rattle.join_runtime.proofs.FramePlaces.{actors_differ, frame_at, address_at}
use Rattle.join_runtime.proofs.LinkEnds.{within, leads_at}

-- no two seats of a run are of one actor
pub differ_of : (v : SeatsView) → AreJoined v.cast (map frame_of v.seats)
    → ActorsDiffer (map frame_of v.seats)
differ_of v joined k n d before low same =
    let frames = map frame_of v.seats in
    let is : k ≡ n = actors_differ v.cast k n (omega (arith, joined.all)) (omega (arith, joined.all))
    (sym (joined.placed k d (omega arith)).actor ∙ (same ∙ (joined.placed n d low).actor)) in
    omega arith

-- nothing went from the one actor to the other, which doesn't have it as a sender
pub record HasNone (s t : SeatView) (from to : Actor) : Type 0 where
  pub sent : (lists_of s).sent to ≡ []
  pub received : (lists_of t).received from ≡ []
  pub foreign : is_sender from t.inbox.senders ≡ false

-- or the one has a mouth to the other: what went through it, of which is known how much is left
pub record HasMouth (s t : SeatView) (from to : Actor) : Type 0 where
  pub mouth : Sending
  pub from_is : mouth.from ≡ from
  pub sent : (lists_of s).sent to ≡ contents mouth.sent
  pub received : (lists_of t).received from ≡ contents (messages_of mouth.from t.inbox.received)
  pub known : IsKnown mouth t.inbox

some_slot : (slot : Option Sending) → IsSome (address_of slot) → (mouth : Sending) × (slot ≡ Some mouth)
some_slot None is = absurd (true≢false (sym is))
some_slot (Some mouth) is = (mouth, refl)

module _ (v : SeatsView) (joined : AreJoined v.cast (map frame_of v.seats))
    (settled : AreSettled v.seats) where
  many : length v.seats ≡ count_of v.cast
  many = sym (length-map v.seats frame_of) ∙ joined.all

  low_of : (a : Actor) (n : ℕ) → number v.cast a ≡ Some n → n < length v.seats
  low_of a n is = subst (λ z. n < z) (sym many) (number_low v.cast a n is)

  -- of seats that are joined and settled, the lists of an actor are those of the seat at its number
  pub lists_there : (a : Actor) (n : ℕ) (d : SeatView) → number v.cast a ≡ Some n
      → lists_in v a ≡ lists_of (get_or v.seats n d)
  lists_there a n d is = seat_lists lists_of v.cast v.seats a n d is (low_of a n is)

  -- an actor that isn't of the run has received and sent nothing
  pub lists_none : (a : Actor) → number v.cast a ≡ None → lists_in v a ≡ no_lists
  lists_none a is = ap (λ (o : Option ℕ). lists_at lists_of (at_number None o (λ k. slice_get v.seats k))) is

  module _ (d : SeatView) where
    -- a sender has a mouth
    heard_at : (r : ℕ) (from : Actor) → r < length v.seats → is_sender from (get_or v.seats r d).inbox.senders ≡ true
        → HasMouthTo v.cast (map frame_of v.seats) r from
    heard_at r from low is =
        joined.heard r from (frame_of d) (within v.seats r low)
        (subst (λ (f : Frame). is_sender from (map fresh f.senders) ≡ true) (sym (frame_at v.seats r d low))
        (is_sender-named from (get_or v.seats r d).inbox.senders ∙ is))

    sent_by_number : (n : ℕ) (to : Actor) (o : Option ℕ) → n < length v.seats → number v.cast to ≡ o
        → (lists_of (get_or v.seats n d)).sent to ≡ at_number [] o (sent_at (get_or v.seats n d).mouths)
    sent_by_number n to o low is =
        let s = get_or v.seats n d in
        let placed : s.cast ≡ v.cast = subst (λ (f : Frame). f.cast ≡ v.cast) (frame_at v.seats n d low)
        (joined.placed n (frame_of d) (within v.seats n low)).cast_is in
        ap (λ c. sent_through c s.mouths to) placed ∙ ap (λ (o : Option ℕ). at_number [] o (sent_at s.mouths)) is

    sent_there : (n r : ℕ) (to : Actor) → n < length v.seats → number v.cast to ≡ Some r
        → (lists_of (get_or v.seats n d)).sent to ≡ sent_by (slot_of v.seats d n r)
    sent_there n r to = sent_by_number n to (Some r)

    -- to an actor that isn't there nothing was sent
    pub sent_nowhere : (n : ℕ) (to : Actor) → n < length v.seats → number v.cast to ≡ None
        → (lists_of (get_or v.seats n d)).sent to ≡ []
    sent_nowhere n to = sent_by_number n to None

    -- of an actor that isn't there nothing was received
    pub received_of_none : (r : ℕ) (from : Actor) → r < length v.seats → number v.cast from ≡ None
        → (lists_of (get_or v.seats r d)).received from ≡ []
    received_of_none r from low is = go (is_sender from (get_or v.seats r d).inbox.senders) refl
      where
        go : (b : Bool) → is_sender from (get_or v.seats r d).inbox.senders ≡ b
            → (lists_of (get_or v.seats r d)).received from ≡ []
        go true e = let has = heard_at r from low e in absurd (none_some has.sender (sym is ∙ has.is))
        go false e = settled.hear r d low from e

    -- of two actors that are there, the one has a mouth to the other, or nothing goes from it to that one
    pub between : (n r : ℕ) (from to : Actor) → number v.cast from ≡ Some n
        → number v.cast to ≡ Some r
        → HasNone (get_or v.seats n d) (get_or v.seats r d) from to
        ⊎ HasMouth (get_or v.seats n d) (get_or v.seats r d) from to
    between n r from to from_is to_is = go (slot_of v.seats d n r) refl
      where
        low : n < length v.seats
        low = low_of from n from_is

        low' : r < length v.seats
        low' = low_of to r to_is

        actor_is : (get_or v.seats n d).actor ≡ from
        actor_is = subst (λ (f : Frame). f.actor ≡ actor_at v.cast n) (frame_at v.seats n d low)
            (joined.placed n (frame_of d) (within v.seats n low)).actor
            ∙ number_actor v.cast from n from_is

        from_of : (mouth : Sending) → slot_of v.seats d n r ≡ Some mouth → mouth.from ≡ from
        from_of mouth is =
            (subst (λ (o : Option Sending). Leads (address_of o) (frame_of (get_or v.seats n d))
            (frame_of (get_or v.seats r d))) is (leads_at v.seats joined.leads (differ_of v joined)
            d n r low low')).from ∙ actor_is

        silent : slot_of v.seats d n r ≡ None → (b : Bool) → is_sender from (get_or v.seats r d).inbox.senders ≡ b
            → is_sender from (get_or v.seats r d).inbox.senders ≡ false
        silent none true e =
            let has = heard_at r from low' e in
            let same : n ≡ has.sender = some_is n has.sender (sym from_is ∙ has.is) in
            let at = has.mouth (frame_of d) in
            let here = subst (λ z. IsSome (get_or (get_or (map frame_of v.seats) z (frame_of d)).addresses r None))
            (sym same) at in
            let mine = subst (λ (f : Frame). IsSome (get_or f.addresses r None)) (frame_at v.seats n d low) here in
            let slot = some_slot (slot_of v.seats d n r) (subst IsSome (address_at (get_or v.seats n d).mouths r)
            mine) in
            absurd (none_some slot.0 (sym none ∙ slot.1))
        silent none false e = e

        go : (slot : Option Sending) → slot_of v.seats d n r ≡ slot
            → HasNone (get_or v.seats n d) (get_or v.seats r d) from to
            ⊎ HasMouth (get_or v.seats n d) (get_or v.seats r d) from to
        go None e = inl (record {
          sent = sent_there n r to low to_is ∙ ap sent_by e;
          received = settled.hear r d low' from (silent e (is_sender from (get_or v.seats r d).inbox.senders) refl);
          foreign = silent e (is_sender from (get_or v.seats r d).inbox.senders) refl;
        })
        go (Some mouth) e = inr (record {
          mouth = mouth;
          from_is = from_of mouth e;
          sent = sent_there n r to low to_is ∙ ap sent_by e;
          received = ap (λ a. received_of (get_or v.seats r d).inbox.received a) (sym (from_of mouth e));
          known = subst (λ (o : Option Sending). IsGathered o (get_or v.seats r d).inbox) e
              (settled.gathered n r d low low');
        })

-- ---- fronts

-- where envelopes are a front of others, so are their messages of the others'
pub contents_front : (xs ys : List Envelope) → IsPrefix xs ys → IsPrefix (contents xs) (contents ys)
contents_front xs ys front = record {
  rest = contents front.rest;
  joins = sym (map-append (λ (e : Envelope). e.msg) xs front.rest) ∙ ap contents front.joins;
}

front_of_none : (xs ys : List Msg) → xs ≡ [] → IsPrefix xs ys
front_of_none xs ys e = record { rest = ys; joins = ap (λ zs. zs ++ ys) e }

front_between : (s t : SeatView) (from to : Actor) → HasNone s t from to ⊎ HasMouth s t from to
    → IsPrefix ((lists_of t).received from) ((lists_of s).sent to)
front_between s t from to (inl none) = front_of_none _ _ none.received
front_between s t from to (inr has) =
    let front = contents_front (messages_of has.mouth.from t.inbox.received) has.mouth.sent has.known.agrees.prefix in
    subst (λ ms. IsPrefix ms ((lists_of s).sent to)) (sym has.received)
    (subst (λ ms. IsPrefix (contents (messages_of has.mouth.from t.inbox.received)) ms) (sym has.sent) front)

no_rest : {X : Type 0} (xs ys rest : List X) → xs ++ rest ≡ ys → length rest ≡ 0 → xs ≡ ys
no_rest xs ys [] e long = sym (append-nil xs) ∙ e
no_rest xs ys (z ∷ rest) e long = absurd (omega arith)

-- where nothing is known to be left, all was received
quiet_between : (s t : SeatView) (from to : Actor) → all_known t.inbox.senders ≡ 0 → HasNone s t from to
    ⊎ HasMouth s t from to → (lists_of t).received from ≡ (lists_of s).sent to
quiet_between s t from to rest (inl none) = none.received ∙ sym none.sent
quiet_between s t from to rest (inr has) =
    let known = has.known in
    let left = known.agrees.left ∙ knows_none has.mouth.from known.count t.inbox.senders rest known.sender
    known.knows in
    has.received ∙ (ap contents (no_rest (messages_of has.mouth.from t.inbox.received)
    has.mouth.sent known.agrees.prefix.rest known.agrees.prefix.joins left) ∙ sym has.sent)

module _ (v : SeatsView) (joined : AreJoined v.cast (map frame_of v.seats))
    (settled : AreSettled v.seats) where
  -- of seats that are joined and settled, what each actor received of another is a front of what that one sent to it
  pub fronts : AreFronts (lists_in v)
  fronts from to = go (number v.cast from) (number v.cast to) refl refl
    where
      go : (i k : Option ℕ) → number v.cast from ≡ i → number v.cast to ≡ k
          → IsPrefix ((lists_in v to).received from) ((lists_in v from).sent to)
      go i None from_is to_is = front_of_none _ _ (ap (λ (ls : ActorLists). ls.received from)
          (lists_none v joined settled to to_is))
      go None (Some r) from_is to_is =
          let t = there v.seats r (low_of v joined settled to r to_is) in
          front_of_none _ _ (ap (λ (ls : ActorLists). ls.received from) (lists_there v joined settled to r t.0 to_is)
          ∙ received_of_none v joined settled t.0 r from (low_of v joined settled to r to_is) from_is)
      go (Some n) (Some r) from_is to_is =
          let d = (there v.seats r (low_of v joined settled to r to_is)).0 in
          let front = front_between (get_or v.seats n d) (get_or v.seats r d) from to
          (between v joined settled d n r from to from_is to_is) in
          subst (λ (ls : ActorLists). IsPrefix (ls.received from) ((lists_in v from).sent to))
          (sym (lists_there v joined settled to r d to_is))
          (subst (λ (ls : ActorLists). IsPrefix ((lists_of (get_or v.seats r d)).received from) (ls.sent to))
          (sym (lists_there v joined settled from n d from_is)) front)

  -- and where all rest, it is all that was sent
  pub all_received : AllRest v.seats → (from to : Actor) → (lists_in v to).received from ≡ (lists_in v from).sent to
  all_received rest from to = go (number v.cast from) (number v.cast to) refl refl
    where
      go : (i k : Option ℕ) → number v.cast from ≡ i → number v.cast to ≡ k
          → (lists_in v to).received from ≡ (lists_in v from).sent to
      go None None from_is to_is =
          ap (λ (ls : ActorLists). ls.received from) (lists_none v joined settled to to_is)
          ∙ sym (ap (λ (ls : ActorLists). ls.sent to) (lists_none v joined settled from from_is))
      go (Some n) None from_is to_is =
          let d = (there v.seats n (low_of v joined settled from n from_is)).0 in
          ap (λ (ls : ActorLists). ls.received from) (lists_none v joined settled to to_is)
          ∙ sym (ap (λ (ls : ActorLists). ls.sent to) (lists_there v joined settled from n d from_is)
          ∙ sent_nowhere v joined settled d n to (low_of v joined settled from n from_is) to_is)
      go None (Some r) from_is to_is =
          let d = (there v.seats r (low_of v joined settled to r to_is)).0 in
          (ap (λ (ls : ActorLists). ls.received from) (lists_there v joined settled to r d to_is)
          ∙ received_of_none v joined settled d r from (low_of v joined settled to r to_is) from_is)
          ∙ sym (ap (λ (ls : ActorLists). ls.sent to) (lists_none v joined settled from from_is))
      go (Some n) (Some r) from_is to_is =
          let d = (there v.seats r (low_of v joined settled to r to_is)).0 in
          ap (λ (ls : ActorLists). ls.received from) (lists_there v joined settled to r d to_is)
          ∙ (quiet_between (get_or v.seats n d) (get_or v.seats r d) from to
          (rest r d (low_of v joined settled to r to_is)).none_known
          (between v joined settled d n r from to from_is to_is)
          ∙ sym (ap (λ (ls : ActorLists). ls.sent to) (lists_there v joined settled from n d from_is)))

-- ---- where something is known to be left, some link isn't empty

left_between : (s t : SeatView) (from to : Actor) → is_sender from t.inbox.senders ≡ true
    → ((n : ℕ) → Knows from n t.inbox.senders → 0 < n) → HasNone s t from to ⊎ HasMouth s t from to
    → (lists_of t).received from ≢ (lists_of s).sent to
left_between s t from to is some (inl none) same = true≢false (sym is ∙ none.foreign)
left_between s t from to is some (inr has) same =
    let known = has.known in
    let got = messages_of has.mouth.from t.inbox.received in
    let more = some known.count (subst (λ a. Knows a known.count t.inbox.senders) has.from_is known.knows) in
    let long = ap length (sym has.received ∙ (same ∙ has.sent)) in
    let one = length-map got (λ (e : Envelope). e.msg) in
    let other = length-map has.mouth.sent (λ (e : Envelope). e.msg) in
    let whole = sym (ap length known.agrees.prefix.joins) ∙ length-append got known.agrees.prefix.rest in
    let left = known.agrees.left in
    omega (arith, more, long, one, other, whole, left)

module _ (v : SeatsView) (joined : AreJoined v.cast (map frame_of v.seats))
    (settled : AreSettled v.seats) where
  -- no actor's machine would begin
  waits_there : AllRest v.seats → (a : Actor) (core : Core) → core_in v.cast (cores_in v) a ≡ Some core
      → Waits core
  waits_there rest a core is = go (number v.cast a) refl
    where
      go : (o : Option ℕ) → number v.cast a ≡ o → Waits core
      go None num =
          let none = ap (λ (o : Option ℕ). at_number None o (λ k. slice_get (cores_in v) k)) num in
          absurd (none_some core (sym none ∙ is))
      go (Some n) num =
          let low = low_of v joined settled a n num in
          let d = (there v.seats n low).0 in
          let here = core_there (λ (s : SeatView). s.core) v.cast v.seats a n d num low in
          let same = some_is (get_or v.seats n d).core core (sym here ∙ is) in
          subst Waits same (rest n d low).waits

  -- so the collector is complete
  pub rest_collected : AllRest v.seats → QuietIsFinished → (task : Task) → IsTask task → StandsFor task v
      → is_collected v ≡ true
  rest_collected rest law task is_task stands =
      still_complete task v.cast (cores_in v) (lists_in v) stands
      (fronts v joined settled) (λ from to link. all_received v joined settled rest from to)
      (λ p low core is. waits_there rest (Feeder p) core is) law is_task

  -- where all rest, nothing is left on any link, and no machine would begin
  pub still : AllRest v.seats → IsStill v
  still rest = record { received = all_received v joined settled rest; waits = λ n d low. (rest n d low).waits }

  ready_moves : (r : ℕ) (d : SeatView) → r < length v.seats → IsReady (get_or v.seats r d) → ¬ IsStill v
  ready_moves r d low (inr free) is = free (is.waits r d low)
  ready_moves r d low (inl some) is =
      let found = knows_some (get_or v.seats r d).inbox.senders some in
      let from = found.0 in
      let has = heard_at v joined settled d r from low found.1 in
      let to = actor_at v.cast r in
      let to_is = number_there v.cast r (subst (λ z. r < z) (many v joined settled) low) in
      let same = ap (λ (ls : ActorLists). ls.received from) (sym (lists_there v joined settled to r d to_is))
      ∙ (is.received from to ∙ ap (λ (ls : ActorLists). ls.sent to)
      (lists_there v joined settled from has.sender d has.is)) in
      left_between (get_or v.seats has.sender d) (get_or v.seats r d) from to found.1 found.2
      (between v joined settled d has.sender r from to has.is to_is) same

  -- where some seat is ready, it isn't so that nothing is left on any link and no machine would begin
  pub busy : SomeReady v.seats → ¬ IsStill v
  busy some = let d = (there v.seats some.place some.there).0 in ready_moves some.place d some.there (some.ready d)
