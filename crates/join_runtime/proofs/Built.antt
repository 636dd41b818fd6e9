-- Seats whose mouths all came to their senders are joined, and have empty lists.
use Rattle.std.proofs.Common.{◌≡◌, ℕ, ◌+◌, ◌<◌, ◌^◌, ◌++◌, refl, sym, ap, subst, ◌∙◌, Bool, true, Option, Some, None}
use Rattle.std.proofs.Common.{List, [], get_or, map, length, arith}
use Rattle.std.specs.Prelude.{slice_get, slice_index, IsSome, Contains}
use Rattle.std.proofs.lemmas.List.{length-map, get_or-map}
use Rattle.std.proofs.lemmas.Option.{slice_get-get_or, slice_get_within}
use Rattle.epoch_tags.specs.declared.actor.Actor.{Actor}
use Rattle.epoch_tags.specs.declared.actor.Actor.TheVariants.{Collector}
use Rattle.ruled_links.specs.Ends.{Sending}
use Rattle.ruled_links.specs.Inboxes.{InboxView, OfSender, is_sender, fresh, opened, messages_of}
use Rattle.pair_collector.specs.Standing.{nothing_yet}
use Rattle.theta_pred.specs.Formula.{Meaning}
use Rattle.actor_core.specs.Elements.{IsAllAt}
use Rattle.actor_core.specs.declared.cast.Cast.{Cast}
use Rattle.actor_core.specs.declared.machines.Core.{Core}
use Rattle.actor_core.specs.Lists.{no_lists}
use Rattle.actor_core.specs.Standing.{JoinsBy, Stands, IsLive, given_by}
use Rattle.actor_core.specs.Families.{start_for}
use Rattle.actor_core.specs.Numbers.{actor_at, at_number, cast_of, count_of, number}
use Rattle.actor_core.specs.Players.{lists_among, lists_at}
use Rattle.actor_core.specs.Tasks.{Task}
use Rattle.actor_core.proofs.OwnNumbers.{number_actor, some_is}
use Rattle.join_runtime.specs.Views.{SeatView, Frame, frame_of, lists_of, address_of, contents, sent_by, sent_at}
use Rattle.join_runtime.specs.Kinds.{IsMachineOf}
use Rattle.join_runtime.specs.Joins.{AreJoined, AreSettled, IsPlaced, Leads, HasMouthTo, IsGathered, Knows, slot_of}
use Rattle.join_runtime.specs.Bouts.{StandsFor, lists_in}
use Rattle.join_runtime.specs.Seating.{IsFresh, AreFresh, IsNewSeat, AreNew, AreFilled, AreSeated}
use Rattle.join_runtime.specs.Early.{AreGiven, given_at, given_in}
use Rattle.join_runtime.proofs.KnownCounts.{is_sender-named}
use Rattle.join_runtime.proofs.OwnMachines.{begins_own}
use Rattle.join_runtime.proofs.FramePlaces.{address_at, some_address, lead_frames}
use Rattle.join_runtime.proofs.FreshSenders.{contains_map, map_contains, named, is_named, knows_fresh}
use Rattle.actor_core.proofs.Beginnings.{has_number, there}
use Rattle.actor_core.proofs.Seated.{core_at, core_there, lists_there, number_low}

-- the seats for the machines of a task's actors
module _ (task : Task) (cores : List Core) (seats : List SeatView)
    (seated : AreSeated (cast_of task.setting) cores seats)
    (many : length cores ≡ count_of (cast_of task.setting)) where
  abbrev cast : Cast
  cast = cast_of task.setting

  abbrev count : ℕ
  count = length cores

  abbrev first : List SeatView
  first = seated.first

  abbrev mouths : List (List Sending)
  mouths = seated.mouths

  abbrev new : AreNew cast count cores first mouths
  new = seated.new

  filled : AreFilled cast count mouths first seats
  filled = subst (λ n. AreFilled cast n mouths first seats) new.each seated.filled

  long : length seats ≡ count
  long = filled.all ∙ new.all

  low_of : (n : ℕ) → n < length seats → n < count
  low_of n low = subst (λ z. n < z) long low

  made : (n : ℕ) (d : SeatView) → n < count
      → IsNewSeat cast n (get_or cores n d.core) (get_or first n d) (get_or mouths n [])
  made n d low = new.new n d low

  still : (n : ℕ) (d : SeatView) → n < count → get_or seats n d
      ≡ record (get_or first n d) { mouths = (get_or seats n d).mouths; spent = (get_or seats n d).spent }
  still n d low = filled.same n d (subst (λ z. n < z) (sym new.all) low)

  -- each seat says who takes part
  pub seat_cast : (n : ℕ) (d : SeatView) → n < count → (get_or seats n d).cast ≡ cast
  seat_cast n d low = ap (λ (s : SeatView). s.cast) (still n d low) ∙ (made n d low).cast_is

  inbox_is : (n : ℕ) (d : SeatView) → n < count → (get_or seats n d).inbox ≡ (get_or first n d).inbox
  inbox_is n d low = ap (λ (s : SeatView). s.inbox) (still n d low)

  -- a mouth of the seat n to the seat r is one that was opened for n
  opened_is : (n r : ℕ) (d : SeatView) (mouth : Sending) → n < count → slot_of seats d n r ≡ Some mouth
      → (r < count) × (number cast mouth.from ≡ Some n)
      × ((names : List Actor) → (get_or first r d).inbox.senders ≡ map fresh names
      → is_sender mouth.from (map fresh names) ≡ true) × ((a : Actor)
      × (opened (get_or first r d).inbox.link (get_or first r d).inbox.to a ≡ mouth))
  opened_is n r d mouth low is =
      let own = filled.own n r d mouth (subst (λ z. n < z) (sym new.all) low) is in
      let one = new.new r d own.0 in
      let inbox = (get_or first r d).inbox in
      let found = contains_map (opened inbox.link inbox.to) one.names mouth
      (subst (λ ms. Contains ms mouth) one.mouths_are own.1.one) in
      let from_is : found.0 ≡ mouth.from = ap (λ (m : Sending). m.from) found.2 in (
        own.0,
        own.1.sender,
        λ names same. subst (λ (ss : List OfSender). is_sender mouth.from ss ≡ true) (sym one.senders ∙ same)
            (subst (λ a. is_sender a (map fresh one.names) ≡ true) from_is (is_named found.0 one.names found.1)),
        (found.0, found.2),
      )

  leads : (n r : ℕ) (d : SeatView) → n < length seats → r < length seats
      → Leads (address_of (slot_of seats d n r)) (frame_of (get_or seats n d)) (frame_of (get_or seats r d))
  leads n r d low low' = go (slot_of seats d n r) refl
    where
      go : (slot : Option Sending) → slot_of seats d n r ≡ slot
          → Leads (address_of slot) (frame_of (get_or seats n d)) (frame_of (get_or seats r d))
      go None is = tt
      go (Some mouth) is =
          let own = opened_is n r d mouth (low_of n low) is in
          let inbox = inbox_is r d (low_of r low') in
          let actor = ap (λ (s : SeatView). s.actor) (still n d (low_of n low)) ∙ (made n d (low_of n low)).actor in
          record {
            link = ap (λ (i : InboxView). i.link) inbox ∙ ap (λ (m : Sending). m.link) own.3.1;
            to = ap (λ (i : InboxView). i.to) inbox ∙ ap (λ (m : Sending). m.to) own.3.1;
            from = sym (number_actor cast mouth.from n own.1) ∙ sym actor;
          }

  placed : (n : ℕ) (f : Frame) → n < length (map frame_of seats)
      → IsPlaced cast n (get_or (map frame_of seats) n f)
  placed n f low =
      let here = subst (λ z. n < z) (length-map seats frame_of) low in
      let d = (there seats n here).0 in
      let same = still n d (low_of n here) in
      let one = made n d (low_of n here) in
      subst (IsPlaced cast n) (sym (get_or-map frame_of seats n d f here)) (record {
        cast_is = ap (λ (s : SeatView). s.cast) same ∙ one.cast_is;
        actor = ap (λ (s : SeatView). s.actor) same ∙ one.actor;
        to = ap (λ (s : SeatView). s.inbox.to) same ∙ (one.to ∙ sym (ap (λ (s : SeatView). s.actor) same));
      })

  heard : (r : ℕ) (a : Actor) (f : Frame) → r < length (map frame_of seats)
      → is_sender a (map fresh (get_or (map frame_of seats) r f).senders) ≡ true
      → HasMouthTo cast (map frame_of seats) r a
  heard r a f low is =
      let here = subst (λ z. r < z) (length-map seats frame_of) low in
      let d = (there seats r here).0 in
      let one = made r d (low_of r here) in
      let senders_are = ap (λ (i : InboxView). i.senders) (inbox_is r d (low_of r here)) ∙ one.senders in
      let is_one = sym (is_sender-named a (get_or seats r d).inbox.senders)
      ∙ subst (λ (x : Frame). is_sender a (map fresh x.senders) ≡ true) (get_or-map frame_of seats r d f here) is in
      let name = named a one.names (subst (λ (ss : List OfSender). is_sender a ss ≡ true) senders_are is_one) in
      let given_name = one.numbers.each name.0 a name.1 in
      let num : (n : ℕ) × (number cast a ≡ Some n) = (
        given_name.0,
        subst (λ x. number cast x ≡ Some given_name.0)
            name.2 given_name.1,
      ) in
      let inbox = (get_or first r d).inbox in
      let mouth = opened inbox.link inbox.to a in
      let has = subst (λ ms. Contains ms mouth) (sym one.mouths_are)
      (map_contains (opened inbox.link inbox.to) one.names a name) in
      let given = filled.has num.0 r d mouth (low_of r here) (record { one = has; sender = num.1 }) in
      let low_n : num.0 < length seats = subst (λ z. num.0 < z) (sym filled.all) given.0 in
      record {
        sender = num.0;
        is = num.1;
        there = subst (λ z. num.0 < z) (sym (length-map seats frame_of)) low_n;
        mouth = λ g.
            subst (λ (x : Frame). IsSome (get_or x.addresses r None)) (sym (get_or-map frame_of seats num.0 d g low_n))
            (subst IsSome (sym (address_at (get_or seats num.0 d).mouths r))
            (some_address (slot_of seats d num.0 r) given.1));
      }

  -- where each mouth of new seats came to its sender, there is a seat for each actor, each mouth leads to its
  -- receiver's inbox, and each sender of an inbox has a mouth
  pub all_joined : AreJoined cast (map frame_of seats)
  all_joined = record {
    all = length-map seats frame_of ∙ (long ∙ many);
    placed = placed;
    leads = lead_frames seats leads;
    heard = heard;
  }

  nothing_sent : (n r : ℕ) (d : SeatView) → n < count → sent_by (slot_of seats d n r) ≡ []
  nothing_sent n r d low = go (slot_of seats d n r) refl
    where
      go : (slot : Option Sending) → slot_of seats d n r ≡ slot → sent_by slot ≡ []
      go None is = refl
      go (Some mouth) is = ap (λ (m : Sending). contents m.sent) (sym (opened_is n r d mouth low is).3.1)

  nothing_received : (n : ℕ) (d : SeatView) → n < count → (get_or seats n d).inbox.received ≡ []
  nothing_received n d low = ap (λ (i : InboxView). i.received) (inbox_is n d low) ∙ (made n d low).received

  gathered : (n r : ℕ) (d : SeatView) → n < length seats → r < length seats
      → IsGathered (slot_of seats d n r) (get_or seats r d).inbox
  gathered n r d low low' = go (slot_of seats d n r) refl
    where
      go : (slot : Option Sending) → slot_of seats d n r ≡ slot → IsGathered slot (get_or seats r d).inbox
      go None is = tt
      go (Some mouth) is =
          let own = opened_is n r d mouth (low_of n low) is in
          let one = made r d (low_of r low') in
          let senders_are : (get_or seats r d).inbox.senders ≡ map fresh one.names =
          ap (λ (i : InboxView). i.senders) (inbox_is r d (low_of r low')) ∙ one.senders in
          let none : messages_of mouth.from (get_or seats r d).inbox.received ≡ [] =
          ap (messages_of mouth.from) (nothing_received r d (low_of r low')) in
          let unsent : mouth.sent ≡ [] = ap (λ (m : Sending). m.sent) (sym own.3.1) in
          record {
            count = 0;
            agrees = record {
              prefix = record { rest = []; joins = ap (λ xs. xs ++ []) none ∙ sym unsent };
              left = refl;
            };
            knows = subst (Knows mouth.from 0) (sym senders_are) (knows_fresh mouth.from one.names);
            sender = subst (λ (ss : List OfSender). is_sender mouth.from ss ≡ true) (sym senders_are)
                (own.2 one.names one.senders);
          }

  -- each machine stands for empty lists, and these are its seat's
  empty_lists : (n : ℕ) (d : SeatView) → n < count → lists_of (get_or seats n d) ≡ no_lists
  empty_lists n d low = λ i. record { received = λ from. none_of from i; sent = λ to. none_to to i }
    where
      none_of : (from : Actor) → (lists_of (get_or seats n d)).received from ≡ []
      none_of from = ap (λ xs. contents (messages_of from xs)) (nothing_received n d low)

      none_to : (to : Actor) → (lists_of (get_or seats n d)).sent to ≡ []
      none_to to = go (number (get_or seats n d).cast to)
        where
          go : (o : Option ℕ) → at_number [] o (sent_at (get_or seats n d).mouths) ≡ []
          go None = refl
          go (Some r) = nothing_sent n r d low

  -- no actor of these seats has received or sent anything
  pub all_empty : (spent : Bool) (a : Actor) → lists_in (record {
    cast = cast;
    seats = seats;
    spent = spent;
  }) a ≡ no_lists
  all_empty spent a = go (number cast a) refl
    where
      go : (o : Option ℕ) → number cast a ≡ o
          → lists_among lists_of cast seats a ≡ no_lists
      go None is = ap (λ (o : Option ℕ). lists_at lists_of (at_number None o (λ k. slice_get seats k))) is
      go (Some n) is =
          let low = subst (λ z. n < z) (sym many) (number_low cast a n is) in
          let low' = subst (λ z. n < z) (sym long) low in
          let d = (there seats n low').0 in
          lists_there lists_of cast seats a n d is low' ∙ empty_lists n d low

  -- ---- the machines, which are as they were made

  module _ (fresh : AreFresh task count cores) where
    machine : (n : ℕ) (d : SeatView) → n < count → IsFresh task n (get_or first n d).core
    machine n d low =
        subst (IsFresh task n) (sym (made n d low).core_is)
        (fresh.each n (get_or cores n d.core)
        (slice_get-get_or cores n d.core (subst (λ z. n < z) (sym fresh.all) low)))

    -- these seats heard senders alone, each machine is one for its seat's actor, none is spent, and what is left on
    -- each link is known
    pub all_settled : AreSettled seats
    all_settled = record {
      hear = λ n d low from none. ap (λ xs. contents (messages_of from xs)) (nothing_received n d (low_of n low));
      own = λ n d low.
          let same = still n d (low_of n low) in
          let one = machine n d (low_of n low) in
          let a = actor_at cast n in
          let actor_is : (get_or seats n d).actor ≡ a =
          ap (λ (s : SeatView). s.actor) same ∙ (made n d (low_of n low)).actor in
          subst (IsMachineOf (get_or seats n d).core) (sym actor_is)
          (subst (λ core. IsMachineOf core a) (sym (ap (λ (s : SeatView). s.core) same))
          (begins_own task a no_lists (get_or first n d).core one.stands));
      live = λ n d low. subst IsLive (sym (ap (λ (s : SeatView). s.core) (still n d (low_of n low))))
          (machine n d (low_of n low)).live;
      gathered = gathered;
    }

    -- each machine began as its actor begins, and stands for empty lists
    pub machine_there : (n : ℕ) (d : SeatView) → n < count
        → Stands (start_for task (actor_at cast n)) no_lists
        (get_or seats n d).core
    machine_there n d low =
        subst (Stands (start_for task (actor_at cast n)) no_lists)
        (sym (ap (λ (s : SeatView). s.core) (still n d low))) (machine n d low).stands

    -- there is a machine for each actor, which began as the task says and stands for the lists of its seat
    pub all_stand : (spent : Bool) → StandsFor task (record {
      cast = cast;
      seats = seats;
      spent = spent;
    })
    all_stand spent = record {
      cast_is = refl;
      all = length-map seats (λ (s : SeatView). s.core) ∙ (long ∙ many);
      stands = λ a is.
          let num = has_number task.setting a is in
          let low = subst (λ z. num.0 < z) (sym many) (number_low cast a num.0 num.1) in
          let low' = subst (λ z. num.0 < z) (sym long) low in
          let d = (there seats num.0 low').0 in (
            (get_or seats num.0 d).core,
            core_there (λ (s : SeatView). s.core) cast seats a num.0 d num.1 low',
            subst (λ ls. Stands (start_for task a) ls (get_or seats num.0 d).core)
                (sym (lists_there lists_of cast seats a num.0 d num.1 low'
                ∙ empty_lists num.0 d low))
                (subst (λ c. Stands (start_for task a) no_lists c)
                (sym (ap (λ (s : SeatView). s.core) (still num.0 d low)))
                (subst (λ z. Stands (start_for task z) no_lists (get_or first num.0 d).core)
                (number_actor cast a num.0 num.1) (machine num.0 d low).stands)),
          );
    }

    -- the collector's seat is the last
    pub none_given : (spent : Bool) → AreGiven (2 ^ task.setting.k) nothing_yet
        (given_in (record { cast = cast; seats = seats; spent = spent }))
    none_given spent j below =
        let place = task.setting.feeders + 2 ^ task.setting.k + 1 in
        let low : place < count = omega (arith, many) in
        let low' = subst (λ z. place < z) (sym long) low in
        let d = (there seats place low').0 in
        ap (λ given. slice_index given j) (ap given_at (core_there (λ (s : SeatView). s.core) cast
        seats Collector place d refl low')
        ∙ ap (λ (s : SeatView). given_by s.core) (still place d low)) ∙ (machine place d low).given j below

  -- the joiners join by the predicate by which the machines did
  pub all_join : (theta : Meaning) → IsAllAt (JoinsBy theta) cores
      → IsAllAt (JoinsBy theta) (map (λ (s : SeatView). s.core) seats)
  all_join theta joins n core is =
      let core_of = λ (s : SeatView). s.core in
      let low : n < length seats =
      subst (λ z. n < z) (length-map seats core_of) (slice_get_within (map core_of seats) n core is) in
      let d = (there seats n low).0 in
      let low' = low_of n low in
      let here = core_at core_of seats n d low in
      let own : get_or cores n d.core ≡ core =
      sym (ap core_of (still n d low') ∙ (made n d low').core_is)
      ∙ some_is (get_or seats n d).core core (sym here ∙ is) in
      subst (JoinsBy theta) own
      (joins n (get_or cores n d.core)
      (slice_get-get_or cores n d.core low'))
