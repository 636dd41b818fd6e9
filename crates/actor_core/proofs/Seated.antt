-- What holds of the seats of a run, one for each number, holds of its actors.
use Rattle.std.proofs.Common.{◌≡◌, ℕ, ◌+◌, ◌<◌, ltb, ltb-true, refl, sym, ap, subst, ◌∙◌, Bool, true, false, cond}
use Rattle.std.proofs.Common.{Option, Some, None, List, get_or, map, length, arith}
use Rattle.std.specs.Prelude.{slice_get}
use Rattle.std.proofs.lemmas.List.{get_or-map, length-map}
use Rattle.std.proofs.lemmas.Option.{slice_get-get_or, slice_get_within}
use Rattle.row_cells.specs.Lists.{IsPrefix}
use Rattle.epoch_tags.specs.declared.actor.Actor.{Actor}
use Rattle.epoch_tags.specs.declared.actor.Actor.TheVariants.{Feeder, Joiner, Controller, Collector}
use Rattle.theta_pred.specs.Formula.{Meaning}
use Rattle.actor_core.specs.declared.cast.Cast.{Cast}
use Rattle.actor_core.specs.Elements.{IsAllAt}
use Rattle.actor_core.specs.Lists.{ActorLists}
use Rattle.actor_core.specs.Standing.{JoinsBy, Start, Stands}
use Rattle.actor_core.specs.Families.{core_in, journal_of, start_for}
use Rattle.actor_core.specs.Numbers.{actor_at, at_number, count_of, number}
use Rattle.actor_core.specs.Players.{AllStand, Extends, Player, Runs, journal_among, journal_at}
use Rattle.actor_core.specs.Players.{lists_among, lists_at}
use Rattle.actor_core.specs.declared.machines.Core.{Core}
use Rattle.actor_core.specs.Tasks.{Task}
use Rattle.actor_core.proofs.Beginnings.{there}
use Rattle.actor_core.proofs.OwnNumbers.{none_some, number_there, some_is}
use Rattle.actor_core.proofs.Runs.{Grows, grows_same, runs_grow, runs_join, runs_journal, runs_stand}

-- a number is below that of all actors
pub number_low : (cast : Cast) (a : Actor) (n : ℕ) → number cast a ≡ Some n
    → n < count_of cast
number_low cast (Feeder p) n is = go (ltb p cast.feeders) refl is
  where
    go : (b : Bool) → ltb p cast.feeders ≡ b → cond b (Some p) None ≡ Some n → n < count_of cast
    go true e is' = let low = ltb-true p cast.feeders e in let same = some_is p n is' in omega arith
    go false e is' = absurd (none_some n is')
number_low cast (Joiner j) n is = go (ltb j cast.joiners) refl is
  where
    go : (b : Bool) → ltb j cast.joiners ≡ b → cond b (Some (cast.feeders + j)) None ≡ Some n → n < count_of cast
    go true e is' = let low = ltb-true j cast.joiners e in let same = some_is (cast.feeders + j) n is' in omega arith
    go false e is' = absurd (none_some n is')
number_low cast Controller n is = let same = some_is (cast.feeders + cast.joiners) n is in omega arith
number_low cast Collector n is = let same = some_is (cast.feeders + cast.joiners + 1) n is in omega arith

-- ---- seats of any kind

-- the machine of the seat at a place, among the machines of all
pub core_at : {S : Type 0} (core_of : S → Core) (seats : List S) (n : ℕ) (d : S) → n < length seats
    → slice_get (map core_of seats) n ≡ Some (core_of (get_or seats n d))
core_at core_of seats n d low =
    slice_get-get_or (map core_of seats) n (core_of d) (subst (λ z. n < z) (sym (length-map seats core_of)) low)
    ∙ ap Some (get_or-map core_of seats n d (core_of d) low)

-- the machine of an actor's seat
pub core_there : {S : Type 0} (core_of : S → Core) (cast : Cast) (seats : List S) (a : Actor) (n : ℕ) (d : S)
    → number cast a ≡ Some n → n < length seats
    → core_in cast (map core_of seats) a ≡ Some (core_of (get_or seats n d))
core_there core_of cast seats a n d is low =
    ap (λ (o : Option ℕ). at_number None o (λ k. slice_get (map core_of seats) k)) is ∙ core_at core_of seats n d low

-- the lists of an actor's seat
pub lists_there : {S : Type 0} (lists_of : S → ActorLists) (cast : Cast) (seats : List S) (a : Actor) (n : ℕ)
    (d : S) → number cast a ≡ Some n → n < length seats
    → lists_among lists_of cast seats a ≡ lists_of (get_or seats n d)
lists_there lists_of cast seats a n d is low =
    ap (λ (o : Option ℕ). lists_at lists_of (at_number None o (λ k. slice_get seats k))) is
    ∙ ap (lists_at lists_of) (slice_get-get_or seats n d low)

-- an actor and the same later are so related
pub record Relates (R : Player → Player → Type 0) (cast : Cast) (old new : List Core) (f g : Actor → ActorLists)
    (a : Actor) : Type 0 where
  pub before : Core
  pub after : Core
  pub was : core_in cast old a ≡ Some before
  pub now : core_in cast new a ≡ Some after
  pub holds : R (record { core = before; lists = f a }) (record { core = after; lists = g a })

-- each actor of a run, and no other's lists change
pub record AllRelate (R : Player → Player → Type 0) (cast : Cast) (old new : List Core)
    (f g : Actor → ActorLists) : Type 0 where
  pub long : length new ≡ length old
  pub each : (a : Actor) (n : ℕ) → number cast a ≡ Some n → Relates R cast old new f g a
  pub others : (a : Actor) → number cast a ≡ None → g a ≡ f a

module _ {S : Type 0} (core_of : S → Core) (lists_of : S → ActorLists) (R : Player → Player → Type 0)
    (cast : Cast) (old new : List S) (long : length new ≡ length old) where
  abbrev player : S → Player
  player s = record { core = core_of s; lists = lists_of s }

  abbrev before : Actor → ActorLists
  before = lists_among lists_of cast old

  abbrev after : Actor → ActorLists
  after = lists_among lists_of cast new

  -- so is the actor of one seat
  pub relate : (a : Actor) (n : ℕ) (d : S) → number cast a ≡ Some n → n < length old
      → R (player (get_or old n d)) (player (get_or new n d))
      → Relates R cast (map core_of old) (map core_of new) before after a
  relate a n d is low related =
      let low' : n < length new = subst (λ z. n < z) (sym long) low in
      let one = core_of (get_or old n d) in
      let other = core_of (get_or new n d) in
      let first = lists_there lists_of cast old a n d is low in
      let last = lists_there lists_of cast new a n d is low' in
      record {
        before = one;
        after = other;
        was = core_there core_of cast old a n d is low;
        now = core_there core_of cast new a n d is low';
        holds =
            subst (λ ls. R (record { core = one; lists = ls }) (record { core = other; lists = after a })) (sym first)
            (subst (λ ls. R (player (get_or old n d)) (record { core = other; lists = ls })) (sym last) related);
      }

  -- and so are all actors
  pub all_relate : length old ≡ count_of cast
      → ((n : ℕ) (d : S) → n < length old → R (player (get_or old n d)) (player (get_or new n d)))
      → AllRelate R cast (map core_of old) (map core_of new) before after
  all_relate all related = record {
    long = length-map new core_of ∙ (long ∙ sym (length-map old core_of));
    each = λ a n is.
        let low = subst (λ z. n < z) (sym all) (number_low cast a n is) in
        let d = (there old n low).0 in
        relate a n d is low (related n d low);
    others = λ a is.
        ap (λ (o : Option ℕ). lists_at lists_of (at_number None o (λ k. slice_get new k))) is
        ∙ sym (ap (λ (o : Option ℕ). lists_at lists_of (at_number None o (λ k. slice_get old k))) is);
  }

-- ---- what follows for all actors

module _ (R : Player → Player → Type 0) (cast : Cast) (old new : List Core) (f g : Actor → ActorLists)
    (all : AllRelate R cast old new f g) where
  -- of an actor whose machine is known before
  pub related_at : (a : Actor) (core : Core) → core_in cast old a ≡ Some core
      → (core' : Core) × (core_in cast new a ≡ Some core')
      × R (record { core = core; lists = f a }) (record { core = core'; lists = g a })
  related_at a core here = go (number cast a) refl
    where
      go : (o : Option ℕ) → number cast a ≡ o
          → (core' : Core) × (core_in cast new a ≡ Some core')
          × R (record { core = core; lists = f a }) (record { core = core'; lists = g a })
      go None is =
          let none = ap (λ (o : Option ℕ). at_number None o (λ k. slice_get old k)) is in
          absurd (none_some core (sym none ∙ here))
      go (Some n) is =
          let own = all.each a n is in
          let same = some_is own.before core (sym own.was ∙ here) in (
            own.after,
            own.now,
            subst (λ c. R (record { core = c; lists = f a }) (record { core = own.after; lists = g a })) same own.holds,
          )

  -- what holds of the lists of related players, and of lists that are the same, holds of each actor's
  pub of_lists : (P : ActorLists → ActorLists → Type 0) → ((ls ls' : ActorLists) → ls' ≡ ls → P ls ls')
      → ((s t : Player) → R s t → P s.lists t.lists) → (a : Actor) → P (f a) (g a)
  of_lists P same some a = go (number cast a) refl
    where
      go : (o : Option ℕ) → number cast a ≡ o → P (f a) (g a)
      go None is = same (f a) (g a) (all.others a is)
      go (Some n) is =
          let own = all.each a n is in
          some (record { core = own.before; lists = f a }) (record { core = own.after; lists = g a }) own.holds

  -- the machines stand for the lists still
  pub still_stand : ((s t : Player) → R s t → (start : Start) → Stands start s.lists s.core
      → Stands start t.lists t.core)
      → (task : Task) → AllStand task cast old f → AllStand task cast new g
  still_stand keeps task st = record {
    cast_is = st.cast_is;
    all = all.long ∙ st.all;
    stands = λ a is.
        let own = st.stands a is in
        let now = related_at a own.0 own.1 in
        let one : Player = record { core = own.0; lists = f a } in
        let other : Player = record { core = now.0; lists = g a } in
        (now.0, now.1, keeps one other now.2 (start_for task a) own.2);
  }

  -- what holds of the machine of each actor, and stays so, holds of the machine of each still
  pub still_all : (P : Core → Type 0) → ((s t : Player) → R s t → P s.core → P t.core)
      → length old ≡ count_of cast
      → IsAllAt P old → IsAllAt P new
  still_all P keeps many before n core is =
      let low : n < count_of cast = subst (λ z. n < z) (all.long ∙ many) (slice_get_within new n core is) in
      let a = actor_at cast n in
      let numbered = number_there cast n low in
      let own = all.each a n numbered in
      let was : slice_get old n ≡ Some own.before =
      sym (ap (λ (o : Option ℕ). at_number None o (λ k. slice_get old k)) numbered) ∙ own.was in
      let now : slice_get new n ≡ Some own.after =
      sym (ap (λ (o : Option ℕ). at_number None o (λ k. slice_get new k)) numbered) ∙ own.now in
      subst P (some_is own.after core (sym now ∙ is))
      (keeps (record { core = own.before; lists = f a }) (record { core = own.after; lists = g a }) own.holds
      (before n own.before was))

-- ---- where each actor made some events

-- so many events or none
pub record HasRun (old new : Player) : Type 0 where
  pub count : ℕ
  pub runs : Runs count old new

module _ (cast : Cast) (old new : List Core) (f g : Actor → ActorLists)
    (all : AllRelate HasRun cast old new f g) where
  -- each actor's lists grow
  pub all_grow : (a : Actor) → Grows (f a) (g a)
  all_grow =
      of_lists HasRun cast old new f g all Grows grows_same (λ s t ran. runs_grow ran.count s t ran.runs)

  -- so the lists of all extend those of before
  pub extends : Extends f g
  extends = record { received = λ from to. (all_grow to).received from; sent = λ from to. (all_grow from).sent to }

  -- the controller's journal grows
  pub journal_grows : IsPrefix (journal_among cast old) (journal_among cast new)
  journal_grows =
      let own = all.each Controller (cast.feeders + cast.joiners) refl in
      let one : Player = record { core = own.before; lists = f Controller } in
      let other : Player = record { core = own.after; lists = g Controller } in
      let front = runs_journal own.holds.count one other own.holds.runs in
      subst (λ js. IsPrefix js (journal_among cast new)) (sym (ap journal_at own.was))
      (subst (IsPrefix (journal_of own.before)) (sym (ap journal_at own.now)) front)

  -- the machines stand for the lists still
  pub stand_after : (task : Task) → AllStand task cast old f → AllStand task cast new g
  stand_after = still_stand HasRun cast old new f g all (λ s t ran. runs_stand ran.count s t ran.runs)

  -- the cast.joiners join by the predicate by which they did
  pub join_after : (theta : Meaning) → length old ≡ count_of cast → IsAllAt (JoinsBy theta) old
      → IsAllAt (JoinsBy theta) new
  join_after theta =
      still_all HasRun cast old new f g all (JoinsBy theta)
      (λ s t ran. runs_join theta ran.count s t ran.runs)
