-- One machine's event is one event of the world.
use Rattle.std.proofs.Common.{◌≡◌, ℕ, zero, suc, ◌==◌, ◌<◌, refl, sym, ap, ap₂, subst, ◌∙◌, Bool, true, false, cond}
use Rattle.std.proofs.Common.{Option, Some, None, List, [], ◌∷◌, ◌++◌, set, length, ◌&&◌, true≢false, MatchBool, arith}
use Rattle.std.proofs.Common.{◌≢◌, eqb-true}
use borrow.Author.Tests.{eqb-false}
use Rattle.std.specs.Prelude.{slice_get}
use Rattle.std.proofs.lemmas.Option.{slice_get_within}
use Rattle.std.proofs.lemmas.List.{length-set}
use mathlib.Core.Path.{fun_ext}
use Rattle.epoch_tags.specs.declared.actor.Actor.{Actor}
use Rattle.epoch_tags.specs.declared.message.Msg.{Msg}
use Rattle.epoch_tags.specs.declared.message.Post.{Post}
use Rattle.theta_pred.specs.Formula.{Meaning}
use Rattle.actor_core.specs.declared.cast.Cast.{Cast}
use Rattle.actor_core.specs.Lists.{ActorLists, Cause, Took, Began, same_actor, posted_to, with_event}
use Rattle.actor_core.specs.Standing.{Stands, JoinsBy}
use Rattle.actor_core.specs.Elements.{IsAllAt}
use Rattle.actor_core.specs.Families.{IsActor, IsBalanced, after_event, changed, core_in, put_on, start_for, taken_off}
use Rattle.actor_core.specs.Numbers.{number, at_number, count_of}
use Rattle.actor_core.specs.Tasks.{Task}
use Rattle.actor_core.specs.declared.machines.Core.{Core}
use Rattle.actor_core.proofs.Balances.{same_is, delivery_balances, beginning_balances}
use Rattle.actor_core.proofs.OwnNumbers.{same_number, none_some, some_is}
use Rattle.link_trace.specs.Worlds.{Delivers, HasNumber, IsSquare, KeepsOthers, MakesEvent, OccursAt, StandsFor}
use Rattle.link_trace.specs.Worlds.{StandsForSome, TakesOff, WorldState, cores_of, delivered_first, left_in}
use Rattle.link_trace.specs.Worlds.{state_among}
use Rattle.link_trace.specs.Worlds.{waiting_of, with_posts, without_cause, world_after}
use Rattle.link_trace.specs.declared.places.Place.{Place}
use Rattle.link_trace.proofs.SomeTask.{machine_stands, sends_there}
use Rattle.link_trace.proofs.Squares.{square_posts, square_with}
use Rattle.link_trace.proofs.WaitingMessages.{left-posts, left-with, left_between}
use Rattle.link_trace.proofs.WorldAfter.{after_is, first_off, world_of}

-- ---- machines

set_there : {X : Type 0} (xs : List X) (i : ℕ) (x : X) → i < length xs → slice_get (set xs i x) i ≡ Some x
set_there [] i x low = absurd (omega arith)
set_there (y ∷ ys) zero x low = refl
set_there (y ∷ ys) (suc i) x low = set_there ys i x (omega arith)

set_elsewhere : {X : Type 0} (xs : List X) (i k : ℕ) (x : X) → i ≢ k → slice_get (set xs i x) k ≡ slice_get xs k
set_elsewhere [] i k x other = refl
set_elsewhere (y ∷ ys) zero zero x other = absurd (other refl)
set_elsewhere (y ∷ ys) zero (suc k) x other = refl
set_elsewhere (y ∷ ys) (suc i) zero x other = refl
set_elsewhere (y ∷ ys) (suc i) (suc k) x other = set_elsewhere ys i k x (λ e. other (ap suc e))

slice_get-set : {X : Type 0} (xs : List X) (i k : ℕ) (x : X) → i < length xs
    → slice_get (set xs i x) k ≡ cond (i == k) (Some x) (slice_get xs k)
slice_get-set xs i k x low = go (i == k) refl
  where
    go : (b : Bool) → (i == k) ≡ b → slice_get (set xs i x) k ≡ cond b (Some x) (slice_get xs k)
    go true e = subst (λ z. slice_get (set xs i x) z ≡ Some x) (eqb-true i k e) (set_there xs i x low)
    go false e = set_elsewhere xs i k x (eqb-false i k e)

module _ (cast : Cast) (cores : List Core) (self : Actor) (n : ℕ) (next : Core)
    (at : number cast self ≡ Some n) (low : n < length cores) where
  set_at : (a : Actor) (i : Option ℕ) → number cast a ≡ i
      → at_number None i (λ k. slice_get (set cores n next) k)
      ≡ cond (same_actor self a) (Some next) (at_number None i (λ k. slice_get cores k))
  set_at a None is = go (same_actor self a) refl
    where
      go : (b : Bool) → same_actor self a ≡ b → None ≡ cond b (Some next) None
      go true e = absurd (none_some n (sym is ∙ subst (λ z. number cast z ≡ Some n) (same_is self a e) at))
      go false e = refl
  set_at a (Some k) is = slice_get-set cores n k next low ∙ ap (λ b. cond b (Some next) (slice_get cores k))
      (sym (same_number cast self a n k at is))

  -- the machines of the actors, where one was set at the number of an actor, are those of before but for that actor's
  pub core-set : core_in cast (set cores n next) ≡ changed self (Some next) (core_in cast cores)
  core-set = fun_ext (λ a. set_at a (number cast a) refl)

-- ---- events

-- a machine made an event, after which its posts were put on their links
module _ (cast : Cast) (self : Actor) (n : ℕ) (at : number cast self ≡ Some n) (cause : Cause)
    (cores cores' : List Core) (ws middle : List (List (List Msg))) (posts : List Post)
    (occurs : OccursAt n cause cores cores' posts) (square : IsSquare (count_of cast) middle)
    (receivers : IsAllAt (λ (post : Post). HasNumber cast post.to) posts)
    (empties : (x y : Actor) → left_in cast ws x y ≡ [] → left_in cast middle x y ≡ [])
    (taken : without_cause self cause (world_of cast cores ws) ≡ world_of cast cores middle) where
  -- the world before
  abbrev old : WorldState
  old = world_of cast cores ws

  -- and after it
  abbrev new : WorldState
  new = world_of cast cores' (with_posts cast self posts middle)

  low : n < length cores
  low = slice_get_within cores n occurs.core occurs.was

  now : core_in cast cores' ≡ changed self (Some occurs.next) (core_in cast cores)
  now = ap (core_in cast) occurs.now ∙ core-set cast cores self n occurs.next at low

  put : left_in cast new.waiting ≡ put_on self posts (left_in cast middle)
  put = left-posts cast self posts middle square (λ none. none_some n (sym none ∙ at)) receivers

  module _ (task : Task) (f : Actor → ActorLists) (w : StandsFor task old f) where
    own : IsActor task.setting self × Stands (start_for task self) (f self) occurs.core
    own = machine_stands task old f w self n at occurs.core occurs.was

    stand : (a : Actor) → IsActor task.setting a → (c : Core) × (core_in cast cores' a ≡ Some c)
        × Stands (start_for task a) (after_event self cause posts f a) c
    stand a is =
        subst (λ z. (c : Core) × (z a ≡ Some c) × Stands (start_for task a) (after_event self cause posts f a) c)
        (sym now) (go (same_actor self a) refl)
      where
        go : (b : Bool) → same_actor self a ≡ b → (c : Core)
            × (cond b (Some occurs.next) (core_in cast cores a) ≡ Some c)
            × Stands (start_for task a) (cond b (with_event cause posts (f self)) (f a)) c
        go true e = (
          occurs.next,
          refl,
          subst (λ z. Stands (start_for task z) (with_event cause posts (f self)) occurs.next) (same_is self a e)
              (occurs.event.stands (start_for task self) (f self) own.1),
        )
        go false e = w.machines.stands a is

  others : KeepsOthers self old new
  others = record {
    machines = λ a other. ap (λ (f : Actor → Option Core). f a) now
        ∙ ap (λ (b : Bool). cond b (Some occurs.next) (core_in cast cores a)) other;
    links = λ from to other none.
        ap (λ (l : Actor → Actor → List Msg). l from to) put
        ∙ ap (λ (b : Bool). cond b (left_in cast middle from to ++ posted_to to posts)
        (left_in cast middle from to)) other
        ∙ empties from to none;
  }

  join : (theta : Meaning) → IsAllAt (JoinsBy theta) cores → IsAllAt (JoinsBy theta) cores'
  join theta all k other there = go (n == k) refl
    where
      found : cond (n == k) (Some occurs.next) (slice_get cores k) ≡ Some other
      found = sym (slice_get-set cores n k occurs.next low) ∙ ap (λ cs. slice_get cs k) (sym occurs.now) ∙ there

      go : (b : Bool) → (n == k) ≡ b → JoinsBy theta other
      go true e =
          let same = some_is occurs.next other
          (sym (ap (λ c. cond c (Some occurs.next) (slice_get cores k)) e) ∙ found) in
          subst (JoinsBy theta) same (occurs.event.joins theta (all n occurs.core occurs.was))
      go false e = all k other (sym (ap (λ c. cond c (Some occurs.next) (slice_get cores k)) e) ∙ found)

  -- where the event keeps, for whatever lists, the balance of what was sent with what was received and is left, the
  -- actor made it
  pub makes_event : ((f : Actor → ActorLists) → IsBalanced f (left_in cast ws)
      → IsBalanced (after_event self cause posts f) (put_on self posts (left_in cast middle)))
      → MakesEvent self cause old new
  makes_event balances = record {
    posts = posts;
    stands = λ task f w. record {
      machines = record {
        cast_is = w.machines.cast_is;
        all = ap length occurs.now ∙ length-set cores n occurs.next ∙ w.machines.all;
        stands = stand task f w;
      };
      balanced = subst (IsBalanced (after_event self cause posts f)) (sym put) (balances f w.balanced);
    };
    over = λ task f w. ((own task f w).0, occurs.event.over (start_for task self) (f self) (own task f w).1);
    asks = occurs.event.asks;
    joins = join;
    others = others;
    after = sym (ap (world_after self cause) taken
        ∙ after_is cast self n at cause cores cores' middle posts occurs);
  }

is_full : List Msg → Bool
is_full [] = false
is_full (m ∷ ms) = true

-- a list with a first message isn't empty
pub full : (m : Msg) (rest : List Msg) → m ∷ rest ≡ [] → ⊥
unfolding is_full
full m rest e = true≢false (ap is_full e)

-- where nothing was left, nothing is with a message taken off
emptied : (from to : Actor) (m : Msg) (rest : List Msg) (left : Actor → Actor → List Msg) → left from to ≡ m ∷ rest
    → (x y : Actor) → left x y ≡ [] → taken_off from to rest left x y ≡ []
emptied from to m rest left first x y none = go (same_actor from x) (same_actor to y) refl refl
  where
    go : (b c : Bool) → same_actor from x ≡ b → same_actor to y ≡ c → cond (b && c) rest (left x y) ≡ []
    go true true e d =
        let there : left x y ≡ m ∷ rest = subst (λ z. left z y ≡ m ∷ rest) (same_is from x e)
        (subst (λ z. left from z ≡ m ∷ rest) (same_is to y d) first) in
        absurd (full m rest (sym there ∙ none))
    go true false e d = none
    go false c e d = none

-- where the flag is up, what is said of that case holds
pub when_begun : (P Q : Type 0) (b : Bool) → b ≡ true → MatchBool b P Q → P
when_begun P Q true is p = p
when_begun P Q false is q = absurd (true≢false (sym is))

-- ---- a turn of a world, from what each of its calls says

-- the actor at this number began, which left what waits as it was, and its posts were put on their links
module _ (cast : Cast) (self : Actor) (n : ℕ) (at : number cast self ≡ Some n) (old begun new : List Place)
    (posts : List Post) (square : IsSquare (count_of cast) (waiting_of old))
    (some : ∥ StandsForSome (state_among cast old) ∥₁) (same : waiting_of begun ≡ waiting_of old)
    (occurs : OccursAt n Began (cores_of old) (cores_of begun) posts) where
  -- they go to actors that are there
  pub begun_posts_there : IsAllAt (λ (post : Post). HasNumber cast post.to) posts
  begun_posts_there = sends_there (state_among cast old) self n at Began (cores_of begun) posts occurs some

  module _ (kept : cores_of new ≡ cores_of begun)
      (posted : waiting_of new ≡ with_posts cast self posts (waiting_of begun)) where
    -- it is the beginning of that actor
    pub began : MakesEvent self Began (state_among cast old) (state_among cast new)
    began =
        let ws = waiting_of old in
        subst (MakesEvent self Began (state_among cast old))
        (ap₂ (world_of cast) (sym kept) (sym (posted ∙ ap (with_posts cast self posts) same)))
        (makes_event cast self n at Began (cores_of old) (cores_of begun) ws ws posts occurs square begun_posts_there
        (λ x y none. none) refl (λ f balanced. beginning_balances self posts f (left_in cast ws) balanced))

    -- what waits is a square still
    pub begun_square : IsSquare (count_of cast) (waiting_of new)
    begun_square = subst (IsSquare (count_of cast)) (sym (posted ∙ ap (with_posts cast self posts) same))
        (square_posts cast (count_of cast) self posts (waiting_of old) square)

-- a message was taken off a link, its receiver's event left what waits as it was, and its posts were put on their links
module _ (cast : Cast) (from to : Actor) (sender receiver : ℕ) (from_is : number cast from ≡ Some sender)
    (to_is : number cast to ≡ Some receiver) (m : Msg) (old taken handed new : List Place) (posts : List Post)
    (square : IsSquare (count_of cast) (waiting_of old)) (some : ∥ StandsForSome (state_among cast old) ∥₁)
    (kept : cores_of taken ≡ cores_of old) (took : TakesOff receiver sender m (waiting_of old) (waiting_of taken))
    (same : waiting_of handed ≡ waiting_of taken)
    (occurs : OccursAt receiver (Took from m) (cores_of taken) (cores_of handed) posts) where
  event_is : OccursAt receiver (Took from m) (cores_of old) (cores_of handed) posts
  event_is = subst (λ cores. OccursAt receiver (Took from m) cores (cores_of handed) posts) kept occurs

  -- they go to actors that are there
  pub handed_posts_there : IsAllAt (λ (post : Post). HasNumber cast post.to) posts
  handed_posts_there =
      sends_there (state_among cast old) to receiver to_is (Took from m) (cores_of handed) posts event_is some

  -- what waits is a square still
  pub handed_square : IsSquare (count_of cast) (waiting_of handed)
  handed_square = subst (IsSquare (count_of cast)) (sym (same ∙ took.left))
      (square_with (count_of cast) (waiting_of old) receiver sender took.rest square)

  first : left_in cast (waiting_of old) from to ≡ m ∷ took.rest
  first = left_between cast (waiting_of old) from to sender receiver from_is to_is took.room ∙ took.first

  off : left_in cast (waiting_of handed) ≡ taken_off from to took.rest (left_in cast (waiting_of old))
  off =
      ap (left_in cast) (same ∙ took.left)
      ∙ left-with cast (waiting_of old) from to sender receiver from_is to_is took.room took.rest

  taken_is : without_cause to (Took from m) (state_among cast old) ≡ world_of cast (cores_of old) (waiting_of handed)
  taken_is = ap (world_of cast (cores_of old))
      (first_off cast from to sender receiver from_is to_is m (waiting_of old) (waiting_of taken) took ∙ sym same)

  module _ (put : cores_of new ≡ cores_of handed)
      (posted : waiting_of new ≡ with_posts cast to posts (waiting_of handed)) where
    -- it is an event of the receiver
    pub received : MakesEvent to (Took from m) (state_among cast old) (state_among cast new)
    received =
        subst (MakesEvent to (Took from m) (state_among cast old)) (ap₂ (world_of cast) (sym put) (sym posted))
        (makes_event cast to receiver to_is (Took from m) (cores_of old) (cores_of handed) (waiting_of old)
        (waiting_of handed) posts event_is handed_square handed_posts_there
        (λ x y none. ap (λ (l : Actor → Actor → List Msg). l x y) off
        ∙ emptied from to m took.rest (left_in cast (waiting_of old)) first x y none)
        taken_is
        (λ f balanced. subst (λ l. IsBalanced (after_event to (Took from m) posts f) (put_on to posts l)) (sym off)
        (delivery_balances from to m took.rest posts f (left_in cast (waiting_of old)) balanced first)))

    -- and the message was delivered
    pub delivered : Delivers from to (state_among cast old) (state_among cast new)
    delivered = record {
      m = m;
      rest = took.rest;
      first = first;
      event = received;
      after = received.after
          ∙ sym (ap (λ (ms : List Msg). delivered_first from to ms (state_among cast old)) first);
    }

    -- what waits then is a square
    pub delivered_square : IsSquare (count_of cast) (waiting_of new)
    delivered_square = subst (IsSquare (count_of cast)) (sym posted)
        (square_posts cast (count_of cast) to posts (waiting_of handed) handed_square)
