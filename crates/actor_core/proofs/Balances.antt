-- What an event of one actor keeps.
use Rattle.std.proofs.Common.{◌≡◌, ◌&&◌, append-nil, eqb-true, true≢false, refl, sym, ap, subst, ◌∙◌, Bool, true, false}
use Rattle.std.proofs.Common.{cond, List, [], ◌∷◌, ◌++◌, append_assoc}
use Rattle.epoch_tags.specs.declared.actor.Actor.{Actor}
use Rattle.epoch_tags.specs.declared.actor.Actor.TheVariants.{Feeder, Joiner, Controller, Collector}
use Rattle.epoch_tags.specs.declared.message.Msg.{Msg}
use Rattle.epoch_tags.specs.declared.message.Post.{Post}
use Rattle.actor_core.specs.Lists.{ActorLists, Took, Began, no_lists, same_actor, posted_to, with_event}
use Rattle.actor_core.specs.Families.{IsBalanced, AreFronts, DeliveryBalances, BeginningBalances, after_event, put_on}
use Rattle.actor_core.specs.Families.{taken_off}

-- names that are one actor's are equal
pub same_is : (a b : Actor) → same_actor a b ≡ true → a ≡ b
same_is (Feeder p) (Feeder q) e = ap Feeder (eqb-true p q e)
same_is (Feeder p) (Joiner q) e = absurd (true≢false (sym e))
same_is (Feeder p) Controller e = absurd (true≢false (sym e))
same_is (Feeder p) Collector e = absurd (true≢false (sym e))
same_is (Joiner p) (Feeder q) e = absurd (true≢false (sym e))
same_is (Joiner p) (Joiner q) e = ap Joiner (eqb-true p q e)
same_is (Joiner p) Controller e = absurd (true≢false (sym e))
same_is (Joiner p) Collector e = absurd (true≢false (sym e))
same_is Controller (Feeder q) e = absurd (true≢false (sym e))
same_is Controller (Joiner q) e = absurd (true≢false (sym e))
same_is Controller Controller e = refl
same_is Controller Collector e = absurd (true≢false (sym e))
same_is Collector (Feeder q) e = absurd (true≢false (sym e))
same_is Collector (Joiner q) e = absurd (true≢false (sym e))
same_is Collector Controller e = absurd (true≢false (sym e))
same_is Collector Collector e = refl

-- ---- balances

more_sent : (received left sent put : List Msg) → received ++ left ≡ sent → received ++ (left ++ put) ≡ sent ++ put
more_sent received left sent put e = sym (append_assoc received left put) ∙ ap (λ xs. xs ++ put) e

less_left : (received left sent got rest : List Msg) → received ++ left ≡ sent → left ≡ got ++ rest
    → (received ++ got) ++ rest ≡ sent
less_left received left sent got rest e is = append_assoc received got rest ∙ ap (λ xs. received ++ xs) (sym is) ∙ e

-- what an actor sends at a beginning is left on its links
pub beginning_balances : BeginningBalances
beginning_balances self posts f left balanced x y = go (same_actor self x) (same_actor self y) refl refl
  where
    go : (b c : Bool) → same_actor self x ≡ b → same_actor self y ≡ c
        → (cond c (with_event Began posts (f self)) (f y)).received x
        ++ cond b (left x y ++ posted_to y posts) (left x y)
        ≡ (cond b (with_event Began posts (f self)) (f x)).sent y
    go true true e d = subst (λ z. (f self).received x ++ (left x y ++ posted_to y posts) ≡ (f z).sent y
        ++ posted_to y posts) (sym (same_is self x e)) (more_sent ((f self).received x) (left x y) ((f x).sent y)
        (posted_to y posts) (subst (λ z. (f z).received x ++ left x y ≡ (f x).sent y) (sym (same_is self y d))
        (balanced x y)))
    go true false e d = subst (λ z. (f y).received x ++ (left x y ++ posted_to y posts) ≡ (f z).sent y
        ++ posted_to y posts) (sym (same_is self x e)) (more_sent ((f y).received x) (left x y) ((f x).sent y)
        (posted_to y posts) (balanced x y))
    go false true e d = subst (λ z. (f z).received x ++ left x y ≡ (f x).sent y) (sym (same_is self y d)) (balanced x y)
    go false false e d = balanced x y

and_true : (d : Bool) (rest left : List Msg) → cond (d && true) rest left ≡ cond d rest left
and_true true rest left = refl
and_true false rest left = refl

and_false : (d : Bool) (rest left : List Msg) → cond (d && false) rest left ≡ left
and_false true rest left = refl
and_false false rest left = refl

abbrev got_at : Actor → Actor → Msg → ActorLists → List Msg
got_at from x m ls = cond (same_actor from x) (ls.received x ++ m ∷ []) (ls.received x)

module _ (from to : Actor) (m : Msg) (rest : List Msg) (posts : List Post) (f : Actor → ActorLists)
    (left : Actor → Actor → List Msg) (balanced : IsBalanced f left) (first : left from to ≡ m ∷ rest) where
  delivered : IsBalanced (after_event to (Took from m) posts f) (put_on to posts (taken_off from to rest left))
  delivered x y = go (same_actor to x) (same_actor to y) refl refl
    where
      moved : (to ≡ y) → (d : Bool) → same_actor from x ≡ d
          → cond d ((f to).received x ++ m ∷ []) ((f to).received x) ++ cond d rest (left x y) ≡ (f x).sent y
      moved is true e =
          less_left ((f to).received x) (left x y) ((f x).sent y) (m ∷ []) rest
          (subst (λ z. (f z).received x ++ left x y ≡ (f x).sent y) (sym is) (balanced x y))
          (subst (λ z. left z y ≡ m ∷ rest) (same_is from x e) (subst (λ z. left from z ≡ m ∷ rest) is first))
      moved is false e = subst (λ z. (f z).received x ++ left x y ≡ (f x).sent y) (sym is) (balanced x y)

      go : (b c : Bool) → same_actor to x ≡ b → same_actor to y ≡ c
          → (cond c (with_event (Took from m) posts (f to)) (f y)).received x
          ++ cond b (cond (same_actor from x && c) rest (left x y) ++ posted_to y posts)
          (cond (same_actor from x && c) rest (left x y))
          ≡ (cond b (with_event (Took from m) posts (f to)) (f x)).sent y
      go true true e d =
          let now = subst (λ l. got_at from x m (f to) ++ l ≡ (f x).sent y)
          (sym (and_true (same_actor from x) rest (left x y))) (moved (same_is to y d) (same_actor from x) refl) in
          subst (λ z. got_at from x m (f to) ++ (cond (same_actor from x && true) rest (left x y) ++ posted_to y posts)
          ≡ (f z).sent y ++ posted_to y posts) (sym (same_is to x e))
          (more_sent (got_at from x m (f to)) (cond (same_actor from x && true) rest (left x y)) ((f x).sent y)
          (posted_to y posts) now)
      go true false e d =
          let now = subst (λ l. (f y).received x ++ l ≡ (f x).sent y)
          (sym (and_false (same_actor from x) rest (left x y))) (balanced x y) in
          subst (λ z. (f y).received x ++ (cond (same_actor from x && false) rest (left x y) ++ posted_to y posts)
          ≡ (f z).sent y ++ posted_to y posts) (sym (same_is to x e))
          (more_sent ((f y).received x) (cond (same_actor from x && false) rest (left x y)) ((f x).sent y)
          (posted_to y posts) now)
      go false true e d = subst (λ l. got_at from x m (f to) ++ l ≡ (f x).sent y)
          (sym (and_true (same_actor from x) rest (left x y))) (moved (same_is to y d) (same_actor from x) refl)
      go false false e d = subst (λ l. (f y).received x ++ l ≡ (f x).sent y)
          (sym (and_false (same_actor from x) rest (left x y))) (balanced x y)

-- what was taken off a link is received, and what its receiver sends is left on its links
pub delivery_balances : DeliveryBalances
delivery_balances = delivered

-- where what is left makes up what was sent, what was received is a front of it
pub balanced_fronts : (f : Actor → ActorLists) (left : Actor → Actor → List Msg) → IsBalanced f left → AreFronts f
balanced_fronts f left balanced from to = record { rest = left from to; joins = balanced from to }

-- and where nothing is left, all that was sent was received
pub none_left : (f : Actor → ActorLists) (left : Actor → Actor → List Msg) → IsBalanced f left
    → (from to : Actor) → left from to ≡ [] → (f to).received from ≡ (f from).sent to
none_left f left balanced from to none =
    sym (append-nil ((f to).received from)) ∙ (ap (λ rest. (f to).received from ++ rest) (sym none) ∙ balanced from to)

-- lists without a message are fronts of one another
pub fronts_none : (f : Actor → ActorLists) → ((a : Actor) → f a ≡ no_lists) → AreFronts f
fronts_none f empty from to = record {
  rest = (f from).sent to;
  joins = ap (λ (ls : ActorLists). ls.received from ++ (f from).sent to) (empty to);
}
