-- What waits, where one list of it changed.
use Rattle.std.proofs.Common.{◌≡◌, ℕ, zero, suc, ◌==◌, ◌<◌, ◌&&◌, eqb-true, refl, sym, ap, ap₂, subst, ◌∙◌, Bool, true}
use Rattle.std.proofs.Common.{false}
use Rattle.std.proofs.Common.{cond, Option, Some, None, List, [], ◌∷◌, ◌++◌, get_or, set, length, append-nil}
use Rattle.std.proofs.Common.{append_assoc}
use Rattle.std.specs.List.{cons_option}
use Rattle.std.proofs.lemmas.List.{get_or-set_same, get_or-set_other}
use borrow.Author.Tests.{eqb-false}
use mathlib.Core.Path.{fun_ext}
use Rattle.epoch_tags.specs.declared.actor.Actor.{Actor}
use Rattle.epoch_tags.specs.declared.message.Msg.{Msg}
use Rattle.epoch_tags.specs.declared.message.Post.{Post}
use Rattle.theta_pred.proofs.KeyMembers.{and_left, and_right}
use Rattle.actor_core.specs.declared.cast.Cast.{Cast}
use Rattle.actor_core.specs.Lists.{same_actor, posted_to}
use Rattle.actor_core.specs.Families.{taken_off, put_on}
use Rattle.actor_core.specs.Elements.{IsAllAt}
use Rattle.actor_core.specs.Numbers.{number, at_number, count_of}
use Rattle.actor_core.proofs.Balances.{same_is}
use Rattle.actor_core.proofs.OwnNumbers.{same_number, none_some}
use Rattle.actor_core.proofs.Seated.{number_low}
use Rattle.link_trace.specs.Worlds.{waits, with_waiting, HasNumber, HasRoom, IsSquare, left_in, put_one, with_post}
use Rattle.link_trace.specs.Worlds.{with_posts}
use Rattle.link_trace.proofs.Squares.{has_room, square_left}
use Rattle.link_trace.proofs.WorldAfter.{left_there}

-- an element of a list in which one was set
get-set : {X : Type 0} (xs : List X) (i k : ℕ) (x d : X) → i < length xs
    → get_or (set xs i x) k d ≡ cond (i == k) x (get_or xs k d)
get-set xs i k x d low = go (i == k) refl
  where
    go : (b : Bool) → (i == k) ≡ b → get_or (set xs i x) k d ≡ cond b x (get_or xs k d)
    go true e = subst (λ z. get_or (set xs i x) z d ≡ x) (eqb-true i k e) (get_or-set_same xs i x d low)
    go false e = get_or-set_other xs i k x d (λ is. eqb-false i k e (sym is))

-- what waits at a receiver of a sender, where another list was put at one place
pub waits-with : (ws : List (List (List Msg))) (r s x y : ℕ) (l : List Msg) → HasRoom ws r s
    → waits (with_waiting ws r s l) x y ≡ cond ((r == x) && (s == y)) l (waits ws x y)
waits-with ws r s x y l room = ap (λ row. get_or row y []) (get-set ws r x (set (get_or ws r []) s l) []
    room.receiver_is) ∙ go (r == x) refl
  where
    go : (b : Bool) → (r == x) ≡ b → get_or (cond b (set (get_or ws r []) s l) (get_or ws x [])) y []
        ≡ cond (b && (s == y)) l (waits ws x y)
    go true e =
        get-set (get_or ws r []) s y l [] room.sender_is
        ∙ ap (λ z. cond (s == y) l (get_or (get_or ws z []) y [])) (eqb-true r x e)
    go false e = refl

and-swap : (a b : Bool) → (a && b) ≡ (b && a)
and-swap true true = refl
and-swap true false = refl
and-swap false true = refl
and-swap false false = refl

module _ (cast : Cast) (ws : List (List (List Msg))) (from to : Actor) (s r : ℕ)
    (from_is : number cast from ≡ Some s) (to_is : number cast to ≡ Some r)
    (room : HasRoom ws r s) where
  other : (a b : Actor) (n : ℕ) → number cast a ≡ Some n → number cast b ≡ None
      → same_actor a b ≡ false
  other a b n at none = go (same_actor a b) refl
    where
      go : (z : Bool) → same_actor a b ≡ z → same_actor a b ≡ false
      go true e = absurd (none_some n (sym none ∙ subst (λ z. number cast z ≡ Some n) (same_is a b e) at))
      go false e = e

  module _ (l : List Msg) (x y : Actor) where
    both : (i k : Option ℕ) → number cast x ≡ i → number cast y ≡ k
        → at_number [] k (λ receiver. at_number [] i (λ sender. waits (with_waiting ws r s l) receiver sender))
        ≡ cond (same_actor from x && same_actor to y) l (at_number [] k
        (λ receiver. at_number [] i (λ sender. waits ws receiver sender)))
    both i None x_is y_is =
        let no = other to y r to_is y_is in
        sym (ap (λ b. cond b l []) (ap (λ z. same_actor from x && z) no ∙ and-swap (same_actor from x) false))
    both None (Some k) x_is y_is = sym (ap (λ z. cond (z && same_actor to y) l []) (other from x s from_is x_is))
    both (Some i) (Some k) x_is y_is =
        waits-with ws r s k i l room
        ∙ ap (λ b. cond b l (waits ws k i)) (and-swap (r == k) (s == i)
        ∙ ap₂ (λ a b. a && b) (sym (same_number cast from x s i from_is x_is))
        (sym (same_number cast to y r k to_is y_is)))

  -- where another list waits at a receiver of a sender, it is what is left on the link between the two, and the other
  -- links are as they were
  pub left-with : (l : List Msg) → left_in cast (with_waiting ws r s l)
      ≡ taken_off from to l (left_in cast ws)
  left-with l = fun_ext (λ x. fun_ext (λ y. both l x y (number cast x) (number cast y) refl refl))

  -- between the two stands what waits there
  pub left_between : left_in cast ws from to ≡ waits ws r s
  left_between = rw (to_is, from_is) refl

  put_there : (m : Msg) (x y : Actor) (b : Bool) → (same_actor from x && same_actor to y) ≡ b
      → cond b (waits ws r s ++ m ∷ []) (left_in cast ws x y)
      ≡ cond b (left_in cast ws x y ++ m ∷ []) (left_in cast ws x y)
  put_there m x y true e =
      let is_from = same_is from x (and_left (same_actor from x) (same_actor to y) e) in
      let is_to = same_is to y (and_right (same_actor from x) (same_actor to y) e) in
      ap (λ ms. ms ++ m ∷ []) (subst (λ z. waits ws r s ≡ left_in cast ws z y) is_from
      (subst (λ z. waits ws r s ≡ left_in cast ws from z) is_to (sym left_between)))
  put_there m x y false e = refl

  -- where one message more waits there, one more is left on that link
  pub left-put : (m : Msg) → left_in cast (with_waiting ws r s (waits ws r s ++ m ∷ []))
      ≡ put_one from to m (left_in cast ws)
  left-put m = left-with (waits ws r s ++ m ∷ []) ∙ fun_ext
      (λ x. fun_ext (λ y. put_there m x y (same_actor from x && same_actor to y) refl))

-- ---- posts, one after another

none_put : (left : List Msg) (a : Bool) → left ≡ cond a (left ++ []) left
none_put left true = sym (append-nil left)
none_put left false = refl

-- no posts put on change nothing
put_none : (from : Actor) (left : Actor → Actor → List Msg) → left ≡ put_on from [] left
put_none from left = fun_ext (λ x. fun_ext (λ y. none_put (left x y) (same_actor from x)))

first_post : (left posts : List Msg) (m : Msg) (a b : Bool)
    → cond a (cond (a && b) (left ++ m ∷ []) left ++ posts) (cond (a && b) (left ++ m ∷ []) left)
    ≡ cond a (left ++ cons_option (cond b (Some m) None) posts) left
first_post left posts m true true = append_assoc left (m ∷ []) posts
first_post left posts m true false = refl
first_post left posts m false b = refl

-- where a post of an actor came on its link, one message more is left there
left-post : (cast : Cast) (from : Actor) (post : Post) (ws : List (List (List Msg))) → IsSquare (count_of cast) ws
    → HasNumber cast from → HasNumber cast post.to
    → left_in cast (with_post cast from post ws) ≡ put_one from post.to post.msg (left_in cast ws)
left-post cast from post ws square there there' = go (number cast from) (number cast post.to) refl refl
  where
    go : (i k : Option ℕ) → number cast from ≡ i → number cast post.to ≡ k
        → left_in cast (with_post cast from post ws) ≡ put_one from post.to post.msg (left_in cast ws)
    go None k from_is to_is = absurd (there from_is)
    go (Some s) None from_is to_is = absurd (there' to_is)
    go (Some s) (Some r) from_is to_is =
        ap (left_in cast) (left_there cast from post.to s r from_is to_is (λ ms. ms ++ post.msg ∷ []) ws)
        ∙ left-put cast ws from post.to s r from_is to_is (has_room (count_of cast) ws r s square
        (number_low cast post.to r to_is) (number_low cast from s from_is)) post.msg

-- where posts of an actor came on their links, they are put on what is left
pub left-posts : (cast : Cast) (from : Actor) (posts : List Post) (ws : List (List (List Msg)))
    → IsSquare (count_of cast) ws → HasNumber cast from → IsAllAt (λ (post : Post). HasNumber cast post.to) posts
    → left_in cast (with_posts cast from posts ws) ≡ put_on from posts (left_in cast ws)
left-posts cast from [] ws square there all = put_none from (left_in cast ws)
left-posts cast from (post ∷ posts) ws square there all =
    let left = left_in cast ws in
    left-posts cast from posts (with_post cast from post ws)
    (square_left cast (count_of cast) from post.to (λ ms. ms ++ post.msg ∷ []) ws square) there
    (λ n x e. all (suc n) x e)
    ∙ ap (put_on from posts) (left-post cast from post ws square there (all zero post refl))
    ∙ fun_ext (λ x. fun_ext (λ y. first_post (left x y) (posted_to y posts) post.msg (same_actor from x)
    (same_actor post.to y)))
