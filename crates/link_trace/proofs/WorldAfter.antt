-- What waits, and the world, after an event: as functions of what was before.
use Rattle.std.proofs.Common.{◌≡◌, ℕ, sym, ap, ap₂, ◌∙◌, Option, Some, List, [], ◌∷◌, ◌++◌, drop}
use Rattle.std.specs.Prelude.{slice_get, slice_set}
use Rattle.epoch_tags.specs.declared.actor.Actor.{Actor}
use Rattle.epoch_tags.specs.declared.message.Msg.{Msg}
use Rattle.epoch_tags.specs.declared.message.Post.{Post}
use Rattle.actor_core.specs.declared.cast.Cast.{Cast}
use Rattle.actor_core.specs.Lists.{Cause}
use Rattle.actor_core.specs.Numbers.{number, at_number}
use Rattle.actor_core.specs.declared.machines.Core.{Core}
use Rattle.link_trace.specs.Worlds.{WorldState, OccursAt, PutsOn, TakesOff, waits, with_left, with_waiting}
use Rattle.link_trace.specs.Worlds.{with_event_at, with_post, with_posts, world_after}

-- ---- what waits

module _ (cast : Cast) (from to : Actor) (sender receiver : ℕ) (from_is : number cast from ≡ Some sender)
    (to_is : number cast to ≡ Some receiver) where
  -- where two actors have numbers, what waits at the one's of the other's is changed
  pub left_there : (change : List Msg → List Msg) (ws : List (List (List Msg)))
      → with_left cast from to change ws ≡ with_waiting ws receiver sender (change (waits ws receiver sender))
  left_there change ws =
      ap (λ (i : Option ℕ). at_number ws i (λ s. at_number ws (number cast to)
      (λ r. with_waiting ws r s (change (waits ws r s))))) from_is
      ∙ ap (λ (i : Option ℕ). at_number ws i (λ r. with_waiting ws r sender (change (waits ws r sender)))) to_is

  -- where the first message was taken off what waits at the receiver of the sender, it is off the link between the two
  pub first_off : (m : Msg) (ws middle : List (List (List Msg))) → TakesOff receiver sender m ws middle
      → with_left cast from to (drop 1) ws ≡ middle
  first_off m ws middle took =
      left_there (drop 1) ws
      ∙ ap (λ (ms : List Msg). with_waiting ws receiver sender (drop 1 ms)) took.first ∙ sym took.left

-- where a message was put on what waits at the receiver of the sender, its post came on its link
pub post_put : (cast : Cast) (from : Actor) (post : Post) (sender receiver : ℕ)
    → number cast from ≡ Some sender → number cast post.to ≡ Some receiver
    → (ws ws' : List (List (List Msg))) → PutsOn receiver sender post.msg ws ws'
    → ws' ≡ with_post cast from post ws
post_put cast from post sender receiver from_is to_is ws ws' put =
    put.left ∙ sym (left_there cast from post.to sender receiver from_is to_is (λ ms. ms ++ post.msg ∷ [])
    ws)

-- ---- the world

-- the world of these with these machines, where this waits
abbrev pub world_of : Cast → List Core → List (List (List Msg)) → WorldState
world_of cast cores waiting = record { cast = cast; cores = cores; waiting = waiting }

-- where a machine made an event and its posts were put on their links, the world is that after the event
pub after_is : (cast : Cast) (self : Actor) (n : ℕ) → number cast self ≡ Some n
    → (cause : Cause) (cores cores' : List Core) (middle : List (List (List Msg))) (posts : List Post)
    → OccursAt n cause cores cores' posts
    → world_after self cause (world_of cast cores middle) ≡ world_of cast cores' (with_posts cast self posts middle)
after_is cast self n at cause cores cores' middle posts occurs =
    let before = world_of cast cores middle in
    ap (λ (i : Option ℕ). at_number before i (λ k. with_event_at self cause before k (slice_get cores k))) at
    ∙ ap (with_event_at self cause before n) occurs.was
    ∙ ap₂ (world_of cast)
    (ap (slice_set cores n) (sym occurs.event.state) ∙ sym occurs.now)
    (ap (λ (ps : List Post). with_posts cast self ps middle) (sym occurs.event.posted))
