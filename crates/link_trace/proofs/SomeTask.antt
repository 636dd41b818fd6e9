-- A world of some task: its posts reach actors that are there, its last two machines are what they are, and after an
-- event it is one again.
use Rattle.std.proofs.Common.{◌≡◌, ℕ, zero, suc, ◌^◌, sym, ap, subst, ◌∙◌}
use Rattle.std.proofs.Common.{Option, Some, None, List, []}
use Rattle.std.proofs.Common.{◌∷◌}
use Rattle.std.specs.Prelude.{slice_get}
use Rattle.std.specs.List.{AllByRecursion}
use Rattle.std.proofs.Math.Logic.{∥∥₁_elim, ∥∥₁_map}
use Rattle.std.proofs.Math.Pow.{pow-lt}
use Rattle.std.proofs.lemmas.Nat.{xor_lt}
use Rattle.epoch_tags.specs.Links.{HasLink, controller_feeder, feeder_controller, feeder_joiner, joiner_collector}
use Rattle.epoch_tags.specs.Links.{joiner_controller, joiner_joiner}
use Rattle.epoch_tags.specs.Posts.{GoesOver}
use Rattle.epoch_tags.specs.declared.actor.Actor.{Actor}
use Rattle.epoch_tags.specs.declared.message.Post.{Post}
use Rattle.trace_law.specs.declared.setting.Setting.{Setting}
use Rattle.actor_core.specs.declared.cast.Cast.{Cast}
use Rattle.actor_core.specs.Lists.{ActorLists, Cause}
use Rattle.actor_core.specs.Elements.{IsAllAt}
use Rattle.actor_core.specs.Families.{IsActor, after_event, start_for}
use Rattle.actor_core.specs.Endings.{HaveLast}
use Rattle.actor_core.specs.Numbers.{at_number, cast_of, number}
use Rattle.actor_core.specs.Standing.{Stands}
use Rattle.actor_core.specs.declared.machines.Core.{Core}
use Rattle.actor_core.specs.Tasks.{Task}
use Rattle.actor_core.proofs.Beginnings.{has_number}
use Rattle.actor_core.proofs.EventCounts.{over_links}
use Rattle.actor_core.proofs.LastTwo.{have_last}
use Rattle.actor_core.proofs.OwnNumbers.{is_actor, none_some, some_is}
use Rattle.link_trace.specs.Worlds.{HasNumber, MakesEvent, OccursAt, StandsFor, StandsForSome, WorldState, core_of}

-- ---- to whom an actor's posts go

reaches : (setting : Setting) (from to : Actor) → HasLink setting.k setting.feeders from to → IsActor setting to
reaches setting _ _ (feeder_joiner low high) = high
reaches setting _ _ (joiner_joiner {i = i} {low = bit} high within) =
    xor_lt setting.k i (2 ^ bit) high (pow-lt within)
reaches setting _ _ (controller_feeder low) = low
reaches setting _ _ (feeder_controller low) = tt
reaches setting _ _ (joiner_controller low) = tt
reaches setting _ _ (joiner_collector low) = tt

-- an actor of the run has a number
is_there : (setting : Setting) (cast : Cast) (a : Actor) → cast ≡ cast_of setting → IsActor setting a
    → HasNumber cast a
is_there setting cast a is actor none =
    let at = has_number setting a actor in
    none_some at.0 (sym none ∙ subst (λ c. number c a ≡ Some at.0) (sym is) at.1)

all_at : {X : Type 0} (P Q : X → Type 0) (xs : List X) → AllByRecursion P xs → ((x : X) → P x → Q x) → IsAllAt Q xs
all_at P Q [] all gives n x there = absurd (none_some x there)
all_at P Q (y ∷ ys) all gives zero x there = subst Q (some_is y x there) (gives y all.0)
all_at P Q (y ∷ ys) all gives (suc n) x there = all_at P Q ys all.1 gives n x there

-- the machine under an actor's number stands for the actor's lists
pub machine_stands : (task : Task) (w : WorldState) (f : Actor → ActorLists) → StandsFor task w f
    → (self : Actor) (n : ℕ) → number w.cast self ≡ Some n → (core : Core) → slice_get w.cores n ≡ Some core
    → IsActor task.setting self × Stands (start_for task self) (f self) core
machine_stands task w f stands self n at core was =
    let actor = is_actor task.setting w.cast self n stands.machines.cast_is at in
    let own = stands.machines.stands self actor in
    let there : core_of w self ≡ Some core =
    ap (λ (i : Option ℕ). at_number None i (λ k. slice_get w.cores k)) at ∙ was in
    (actor, subst (λ c. Stands (start_for task self) (f self) c) (some_is own.0 core (sym own.1 ∙ there)) own.2)

-- of an actor of a world of a task whose machine made an event, the posts go to actors that are there
module _ (w : WorldState) (self : Actor) (n : ℕ) (at : number w.cast self ≡ Some n) (cause : Cause) (cores : List Core)
    (posts : List Post) (occurs : OccursAt n cause w.cores cores posts) where
  posts_there : (is : StandsForSome w) → IsAllAt (λ (post : Post). HasNumber w.cast post.to) posts
  posts_there is =
      let task = is.task in
      let own = machine_stands task w is.lists is.stands self n at occurs.core occurs.was in
      let out = occurs.event.over (start_for task self) (is.lists self) own.1 in
      all_at (GoesOver task.setting.k task.setting.feeders self) (λ post. HasNumber w.cast post.to) posts
      (over_links task self posts own.0 out)
      (λ post goes. is_there task.setting w.cast post.to is.stands.machines.cast_is
      (reaches task.setting self post.to goes.link))

  -- so they do where the world is one of some task
  pub sends_there : ∥ StandsForSome w ∥₁ → IsAllAt (λ (post : Post). HasNumber w.cast post.to) posts
  sends_there some place post there missing =
      ∥∥₁_elim some (λ x y. absurd x) (λ (is : StandsForSome w). posts_there is place post there missing)

-- ---- it stays one

-- after an event it is one again
pub stands_still : (self : Actor) (cause : Cause) (w v : WorldState) → MakesEvent self cause w v → ∥ StandsForSome w ∥₁
    → ∥ StandsForSome v ∥₁
stands_still self cause w v made some = ∥∥₁_map some (λ is. record {
  task = is.task;
  lists = after_event self cause made.posts is.lists;
  stands = made.stands is.task is.lists is.stands;
})

-- ---- its last two machines

-- the last two machines of a world of some task are a controller's and a collector's
pub last_there : (w : WorldState) → ∥ StandsForSome w ∥₁ → ∥ HaveLast w.cores ∥₁
last_there w some = ∥∥₁_map some (λ (is : StandsForSome w).
    have_last is.task w.cast w.cores is.lists is.stands.machines)
