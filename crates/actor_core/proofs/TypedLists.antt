-- The typed lists after an event are the typed lists with that event.
use Rattle.std.proofs.Common.{◌≡◌, ℕ, ◌==◌, refl, ap, ◌∙◌, Bool, true, false, cond, Option, Some, None, List, [], ◌∷◌}
use Rattle.std.proofs.Common.{◌++◌, filter_map}
use Rattle.std.specs.List.{cons_option}
use Rattle.std.proofs.lemmas.List.Elements.{filter_map-append}
use Rattle.epoch_tags.specs.declared.actor.Actor.{Actor}
use Rattle.epoch_tags.specs.declared.actor.Actor.TheVariants.{Feeder, Joiner, Controller, Collector}
use Rattle.epoch_tags.specs.declared.message.Msg.{Msg}
use Rattle.epoch_tags.specs.declared.message.Post.{Post}
use Rattle.epoch_tags.specs.declared.message.ToJoiner.{ToJoiner}
use Rattle.epoch_tags.specs.declared.message.ToFeeder.{ToFeeder}
use Rattle.epoch_tags.specs.declared.message.ToController.{ToController}
use Rattle.epoch_tags.specs.declared.message.ToCollector.{ToCollector}
use Rattle.epoch_tags.specs.Posts.{joiner_msg, feeder_msg, controller_msg, collector_msg, for_joiner, for_feeder}
use Rattle.epoch_tags.specs.Posts.{for_controller, for_collector, posted_to_joiner, posted_to_feeder}
use Rattle.epoch_tags.specs.Posts.{posted_to_controller, posted_to_collector}
use Rattle.actor_core.specs.Lists.{same_actor, posted_to}

-- ---- posts

picked : {M : Type 0} (kind : Msg → Option M) (b : Bool) (m : Msg) (rest : List Msg) (typed : List M)
    → filter_map kind rest ≡ typed
    → filter_map kind (cons_option (cond b (Some m) None) rest) ≡ cons_option (cond b (kind m) None) typed
picked kind true m rest typed e = ap (cons_option (kind m)) e
picked kind false m rest typed e = e

joiner_post : (to : Actor) (m : Msg) (j : ℕ) (rest : List Msg) (typed : List ToJoiner)
    → filter_map joiner_msg rest ≡ typed
    → filter_map joiner_msg (cons_option (cond (same_actor to (Joiner j)) (Some m) None) rest)
    ≡ cons_option (for_joiner j to m) typed
joiner_post (Feeder p) m j rest typed e = e
joiner_post (Joiner id) m j rest typed e = picked joiner_msg (id == j) m rest typed e
joiner_post Controller m j rest typed e = e
joiner_post Collector m j rest typed e = e

-- of the posts, the messages to a joiner are those that its typed list gets
pub joiner_posts : (j : ℕ) (posts : List Post)
    → filter_map joiner_msg (posted_to (Joiner j) posts) ≡ posted_to_joiner j posts
joiner_posts j [] = refl
joiner_posts j (post ∷ posts) =
    joiner_post post.to post.msg j (posted_to (Joiner j) posts) (posted_to_joiner j posts) (joiner_posts j posts)

feeder_post : (to : Actor) (m : Msg) (j : ℕ) (rest : List Msg) (typed : List ToFeeder)
    → filter_map feeder_msg rest ≡ typed
    → filter_map feeder_msg (cons_option (cond (same_actor to (Feeder j)) (Some m) None) rest)
    ≡ cons_option (for_feeder j to m) typed
feeder_post (Feeder p) m j rest typed e = picked feeder_msg (p == j) m rest typed e
feeder_post (Joiner id) m j rest typed e = e
feeder_post Controller m j rest typed e = e
feeder_post Collector m j rest typed e = e

-- of the posts, the messages to a feeder are those that its typed list gets
pub feeder_posts : (p : ℕ) (posts : List Post)
    → filter_map feeder_msg (posted_to (Feeder p) posts) ≡ posted_to_feeder p posts
feeder_posts p [] = refl
feeder_posts p (post ∷ posts) =
    feeder_post post.to post.msg p (posted_to (Feeder p) posts) (posted_to_feeder p posts) (feeder_posts p posts)

controller_post : (to : Actor) (m : Msg) (rest : List Msg) (typed : List ToController)
    → filter_map controller_msg rest ≡ typed
    → filter_map controller_msg (cons_option (cond (same_actor to Controller) (Some m) None) rest)
    ≡ cons_option (for_controller to m) typed
controller_post (Feeder p) m rest typed e = e
controller_post (Joiner id) m rest typed e = e
controller_post Controller m rest typed e = picked controller_msg true m rest typed e
controller_post Collector m rest typed e = e

-- of the posts, the messages to the controller are those that its typed list gets
pub controller_posts : (posts : List Post)
    → filter_map controller_msg (posted_to Controller posts) ≡ posted_to_controller posts
controller_posts [] = refl
controller_posts (post ∷ posts) =
    controller_post post.to post.msg (posted_to Controller posts) (posted_to_controller posts) (controller_posts posts)

collector_post : (to : Actor) (m : Msg) (rest : List Msg) (typed : List ToCollector)
    → filter_map collector_msg rest ≡ typed
    → filter_map collector_msg (cons_option (cond (same_actor to Collector) (Some m) None) rest)
    ≡ cons_option (for_collector to m) typed
collector_post (Feeder p) m rest typed e = e
collector_post (Joiner id) m rest typed e = e
collector_post Controller m rest typed e = e
collector_post Collector m rest typed e = picked collector_msg true m rest typed e

-- of the posts, the messages to the collector are those that its typed list gets
pub collector_posts : (posts : List Post)
    → filter_map collector_msg (posted_to Collector posts) ≡ posted_to_collector posts
collector_posts [] = refl
collector_posts (post ∷ posts) =
    collector_post post.to post.msg (posted_to Collector posts) (posted_to_collector posts) (collector_posts posts)

-- what was sent before and now
pub appended : {M : Type 0} (kind : Msg → Option M) (before posts : List Msg) (typed : List M)
    → filter_map kind posts ≡ typed
    → filter_map kind (before ++ posts) ≡ filter_map kind before ++ typed
appended kind before posts typed e = filter_map-append kind before posts ∙ ap (λ ms. filter_map kind before ++ ms) e

-- ---- the cause

-- a message of the kind, to the list that b says or not
pub got : {M : Type 0} (kind : Msg → Option M) (b : Bool) (m : Msg) (x : M) (before : List Msg) → kind m ≡ Some x
    → filter_map kind (cond b (before ++ m ∷ []) before) ≡ cond b (filter_map kind before ++ x ∷ [])
    (filter_map kind before)
got kind true m x before e = appended kind before (m ∷ []) (x ∷ []) (ap (λ o. cons_option o []) e)
got kind false m x before e = refl
