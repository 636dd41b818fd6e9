-- What is sent in one call after another, and what of it goes to the collector.
use Rattle.std.proofs.Common.{◌≡◌, ℕ, refl, sym, ◌∙◌, ap, Bool, true, false, cond, Option, Some, None, List, [], ◌∷◌}
use Rattle.std.proofs.Common.{◌++◌, append_assoc}
use Rattle.std.proofs.lemmas.List.{append-nil}
use Rattle.std.specs.Prelude.{filter}
use Rattle.epoch_tags.specs.declared.tuple.Tuple.{Tuple}
use Rattle.epoch_tags.specs.Posts.{posted_to_joiner, posted_to_controller, posted_to_collector, for_joiner}
use Rattle.epoch_tags.specs.Posts.{for_controller, for_collector}
use Rattle.std.proofs.lemmas.List.Elements.{filter_map-append}
use Rattle.migration_plan.specs.Steps.{is_of, exchanged_side, partner_in_step}
use Rattle.joiner_law.specs.Law.{JoinerLists}
use Rattle.joiner_law.specs.Standing.{with_sent}
use Rattle.joiner_law.proofs.OneMessage.{no_pairs}
use Rattle.joiner_core.specs.State.{OpenStep, EpochState}
use Rattle.joiner_core.specs.Changes.{late_posts, settle_posts, posts_settled, end_posts, posts_turned, begun_posts}
use Rattle.epoch_tags.specs.declared.message.Post.{Post}

-- posts that are none change no lists
pub with_sent-none : (lists : JoinerLists) → with_sent lists [] ≡ lists
with_sent-none lists = λ i. record {
  from_feeder = lists.from_feeder;
  from_joiner = lists.from_joiner;
  to_joiner = λ j. append-nil (lists.to_joiner j) i;
  to_controller = append-nil lists.to_controller i;
  to_collector = append-nil lists.to_collector i;
}

-- posts sent in two goes change the lists as if they were sent in one
pub with_sent-append : (lists : JoinerLists) (xs ys : List Post)
    → with_sent (with_sent lists xs) ys ≡ with_sent lists (xs ++ ys)
with_sent-append lists xs ys = λ i. record {
  from_feeder = lists.from_feeder;
  from_joiner = lists.from_joiner;
  to_joiner = λ j. joined (lists.to_joiner j) (posted_to_joiner j xs) (posted_to_joiner j ys)
      (posted_to_joiner j (xs ++ ys)) (filter_map-append (λ post. for_joiner j post.to post.msg) xs ys) i;
  to_controller = joined lists.to_controller (posted_to_controller xs) (posted_to_controller ys)
      (posted_to_controller (xs ++ ys)) (filter_map-append (λ post. for_controller post.to post.msg) xs ys) i;
  to_collector = joined lists.to_collector (posted_to_collector xs) (posted_to_collector ys)
      (posted_to_collector (xs ++ ys)) (filter_map-append (λ post. for_collector post.to post.msg) xs ys) i;
}
  where
    joined : {X : Type 0} (as' bs cs ds : List X) → ds ≡ bs ++ cs → (as' ++ bs) ++ cs ≡ as' ++ ds
    joined as' bs cs ds is = append_assoc as' bs cs ∙ ap (λ zs. as' ++ zs) (sym is)

-- where neither posts have one to the collector, they have none together
pub quiet-append : (xs ys : List Post) → posted_to_collector xs ≡ [] → posted_to_collector ys ≡ []
    → posted_to_collector (xs ++ ys) ≡ []
quiet-append xs ys a b = filter_map-append (λ post. for_collector post.to post.msg) xs ys
    ∙ ap (λ zs. zs ++ posted_to_collector ys) a ∙ b

-- a row of the settled epoch sends the collector nothing in an open step
pub quiet-late : (m : EpochState) (x : Tuple) (step : Option OpenStep) → posted_to_collector (late_posts m x step) ≡ []
quiet-late m x None = refl
quiet-late m x (Some o) = no_pairs (partner_in_step m.shift o.shift m.id) o.epoch
    (cond (is_of (exchanged_side m.shift o.shift) x) (x ∷ []) [])

-- nor does the opening of a step
pub quiet-begun : (m : EpochState) (epoch shift : ℕ) (step : Option OpenStep)
    → posted_to_collector (begun_posts m epoch shift step) ≡ []
quiet-begun m epoch shift None = no_pairs (partner_in_step m.shift shift m.id) epoch
    (filter (is_of (exchanged_side m.shift shift)) m.store.tuples)
quiet-begun m epoch shift (Some o) = refl

quiet-ends : (m : EpochState) (step : Option OpenStep) → posted_to_collector (end_posts m step) ≡ []
quiet-ends m None = refl
quiet-ends m (Some o) = refl

-- nor does a turn, whether it is the last or not
pub quiet-turned : (m : EpochState) (last : Bool) → posted_to_collector (posts_turned m last) ≡ []
quiet-turned m true = quiet-ends m m.step
quiet-turned m false = refl

quiet-settle : (step : Option OpenStep) → posted_to_collector (settle_posts step) ≡ []
quiet-settle None = refl
quiet-settle (Some o) = refl

-- nor does settling a step, whether it is ready or not
pub quiet-settled : (ready : Bool) (m : EpochState) → posted_to_collector (posts_settled ready m) ≡ []
quiet-settled true m = quiet-settle m.step
quiet-settled false m = refl
