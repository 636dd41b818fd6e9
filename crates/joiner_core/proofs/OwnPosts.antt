-- Whither a joiner's posts go.
use Rattle.std.proofs.Common.{◌≡◌, ℕ, ◌<◌, ◌≤◌, ◌^◌, subst, Bool, true, false, cond, Option, Some}
use Rattle.std.proofs.Common.{None, List, [], ◌∷◌, ◌++◌, map, All}
use Rattle.std.specs.Prelude.{min}
use Rattle.std.proofs.lemmas.List.Elements.{All-nil, All-cons, All-append, All-filter, All-map}
use Rattle.epoch_tags.specs.Links.{joiner_joiner, joiner_controller, joiner_collector}
use Rattle.epoch_tags.specs.Posts.{AllGoOver}
use Rattle.epoch_tags.specs.declared.actor.Actor.TheVariants.{Joiner as Joiner'}
use Rattle.epoch_tags.specs.declared.message.Post.{Post}
use Rattle.epoch_tags.specs.declared.tuple.Tuple.{Tuple}
use Rattle.epoch_tags.specs.declared.tuple.Pair.{Pair}
use Rattle.migration_plan.specs.Steps.{is_of, exchanged_side, partner_in_step}
use Rattle.migration_plan.proofs.Neighbours.{lesser_below}
use Rattle.theta_pred.specs.Formula.{Meaning}
use Rattle.joiner_law.specs.Posting.{moved_post, moved_end_post, settled_post}
use Rattle.joiner_core.specs.State.{IsRow, AreRows, IsOwnPost, AllSendRows, OpenStep, EpochState, MachineState}
use Rattle.joiner_core.specs.Changes.{late_posts, begun_posts, end_posts, posts_turned, settle_posts, posts_settled}
use Rattle.joiner_core.specs.Taking.{IsWithin, IsFixed, IsStepWithin, TurnFits, AreOwnPosts}
use Rattle.joiner_core.specs.Calls.{found_posts, fin_posts}

own-moved : (m : EpochState) (shift epoch : ℕ) (x : Tuple) → m.id < 2 ^ m.k → min m.shift shift < m.k → IsRow m.theta x
    → IsOwnPost m.k m.feeders m.id m.theta (moved_post (partner_in_step m.shift shift m.id) epoch x)
own-moved m shift epoch x id low row = record { over = record { link = joiner_joiner id low; kind = tt }; row = row }

own-moves : (m : EpochState) (shift epoch : ℕ) (xs : List Tuple) → m.id < 2 ^ m.k → min m.shift shift < m.k
    → AreRows m.theta xs
    → AreOwnPosts m (map (moved_post (partner_in_step m.shift shift m.id) epoch) xs)
own-moves m shift epoch xs id low rows =
    All-map (IsOwnPost m.k m.feeders m.id m.theta) (moved_post (partner_in_step m.shift shift m.id) epoch) xs
    (λ n d less. own-moved m shift epoch _ id low (rows n d less))

rows-if : (theta : Meaning) (yes : Bool) (x : Tuple) → IsRow theta x → AreRows theta (cond yes (x ∷ []) [])
rows-if theta true x row = All-cons (IsRow theta) x [] row (All-nil (IsRow theta))
rows-if theta false x row = All-nil (IsRow theta)

-- in a step of the grid, what a row of the settled epoch sends goes over the joiner's links, with rows of the widths
pub own-late : (m : EpochState) (x : Tuple) (step : Option OpenStep) → m.id < 2 ^ m.k → m.shift ≤ m.k
    → IsStepWithin m.k m.shift step → IsRow m.theta x → AreOwnPosts m (late_posts m x step)
own-late m x None id low within row = All-nil (IsOwnPost m.k m.feeders m.id m.theta)
own-late m x (Some o) id low within row = own-moves m o.shift o.epoch _ id
    (lesser_below m.k m.shift o.shift low within.0 within.1) (rows-if m.theta (is_of (exchanged_side m.shift o.shift) x)
    x row)

-- so do the rows that are sent to the partner where a turn that fits opens a step
pub own-begun : (m : EpochState) (p epoch shift : ℕ) (step : Option OpenStep) → IsWithin m
    → TurnFits m p epoch shift step → AreOwnPosts m (begun_posts m epoch shift step)
own-begun m p epoch shift None within fits =
    own-moves m shift epoch _ within.id (lesser_below m.k m.shift shift within.shift fits.1 fits.2)
    (All-filter (is_of (exchanged_side m.shift shift)) (IsRow m.theta) m.store.tuples within.stock.rows)
own-begun m p epoch shift (Some o) within fits = All-nil (IsOwnPost m.k m.feeders m.id m.theta)

own-ends : (m : EpochState) (step : Option OpenStep) → m.id < 2 ^ m.k → m.shift ≤ m.k → IsStepWithin m.k m.shift step
    → AreOwnPosts m (end_posts m step)
own-ends m None id low within = All-nil (IsOwnPost m.k m.feeders m.id m.theta)
own-ends m (Some o) id low within =
    All-cons (IsOwnPost m.k m.feeders m.id m.theta) (moved_end_post (partner_in_step m.shift o.shift m.id) o.epoch) []
    (record {
      over = record { link = joiner_joiner id (lesser_below m.k m.shift o.shift low within.0 within.1); kind = tt };
      row = tt;
    }) (All-nil (IsOwnPost m.k m.feeders m.id m.theta))

-- so does the end of what is moved, whether it is sent or not
pub own-turned : (m : EpochState) (last : Bool) → m.id < 2 ^ m.k → m.shift ≤ m.k → IsStepWithin m.k m.shift m.step
    → AreOwnPosts m (posts_turned m last)
own-turned m true id low within = own-ends m m.step id low within
own-turned m false id low within = All-nil (IsOwnPost m.k m.feeders m.id m.theta)

own-settle : (m : EpochState) (step : Option OpenStep) → m.id < 2 ^ m.k → AreOwnPosts m (settle_posts step)
own-settle m None id = All-nil (IsOwnPost m.k m.feeders m.id m.theta)
own-settle m (Some o) id =
    All-cons (IsOwnPost m.k m.feeders m.id m.theta) (settled_post o.epoch) []
    (record { over = record { link = joiner_controller id; kind = tt }; row = tt })
    (All-nil (IsOwnPost m.k m.feeders m.id m.theta))

-- so does the message that a step is settled, whether it is sent or not
pub own-settled : (m : EpochState) (ready : Bool) → m.id < 2 ^ m.k → AreOwnPosts m (posts_settled ready m)
own-settled m true id = own-settle m m.step id
own-settled m false id = All-nil (IsOwnPost m.k m.feeders m.id m.theta)

-- so do the pairs found, if there are any
pub own-found : (m : EpochState) (pairs : List Pair) → m.id < 2 ^ m.k → AreOwnPosts m (found_posts pairs)
own-found m [] id = All-nil (IsOwnPost m.k m.feeders m.id m.theta)
own-found m (p ∷ ps) id =
    All-cons (IsOwnPost m.k m.feeders m.id m.theta) _ []
    (record { over = record { link = joiner_collector id; kind = tt }; row = tt })
    (All-nil (IsOwnPost m.k m.feeders m.id m.theta))

-- so does the last message, whether it is sent or not
pub own-fin : (m : MachineState) (now : Bool) → m.epochs.id < 2 ^ m.epochs.k → AreOwnPosts m.epochs (fin_posts now m)
own-fin m true id =
    All-cons (IsOwnPost m.epochs.k m.epochs.feeders m.epochs.id m.epochs.theta) _ []
    (record { over = record { link = joiner_collector id; kind = tt }; row = tt })
    (All-nil (IsOwnPost m.epochs.k m.epochs.feeders m.epochs.id m.epochs.theta))
own-fin m false id = All-nil (IsOwnPost m.epochs.k m.epochs.feeders m.epochs.id m.epochs.theta)

-- the empty list of posts is one of which this holds
pub own-none : (m : EpochState) → AreOwnPosts m []
own-none m = All-nil (IsOwnPost m.k m.feeders m.id m.theta)

-- posts of which this holds may be put one after the other
pub own-append : (m : EpochState) (xs ys : List Post) → AreOwnPosts m xs → AreOwnPosts m ys → AreOwnPosts m (xs ++ ys)
own-append m xs ys one two = All-append (IsOwnPost m.k m.feeders m.id m.theta) xs ys one two

module _ (k k' n n' id id' : ℕ) (th th' : Meaning) (posts : List Post) where
  own-by : k' ≡ k → n' ≡ n → id' ≡ id → th' ≡ th → All (IsOwnPost k' n' id' th') posts → All (IsOwnPost k n id th) posts
  own-by one two three four own =
      subst (λ (i : ℕ). All (IsOwnPost i n id th) posts) one
      (subst (λ (i : ℕ). All (IsOwnPost k' i id th) posts) two
      (subst (λ (i : ℕ). All (IsOwnPost k' n' i th) posts) three
      (subst (λ (z : Meaning). All (IsOwnPost k' n' id' z) posts) four own)))

-- a call doesn't change whose posts they are
pub own-before : (old new : EpochState) (posts : List Post) → IsFixed old new → AreOwnPosts new posts
    → AreOwnPosts old posts
own-before old new posts fixed own = own-by old.k new.k old.feeders new.feeders old.id new.id old.theta new.theta posts
    fixed.k fixed.feeders fixed.id fixed.theta own

-- the joiner's own posts all go over its links
pub all-over : (m : EpochState) (posts : List Post) → AreOwnPosts m posts → AllGoOver m.k m.feeders (Joiner' m.id) posts
all-over m posts own = λ n d less. (own n d less).over

-- each row that the joiner's own posts carry to a joiner has the predicate's widths
pub all-rows : (m : EpochState) (posts : List Post) → AreOwnPosts m posts → AllSendRows m.theta posts
all-rows m posts own = λ n d less. (own n d less).row
