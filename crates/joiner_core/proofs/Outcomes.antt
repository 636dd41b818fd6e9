-- What is done to the epochs when a message is taken is the outcome that the definitions give.
use Rattle.std.proofs.Common.{◌≡◌, ℕ, refl, sym, ◌∙◌, ap, subst, arith, Bool, true, false, cond, Option, Some}
use Rattle.std.proofs.Common.{None}
use Rattle.std.proofs.Common.{List, [], ◌++◌, append_assoc, replicate}
use Rattle.std.specs.Prelude.{slice_set}
use Rattle.std.proofs.lemmas.List.{append-nil, ext_get_or, get_or-replicate, length-replicate}
use Rattle.epoch_tags.specs.declared.tuple.Tuple.{Tuple}
use Rattle.epoch_tags.specs.declared.tuple.Pair.{Pair}
use Rattle.epoch_tags.specs.declared.message.Post.{Post}
use Rattle.joiner_core.specs.State.{OpenStep, EpochState}
use Rattle.joiner_core.specs.Changes.{IsOpened, HasBegun, HasTurned, AreAllUp, IsReady, begun_posts, posts_turned}
use Rattle.joiner_core.specs.Changes.{after_old, found_old, posts_old, after_new, found_new, after_part, after_settle}
use Rattle.joiner_core.specs.Changes.{posts_settled, turned_in}
use Rattle.joiner_core.specs.Outcomes.{Outcome, Does, quiet, followed_by, fresh_step, begun_step, begun, turned_step}
use Rattle.joiner_core.specs.Outcomes.{turned, are_all_up, is_ready, settling, beginning, turning, of_turn, of_tup}
use Rattle.joiner_core.specs.Outcomes.{of_end, of_moved_end}
use Rattle.joiner_core.proofs.TakingTests.{all-up-is, ready-is}

-- nothing was done
pub does-nothing : {S : Type 0} (left new : S) (w : List Pair) (before : List Post) → new ≡ left
    → Does (quiet left) new w w before before
does-nothing left new w before is = record { left = is; found = sym (append-nil w); posts = sym (append-nil before) }

-- nothing was found, and this was posted
pub does-posting : {S : Type 0} (left new : S) (w : List Pair) (before after added : List Post) → new ≡ left
    → after ≡ before ++ added → Does (record { left = left; found = []; posts = added }) new w w before after
does-posting left new w before after added is posts = record { left = is; found = sym (append-nil w); posts = posts }

-- two parts one after the other do both
pub does-then : {S : Type 0} (first : Outcome S) (next : S → Outcome S) (b c : S) (w0 w1 w2 : List Pair)
    (p0 p1 p2 : List Post) → Does first b w0 w1 p0 p1 → Does (next b) c w1 w2 p1 p2
    → Does (followed_by first next) c w0 w2 p0 p2
does-then {S} first next b c w0 w1 w2 p0 p1 p2 one two = record {
  left = two.left ∙ ap (λ (s : S). (next s).left) one.left;
  found = two.found ∙ ap (λ zs. zs ++ (next b).found) one.found ∙ append_assoc w0 first.found (next b).found
      ∙ ap (λ (s : S). w0 ++ (first.found ++ (next s).found)) one.left;
  posts = two.posts ∙ ap (λ zs. zs ++ (next b).posts) one.posts ∙ append_assoc p0 first.posts (next b).posts
      ∙ ap (λ (s : S). p0 ++ (first.posts ++ (next s).posts)) one.left;
}

-- ---- a turn

-- the step that was opened is the fresh one
pub fresh-is : (m : EpochState) (epoch shift : ℕ) (o : OpenStep) → IsOpened m epoch shift o
    → o ≡ fresh_step m epoch shift
fresh-is m epoch shift o is =
    let count = is.count in
    let flags : o.turned ≡ replicate m.feeders false =
    ext_get_or false o.turned (replicate m.feeders false) (is.count ∙ sym (length-replicate m.feeders false))
    (λ i low. is.turned i ∙ sym (get_or-replicate m.feeders i false false (omega arith))) in
    λ i. record {
      epoch = is.epoch i;
      shift = is.shift i;
      turned = flags i;
      store = is.store i;
      partner_ended = is.partner_ended i;
    }

begun-is : (m : EpochState) (epoch shift : ℕ) (step step' : Option OpenStep) → HasBegun m epoch shift step step'
    → step' ≡ Some (begun_step m epoch shift step)
begun-is m epoch shift None None has = absurd has
begun-is m epoch shift None (Some o) has = ap Some (fresh-is m epoch shift o has)
begun-is m epoch shift (Some o) step' has = has

turned-is : (p : ℕ) (step step' : Option OpenStep) → HasTurned p step step' → step' ≡ turned_step p step
turned-is p None step' has = has
turned-is p (Some o) None has = absurd has
turned-is p (Some o) (Some o') has = ap Some (has.0 ∙ ap (λ fs. record o { turned = fs }) has.1)

does-begin : (m m1 : EpochState) (epoch shift : ℕ) (w : List Pair) (before after : List Post)
    → m1 ≡ record m { step = m1.step } → HasBegun m epoch shift m.step m1.step
    → after ≡ before ++ begun_posts m epoch shift m.step → Does (beginning m epoch shift) m1 w w before after
does-begin m m1 epoch shift w before after rest begun posts =
    does-posting _ m1 w before after _
    (rest ∙ ap (λ s. record m { step = s }) (begun-is m epoch shift m.step m1.step begun)) posts

module _ (m m1 : EpochState) (p : ℕ) (last : Bool) (w : List Pair) (before after : List Post) where
  does-turning : m1 ≡ record m { step = m1.step } → HasTurned p m.step m1.step → (last ≡ true → AreAllUp m1.step)
      → (last ≡ false → AreAllUp m1.step → ⊥) → after ≡ before ++ posts_turned m last
      → Does (turning p m) m1 w w before after
  does-turning rest turned up down posts =
      let step : m1.step ≡ turned_step p m.step = turned-is p m.step m1.step turned in
      let is : last ≡ are_all_up (turned_step p m.step) = all-up-is last m1.step up down ∙ ap are_all_up step in
      does-posting _ m1 w before after _ (rest ∙ ap (λ s. record m { step = s }) step)
      (posts ∙ ap (λ b. before ++ posts_turned m b) is)

-- a step was settled if it was ready
pub does-settle : (m m1 : EpochState) (ready : Bool) (w : List Pair) (before after : List Post)
    → (ready ≡ true → IsReady m.step) → (ready ≡ false → IsReady m.step → ⊥) → m1 ≡ after_settle ready m
    → after ≡ before ++ posts_settled ready m → Does (settling m) m1 w w before after
does-settle m m1 ready w before after up down state posts =
    let is : ready ≡ is_ready m.step = ready-is ready m.step up down in
    does-posting _ m1 w before after _ (state ∙ ap (λ b. after_settle b m) is)
    (posts ∙ ap (λ b. before ++ posts_settled b m) is)

-- a turn was taken: the step begun, the flag set, and the step settled if it was ready
pub does-turn : (m m1 m2 m3 : EpochState) (p epoch shift : ℕ) (last ready : Bool) (w : List Pair)
    (before s1 s2 after : List Post)
    → m1 ≡ record m { step = m1.step } → HasBegun m epoch shift m.step m1.step
    → s1 ≡ before ++ begun_posts m epoch shift m.step
    → m2 ≡ record m1 { step = m2.step } → HasTurned p m1.step m2.step → (last ≡ true → AreAllUp m2.step)
    → (last ≡ false → AreAllUp m2.step → ⊥) → s2 ≡ s1 ++ posts_turned m1 last
    → (ready ≡ true → IsReady m2.step) → (ready ≡ false → IsReady m2.step → ⊥) → m3 ≡ after_settle ready m2
    → after ≡ s2 ++ posts_settled ready m2
    → Does (of_turn m p epoch shift) m3 w w before after
does-turn m m1 m2 m3 p epoch shift last ready w before s1 s2 after rest1 begun posts1 rest2 turned up down posts2
    settles not_yet state posts3 =
    does-then (followed_by (beginning m epoch shift) (turning p)) settling m2 m3 w w w before s2 after
    (does-then (beginning m epoch shift) (turning p) m1 m2 w w w before s1 s2
    (does-begin m m1 epoch shift w before s1 rest1 begun posts1)
    (does-turning m1 m2 p last w s1 s2 rest2 turned up down posts2))
    (does-settle m2 m3 ready w s2 after settles not_yet state posts3)

-- ---- a tuple

-- a tuple of the open step's epoch was taken
pub does-new : (m : EpochState) (p : ℕ) (x : Tuple) (w : List Pair) (before : List Post) → turned_in m.step p ≡ true
    → Does (of_tup m p x) (after_new m x) w (w ++ found_new m x) before before
does-new m p x w before has =
    let new : Outcome EpochState = record { left = after_new m x; found = found_new m x; posts = [] } in
    let old : Outcome EpochState = record { left = after_old m x; found = found_old m x; posts = posts_old m x } in
    subst (λ (b : Bool). Does (cond b new old) (after_new m x) w (w ++ found_new m x) before before) (sym has)
    (record { left = refl; found = refl; posts = sym (append-nil before) })

-- a tuple of the settled epoch was taken
pub does-old : (m : EpochState) (p : ℕ) (x : Tuple) (w : List Pair) (before : List Post) → turned_in m.step p ≡ false
    → Does (of_tup m p x) (after_old m x) w (w ++ found_old m x) before (before ++ posts_old m x)
does-old m p x w before still =
    let new : Outcome EpochState = record { left = after_new m x; found = found_new m x; posts = [] } in
    let old : Outcome EpochState = record { left = after_old m x; found = found_old m x; posts = posts_old m x } in
    subst (λ (b : Bool). Does (cond b new old) (after_old m x) w (w ++ found_old m x) before (before ++ posts_old m x))
    (sym still) (record { left = refl; found = refl; posts = refl })

-- ---- the ends

-- a feeder's end was taken
pub does-end : (m m' : EpochState) (p : ℕ) (w : List Pair) (before : List Post) → m' ≡ record m { ended = m'.ended }
    → m'.ended ≡ slice_set m.ended p true → Does (of_end m p) m' w w before before
does-end m m' p w before rest flags =
    does-nothing (record m { ended = slice_set m.ended p true }) m' w before
    (rest ∙ ap (λ fs. record m { ended = fs }) flags)

module _ (m m1 m2 : EpochState) (ready : Bool) (w : List Pair) (before after : List Post) where
  -- the end of the partner's part was taken
  pub does-part : m1 ≡ after_part m → (ready ≡ true → IsReady m1.step) → (ready ≡ false → IsReady m1.step → ⊥)
      → m2 ≡ after_settle ready m1 → after ≡ before ++ posts_settled ready m1
      → Does (of_moved_end m) m2 w w before after
  does-part part up down state posts =
      subst (λ (z : EpochState). Does (settling z) m2 w w before after) part
      (does-settle m1 m2 ready w before after up down state posts)
