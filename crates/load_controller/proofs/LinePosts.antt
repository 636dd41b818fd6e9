-- What the posts of a line carry to each feeder.
use Rattle.std.proofs.Common.{◌≡◌, ℕ, zero, suc, ◌+◌, ◌<◌, ◌≤◌, inl, inr, refl, ◌∙◌, ap, arith, Bool, true, false, cond}
use Rattle.std.proofs.Common.{List, [], ◌∷◌, ◌++◌}
use Rattle.std.specs.Prelude.{map, ◌==◌, not, ◌&&◌}
use Rattle.std.proofs.lemmas.Bool.{cases_eq, eq-eqb, ne_eqb}
use Rattle.std.proofs.lemmas.List.{map-append}
use Rattle.std.proofs.lemmas.List.Elements.{filter_map-append, All-append, All-nil}
use Rattle.row_cells.specs.Lists.{counting_from}
use Rattle.row_cells.proofs.RisingNumbers.{counting-more}
use Rattle.epoch_tags.specs.declared.actor.Actor.TheVariants.{Controller}
use Rattle.epoch_tags.specs.declared.message.Post.{Post}
use Rattle.epoch_tags.specs.declared.message.ToFeeder.{ToFeeder}
use Rattle.epoch_tags.specs.declared.message.ToFeeder.TheVariants.{Order, Grant, Stop}
use Rattle.epoch_tags.specs.Posts.{GoesOver, AllGoOver, posted_to_feeder, for_feeder}
use Rattle.epoch_tags.specs.Links.HasLink.{controller_feeder}
use Rattle.load_controller.specs.declared.line.Cause.{Cause}
use Rattle.load_controller.specs.declared.line.Cause.TheVariants.{Start, Wave, Count, Settle, Drain}
use Rattle.load_controller.specs.declared.line.TurnLine.{TurnLine}
use Rattle.load_controller.specs.declared.ledger.Ledger.{Ledger}
use Rattle.load_controller.specs.Journal.{Rules, is_count_of}
use Rattle.load_controller.specs.Law.{is_over, sent_for}
use Rattle.load_controller.specs.Standing.{post_to, to_each, grant_for, posts_for}
use Rattle.load_controller.specs.Machine.{CauseFits, rules_of}

-- a post to one feeder more stands at the end
pub to_each_more : (n : ℕ) (m : ToFeeder) → to_each (n + 1) m ≡ to_each n m ++ post_to m n ∷ []
to_each_more n m =
    ap (map (post_to m)) (counting-more 0 n) ∙ map-append (post_to m) (counting_from 0 n) ((0 + n) ∷ [])
    ∙ ap (λ i. to_each n m ++ post_to m i ∷ []) (let e : 0 + n ≡ n = omega arith in e)

-- ---- to feeder q

posted_append : (q : ℕ) (xs ys : List Post)
    → posted_to_feeder q (xs ++ ys) ≡ posted_to_feeder q xs ++ posted_to_feeder q ys
posted_append q xs ys = filter_map-append (λ post. for_feeder q post.to post.msg) xs ys

-- a post to another feeder, and to this one
posted_other : (q p : ℕ) (m : ToFeeder) (posts : List Post) → (p ≡ q → ⊥)
    → posted_to_feeder q (post_to m p ∷ posts) ≡ posted_to_feeder q posts
posted_other q p m posts differ = rw (ne_eqb p q differ) refl

posted_own : (q p : ℕ) (m : ToFeeder) (posts : List Post) → p ≡ q
    → posted_to_feeder q (post_to m p ∷ posts) ≡ m ∷ posted_to_feeder q posts
posted_own q p m posts same = rw (eq-eqb p q same) refl

to_none : (q a n : ℕ) (m : ToFeeder) → q < a → posted_to_feeder q (map (post_to m) (counting_from a n)) ≡ []
to_none q a zero m less = refl
to_none q a (suc n) m less =
    posted_other q a m (map (post_to m) (counting_from (a + 1) n)) (λ same. absurd (omega arith))
    ∙ to_none q (a + 1) n m (omega arith)

to_one : (q a n : ℕ) (m : ToFeeder) → a ≤ q → q < a + n
    → posted_to_feeder q (map (post_to m) (counting_from a n)) ≡ m ∷ []
to_one q a zero m low high = absurd (omega arith)
to_one q a (suc n) m low high = elim (cases_eq a q) [
  | inl same ↦
      posted_own q a m (map (post_to m) (counting_from (a + 1) n)) same
      ∙ ap (λ ms. m ∷ ms) (to_none q (a + 1) n m (omega arith))
  | inr differ ↦
      posted_other q a m (map (post_to m) (counting_from (a + 1) n)) differ
      ∙ to_one q (a + 1) n m (omega arith) (omega arith)
]

posted_grant : (q : ℕ) (cause : Cause)
    → posted_to_feeder q (grant_for cause) ≡ cond (is_count_of q cause) (Grant ∷ []) []
posted_grant q Start = refl
posted_grant q Wave = refl
posted_grant q (Count feeder dr ds) = elim (cases_eq feeder q) [
  | inl same ↦ rw (eq-eqb feeder q same) refl
  | inr differ ↦ rw (ne_eqb feeder q differ) refl
]
posted_grant q (Settle joiner) = refl
posted_grant q (Drain feeder) = refl

posted_if : (q feeders : ℕ) (m : ToFeeder) (b : Bool) → q < feeders
    → posted_to_feeder q (cond b (to_each feeders m) []) ≡ cond b (m ∷ []) []
posted_if q feeders m true low = to_one q 0 feeders m (omega arith) (omega arith)
posted_if q feeders m false low = refl

posted_unless : (q feeders : ℕ) (m : ToFeeder) (b : Bool) → q < feeders
    → posted_to_feeder q (cond b [] (to_each feeders m)) ≡ cond b [] (m ∷ [])
posted_unless q feeders m true low = refl
posted_unless q feeders m false low = to_one q 0 feeders m (omega arith) (omega arith)

-- what a line's posts carry to feeder q is what the law has
pub posted_for : (rules : Rules) (line before : TurnLine) (past : List TurnLine) (q : ℕ) → q < rules.feeders
    → posted_to_feeder q (posts_for rules line before past) ≡ sent_for rules q line before past
posted_for rules line before past q low =
    let stays = line.epoch == before.epoch in
    let order = Order line.epoch line.shift in
    let ends = not (is_over rules.feeders (before ∷ past)) && is_over rules.feeders (line ∷ before ∷ past) in
    let orders : List Post = cond stays [] (to_each rules.feeders order) in
    let last : List Post = cond ends (to_each rules.feeders Stop) [] in
    posted_append q (orders ++ grant_for line.cause) last
    ∙ ap (λ ms. ms ++ posted_to_feeder q last) (posted_append q orders (grant_for line.cause))
    ∙ ap (λ ms. (ms ++ posted_to_feeder q (grant_for line.cause)) ++ posted_to_feeder q last)
    (posted_unless q rules.feeders order stays low)
    ∙ ap (λ ms. (cond stays [] (order ∷ []) ++ ms) ++ posted_to_feeder q last) (posted_grant q line.cause)
    ∙ ap (λ ms. (cond stays [] (order ∷ []) ++ cond (is_count_of q line.cause) (Grant ∷ []) []) ++ ms)
    (posted_if q rules.feeders Stop ends low)

-- ---- over links

module _ (k feeders : ℕ) where
  one_over : (m : ToFeeder) (p : ℕ) → p < feeders → AllGoOver k feeders Controller (post_to m p ∷ [])
  one_over m p low = λ i d below. let at : i ≡ 0 = omega arith in
      rw at (record { link = controller_feeder low; kind = tt })

  each_over : (m : ToFeeder) (a n : ℕ) → a + n ≤ feeders
      → AllGoOver k feeders Controller (map (post_to m) (counting_from a n))
  each_over m a zero within = All-nil (GoesOver k feeders Controller)
  each_over m a (suc n) within =
      All-append (GoesOver k feeders Controller) (post_to m a ∷ []) (map (post_to m) (counting_from (a + 1) n))
      (one_over m a (omega arith)) (each_over m (a + 1) n (omega arith))

  grant_over : (c : Ledger) (cause : Cause) → c.feeders ≡ feeders → CauseFits c cause
      → AllGoOver k feeders Controller (grant_for cause)
  grant_over c Start same fits = absurd fits
  grant_over c Wave same fits = absurd fits
  grant_over c (Count feeder dr ds) same fits = one_over Grant feeder (let low = fits.0 in omega arith)
  grant_over c (Settle joiner) same fits = All-nil (GoesOver k feeders Controller)
  grant_over c (Drain feeder) same fits = All-nil (GoesOver k feeders Controller)

  if_over : (m : ToFeeder) (b : Bool) → AllGoOver k feeders Controller (cond b (to_each feeders m) [])
  if_over m true = each_over m 0 feeders (omega arith)
  if_over m false = All-nil (GoesOver k feeders Controller)

  unless_over : (m : ToFeeder) (b : Bool) → AllGoOver k feeders Controller (cond b [] (to_each feeders m))
  unless_over m true = All-nil (GoesOver k feeders Controller)
  unless_over m false = each_over m 0 feeders (omega arith)

-- a line's posts go over links, where its cause may come
pub line_over : (c : Ledger) (line before : TurnLine) (past : List TurnLine) → CauseFits c line.cause
    → AllGoOver c.k c.feeders Controller (posts_for (rules_of c) line before past)
line_over c line before past fits =
    let k = c.k in
    let feeders = c.feeders in
    let ends = not (is_over feeders (before ∷ past)) && is_over feeders (line ∷ before ∷ past) in
    let orders : List Post = cond (line.epoch == before.epoch) [] (to_each feeders (Order line.epoch line.shift)) in
    let last : List Post = cond ends (to_each feeders Stop) [] in
    let Over : Post → Type 0 = λ post. GoesOver k feeders Controller post in
    All-append Over (orders ++ grant_for line.cause) last
    (All-append Over orders (grant_for line.cause)
    (unless_over k feeders (Order line.epoch line.shift) (line.epoch == before.epoch))
    (grant_over k feeders c line.cause refl fits))
    (if_over k feeders Stop ends)
