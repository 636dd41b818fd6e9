-- What the posts of a feeder carry to each joiner, and to the controller.
use Rattle.std.proofs.Common.{◌≡◌, ℕ, zero, suc, ◌+◌, ◌^◌, ◌<◌, ◌≤◌, eqb, inl, inr, refl, sym, ◌∙◌, ap, subst, arith}
use Rattle.std.proofs.Common.{eq-eqb, Bool, true, false, cond, List, [], ◌∷◌, ◌++◌}
use Rattle.std.specs.Prelude.{map, filter}
use Rattle.std.specs.List.{range_with_len}
use Rattle.std.proofs.lemmas.Bool.{ne_eqb, cases_lt}
use Rattle.std.proofs.lemmas.List.{map-append}
use Rattle.std.proofs.lemmas.List.Elements.{filter-append, filter_map-append, All-append, All-nil}
use Rattle.epoch_tags.specs.declared.tuple.Tuple.{Tuple}
use Rattle.epoch_tags.specs.declared.actor.Actor.TheVariants.{Feeder}
use Rattle.epoch_tags.specs.declared.message.Post.{Post}
use Rattle.epoch_tags.specs.declared.message.ToController.{ToController}
use Rattle.epoch_tags.specs.Links.HasLink.{feeder_joiner, feeder_controller}
use Rattle.epoch_tags.specs.declared.message.ToJoiner.{ToJoiner}
use Rattle.epoch_tags.specs.declared.message.ToJoiner.TheVariants.{Tup}
use Rattle.epoch_tags.specs.Posts.{GoesOver, AllGoOver, posted_to_joiner, posted_to_controller, for_joiner}
use Rattle.epoch_tags.specs.Posts.{for_controller}
use Rattle.migration_plan.specs.Steps.{holds}
use Rattle.reshuffler_core.specs.Law.{copies_for, stamped}
use Rattle.reshuffler_core.specs.Standing.{post_to, posts_to_all, posts_of_tuple, posts_of_batch, to_controller}

abbrev posts_where : (ℕ → Bool) → ToJoiner → ℕ → ℕ → List Post
posts_where test m first n = map (post_to m) (filter test (range_with_len first n))

-- ---- to a joiner

none_before : (test : ℕ → Bool) (m : ToJoiner) (j first n : ℕ) → j < first
    → posted_to_joiner j (posts_where test m first n) ≡ []
none_before test m j first zero below = refl
none_before test m j first (suc n) below =
    either (test first) (ne_eqb first j (λ same. omega arith)) (none_before test m j (first + 1) n (omega arith))
  where
    either : (t : Bool) → eqb first j ≡ false → posted_to_joiner j (posts_where test m (first + 1) n) ≡ []
        → posted_to_joiner j (map (post_to m) (cond t (first ∷ filter test (range_with_len (first + 1) n))
        (filter test (range_with_len (first + 1) n)))) ≡ []
    either true apart rest = rw apart rest
    either false apart rest = rest

one_in : (test : ℕ → Bool) (m : ToJoiner) (j first n : ℕ) → first ≤ j → j < first + n
    → posted_to_joiner j (posts_where test m first n) ≡ cond (test j) (m ∷ []) []
one_in test m j first zero from to = absurd (omega arith)
one_in test m j first (suc n) from to = elim (cases_lt first j) [
  | inl earlier ↦ passed (test first) (ne_eqb first j (λ same. omega arith))
      (one_in test m j (first + 1) n (omega arith) (omega arith))
  | inr here ↦
      let same : first ≡ j = omega arith in
      subst (λ i. posted_to_joiner j (posts_where test m first (suc n)) ≡ cond (test i) (m ∷ []) []) same
      (at (test first) (eq-eqb first j same) (none_before test m j (first + 1) n (omega arith)))
]
  where
    passed : (t : Bool) → eqb first j ≡ false → posted_to_joiner j (posts_where test m (first + 1) n)
        ≡ cond (test j) (m ∷ []) []
        → posted_to_joiner j (map (post_to m) (cond t (first ∷ filter test (range_with_len (first + 1) n))
        (filter test (range_with_len (first + 1) n)))) ≡ cond (test j) (m ∷ []) []
    passed true apart rest = rw apart rest
    passed false apart rest = rest

    at : (t : Bool) → eqb first j ≡ true → posted_to_joiner j (posts_where test m (first + 1) n) ≡ []
        → posted_to_joiner j (map (post_to m) (cond t (first ∷ filter test (range_with_len (first + 1) n))
        (filter test (range_with_len (first + 1) n)))) ≡ cond t (m ∷ []) []
    at true is rest = rw is (ap (λ ms. m ∷ ms) rest)
    at false is rest = rest

everyone : (first n : ℕ) → filter (λ i. true) (range_with_len first n) ≡ range_with_len first n
everyone first zero = refl
everyone first (suc n) = ap (λ is. first ∷ is) (everyone (first + 1) n)

-- a message that goes to all joiners comes to each of them just once
pub all-joiner : (m : ToJoiner) (j n : ℕ) → j < n → posted_to_joiner j (posts_to_all n m) ≡ m ∷ []
all-joiner m j n below =
    ap (λ is. posted_to_joiner j (map (post_to m) is)) (sym (everyone 0 n))
    ∙ one_in (λ i. true) m j 0 n (omega arith) (omega arith)

-- of the posts of a batch a joiner gets the tuples that it holds, stamped, in their order
pub batch-joiner : (k e b j : ℕ) (batch : List Tuple) → j < 2 ^ k
    → posted_to_joiner j (posts_of_batch k e b batch) ≡ copies_for k j e b batch
batch-joiner k e b j [] below = refl
batch-joiner k e b j (t ∷ ts) below =
    filter_map-append (λ post. for_joiner j post.to post.msg) (posts_of_tuple k (2 ^ k) e b t) (posts_of_batch k e b ts)
    ∙ ap (λ ms. ms ++ posted_to_joiner j (posts_of_batch k e b ts))
    (one_in (λ i. holds k b i t) (Tup (stamped e t)) j 0 (2 ^ k) (omega arith) (omega arith))
    ∙ ap (λ ms. cond (holds k b j t) (Tup (stamped e t) ∷ []) [] ++ ms) (batch-joiner k e b j ts below)
    ∙ either (holds k b j t)
  where
    either : (h : Bool) → cond h (Tup (stamped e t) ∷ []) [] ++ copies_for k j e b ts
        ≡ map (λ y. Tup (stamped e y)) (cond h (t ∷ filter (holds k b j) ts) (filter (holds k b j) ts))
    either true = refl
    either false = refl

-- ---- to the controller

none_to_controller : (m : ToJoiner) (js : List ℕ) → posted_to_controller (map (post_to m) js) ≡ []
none_to_controller m [] = refl
none_to_controller m (j ∷ js) = none_to_controller m js

-- of a message that goes to all joiners nothing comes to the controller
pub all-controller : (m : ToJoiner) (n : ℕ) → posted_to_controller (posts_to_all n m) ≡ []
all-controller m n = none_to_controller m (range_with_len 0 n)

-- nor does anything of a batch
pub batch-controller : (k e b : ℕ) (batch : List Tuple) → posted_to_controller (posts_of_batch k e b batch) ≡ []
batch-controller k e b [] = refl
batch-controller k e b (t ∷ ts) =
    filter_map-append (λ post. for_controller post.to post.msg) (posts_of_tuple k (2 ^ k) e b t)
    (posts_of_batch k e b ts)
    ∙ ap (λ ms. ms ++ posted_to_controller (posts_of_batch k e b ts))
    (none_to_controller (Tup (stamped e t)) (filter (λ j. holds k b j t) (range_with_len 0 (2 ^ k))))
    ∙ batch-controller k e b ts

-- ---- over links

module _ (k p feeders : ℕ) (low : p < feeders) where
  over_where : (test : ℕ → Bool) (m : ToJoiner) (first n : ℕ) → first + n ≤ 2 ^ k
      → AllGoOver k feeders (Feeder p) (posts_where test m first n)
  over_where test m first zero within = All-nil (GoesOver k feeders (Feeder p))
  over_where test m first (suc n) within = either (test first) (over_where test m (first + 1) n (omega arith))
    where
      one : AllGoOver k feeders (Feeder p) (post_to m first ∷ [])
      one = λ i d below. let at : i ≡ 0 = omega arith in rw at
          (record { link = feeder_joiner {j = first} low (omega arith); kind = tt })

      either : (t : Bool) → AllGoOver k feeders (Feeder p) (posts_where test m (first + 1) n)
          → AllGoOver k feeders (Feeder p) (map (post_to m)
          (cond t (first ∷ filter test (range_with_len (first + 1) n))
          (filter test (range_with_len (first + 1) n))))
      either true rest = All-append (GoesOver k feeders (Feeder p)) (post_to m first ∷ [])
          (posts_where test m (first + 1) n) one rest
      either false rest = rest

  -- a message to all joiners goes over links
  pub all-over : (m : ToJoiner) → AllGoOver k feeders (Feeder p) (posts_to_all (2 ^ k) m)
  all-over m = subst (λ is. AllGoOver k feeders (Feeder p) (map (post_to m) is)) (everyone 0 (2 ^ k))
      (over_where (λ i. true) m 0 (2 ^ k) (omega arith))

  -- so do the tuples of a batch
  pub batch-over : (e b : ℕ) (batch : List Tuple) → AllGoOver k feeders (Feeder p) (posts_of_batch k e b batch)
  batch-over e b [] = All-nil (GoesOver k feeders (Feeder p))
  batch-over e b (t ∷ ts) =
      All-append (GoesOver k feeders (Feeder p)) (posts_of_tuple k (2 ^ k) e b t) (posts_of_batch k e b ts)
      (over_where (λ j. holds k b j t) (Tup (stamped e t)) 0 (2 ^ k) (omega arith)) (batch-over e b ts)

  -- and a message to the controller
  pub request-over : (m : ToController) → AllGoOver k feeders (Feeder p) (to_controller m ∷ [])
  request-over m = λ i d below. let at : i ≡ 0 = omega arith in
      rw at (record { link = feeder_controller low; kind = tt })

-- ---- one joiner more

range-more : (a n : ℕ) → range_with_len a (n + 1) ≡ range_with_len a n ++ (a + n) ∷ []
range-more a zero = let at : a ≡ a + 0 = omega arith in ap (λ i. i ∷ []) at
range-more a (suc n) =
    let one : suc n + 1 ≡ suc (n + 1) = omega arith in
    let at : a + 1 + n ≡ a + suc n = omega arith in
    ap (range_with_len a) one ∙ ap (λ is. a ∷ is) (range-more (a + 1) n
    ∙ ap (λ i. range_with_len (a + 1) n ++ i ∷ []) at)

-- a message to all has one post more, at the end, where there is one joiner more
pub all-more : (m : ToJoiner) (n : ℕ) → posts_to_all (n + 1) m ≡ posts_to_all n m ++ post_to m n ∷ []
all-more m n =
    let at : 0 + n ≡ n = omega arith in
    ap (map (post_to m)) (range-more 0 n) ∙ map-append (post_to m) (range_with_len 0 n) ((0 + n) ∷ [])
    ∙ ap (λ i. posts_to_all n m ++ post_to m i ∷ []) at

-- a tuple has one post more, at the end, where that joiner holds it, and else the same posts
pub tuple-more : (k n e b : ℕ) (t : Tuple) → posts_of_tuple k (n + 1) e b t ≡ posts_of_tuple k n e b t
    ++ cond (holds k b n t) (post_to (Tup (stamped e t)) n ∷ []) []
tuple-more k n e b t =
    let at : 0 + n ≡ n = omega arith in
    ap (λ is. map (post_to (Tup (stamped e t))) (filter (λ j. holds k b j t) is))
    (range-more 0 n ∙ ap (λ i. range_with_len 0 n ++ i ∷ []) at)
    ∙ ap (map (post_to (Tup (stamped e t)))) (filter-append (λ j. holds k b j t) (range_with_len 0 n) (n ∷ []))
    ∙ map-append (post_to (Tup (stamped e t))) (filter (λ j. holds k b j t) (range_with_len 0 n))
    (filter (λ j. holds k b j t) (n ∷ []))
    ∙ ap (λ ps. posts_of_tuple k n e b t ++ ps) (either (holds k b n t))
  where
    either : (h : Bool) → map (post_to (Tup (stamped e t))) (cond h (n ∷ []) [])
        ≡ cond h (post_to (Tup (stamped e t)) n ∷ []) []
    either true = refl
    either false = refl
