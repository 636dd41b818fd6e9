-- What a joiner gets of a feeder: of the rows that were granted, those that it holds.
use Rattle.std.proofs.Common.{◌≡◌, ℕ, ◌+◌, refl, sym, ◌∙◌, ap, subst, Bool, true, false, cond, ◌&&◌, List, [], ◌∷◌}
use Rattle.std.proofs.Common.{◌++◌, length}
use Rattle.std.specs.Prelude.{filter, map, ◌==◌}
use Rattle.std.proofs.lemmas.Bool.{eqb-true, false≢true}
use Rattle.row_cells.specs.Lists.{counting_from}
use Rattle.epoch_tags.specs.declared.tuple.Tuple.{Tuple}
use Rattle.epoch_tags.specs.declared.message.ToJoiner.{ToJoiner}
use Rattle.epoch_tags.specs.declared.message.ToJoiner.TheVariants.{Tup}
use Rattle.epoch_tags.specs.declared.message.ToFeeder.{ToFeeder}
use Rattle.epoch_tags.specs.declared.message.ToFeeder.TheVariants.{Order, Grant, Stop}
use Rattle.epoch_tags.specs.Messages.{tups_of, order_epochs}
use Rattle.epoch_tags.specs.Orders.{CountsUp, StopsLast, GoesBy, TurnsGoBy}
use Rattle.epoch_tags.proofs.RowMessages.{tups_of-append}
use Rattle.migration_plan.specs.Steps.{holds}
use Rattle.reshuffler_core.specs.Law.{answers, copies_for, stamped}

-- the tuples of the batches granted, stamped, from epoch e on
abbrev pub granted : ℕ → List (List Tuple) → List ToFeeder → List Tuple
granted e batches [] = []
granted e batches (Order epoch shift ∷ ms) = granted epoch batches ms
granted e [] (Grant ∷ ms) = granted e [] ms
granted e (batch ∷ batches) (Grant ∷ ms) = map (stamped e) batch ++ granted e batches ms
granted e batches (Stop ∷ ms) = granted e batches ms

filter-append : {X : Type 0} (p : X → Bool) (xs ys : List X) → filter p (xs ++ ys) ≡ filter p xs ++ filter p ys
filter-append p [] ys = refl
filter-append p (x ∷ xs) ys = either (p x) (filter-append p xs ys)
  where
    either : (t : Bool) → filter p (xs ++ ys) ≡ filter p xs ++ filter p ys
        → cond t (x ∷ filter p (xs ++ ys)) (filter p (xs ++ ys)) ≡ cond t (x ∷ filter p xs) (filter p xs) ++ filter p ys
    either true rest = ap (λ ts. x ∷ ts) rest
    either false rest = rest

-- one batch
combine : (t h h' : Bool) (y : Tuple) (found kept : List Tuple) → (t ≡ true → h ≡ h') → found ≡ kept
    → cond h (cond t (y ∷ found) found) found ≡ cond (t && h') (y ∷ kept) kept
combine true true true y found kept same rest = ap (λ ts. y ∷ ts) rest
combine true false false y found kept same rest = rest
combine true true false y found kept same rest = absurd (false≢true (sym (same refl)))
combine true false true y found kept same rest = absurd (false≢true (same refl))
combine false true h' y found kept same rest = rest
combine false false h' y found kept same rest = rest

of_batch : (k j e E : ℕ) (b : ℕ → ℕ) (batch : List Tuple) → tups_of E (copies_for k j e (b e) batch)
    ≡ filter (λ t. (t.stamp == E) && holds k (b E) j t) (map (stamped e) batch)
of_batch k j e E b [] = refl
of_batch k j e E b (x ∷ batch) =
    head (holds k (b e) j x)
    ∙ combine (e == E) (holds k (b e) j x) (holds k (b E) j x) (stamped e x) (tups_of E (copies_for k j e (b e) batch))
    (filter (λ t. (t.stamp == E) && holds k (b E) j t) (map (stamped e) batch))
    (λ same. ap (λ c. holds k (b c) j x) (eqb-true e E same)) (of_batch k j e E b batch)
  where
    head : (h : Bool) → tups_of E (map (λ y. Tup (stamped e y))
        (cond h (x ∷ filter (holds k (b e) j) batch) (filter (holds k (b e) j) batch)))
        ≡ cond h (cond (e == E) (stamped e x ∷ tups_of E (copies_for k j e (b e) batch))
        (tups_of E (copies_for k j e (b e) batch))) (tups_of E (copies_for k j e (b e) batch))
    head true = refl
    head false = refl

-- all that was granted
pub of_feeder : (k j e E : ℕ) (b : ℕ → ℕ) (batches : List (List Tuple)) (ms : List ToFeeder) → GoesBy b ms
    → tups_of E (answers k j e (b e) batches ms) ≡ filter (λ t. (t.stamp == E) && holds k (b E) j t)
    (granted e batches ms)
of_feeder k j e E b batches [] goes = refl
of_feeder k j e E b batches (Order epoch shift ∷ ms) (is, goes) = rw is (of_feeder k j epoch E b batches ms goes)
of_feeder k j e E b [] (Grant ∷ ms) goes = of_feeder k j e E b [] ms goes
of_feeder k j e E b (batch ∷ batches) (Grant ∷ ms) goes =
    tups_of-append E (copies_for k j e (b e) batch) (answers k j e (b e) batches ms)
    ∙ ap (λ ts. ts ++ tups_of E (answers k j e (b e) batches ms)) (of_batch k j e E b batch)
    ∙ ap (λ ts. filter (λ t. (t.stamp == E) && holds k (b E) j t) (map (stamped e) batch) ++ ts)
    (of_feeder k j e E b batches ms goes)
    ∙ sym (filter-append (λ t. (t.stamp == E) && holds k (b E) j t) (map (stamped e) batch) (granted e batches ms))
of_feeder k j e E b batches (Stop ∷ ms) goes = of_feeder k j e E b batches ms goes

-- ---- the turns sent count up, and the stamps are those of the turns before

copies_count_up : (k j e b : ℕ) (batch : List Tuple) (ms : List ToJoiner) → CountsUp e ms
    → CountsUp e (copies_for k j e b batch ++ ms)
copies_count_up k j e b [] ms up = up
copies_count_up k j e b (x ∷ batch) ms up = either (holds k b j x) (copies_count_up k j e b batch ms up)
  where
    either : (h : Bool) → CountsUp e (copies_for k j e b batch ++ ms)
        → CountsUp e (map (λ y. Tup (stamped e y)) (cond h (x ∷ filter (holds k b j) batch)
        (filter (holds k b j) batch)) ++ ms)
    either true rest = (refl, rest)
    either false rest = rest

-- a joiner is sent turns that count up, tuples with the epoch of the turns before them, and an end at most as the last,
-- where the orders taken count up and a stop is taken last
pub answers_count_up : (k j e b : ℕ) (batches : List (List Tuple)) (ms : List ToFeeder)
    → order_epochs ms ≡ counting_from (e + 1) (length (order_epochs ms)) → StopsLast ms
    → CountsUp e (answers k j e b batches ms)
answers_count_up k j e b batches [] orders last = tt
answers_count_up k j e b batches (Order epoch shift ∷ ms) orders last =
    let is : epoch ≡ e + 1 = cc in
    let rest : order_epochs ms ≡ counting_from ((e + 1) + 1) (length (order_epochs ms)) = cc in
    let more : CountsUp (e + 1) (answers k j (e + 1) shift batches ms) =
    answers_count_up k j (e + 1) shift batches ms rest last in
    (is, subst (λ c. CountsUp (e + 1) (answers k j c shift batches ms)) (sym is) more)
answers_count_up k j e b [] (Grant ∷ ms) orders last = answers_count_up k j e b [] ms orders last
answers_count_up k j e b (batch ∷ batches) (Grant ∷ ms) orders last =
    copies_count_up k j e b batch (answers k j e b batches ms) (answers_count_up k j e b batches ms orders last)
answers_count_up k j e b batches (Stop ∷ ms) orders last = rw last refl

-- with tuples in front of them, turns still carry the shifts of their epochs
pub copies_go : (k j e c : ℕ) (b : ℕ → ℕ) (ts : List Tuple) (ms : List ToJoiner) → TurnsGoBy b ms
    → TurnsGoBy b (map (λ t. Tup (stamped e t)) ts ++ ms)
copies_go k j e c b [] ms go = go
copies_go k j e c b (x ∷ ts) ms go = copies_go k j e c b ts ms go

-- each turn that a joiner is sent carries the shift of its epoch, where each order does
pub answers_go : (k j e c : ℕ) (b : ℕ → ℕ) (batches : List (List Tuple)) (ms : List ToFeeder) → GoesBy b ms
    → TurnsGoBy b (answers k j e c batches ms)
answers_go k j e c b batches [] go = tt
answers_go k j e c b batches (Order epoch shift ∷ ms) (is, go) = (is, answers_go k j epoch shift b batches ms go)
answers_go k j e c b [] (Grant ∷ ms) go = answers_go k j e c b [] ms go
answers_go k j e c b (batch ∷ batches) (Grant ∷ ms) go = copies_go k j e c b (filter (holds k c j) batch)
    (answers k j e c batches ms) (answers_go k j e c b batches ms go)
answers_go k j e c b batches (Stop ∷ ms) go = answers_go k j e c b batches ms go
