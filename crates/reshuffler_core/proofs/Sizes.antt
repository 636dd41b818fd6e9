-- A feeder's lists are not longer than what it took and was given.
use Rattle.std.proofs.Common.{◌≡◌, ℕ, ◌+◌, ◌≤◌, refl, arith, List, [], ◌∷◌, ◌++◌, length, length-append}
use Rattle.std.specs.Prelude.{map, filter, sum_by}
use Rattle.std.proofs.lemmas.List.{length-map}
use Rattle.std.proofs.lemmas.List.Sums.{sum_by-cons}
use Rattle.row_cells.proofs.Totals.{filter_fewer}
use Rattle.epoch_tags.specs.declared.tuple.Tuple.{Tuple}
use Rattle.epoch_tags.specs.declared.message.ToController.TheVariants.{Drained}
use Rattle.epoch_tags.specs.declared.message.ToFeeder.{ToFeeder}
use Rattle.epoch_tags.specs.declared.message.ToFeeder.TheVariants.{Order, Grant, Stop}
use Rattle.epoch_tags.specs.declared.message.ToJoiner.TheVariants.{Tup}
use Rattle.epoch_tags.specs.Messages.{order_epochs, stops, asks}
use Rattle.migration_plan.specs.Steps.{holds}
use Rattle.reshuffler_core.specs.Law.{answers, copies_for, stamped, ask_for}
use Rattle.reshuffler_core.proofs.Arrivals.{granted}

-- all that a feeder will ever request has one ask for each batch
pub asks_for_batches : (bs : List (List Tuple)) → asks (map ask_for bs ++ Drained ∷ []) ≡ length bs
asks_for_batches [] = refl
asks_for_batches (b ∷ bs) = let rest = asks_for_batches bs in omega arith

-- a joiner gets no more tuples of a batch than there are in it
pub copies_are_few : (k j e b : ℕ) (batch : List Tuple) → length (copies_for k j e b batch) ≤ length batch
copies_are_few k j e b batch = let a = length-map (filter (holds k b j) batch) (λ t. Tup (stamped e t)) in
    let c = filter_fewer (holds k b j) batch in omega arith

-- the batches together have the rows of the first and those of the others
pub sizes_cons : (batch : List Tuple) (batches : List (List Tuple))
    → sum_by (λ b. length b) (batch ∷ batches) ≡ length batch + sum_by (λ b. length b) batches
sizes_cons batch batches = sum_by-cons (λ b. length b) batch batches

-- a joiner is sent at most one message for each order, for each stop and for each row of the batches
pub answers_are_few : (k j e b : ℕ) (batches : List (List Tuple)) (ms : List ToFeeder)
    → length (answers k j e b batches ms) ≤ length (order_epochs ms) + stops ms + sum_by (λ b. length b) batches
answers_are_few k j e b batches [] = omega arith
answers_are_few k j e b batches (Order epoch shift ∷ ms) = let rest = answers_are_few k j epoch shift batches ms in
    omega arith
answers_are_few k j e b [] (Grant ∷ ms) = answers_are_few k j e b [] ms
answers_are_few k j e b (batch ∷ batches) (Grant ∷ ms) =
    let rest = answers_are_few k j e b batches ms in
    let here = copies_are_few k j e b batch in
    let whole = length-append (copies_for k j e b batch) (answers k j e b batches ms) in
    let sizes = sizes_cons batch batches in
    omega arith
answers_are_few k j e b batches (Stop ∷ ms) = let rest = answers_are_few k j e b batches ms in omega arith

-- no more tuples are granted than there are rows in the batches
pub granted_are_few : (e : ℕ) (batches : List (List Tuple)) (ms : List ToFeeder)
    → length (granted e batches ms) ≤ sum_by (λ b. length b) batches
granted_are_few e batches [] = omega arith
granted_are_few e batches (Order epoch shift ∷ ms) = granted_are_few epoch batches ms
granted_are_few e [] (Grant ∷ ms) = granted_are_few e [] ms
granted_are_few e (batch ∷ batches) (Grant ∷ ms) =
    let rest = granted_are_few e batches ms in
    let a = length-map batch (stamped e) in
    let whole = length-append (map (stamped e) batch) (granted e batches ms) in
    let sizes = sizes_cons batch batches in
    omega arith
granted_are_few e batches (Stop ∷ ms) = granted_are_few e batches ms
