-- The law of a feeder: what it sends is a function of the messages that it took.
use Rattle.std.specs.Prelude.{◌≡◌, ℕ, ◌+◌, ◌^◌, ◌<◌, ◌≤◌, ◌⊎◌, List, [], ◌∷◌, ◌++◌, map, filter, length, count_by}
use Rattle.row_cells.specs.declared.table.Side.TheVariants.{R, S}
use Rattle.row_cells.specs.Lists.{IsPrefix, counting_from}
use Rattle.epoch_tags.specs.declared.tuple.Tuple.{Tuple}
use Rattle.epoch_tags.specs.declared.message.ToJoiner.{ToJoiner}
use Rattle.epoch_tags.specs.declared.message.ToJoiner.TheVariants.{Tup, Turn, End}
use Rattle.epoch_tags.specs.declared.message.ToFeeder.{ToFeeder}
use Rattle.epoch_tags.specs.declared.message.ToFeeder.TheVariants.{Order, Grant, Stop}
use Rattle.epoch_tags.specs.declared.message.ToController.{ToController}
use Rattle.epoch_tags.specs.declared.message.ToController.TheVariants.{Ask, Drained}
use Rattle.epoch_tags.specs.Messages.{order_epochs, grants, stops, asks, draineds}
use Rattle.epoch_tags.specs.Orders.{StopsLast}
use Rattle.migration_plan.specs.Steps.{holds, is_of}

-- what a feeder received and sent
pub record FeederLists : Type 0 where
  pub received : List ToFeeder
  pub to_controller : List ToController
  pub to_joiner : ℕ → List ToJoiner

-- how a feeder begins: the grid's k, its first epoch and shift, and its load in batches
pub record FeederStart : Type 0 where
  pub k : ℕ
  pub epoch : ℕ
  pub shift : ℕ
  pub batches : List (List Tuple)

-- one `Ask` for a batch, with its numbers of rows
abbrev pub ask_for : List Tuple → ToController
ask_for batch = Ask (count_by (is_of R) batch) (count_by (is_of S) batch)

-- all that a feeder will ever send to the controller
abbrev pub requests : FeederStart → List ToController
requests s = map ask_for s.batches ++ Drained ∷ []

-- the tuple with this epoch as its stamp
abbrev pub stamped : ℕ → Tuple → Tuple
stamped e t = record t { stamp = e }

-- the batch's tuples that joiner j holds at shift b, stamped with epoch e
abbrev pub copies_for : ℕ → ℕ → ℕ → ℕ → List Tuple → List ToJoiner
copies_for k j e b batch = map (λ t. Tup (stamped e t)) (filter (holds k b j) batch)

-- what joiner j is sent for the messages taken, from epoch e and shift b and with these batches to come
abbrev pub answers : ℕ → ℕ → ℕ → ℕ → List (List Tuple) → List ToFeeder → List ToJoiner
answers k j e b batches [] = []
answers k j e b batches (Order epoch shift ∷ ms) = Turn epoch shift ∷ answers k j epoch shift batches ms
answers k j e b [] (Grant ∷ ms) = answers k j e b [] ms
answers k j e b (batch ∷ batches) (Grant ∷ ms) = copies_for k j e b batch ++ answers k j e b batches ms
answers k j e b batches (Stop ∷ ms) = End ∷ answers k j e b batches ms

-- the shift of the last order taken, or the first shift
abbrev pub shift_now : ℕ → List ToFeeder → ℕ
shift_now b [] = b
shift_now b (Order epoch shift ∷ ms) = shift_now shift ms
shift_now b (Grant ∷ ms) = shift_now b ms
shift_now b (Stop ∷ ms) = shift_now b ms

-- after these messages were taken and those sent, a feeder can take this one
abbrev pub CanTake : FeederStart → List ToFeeder → List ToController → ToFeeder → Type 0
CanTake s taken sent (Order epoch shift) = (epoch ≡ s.epoch + length (order_epochs taken) + 1) × (shift ≤ s.k)
    × (stops taken ≡ 0)
CanTake s taken sent Grant = asks sent ≡ grants taken + 1
CanTake s taken sent Stop = (0 < draineds sent) × (stops taken ≡ 0)

-- of a feeder that has these lists and took these messages
pub record FeederLaw (s : FeederStart) (lists : FeederLists) (taken : List ToFeeder) : Type 0 where
  -- it took the front of what it received, and holds the rest, whose first can't be taken
  pub held : List ToFeeder
  pub splits : taken ++ held ≡ lists.received
  pub stuck : (m : ToFeeder) (rest : List ToFeeder) → held ≡ m ∷ rest → ¬ CanTake s taken lists.to_controller m
  -- it asks for each batch in turn, once the last one was granted, and then says that it has drained
  pub asked : IsPrefix lists.to_controller (requests s)
  pub granted : (asks lists.to_controller ≡ grants taken) ⊎ (asks lists.to_controller ≡ grants taken + 1)
  pub drained : 0 < draineds lists.to_controller → asks lists.to_controller ≡ grants taken
  -- the orders taken count up
  pub orders : order_epochs taken ≡ counting_from (s.epoch + 1) (length (order_epochs taken))
  pub stops_last : StopsLast taken
  pub stops_drained : 0 < stops taken → 0 < draineds lists.to_controller
  -- what each joiner was sent
  pub answered : (j : ℕ) → j < 2 ^ s.k → lists.to_joiner j ≡ answers s.k j s.epoch s.shift s.batches taken
