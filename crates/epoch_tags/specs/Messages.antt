-- What is read off a list of messages.
use Rattle.std.specs.Prelude.{ℕ, ◌+◌, ◌==◌, Option, Some, None, List, [], ◌∷◌, ◌++◌, filter_map, if◌then◌else◌}
use Rattle.epoch_tags.specs.declared.tuple.Tuple.{Tuple}
use Rattle.epoch_tags.specs.declared.tuple.Pair.{Pair}
use Rattle.epoch_tags.specs.declared.message.ToJoiner.{ToJoiner}
use Rattle.epoch_tags.specs.declared.message.ToJoiner.TheVariants.{Tup, Turn, End, Moved, MovedEnd}
use Rattle.epoch_tags.specs.declared.message.ToFeeder.{ToFeeder}
use Rattle.epoch_tags.specs.declared.message.ToFeeder.TheVariants.{Order, Grant, Stop}
use Rattle.epoch_tags.specs.declared.message.ToController.{ToController}
use Rattle.epoch_tags.specs.declared.message.ToController.TheVariants.{Ask, Drained, Settled}
use Rattle.epoch_tags.specs.declared.message.ToCollector.{ToCollector}
use Rattle.epoch_tags.specs.declared.message.ToCollector.TheVariants.{Found, Fin}

-- ---- to a joiner

-- the tuple that a feeder sent, where it is one
abbrev pub tup_of : ToJoiner → Option Tuple
tup_of (Tup t) = Some t
tup_of (Turn epoch shift) = None
tup_of End = None
tup_of (Moved epoch t) = None
tup_of (MovedEnd epoch) = None

-- the tuples that feeders sent
abbrev pub tups : List ToJoiner → List Tuple
tups ms = filter_map tup_of ms

-- those of one epoch
abbrev pub tups_of : ℕ → List ToJoiner → List Tuple
tups_of e [] = []
tups_of e (Tup t ∷ ms) = if t.stamp == e then t ∷ tups_of e ms else tups_of e ms
tups_of e (Turn epoch shift ∷ ms) = tups_of e ms
tups_of e (End ∷ ms) = tups_of e ms
tups_of e (Moved epoch t ∷ ms) = tups_of e ms
tups_of e (MovedEnd epoch ∷ ms) = tups_of e ms

-- how many `Turn`s there are
abbrev pub turns : List ToJoiner → ℕ
turns [] = 0
turns (Tup t ∷ ms) = turns ms
turns (Turn epoch shift ∷ ms) = turns ms + 1
turns (End ∷ ms) = turns ms
turns (Moved epoch t ∷ ms) = turns ms
turns (MovedEnd epoch ∷ ms) = turns ms

-- the shifts that the `Turn`s of epoch e carry
abbrev pub turn_shifts : ℕ → List ToJoiner → List ℕ
turn_shifts e [] = []
turn_shifts e (Tup t ∷ ms) = turn_shifts e ms
turn_shifts e (Turn epoch shift ∷ ms) = if epoch == e then shift ∷ turn_shifts e ms else turn_shifts e ms
turn_shifts e (End ∷ ms) = turn_shifts e ms
turn_shifts e (Moved epoch t ∷ ms) = turn_shifts e ms
turn_shifts e (MovedEnd epoch ∷ ms) = turn_shifts e ms

-- how many `End`s there are
abbrev pub ends : List ToJoiner → ℕ
ends [] = 0
ends (Tup t ∷ ms) = ends ms
ends (Turn epoch shift ∷ ms) = ends ms
ends (End ∷ ms) = ends ms + 1
ends (Moved epoch t ∷ ms) = ends ms
ends (MovedEnd epoch ∷ ms) = ends ms

-- the tuples of the `Moved` of epoch e
abbrev pub moved_of : ℕ → List ToJoiner → List Tuple
moved_of e [] = []
moved_of e (Tup t ∷ ms) = moved_of e ms
moved_of e (Turn epoch shift ∷ ms) = moved_of e ms
moved_of e (End ∷ ms) = moved_of e ms
moved_of e (Moved epoch t ∷ ms) = if epoch == e then t ∷ moved_of e ms else moved_of e ms
moved_of e (MovedEnd epoch ∷ ms) = moved_of e ms

-- how many `MovedEnd`s of epoch e there are
abbrev pub moved_ends : ℕ → List ToJoiner → ℕ
moved_ends e [] = 0
moved_ends e (Tup t ∷ ms) = moved_ends e ms
moved_ends e (Turn epoch shift ∷ ms) = moved_ends e ms
moved_ends e (End ∷ ms) = moved_ends e ms
moved_ends e (Moved epoch t ∷ ms) = moved_ends e ms
moved_ends e (MovedEnd epoch ∷ ms) = if epoch == e then moved_ends e ms + 1 else moved_ends e ms

-- ---- to a feeder

-- the epochs of the `Order`s
abbrev pub order_epochs : List ToFeeder → List ℕ
order_epochs [] = []
order_epochs (Order epoch shift ∷ ms) = epoch ∷ order_epochs ms
order_epochs (Grant ∷ ms) = order_epochs ms
order_epochs (Stop ∷ ms) = order_epochs ms

-- how many `Grant`s there are
abbrev pub grants : List ToFeeder → ℕ
grants [] = 0
grants (Order epoch shift ∷ ms) = grants ms
grants (Grant ∷ ms) = grants ms + 1
grants (Stop ∷ ms) = grants ms

-- how many `Stop`s there are
abbrev pub stops : List ToFeeder → ℕ
stops [] = 0
stops (Order epoch shift ∷ ms) = stops ms
stops (Grant ∷ ms) = stops ms
stops (Stop ∷ ms) = stops ms + 1

-- ---- to the controller

-- how many `Ask`s there are
abbrev pub asks : List ToController → ℕ
asks [] = 0
asks (Ask dr ds ∷ ms) = asks ms + 1
asks (Drained ∷ ms) = asks ms
asks (Settled epoch ∷ ms) = asks ms

-- how many `Drained`s there are
abbrev pub draineds : List ToController → ℕ
draineds [] = 0
draineds (Ask dr ds ∷ ms) = draineds ms
draineds (Drained ∷ ms) = draineds ms + 1
draineds (Settled epoch ∷ ms) = draineds ms

-- how many rows of R they ask for
abbrev pub asked_r : List ToController → ℕ
asked_r [] = 0
asked_r (Ask dr ds ∷ ms) = asked_r ms + dr
asked_r (Drained ∷ ms) = asked_r ms
asked_r (Settled epoch ∷ ms) = asked_r ms

-- how many rows of S they ask for
abbrev pub asked_s : List ToController → ℕ
asked_s [] = 0
asked_s (Ask dr ds ∷ ms) = asked_s ms + ds
asked_s (Drained ∷ ms) = asked_s ms
asked_s (Settled epoch ∷ ms) = asked_s ms

-- the epochs of the `Settled`s
abbrev pub settled_epochs : List ToController → List ℕ
settled_epochs [] = []
settled_epochs (Ask dr ds ∷ ms) = settled_epochs ms
settled_epochs (Drained ∷ ms) = settled_epochs ms
settled_epochs (Settled epoch ∷ ms) = epoch ∷ settled_epochs ms

-- ---- to the collector

-- the pairs that a `Found` carries
abbrev pub pairs_found : ToCollector → List Pair
pairs_found (Found pairs) = pairs
pairs_found (Fin rows_r rows_s moved) = []

-- the pairs of all `Found`s before the first `Fin`
abbrev pub found_before_fin : List ToCollector → List Pair
found_before_fin [] = []
found_before_fin (Found pairs ∷ ms) = pairs ++ found_before_fin ms
found_before_fin (Fin rows_r rows_s moved ∷ ms) = []

-- how many `Fin`s there are
abbrev pub fins : List ToCollector → ℕ
fins [] = 0
fins (Found pairs ∷ ms) = fins ms
fins (Fin rows_r rows_s moved ∷ ms) = fins ms + 1

-- the `Fin`s themselves
abbrev pub fins_of : List ToCollector → List ToCollector
fins_of [] = []
fins_of (Found pairs ∷ ms) = fins_of ms
fins_of (Fin rows_r rows_s moved ∷ ms) = Fin rows_r rows_s moved ∷ fins_of ms
