-- What a feeder's machine holds, and the lists for which it stands. It stores none of them.
use Rattle.std.specs.Prelude.{◌≡◌, ℕ, ◌+◌, ◌^◌, ◌<◌, ◌==◌, nat_le, ◌↔◌, ◌⊎◌, Bool, true, false, not, ◌&&◌, IsTrue, List}
use Rattle.std.specs.Prelude.{[], ◌∷◌, ◌++◌, map, filter, flat_map, drop, length, if◌then◌else◌}
use Rattle.std.specs.List.{range_with_len}
use Rattle.epoch_tags.specs.declared.actor.Actor.TheVariants.{Feeder, Joiner as Joiner', Controller as Controller'}
use Rattle.epoch_tags.specs.declared.message.Msg.TheVariants.{Joiner, Controller}
use Rattle.epoch_tags.specs.declared.message.ToJoiner.{ToJoiner}
use Rattle.epoch_tags.specs.declared.message.ToJoiner.TheVariants.{Tup, Turn, End}
use Rattle.epoch_tags.specs.declared.message.ToFeeder.TheVariants.{Order, Grant, Stop}
use Rattle.migration_plan.specs.Steps.{holds}
use Rattle.epoch_tags.specs.declared.message.ToController.{ToController}
use Rattle.epoch_tags.specs.declared.message.ToController.TheVariants.{Drained}
use Rattle.epoch_tags.specs.declared.tuple.Tuple.{Tuple}
use Rattle.epoch_tags.specs.declared.message.ToFeeder.{ToFeeder}
use Rattle.epoch_tags.specs.declared.message.Post.{Post}
use Rattle.epoch_tags.specs.Messages.{order_epochs, grants, stops, asks, draineds}
use Rattle.epoch_tags.specs.Posts.{AllGoOver, posted_to_joiner, posted_to_controller}
use Rattle.reshuffler_core.specs.Law.{FeederLists, FeederStart, FeederLaw, ask_for, shift_now, stamped}

-- how it began, its epoch and shift, the batches that no grant has released, and the messages that it can't take yet
pub record FeederState : Type 0 where
  pub start : FeederStart
  pub epoch : ℕ
  pub shift : ℕ
  pub to_come : List (List Tuple)
  pub asked : Bool
  pub drained : Bool
  pub stopped : Bool
  pub held : List ToFeeder
  -- whether a call found no memory; nothing is done after it
  pub spent : Bool

-- a batch is asked for and not granted, or it has drained
abbrev pub IsWaiting : FeederState → Type 0
IsWaiting s = IsTrue s.asked ⊎ IsTrue s.drained

-- what it asks the controller for next
abbrev pub next_request : List (List Tuple) → ToController
next_request [] = Drained
next_request (batch ∷ batches) = ask_for batch

-- it began so; the lists keep the law, and what the machine holds is read off them
pub record StandsFor (start : FeederStart) (lists : FeederLists) (state : FeederState) : Type 0 where
  pub began : state.start ≡ start
  pub taken : List ToFeeder
  pub law : FeederLaw start lists taken
  pub epoch : state.epoch ≡ start.epoch + length (order_epochs taken)
  pub shift : state.shift ≡ shift_now start.shift taken
  pub to_come : state.to_come ≡ drop (grants taken) start.batches
  pub asked : IsTrue state.asked ↔ (asks lists.to_controller ≡ grants taken + 1)
  pub drained : IsTrue state.drained ↔ (0 < draineds lists.to_controller)
  pub stopped : IsTrue state.stopped ↔ (0 < stops taken)
  pub held : state.held ≡ law.held

-- what it holds when it has just begun so
abbrev pub just_begun : FeederStart → FeederState
just_begun start = record {
  start = start;
  epoch = start.epoch;
  shift = start.shift;
  to_come = start.batches;
  asked = false;
  drained = false;
  stopped = false;
  held = [];
  spent = false;
}

-- a new machine stands for empty lists
abbrev pub nothing_yet : FeederLists
nothing_yet = record { received = []; to_controller = []; to_joiner = λ j. [] }

-- the lists with this message received
abbrev pub with_message : ToFeeder → FeederLists → FeederLists
with_message m lists = record lists { received = lists.received ++ m ∷ [] }

-- with these posts sent
abbrev pub with_sent : FeederLists → List Post → FeederLists
with_sent lists posts = record lists {
  to_controller = lists.to_controller ++ posted_to_controller posts;
  to_joiner = λ j. lists.to_joiner j ++ posted_to_joiner j posts;
}

-- ---- what a message leaves and sends

-- the machine can take this message
abbrev pub can_take : FeederState → ToFeeder → Bool
can_take s (Order epoch shift) = (epoch == s.epoch + 1) && (nat_le shift s.start.k && not s.stopped)
can_take s Grant = s.asked
can_take s Stop = s.drained && not s.stopped

-- the machine after it took a message
abbrev pub state_after : FeederState → ToFeeder → FeederState
state_after s (Order epoch shift) = record s { epoch = epoch; shift = shift }
state_after s Grant = record s { to_come = drop 1 s.to_come; asked = false }
state_after s Stop = record s { stopped = true }

-- the first of the batches, or nothing
abbrev pub first_batch : {X : Type 0} → List (List X) → List X
first_batch [] = []
first_batch (batch ∷ batches) = batch

-- the message to that joiner
abbrev pub post_to : ToJoiner → ℕ → Post
post_to m j = record { to = Joiner' j; msg = Joiner m }

-- to each of n joiners, ids rising
abbrev pub posts_to_all : ℕ → ToJoiner → List Post
posts_to_all n m = map (post_to m) (range_with_len 0 n)

-- a tuple to each of n joiners that holds it at shift b, ids rising
abbrev pub posts_of_tuple : ℕ → ℕ → ℕ → ℕ → Tuple → List Post
posts_of_tuple k n e b t = map (post_to (Tup (stamped e t))) (filter (λ j. holds k b j t) (range_with_len 0 n))

-- the tuples of a batch, in order
abbrev pub posts_of_batch : ℕ → ℕ → ℕ → List Tuple → List Post
posts_of_batch k e b batch = flat_map (posts_of_tuple k (2 ^ k) e b) batch

-- what it sends when it takes a message
abbrev pub posts_for : FeederState → ToFeeder → List Post
posts_for s (Order epoch shift) = posts_to_all (2 ^ s.start.k) (Turn epoch shift)
posts_for s Grant = posts_of_batch s.start.k s.epoch s.shift (first_batch s.to_come)
posts_for s Stop = posts_to_all (2 ^ s.start.k) End

-- the held messages are taken in their order, up to the first that can't be
abbrev pub after_held : FeederState → List ToFeeder → FeederState
after_held s [] = record s { held = [] }
after_held s (m ∷ rest) = if can_take s m then after_held (state_after s m) rest else record s { held = m ∷ rest }

-- and what is sent for them
abbrev pub posts_of_held : FeederState → List ToFeeder → List Post
posts_of_held s [] = []
posts_of_held s (m ∷ rest) = if can_take s m then posts_for s m ++ posts_of_held (state_after s m) rest else []

-- ---- what a beginning does

-- the post of a message to the controller
abbrev pub to_controller : ToController → Post
to_controller m = record { to = Controller'; msg = Controller m }

-- the machine after it asked for its next batch, or said that none is left
abbrev pub state_begun : FeederState → List (List Tuple) → FeederState
state_begun s [] = record s { drained = true }
state_begun s (batch ∷ batches) = record s { asked = true }

-- ---- a call

-- a call that took or held m, and turned the posts `before` into `after`: for whatever lists the machine stood,
-- it stands for them with the message and the new posts at their ends
pub record TakesMessage (m : ToFeeder) (old new : FeederState) (before after : List Post) : Type 0 where
  pub start : new.start ≡ old.start
  pub added : List Post
  pub sends : after ≡ before ++ added
  -- the message is tried behind the held ones
  pub state : new ≡ record (after_held old (old.held ++ m ∷ [])) { spent = false }
  pub posts : added ≡ posts_of_held old (old.held ++ m ∷ [])
  -- the controller is sent nothing
  pub asks_nothing : posted_to_controller added ≡ []
  -- whatever its number below whatever number of feeders, its posts go over its links
  pub over : (p feeders : ℕ) → p < feeders → AllGoOver old.start.k feeders (Feeder p) added
  pub stands : (start : FeederStart) (lists : FeederLists) → StandsFor start lists old
      → StandsFor start (with_sent (with_message m lists) added) new

-- a call that began the next batch, or the end: for whatever lists the machine stood, it stands for
-- them with the new posts at their ends
pub record Begins (old new : FeederState) (before after : List Post) : Type 0 where
  pub start : new.start ≡ old.start
  pub added : List Post
  pub sends : after ≡ before ++ added
  -- the held messages are tried behind the request
  pub state : new ≡ record (after_held (state_begun old old.to_come) old.held) { spent = false }
  pub posts : added ≡ to_controller (next_request old.to_come) ∷ posts_of_held (state_begun old old.to_come) old.held
  -- the controller is sent the next request, and nothing else
  pub asks_next : posted_to_controller added ≡ next_request old.to_come ∷ []
  -- whatever its number below whatever number of feeders, its posts go over its links
  pub over : (p feeders : ℕ) → p < feeders → AllGoOver old.start.k feeders (Feeder p) added
  pub stands : (start : FeederStart) (lists : FeederLists) → StandsFor start lists old
      → StandsFor start (with_sent lists added) new
