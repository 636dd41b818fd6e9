-- How the machine goes on, a message or a batch at a time.
use Rattle.std.specs.Prelude.{◌≡◌, ℕ, ◌+◌, ◌^◌, ◌<◌, ◌≤◌, ◌⊎◌, ◌↔◌, true, false, IsTrue, List, [], ◌∷◌, ◌++◌, length}
use Rattle.std.specs.Prelude.{drop}
use Rattle.epoch_tags.specs.declared.actor.Actor.TheVariants.{Feeder}
use Rattle.epoch_tags.specs.declared.message.Post.{Post}
use Rattle.epoch_tags.specs.declared.message.ToFeeder.{ToFeeder}
use Rattle.epoch_tags.specs.declared.message.ToFeeder.TheVariants.{Order, Grant, Stop}
use Rattle.row_cells.specs.Lists.{IsPrefix, counting_from}
use Rattle.epoch_tags.specs.Messages.{order_epochs, grants, stops, asks, draineds}
use Rattle.epoch_tags.specs.Orders.{StopsLast}
use Rattle.epoch_tags.specs.Posts.{AllGoOver, posted_to_controller}
use Rattle.reshuffler_core.specs.Law.{FeederLists, requests, answers, shift_now}
use Rattle.reshuffler_core.specs.Standing.{FeederState, with_sent, after_held, posts_of_held}

-- ---- what a message does

-- the machine can take this message
abbrev pub Takes : FeederState → ToFeeder → Type 0
Takes s (Order epoch shift) = (epoch ≡ s.epoch + 1) × (shift ≤ s.start.k) × (s.stopped ≡ false)
Takes s Grant = s.asked ≡ true
Takes s Stop = (s.drained ≡ true) × (s.stopped ≡ false)

-- the first of the held can't be taken
abbrev pub IsStuck : FeederState → Type 0
IsStuck s = (m : ToFeeder) (rest : List ToFeeder) → s.held ≡ m ∷ rest → ¬ Takes s m

-- this message is the first of the held, and can be taken
pub record IsReady (s : FeederState) (m : ToFeeder) : Type 0 where
  pub rest : List ToFeeder
  pub first : s.held ≡ m ∷ rest
  pub takes : Takes s m

-- over the links of a feeder, whatever its number below whatever number of feeders
abbrev pub GoesOverLinks : ℕ → List Post → Type 0
GoesOverLinks k posts = (p feeders : ℕ) → p < feeders → AllGoOver k feeders (Feeder p) posts

-- ---- for what it stands, stuck or not

-- the machine took these messages, and holds the others
pub record Goes (s : FeederState) (lists : FeederLists) (taken : List ToFeeder) : Type 0 where
  pub splits : taken ++ s.held ≡ lists.received
  pub asked : IsPrefix lists.to_controller (requests s.start)
  pub granted : (asks lists.to_controller ≡ grants taken) ⊎ (asks lists.to_controller ≡ grants taken + 1)
  pub drained : 0 < draineds lists.to_controller → asks lists.to_controller ≡ grants taken
  pub orders : order_epochs taken ≡ counting_from (s.start.epoch + 1) (length (order_epochs taken))
  pub stops_last : StopsLast taken
  pub stops_drained : 0 < stops taken → 0 < draineds lists.to_controller
  pub answered : (j : ℕ) → j < 2 ^ s.start.k → lists.to_joiner j
      ≡ answers s.start.k j s.start.epoch s.start.shift s.start.batches taken
  pub epoch : s.epoch ≡ s.start.epoch + length (order_epochs taken)
  pub shift : s.shift ≡ shift_now s.start.shift taken
  pub to_come : s.to_come ≡ drop (grants taken) s.start.batches
  pub is_asked : IsTrue s.asked ↔ (asks lists.to_controller ≡ grants taken + 1)
  pub is_drained : IsTrue s.drained ↔ (0 < draineds lists.to_controller)
  pub is_stopped : IsTrue s.stopped ↔ (0 < stops taken)

-- the same for some messages that it took
pub record StillGoes (s : FeederState) (lists : FeederLists) : Type 0 where
  pub taken : List ToFeeder
  pub goes : Goes s lists taken

-- a call that took some of the held messages: whatever it stood for, it still stands for, with its posts
pub record Advances (old new : FeederState) (before after : List Post) : Type 0 where
  pub start : new.start ≡ old.start
  pub added : List Post
  pub sends : after ≡ before ++ added
  pub asks_nothing : posted_to_controller added ≡ []
  pub over : GoesOverLinks old.start.k added
  -- and what the held messages lead to is the same
  pub state : after_held old old.held ≡ after_held new new.held
  pub posts : posts_of_held old old.held ≡ added ++ posts_of_held new new.held
  pub goes : (lists : FeederLists) (taken : List ToFeeder) → Goes old lists taken
      → StillGoes new (with_sent lists added)

-- ---- what the fields keep to

-- a grid of at most 256 joiners, a shift that fits it, a size of batches, and rows of which a front is sent
pub record IsWithin (k shift batch sent rows : ℕ) : Type 0 where
  pub grid : k ≤ 8
  pub shape : shift ≤ k
  pub some : 0 < batch
  pub few : batch ≤ 4096
  pub front : sent ≤ rows
