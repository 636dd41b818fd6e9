-- The machine itself: what it keeps beside its journal, and what its parts do.
use Rattle.std.specs.Prelude.{◌≡◌, ℕ, ◌+◌, ◌-◌, ◌*◌, ◌^◌, ◌<◌, ◌≤◌, ◌==◌, ⊤, Bool, true, false, not, ◌&&◌, ◌||◌, None}
use Rattle.std.specs.Prelude.{List, [], ◌∷◌, ◌++◌, All, drop, length, reverse, sum_by, if◌then◌else◌}
use Rattle.std.specs.List.{list_all}
use Rattle.row_cells.specs.Lists.{IsPrefix}
use Rattle.grid_map.specs.declared.cost.Weights.{Weights}
use Rattle.grid_map.specs.Load.{AreWeights, HasFewest}
use Rattle.epoch_tags.specs.declared.actor.Actor.{Actor}
use Rattle.epoch_tags.specs.declared.actor.Actor.TheVariants.{Controller}
use Rattle.epoch_tags.specs.declared.message.Post.{Post}
use Rattle.epoch_tags.specs.declared.message.ToController.{ToController}
use Rattle.epoch_tags.specs.declared.message.ToController.TheVariants.{Ask, Drained, Settled}
use Rattle.epoch_tags.specs.declared.message.ToFeeder.TheVariants.{Order, Stop}
use Rattle.epoch_tags.specs.Messages.{settled_epochs}
use Rattle.epoch_tags.specs.Posts.{AllGoOver}
use Rattle.epoch_tags.specs.Held.{held_at}
use Rattle.epoch_tags.specs.Flags.{flag_at}
use Rattle.load_controller.specs.declared.line.Cause.{Cause}
use Rattle.load_controller.specs.declared.line.Cause.TheVariants.{Start, Wave, Count, Settle, Drain}
use Rattle.load_controller.specs.declared.line.TurnLine.{TurnLine}
use Rattle.load_controller.specs.declared.ledger.Ledger.{Ledger}
use Rattle.load_controller.specs.Journal.{Rules, Follows, has_doubled, has_drained, has_settled, settled_count}
use Rattle.load_controller.specs.Journal.{is_settle, is_settle_of, is_drain_of}
use Rattle.load_controller.specs.Law.{ControllerLists, CountsMessages, AreSettled, is_over, sent_by}
use Rattle.load_controller.specs.Next.{line_by}
use Rattle.load_controller.specs.Standing.{ControllerState, IsNearWhereStill, with_message, with_sent, to_each}
use Rattle.load_controller.specs.Standing.{grant_for, posts_by, with_all_held, state_after}

-- the rules that the ledger keeps
abbrev pub rules_of : Ledger → Rules
rules_of c = record { k = c.k; feeders = c.feeders; fixed = c.fixed; weights = c.weights }

-- the ledger as the machine's state
abbrev pub state_of : Ledger → Bool → ControllerState
state_of c spent = record { rules = rules_of c; journal = c.journal; held = c.held; spent = spent }

-- ---- a line's numbers

-- the counts and shifts are in range, and each doubling of a side pays for k steps
pub record IsBounded (k : ℕ) (line : TurnLine) : Type 0 where
  pub few_r : line.rows_r ≤ 2 ^ 32
  pub few_s : line.rows_s ≤ 2 ^ 32
  pub low_r : line.base_r ≤ line.rows_r
  pub low_s : line.base_s ≤ line.rows_s
  pub shift : line.shift ≤ k
  pub goal : line.goal ≤ k
  pub paid : (a c : ℕ) → line.base_r < 2 ^ a → line.base_s < 2 ^ c
      → line.epoch + ((line.shift - line.goal) + (line.goal - line.shift)) ≤ 2 ^ 31 + k * (a + c)

-- the goal was best at the bases, and a line that isn't moving has reached it, with no decision due
pub record IsGuided (k : ℕ) (weights : Weights) (line : TurnLine) : Type 0 where
  pub best : HasFewest k line.goal (weights.r * line.base_r) (weights.s * line.base_s)
  pub reached : line.moving ≡ false → line.shift ≡ line.goal
  pub not_due : line.moving ≡ false
      → (has_doubled line.base_r line.rows_r || has_doubled line.base_s line.rows_s) ≡ false

-- ---- between two messages

-- what is kept beside the journal is read off it, and its last line's numbers are in range
pub record IsSound (c : Ledger) : Type 0 where
  pub past : List TurnLine
  pub newest : reverse c.journal ≡ c.line ∷ past
  pub k : c.k ≤ 8
  pub weights : AreWeights c.weights
  pub bounded : IsBounded c.k c.line
  pub guided : c.fixed ≡ None → IsGuided c.k c.weights c.line
  pub near : All (IsNearWhereStill (rules_of c)) c.journal
  pub drained_len : length c.drained.items ≡ c.feeders
  pub drained : (p : ℕ) → p < c.feeders → flag_at c.drained.items p ≡ has_drained p (c.line ∷ past)
  pub settled_len : length c.settled.items ≡ 2 ^ c.k
  pub settled : (j : ℕ) → j < 2 ^ c.k → flag_at c.settled.items j ≡ has_settled j (c.line ∷ past)
  pub count : c.settled_count ≡ settled_count (c.line ∷ past)
  pub few : c.line.moving ≡ true → c.settled_count < 2 ^ c.k
  pub at_most : c.settled_count ≤ 2 ^ c.k
  pub over : c.over ≡ is_over c.feeders (c.line ∷ past)
  pub queues : length c.held ≡ 2 ^ c.k

-- ---- a line more

-- a line of this cause may come
abbrev pub CauseFits : Ledger → Cause → Type 0
CauseFits c Start = ⊥
CauseFits c Wave = ⊥
CauseFits c (Count feeder dr ds) = (feeder < c.feeders) × (c.line.rows_r + dr ≤ 2 ^ 32) × (c.line.rows_s + ds ≤ 2 ^ 32)
CauseFits c (Settle joiner) = (joiner < 2 ^ c.k) × (c.line.moving ≡ true) × (flag_at c.settled.items joiner ≡ false)
CauseFits c (Drain feeder) = feeder < c.feeders

-- it names a feeder or a joiner below these numbers
abbrev pub IsOfGrid : ℕ → ℕ → Cause → Type 0
IsOfGrid feeders joiners Start = ⊤
IsOfGrid feeders joiners Wave = ⊤
IsOfGrid feeders joiners (Count feeder dr ds) = feeder < feeders
IsOfGrid feeders joiners (Settle joiner) = joiner < joiners
IsOfGrid feeders joiners (Drain feeder) = feeder < feeders

-- a step is open after it
abbrev pub opens_of : Ledger → Cause → Bool
opens_of c cause = c.line.moving && not (is_settle cause && (c.settled_count + 1 == length c.settled.items))

-- the line was noted
pub record Notes (line : TurnLine) (old new : Ledger) : Type 0 where
  pub k : new.k ≡ old.k
  pub feeders : new.feeders ≡ old.feeders
  pub fixed : new.fixed ≡ old.fixed
  pub weights : new.weights ≡ old.weights
  pub held : new.held ≡ old.held
  pub journal : new.journal ≡ old.journal ++ line ∷ []
  pub newest : new.line ≡ line
  pub drained_len : length new.drained.items ≡ length old.drained.items
  pub drained : (p : ℕ) → p < length old.drained.items
      → flag_at new.drained.items p ≡ (is_drain_of p line.cause || flag_at old.drained.items p)
  pub settled_len : length new.settled.items ≡ length old.settled.items
  pub settled : (j : ℕ) → j < length old.settled.items
      → flag_at new.settled.items j
      ≡ (if line.epoch == old.line.epoch then (is_settle_of j line.cause || flag_at old.settled.items j) else false)
  pub count : new.settled_count
      ≡
      (if line.epoch == old.line.epoch then (if is_settle line.cause then old.settled_count + 1 else old.settled_count)
      else 0)
  pub over : new.over ≡ (old.over || (not line.moving && list_all (λ up. up) new.drained.items))

-- what is sent for a line, where it is the first at which all is over or not
abbrev pub posts_of : ℕ → TurnLine → TurnLine → Bool → List Post
posts_of feeders line before ends =
    (if line.epoch == before.epoch then [] else to_each feeders (Order line.epoch line.shift))
    ++ grant_for line.cause
    ++ (if ends then to_each feeders Stop else [])

-- a message of this cause was counted
pub record CountsCause (cause : Cause) (old new : Ledger) (before after : List Post) : Type 0 where
  pub line : new.line ≡ line_by old.k old.fixed old.weights old.line (opens_of old cause) cause
  pub notes : Notes new.line old new
  pub sends : after ≡ before ++ posts_of old.feeders new.line old.line (not old.over && new.over)

-- ---- held messages

-- the first held of joiner j is in place
pub record IsReady (c : Ledger) (j : ℕ) : Type 0 where
  pub low : j < 2 ^ c.k
  pub moves : c.line.moving ≡ true
  pub new : flag_at c.settled.items j ≡ false
  pub first : held_at c.held j ≡ c.line.epoch ∷ drop 1 (held_at c.held j)

-- none is
abbrev pub IsStuck : Ledger → Type 0
IsStuck c = (j : ℕ) → ¬ IsReady c j

-- how many messages are held
abbrev pub held_in_all : Ledger → ℕ
held_in_all c = sum_by length c.held

-- ---- in the midst of a call

-- the epochs of joiner j are those that have a line, and then the held ones
pub record HoldsSettled (j : ℕ) (line : TurnLine) (past : List TurnLine) (held epochs : List ℕ) : Type 0 where
  pub counted : List ℕ
  pub splits : counted ++ held ≡ epochs
  pub are_settled : AreSettled j (line ∷ past) counted

-- the lists keep the law, but that held messages may be in place
pub record StandsWithin (rules : Rules) (first : TurnLine) (lists : ControllerLists) (journal : List TurnLine)
    (held : ℕ → List ℕ) : Type 0 where
  pub line : TurnLine
  pub past : List TurnLine
  pub newest : reverse journal ≡ line ∷ past
  pub same : journal ≡ lists.journal
  pub follows : Follows rules first (line ∷ past)
  pub counts : (p : ℕ) → p < rules.feeders → CountsMessages p line past (lists.from_feeder p)
  pub settles : (j : ℕ) → j < 2 ^ rules.k → HoldsSettled j line past (held j) (settled_epochs (lists.from_joiner j))
  pub sends : (p : ℕ) → p < rules.feeders → lists.to_feeder p ≡ sent_by rules p (line ∷ past)

-- a part of a call: for whatever lists the machine stood, it stands for them with the new posts, and what the held
-- messages lead to is the same
pub record Advances (old new : Ledger) (before after : List Post) : Type 0 where
  pub state : with_all_held (state_of old false) ≡ with_all_held (state_of new false)
  pub rules : rules_of new ≡ rules_of old
  pub grows : IsPrefix old.journal new.journal
  pub added : List Post
  pub sends : after ≡ before ++ added
  pub posted : posts_by (rules_of old) (reverse new.journal) ≡ posts_by (rules_of old) (reverse old.journal) ++ added
  pub over : AllGoOver old.k old.feeders Controller added
  pub stands : (first : TurnLine) (lists : ControllerLists)
      → StandsWithin (rules_of old) first lists old.journal (held_at old.held)
      → StandsWithin (rules_of old) first (with_sent lists added new.journal) new.journal (held_at new.held)

-- a feeder's message is in place, as the machine sees it
abbrev pub HasPlace : Ledger → ℕ → ToController → Type 0
HasPlace c p (Ask dr ds) =
    (p < c.feeders) × (flag_at c.drained.items p ≡ false) × (c.line.rows_r + dr ≤ 2 ^ 32)
    × (c.line.rows_s + ds ≤ 2 ^ 32)
HasPlace c p Drained = (p < c.feeders) × (flag_at c.drained.items p ≡ false)
HasPlace c p (Settled epoch) = ⊥

-- a part of a call that was handed a message
pub record Took (from : Actor) (m : ToController) (old new : Ledger) (before after : List Post) : Type 0 where
  pub state : state_after from m (state_of old false) ≡ with_all_held (state_of new false)
  pub rules : rules_of new ≡ rules_of old
  pub grows : IsPrefix old.journal new.journal
  pub added : List Post
  pub sends : after ≡ before ++ added
  pub posted : posts_by (rules_of old) (reverse new.journal) ≡ posts_by (rules_of old) (reverse old.journal) ++ added
  pub over : AllGoOver old.k old.feeders Controller added
  pub stands : (first : TurnLine) (lists : ControllerLists)
      → StandsWithin (rules_of old) first lists old.journal (held_at old.held)
      → StandsWithin (rules_of old) first (with_sent (with_message from m lists) added new.journal) new.journal
      (held_at new.held)

-- a ledger that has just begun
pub record Begins (rules : Rules) (first : TurnLine) (c : Ledger) : Type 0 where
  pub sound : IsSound c
  pub rules_are : rules_of c ≡ rules
  pub journal : c.journal ≡ first ∷ []
  pub held : (j : ℕ) → held_at c.held j ≡ []
