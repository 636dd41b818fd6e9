-- What a controller's machine holds, and the lists for which it stands. Of those it stores its journal alone.
use Rattle.std.specs.Prelude.{◌≡◌, ℕ, zero, suc, ◌+◌, ◌*◌, ◌^◌, ◌<◌, ◌==◌, nat_lt, nat_le, ⊤, Bool, false, not, ◌&&◌}
use Rattle.std.specs.Prelude.{None, Some, Option, List, [], ◌∷◌, ◌++◌, drop, length, map, reverse, replicate, sum_by}
use Rattle.std.specs.Prelude.{slice_set}
use Rattle.std.specs.Prelude.{if◌then◌else◌}
use Rattle.std.specs.List.{find}
use Rattle.row_cells.specs.Lists.{IsPrefix, counting_from}
use Rattle.grid_map.specs.declared.cost.Weights.{Weights}
use Rattle.grid_map.specs.Load.{IsNear}
use Rattle.epoch_tags.specs.declared.actor.Actor.{Actor}
use Rattle.epoch_tags.specs.declared.actor.Actor.TheVariants.{Feeder, Joiner, Controller, Collector}
use Rattle.epoch_tags.specs.declared.message.Msg.TheVariants.{Feeder as Feeder'}
use Rattle.epoch_tags.specs.declared.message.Post.{Post}
use Rattle.epoch_tags.specs.declared.message.ToController.{ToController}
use Rattle.epoch_tags.specs.declared.message.ToController.TheVariants.{Ask, Drained, Settled}
use Rattle.epoch_tags.specs.declared.message.ToFeeder.{ToFeeder}
use Rattle.epoch_tags.specs.declared.message.ToFeeder.TheVariants.{Order, Grant, Stop}
use Rattle.epoch_tags.specs.Posts.{AllGoOver, posted_to_feeder}
use Rattle.epoch_tags.specs.Held.{held_at}
use Rattle.load_controller.specs.declared.line.Cause.{Cause}
use Rattle.load_controller.specs.declared.line.Cause.TheVariants.{Start, Wave, Count, Settle, Drain}
use Rattle.load_controller.specs.declared.line.TurnLine.{TurnLine}
use Rattle.load_controller.specs.Journal.{Rules, line_after, has_drained, has_settled}
use Rattle.load_controller.specs.Law.{ControllerLists, ControllerLaw, IsInPlace, cause_of, is_over}

-- what it follows, its journal, and the messages of joiners that are not in place yet
pub record ControllerState : Type 0 where
  pub rules : Rules
  pub journal : List TurnLine
  -- for each joiner the epochs that it said it has settled, and that wait
  pub held : List (List ℕ)
  -- memory was wanting in an earlier call
  pub spent : Bool

-- how a controller begins: its rules, and the first line of its journal
pub record ControllerStart : Type 0 where
  pub rules : Rules
  pub first : TurnLine

-- it began so; the lists keep the law, and what the machine holds is read off them
pub record StandsFor (start : ControllerStart) (lists : ControllerLists) (state : ControllerState) : Type 0 where
  pub began : state.rules ≡ start.rules
  pub law : ControllerLaw start.rules start.first lists
  pub journal : state.journal ≡ lists.journal
  pub held : (j : ℕ) (low : j < 2 ^ start.rules.k) → held_at state.held j ≡ (law.settles j low).held

-- ---- the lists before and after a call

-- a new machine stands for empty lists
abbrev pub nothing_yet : TurnLine → ControllerLists
nothing_yet first = record { from_feeder = λ p. []; from_joiner = λ j. []; to_feeder = λ p. []; journal = first ∷ [] }

-- the lists with one more message in the list at this index
abbrev pub grown : {M : Type 0} → ℕ → M → (ℕ → List M) → ℕ → List M
grown at m lists i = if at == i then lists i ++ m ∷ [] else lists i

-- with this message received
abbrev pub with_message : Actor → ToController → ControllerLists → ControllerLists
with_message (Feeder p) m lists = record lists { from_feeder = grown p m lists.from_feeder }
with_message (Joiner j) m lists = record lists { from_joiner = grown j m lists.from_joiner }
with_message Controller m lists = lists
with_message Collector m lists = lists

-- with these posts sent, and with this journal
abbrev pub with_sent : ControllerLists → List Post → List TurnLine → ControllerLists
with_sent lists posts journal =
    record lists { to_feeder = λ p. lists.to_feeder p ++ posted_to_feeder p posts; journal = journal }

-- ---- what is sent for a line, and to whom, in order

-- the post of a message to feeder p
abbrev pub post_to : ToFeeder → ℕ → Post
post_to m p = record { to = Feeder p; msg = Feeder' m }

-- the message to so many feeders, rising
abbrev pub to_each : ℕ → ToFeeder → List Post
to_each feeders m = map (post_to m) (counting_from 0 feeders)

-- the grant of a batch to its feeder
abbrev pub grant_for : Cause → List Post
grant_for Start = []
grant_for Wave = []
grant_for (Count feeder dr ds) = post_to Grant feeder ∷ []
grant_for (Settle joiner) = []
grant_for (Drain feeder) = []

-- for one line: the order of a step that began, the grant, the stop at the end
abbrev pub posts_for : Rules → TurnLine → TurnLine → List TurnLine → List Post
posts_for rules line before past =
    (if line.epoch == before.epoch then [] else to_each rules.feeders (Order line.epoch line.shift))
    ++ grant_for line.cause
    ++ (if not (is_over rules.feeders (before ∷ past)) && is_over rules.feeders (line ∷ before ∷ past)
    then to_each rules.feeders Stop else [])

-- and for all lines of a past
abbrev pub posts_by : Rules → List TurnLine → List Post
posts_by rules [] = []
posts_by rules (line ∷ []) = []
posts_by rules (line ∷ before ∷ past) = posts_by rules (before ∷ past) ++ posts_for rules line before past

-- ---- what a call leaves, by what the machine held and the message

-- the journal with the line of this cause
abbrev pub journal_with : Rules → Cause → List TurnLine → List TurnLine → List TurnLine
journal_with rules cause journal [] = journal
journal_with rules cause journal (before ∷ past) = journal ++ line_after rules before past cause ∷ []

-- the machine with the line of this cause in its journal
abbrev pub with_line : Cause → ControllerState → ControllerState
with_line cause state = record state { journal = journal_with state.rules cause state.journal (reverse state.journal) }

-- the first of joiner j's held epochs is in place
abbrev pub is_ready : TurnLine → List TurnLine → ℕ → List ℕ → Bool
is_ready before past j [] = false
is_ready before past j (epoch ∷ rest) =
    before.moving && ((epoch == before.epoch) && not (has_settled j (before ∷ past)))

-- the lowest joiner of whom that is so
abbrev pub lowest_ready : Rules → List TurnLine → List (List ℕ) → Option ℕ
lowest_ready rules [] held = None
lowest_ready rules (before ∷ past) held =
    find (λ j. is_ready before past j (held_at held j)) (counting_from 0 (2 ^ rules.k))

-- the first of joiner j's held epochs is counted
abbrev pub with_settled : ℕ → ControllerState → ControllerState
with_settled j state =
    with_line (Settle j) (record state { held = slice_set state.held j (drop 1 (held_at state.held j)) })

-- what follows once the first held epoch of this joiner, if there is one, is counted
abbrev pub with_next : (ControllerState → ControllerState) → ControllerState → Option ℕ → ControllerState
with_next later state None = state
with_next later state (Some j) = later (with_settled j state)

-- so many held epochs at most are counted, as long as one is in place: the lowest joiner's first, and after each line
-- from the lowest again
abbrev pub with_held : ℕ → ControllerState → ControllerState
with_held zero state = state
with_held (suc n) state = with_next (with_held n) state (lowest_ready state.rules (reverse state.journal) state.held)

-- all that can be
abbrev pub with_all_held : ControllerState → ControllerState
with_all_held state = with_held (sum_by length state.held) state

-- the feeder's message is in place
abbrev pub is_in_place : TurnLine → List TurnLine → ℕ → ToController → Bool
is_in_place before past p (Ask dr ds) =
    not (has_drained p (before ∷ past))
    && (nat_le (before.rows_r + dr) (2 ^ 32) && nat_le (before.rows_s + ds) (2 ^ 32))
is_in_place before past p Drained = not (has_drained p (before ∷ past))
is_in_place before past p (Settled epoch) = false

-- a message of this feeder is counted: the feeder is one of the grid, and the message is in place
abbrev pub counts_feeder : Rules → List TurnLine → ℕ → ToController → Bool
counts_feeder rules [] p m = false
counts_feeder rules (before ∷ past) p m = nat_lt p rules.feeders && is_in_place before past p m

-- after a message: a feeder's is counted where it is in place, a joiner's word is held, and then the held ones are
-- tried
abbrev pub state_after : Actor → ToController → ControllerState → ControllerState
state_after (Feeder p) m state =
    if counts_feeder state.rules (reverse state.journal) p m then with_all_held (with_line (cause_of p m) state)
    else state
state_after (Joiner j) (Ask dr ds) state = state
state_after (Joiner j) Drained state = state
state_after (Joiner j) (Settled epoch) state =
    if nat_lt j (2 ^ state.rules.k)
    then with_all_held (record state { held = slice_set state.held j (held_at state.held j ++ epoch ∷ []) })
    else state
state_after Controller m state = state
state_after Collector m state = state

-- ---- a call

-- after a past that begins with the line `before`, the message adds no line and isn't held:
-- it isn't in place, its sender is not of this grid, or its kind is not its sender's
abbrev pub IsPassedOver : Rules → TurnLine → List TurnLine → Actor → ToController → Type 0
IsPassedOver rules before past (Feeder p) m = p < rules.feeders → ¬ IsInPlace before past p m
IsPassedOver rules before past (Joiner j) (Ask dr ds) = ⊤
IsPassedOver rules before past (Joiner j) Drained = ⊤
IsPassedOver rules before past (Joiner j) (Settled epoch) = ¬ (j < 2 ^ rules.k)
IsPassedOver rules before past Controller m = ⊤
IsPassedOver rules before past Collector m = ⊤

-- a call that was handed m of this sender, and turned the posts `before` into `after`: for whatever lists the machine
-- stood, it stands for them with the message and the new posts at their ends
pub record TakesMessage (from : Actor) (m : ToController) (old new : ControllerState)
    (before after : List Post) : Type 0 where
  -- which new lines there are, and what is held
  pub state : new ≡ state_after from m old
  pub rules : new.rules ≡ old.rules
  -- the journal grows
  pub grows : IsPrefix old.journal new.journal
  -- and the new posts are those for its new lines, in order
  pub added : List Post
  pub sends : after ≡ before ++ added
  pub posted : posts_by old.rules (reverse new.journal) ≡ posts_by old.rules (reverse old.journal) ++ added
  -- each over a link to one of the feeders
  pub over : AllGoOver old.rules.k old.rules.feeders Controller added
  pub stands : (start : ControllerStart) (lists : ControllerLists) → StandsFor start lists old
      → StandsFor start (with_sent (with_message from m lists) added new.journal) new

-- a call that passed the message over
pub record PassesOver (old new : ControllerState) (before after : List Post) : Type 0 where
  pub same : new ≡ old
  pub silent : after ≡ before

-- where no shift is fixed, a line that isn't moving is near the best grid for its counts
abbrev pub IsNearWhereStill : Rules → TurnLine → Type 0
IsNearWhereStill rules line =
    rules.fixed ≡ None → line.moving ≡ false
    → IsNear rules.k line.shift (rules.weights.r * line.rows_r) (rules.weights.s * line.rows_s)

-- what it holds when it has just begun at this line
abbrev pub just_begun : Rules → TurnLine → ControllerState
just_begun rules first =
    record { rules = rules; journal = first ∷ []; held = replicate (2 ^ rules.k) []; spent = false }

-- a machine that has just begun at this line stands for empty lists
pub record IsFresh (rules : Rules) (first : TurnLine) (state : ControllerState) : Type 0 where
  pub rules_are : state.rules ≡ rules
  pub journal : state.journal ≡ first ∷ []
  pub stands : StandsFor (record { rules = rules; first = first }) (nothing_yet first) state
  pub at_work : state.spent ≡ false
  pub whole : state ≡ just_begun rules first

-- the rules of a grid of 2 ^ k joiners, with a shift that is fixed or none
abbrev pub rules_with : ℕ → ℕ → Option ℕ → Weights → Rules
rules_with k feeders fixed weights = record { k = k; feeders = feeders; fixed = fixed; weights = weights }
