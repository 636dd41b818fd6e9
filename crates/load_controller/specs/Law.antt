-- The law of the controller: its journal, the messages that its lines are, and what it sends for them.
use Rattle.std.specs.Prelude.{◌≡◌, ℕ, ◌+◌, ◌^◌, ◌<◌, ◌≤◌, ◌==◌, Bool, false, not, ◌&&◌, ◌||◌, IsTrue, MatchBool, List}
use Rattle.std.specs.Prelude.{[], ◌∷◌, ◌++◌, reverse, if◌then◌else◌}
use Rattle.std.specs.List.{AllByRecursion, list_all}
use Rattle.row_cells.specs.Lists.{counting_from}
use Rattle.epoch_tags.specs.declared.message.ToController.{ToController}
use Rattle.epoch_tags.specs.declared.message.ToController.TheVariants.{Ask, Drained, Settled}
use Rattle.epoch_tags.specs.declared.message.ToFeeder.{ToFeeder}
use Rattle.epoch_tags.specs.declared.message.ToFeeder.TheVariants.{Order, Grant, Stop}
use Rattle.epoch_tags.specs.Messages.{settled_epochs}
use Rattle.load_controller.specs.declared.line.Cause.{Cause}
use Rattle.load_controller.specs.declared.line.Cause.TheVariants.{Start, Count, Drain}
use Rattle.load_controller.specs.declared.line.TurnLine.{TurnLine}
use Rattle.load_controller.specs.Journal.{Rules, Follows, is_count_of, is_drain_of, is_settle_of, has_drained}
use Rattle.load_controller.specs.Journal.{has_settled}

-- what the controller received and sent, and its journal
pub record ControllerLists : Type 0 where
  pub from_feeder : ℕ → List ToController
  pub from_joiner : ℕ → List ToController
  pub to_feeder : ℕ → List ToFeeder
  pub journal : List TurnLine

-- ---- in place: after a past that begins with the line `before`

-- a feeder's message
abbrev pub IsInPlace : TurnLine → List TurnLine → ℕ → ToController → Type 0
IsInPlace before past p (Ask dr ds) = IsTrue (not (has_drained p (before ∷ past))) × (before.rows_r + dr ≤ 2 ^ 32)
    × (before.rows_s + ds ≤ 2 ^ 32)
IsInPlace before past p Drained = IsTrue (not (has_drained p (before ∷ past)))
IsInPlace before past p (Settled epoch) = ⊥

-- joiner j's word that it has settled this epoch
abbrev pub SettlesInPlace : TurnLine → List TurnLine → ℕ → ℕ → Type 0
SettlesInPlace before past j epoch = IsTrue before.moving × (epoch ≡ before.epoch)
    × IsTrue (not (has_settled j (before ∷ past)))

-- the cause of the line that counts a feeder's message
abbrev pub cause_of : ℕ → ToController → Cause
cause_of p (Ask dr ds) = Count p dr ds
cause_of p Drained = Drain p
cause_of p (Settled epoch) = Start

-- ---- which messages the lines are

-- after the past that begins with the line `before`, a line of this cause counts the last of feeder p's messages,
-- those between it and the earlier ones being passed over
pub record CountsOne (p : ℕ) (before : TurnLine) (past : List TurnLine) (cause : Cause) (AreEarlier : List ToController
    → Type 0) (ms : List ToController) : Type 0 where
  pub earlier : List ToController
  pub passed : List ToController
  pub m : ToController
  pub splits : ms ≡ earlier ++ (passed ++ m ∷ [])
  pub passes : AllByRecursion (λ m'. ¬ IsInPlace before past p m') passed
  pub in_place : IsInPlace before past p m
  pub is : cause ≡ cause_of p m
  pub are_earlier : AreEarlier earlier

-- of feeder p's messages up to the last that has a line, each was counted where it was in place, and else passed over
abbrev pub AreCounted : ℕ → List TurnLine → List ToController → Type 0
AreCounted p [] ms = ms ≡ []
AreCounted p (line ∷ []) ms = ms ≡ []
AreCounted p (line ∷ before ∷ past) ms =
    MatchBool (is_count_of p line.cause || is_drain_of p line.cause)
    (CountsOne p before past line.cause (λ earlier. AreCounted p (before ∷ past) earlier) ms)
    (AreCounted p (before ∷ past) ms)

-- after the past that begins with the line `before`, a line counts the last of the epochs that joiner j said it has
-- settled
pub record SettlesOne (j : ℕ) (before : TurnLine) (past : List TurnLine) (AreEarlier : List ℕ
    → Type 0) (epochs : List ℕ) : Type 0 where
  pub earlier : List ℕ
  pub epoch : ℕ
  pub splits : epochs ≡ earlier ++ epoch ∷ []
  pub in_place : SettlesInPlace before past j epoch
  pub are_earlier : AreEarlier earlier

-- of the epochs that joiner j said it has settled, each was counted where it was in place
abbrev pub AreSettled : ℕ → List TurnLine → List ℕ → Type 0
AreSettled j [] epochs = epochs ≡ []
AreSettled j (line ∷ []) epochs = epochs ≡ []
AreSettled j (line ∷ before ∷ past) epochs =
    MatchBool (is_settle_of j line.cause)
    (SettlesOne j before past (λ earlier. AreSettled j (before ∷ past) earlier) epochs)
    (AreSettled j (before ∷ past) epochs)

-- all messages of feeder p: those up to the last that has a line, and more that are not in place
pub record CountsMessages (p : ℕ) (line : TurnLine) (past : List TurnLine) (ms : List ToController) : Type 0 where
  pub counted : List ToController
  pub passed : List ToController
  pub splits : counted ++ passed ≡ ms
  pub are_counted : AreCounted p (line ∷ past) counted
  pub not_in_place : AllByRecursion (λ m. ¬ IsInPlace line past p m) passed

-- all epochs of joiner j: those that have a line, and held ones, of which the first is not in place
pub record CountsSettled (j : ℕ) (line : TurnLine) (past : List TurnLine) (epochs : List ℕ) : Type 0 where
  pub counted : List ℕ
  pub held : List ℕ
  pub splits : counted ++ held ≡ epochs
  pub are_settled : AreSettled j (line ∷ past) counted
  pub stuck : (epoch : ℕ) (rest : List ℕ) → held ≡ epoch ∷ rest → ¬ SettlesInPlace line past j epoch

-- ---- what is sent

-- some line of the past isn't moving and comes after all feeders drained
abbrev pub is_over : ℕ → List TurnLine → Bool
is_over feeders [] = false
is_over feeders (line ∷ past) = (not line.moving && list_all (λ p. has_drained p (line ∷ past))
    (counting_from 0 feeders)) || is_over feeders past

-- what feeder p is sent for one line: the order of a step that began, the grant of its batch, the stop at the end
abbrev pub sent_for : Rules → ℕ → TurnLine → TurnLine → List TurnLine → List ToFeeder
sent_for rules p line before past =
    (if line.epoch == before.epoch then [] else Order line.epoch line.shift ∷ [])
    ++ (if is_count_of p line.cause then Grant ∷ [] else [])
    ++ (if not (is_over rules.feeders (before ∷ past)) && is_over rules.feeders (line ∷ before ∷ past) then Stop ∷ []
    else [])

-- and for all lines of a past
abbrev pub sent_by : Rules → ℕ → List TurnLine → List ToFeeder
sent_by rules p [] = []
sent_by rules p (line ∷ []) = []
sent_by rules p (line ∷ before ∷ past) = sent_by rules p (before ∷ past) ++ sent_for rules p line before past

-- the law of a controller that has these lists
pub record ControllerLaw (rules : Rules) (first : TurnLine) (lists : ControllerLists) : Type 0 where
  -- the journal read backwards: its last line, and the past before it
  pub line : TurnLine
  pub past : List TurnLine
  pub journal : reverse lists.journal ≡ line ∷ past
  pub follows : Follows rules first (line ∷ past)
  pub counts : (p : ℕ) → p < rules.feeders → CountsMessages p line past (lists.from_feeder p)
  pub settles : (j : ℕ) → j < 2 ^ rules.k → CountsSettled j line past (settled_epochs (lists.from_joiner j))
  pub sends : (p : ℕ) → p < rules.feeders → lists.to_feeder p ≡ sent_by rules p (line ∷ past)
