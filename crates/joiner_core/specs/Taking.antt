-- The lists for which what a joiner has of its epochs stands; which messages can be taken, and what taking one does to
-- the lists.
use Rattle.std.specs.Prelude.{◌≡◌, ℕ, ◌+◌, ◌<◌, Bool, true, false, Option, Some, None, List, ◌∷◌, length, ◌≤◌, ◌^◌, ⊤}
use Rattle.std.specs.Prelude.{[], ◌++◌, All}
use Rattle.epoch_tags.specs.declared.tuple.Pair.{Pair}
use Rattle.joiner_law.specs.Law.{JoinerStart, JoinerLists, Taken}
use Rattle.joiner_law.specs.History.{Step}
use Rattle.joiner_law.specs.Standing.{StandsSettled, StandsOpen, moved_counts, grown, with_sent}
use Rattle.joiner_core.specs.State.{does_hold, IsStock, IsOwnPost, OpenStep, EpochState}
use Rattle.joiner_core.specs.Changes.{IsReady}
use Rattle.joiner_core.specs.Outcomes.{Does, of_feeder, of_joiner}
use Rattle.epoch_tags.specs.declared.message.Post.{Post}
use Rattle.epoch_tags.specs.declared.message.ToJoiner.{ToJoiner}
use Rattle.migration_plan.specs.Steps.{AreNeighbours, partner_in_step}
use Rattle.epoch_tags.specs.Posts.{posted_to_collector}
use Rattle.theta_pred.specs.Formula.{Meaning}
use Rattle.epoch_tags.specs.declared.message.ToJoiner.TheVariants.{Tup, Turn, End, Moved, MovedEnd}
use Rattle.epoch_tags.specs.Flags.{flag_at}

-- what never changes
pub record IsMachineOf (s : JoinerStart) (m : EpochState) : Type 0 where
  pub k : m.k ≡ s.k
  pub id : m.id ≡ s.id
  pub feeders : m.feeders ≡ s.feeders
  pub matches : does_hold m.theta ≡ s.matches
  pub small : s.k ≤ 8

-- with no step open
pub record IsClosed (s : JoinerStart) (t : Taken) (lists : JoinerLists) (waiting : List Pair)
    (m : EpochState) : Type 0 where
  pub cur : Step
  pub past : List Step
  pub stands : StandsSettled s t lists waiting (flag_at m.ended) m.store.tuples cur past
  pub epoch : m.epoch ≡ s.epoch + length past
  pub shift : m.shift ≡ cur.shift
  pub ended_count : length m.ended ≡ s.feeders
  pub moved : m.moved ≡ moved_counts s.k s.id (cur ∷ past)

-- with a step open
pub record IsOpen (s : JoinerStart) (t : Taken) (lists : JoinerLists) (waiting : List Pair) (m : EpochState)
    (o : OpenStep) : Type 0 where
  pub new : Step
  pub cur : Step
  pub past : List Step
  pub all_turned : Bool
  pub stands : StandsOpen s t lists waiting (flag_at o.turned) (flag_at m.ended)
      all_turned o.partner_ended m.store.tuples o.store.tuples new cur past
  pub epoch : m.epoch ≡ s.epoch + length past
  pub shift : m.shift ≡ cur.shift
  pub step_epoch : o.epoch ≡ s.epoch + length past + 1
  pub step_shift : o.shift ≡ new.shift
  pub ended_count : length m.ended ≡ s.feeders
  pub count : length o.turned ≡ s.feeders
  pub moved : m.moved ≡ moved_counts s.k s.id (cur ∷ past)
  pub missing : all_turned ≡ false → ((p : ℕ) → p < s.feeders → flag_at o.turned p ≡ true) → ⊥
  pub all : all_turned ≡ true → (p : ℕ) → p < s.feeders → flag_at o.turned p ≡ true

-- it stands for these lists, with a step open or none
abbrev pub StandsBy : JoinerStart → Taken → JoinerLists → List Pair → EpochState → Option OpenStep → Type 0
StandsBy s t lists waiting m None = IsClosed s t lists waiting m
StandsBy s t lists waiting m (Some o) = IsOpen s t lists waiting m o

-- of a joiner that began by s, took t, sent these lists and has these pairs waiting
pub record Stands (s : JoinerStart) (t : Taken) (lists : JoinerLists) (waiting : List Pair)
    (m : EpochState) : Type 0 where
  pub fixed : IsMachineOf s m
  pub now : StandsBy s t lists waiting m m.step

-- ---- what can be taken, and what taking it does

-- the step leads from this shift to a neighbouring one within the grid
abbrev pub IsStepWithin : ℕ → ℕ → Option OpenStep → Type 0
IsStepWithin k shift None = ⊤
IsStepWithin k shift (Some o) = (o.shift ≤ k) × AreNeighbours shift o.shift

-- some feeder has turned in the open step, if there is one
abbrev pub HasSomeTurn : ℕ → Option OpenStep → Type 0
HasSomeTurn feeders None = ⊤
HasSomeTurn feeders (Some o) = (p : ℕ) × (p < feeders) × (flag_at o.turned p ≡ true)

-- there is a flag for each feeder
abbrev pub IsCounted : ℕ → Option OpenStep → Type 0
IsCounted feeders None = ⊤
IsCounted feeders (Some o) = length o.turned ≡ feeders

-- the open step's store is one of a joiner with this predicate
abbrev pub IsStepStock : Meaning → Option OpenStep → Type 0
IsStepStock theta None = ⊤
IsStepStock theta (Some o) = IsStock theta o.store

-- what holds of the machine between two messages
pub record IsWithin (m : EpochState) : Type 0 where
  pub small : m.k ≤ 8
  pub shift : m.shift ≤ m.k
  pub step : IsStepWithin m.k m.shift m.step
  pub ended : length m.ended ≡ m.feeders
  pub count : IsCounted m.feeders m.step
  pub begun : HasSomeTurn m.feeders m.step
  pub rests : IsReady m.step → ⊥
  pub id : m.id < 2 ^ m.k
  pub stock : IsStock m.theta m.store
  pub step_stock : IsStepStock m.theta m.step

-- the tuple's stamp is one that its feeder may still use
abbrev pub TupFits : EpochState → ℕ → ℕ → Option OpenStep → Type 0
TupFits m p stamp None = stamp ≡ m.epoch
TupFits m p stamp (Some o) = (flag_at o.turned p ≡ false → stamp ≡ m.epoch)
    × (flag_at o.turned p ≡ true → stamp ≡ o.epoch)

-- a tuple of feeder p with this stamp
pub record CanTakeTup (m : EpochState) (p stamp : ℕ) : Type 0 where
  pub going : flag_at m.ended p ≡ false
  pub fits : TupFits m p stamp m.step

-- the turn is one to a neighbouring shift, or the one of the open step
abbrev pub TurnFits : EpochState → ℕ → ℕ → ℕ → Option OpenStep → Type 0
TurnFits m p epoch shift None = (epoch ≡ m.epoch + 1) × (shift ≤ m.k) × AreNeighbours m.shift shift
TurnFits m p epoch shift (Some o) = (flag_at o.turned p ≡ false) × (epoch ≡ o.epoch) × (shift ≡ o.shift)

-- a turn of feeder p to this epoch and shift
pub record CanTakeTurn (m : EpochState) (p epoch shift : ℕ) : Type 0 where
  pub going : flag_at m.ended p ≡ false
  pub fits : TurnFits m p epoch shift m.step

-- what no call changes
pub record IsFixed (old new : EpochState) : Type 0 where
  pub k : new.k ≡ old.k
  pub id : new.id ≡ old.id
  pub feeders : new.feeders ≡ old.feeders
  pub theta : new.theta ≡ old.theta

-- what was taken before, with this message of feeder p; an epoch may have got its shift
pub record IsAfter (p : ℕ) (m : ToJoiner) (t t' : Taken) : Type 0 where
  pub from_feeder : t'.from_feeder ≡ grown p m t.from_feeder
  pub from_joiner : t'.from_joiner ≡ t.from_joiner

-- what it posts goes over its links, with rows of the predicate's widths
abbrev pub AreOwnPosts : EpochState → List Post → Type 0
AreOwnPosts m posts = All (IsOwnPost m.k m.feeders m.id m.theta) posts

-- a call that took message m of feeder p
pub record TookOfFeeder (p : ℕ) (m : ToJoiner) (old new : EpochState) (waiting waiting' : List Pair)
    (before after : List Post) : Type 0 where
  pub added : List Post
  pub sends : after ≡ before ++ added
  pub quiet : posted_to_collector added ≡ []
  pub own : AreOwnPosts old added
  pub within : IsWithin new
  pub k : new.k ≡ old.k
  pub id : new.id ≡ old.id
  pub feeders : new.feeders ≡ old.feeders
  pub theta : new.theta ≡ old.theta
  pub going : flag_at old.ended p ≡ false
  pub stands : (s : JoinerStart) (t : Taken) (lists : JoinerLists) → p < s.feeders → Stands s t lists waiting old
      → (t' : Taken) × IsAfter p m t t' × Stands s t' (with_sent lists added) waiting' new
  pub does : Does (of_feeder old p m) new waiting waiting' before after

-- what was taken before, with this message of joiner q
pub record IsAfterJoiner (q : ℕ) (m : ToJoiner) (t t' : Taken) : Type 0 where
  pub from_feeder : t'.from_feeder ≡ t.from_feeder
  pub from_joiner : t'.from_joiner ≡ grown q m t.from_joiner

-- a call that took message m of joiner q
pub record TookOfJoiner (q : ℕ) (m : ToJoiner) (old new : EpochState) (waiting waiting' : List Pair)
    (before after : List Post) : Type 0 where
  pub added : List Post
  pub sends : after ≡ before ++ added
  pub quiet : posted_to_collector added ≡ []
  pub own : AreOwnPosts old added
  pub within : IsWithin new
  pub k : new.k ≡ old.k
  pub id : new.id ≡ old.id
  pub feeders : new.feeders ≡ old.feeders
  pub theta : new.theta ≡ old.theta
  pub opened : old.step ≡ None → ⊥
  pub stands : (s : JoinerStart) (t : Taken) (lists : JoinerLists) → Stands s t lists waiting old
      → (t' : Taken) × IsAfterJoiner q m t t' × Stands s t' (with_sent lists added) waiting' new
  pub does : Does (of_joiner old m) new waiting waiting' before after

-- ---- which messages can be taken, as the machine's tests say

-- a part of the open step, of the partner, before the end of its part
abbrev pub PartFits : EpochState → ℕ → ℕ → Option OpenStep → Type 0
PartFits m q epoch None = ⊥
PartFits m q epoch (Some o) = (epoch ≡ o.epoch) × (o.partner_ended ≡ false) × (q ≡ partner_in_step m.shift o.shift m.id)

-- this message of a feeder can be taken
abbrev pub TakesOfFeeder : EpochState → ℕ → ToJoiner → Type 0
TakesOfFeeder m p (Tup x) = CanTakeTup m p x.stamp
TakesOfFeeder m p (Turn epoch shift) = CanTakeTurn m p epoch shift
TakesOfFeeder m p End = flag_at m.ended p ≡ false
TakesOfFeeder m p (Moved epoch x) = ⊥
TakesOfFeeder m p (MovedEnd epoch) = ⊥

-- this message of a joiner can be taken
abbrev pub TakesOfJoiner : EpochState → ℕ → ToJoiner → Type 0
TakesOfJoiner m q (Tup x) = ⊥
TakesOfJoiner m q (Turn epoch shift) = ⊥
TakesOfJoiner m q End = ⊥
TakesOfJoiner m q (Moved epoch x) = PartFits m q epoch m.step
TakesOfJoiner m q (MovedEnd epoch) = PartFits m q epoch m.step
