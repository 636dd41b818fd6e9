-- The lists for which a joiner's machine stands, with the messages that it holds.
use Rattle.std.specs.Prelude.{◌≡◌, ℕ, ◌+◌, ◌^◌, ◌<◌, ◌≤◌, map, slice_set, ◌⊎◌, Bool, true, false, None, Some, ⊤, List}
use Rattle.std.specs.Prelude.{suc, [], ◌∷◌, ◌++◌, length}
use Rattle.std.specs.List.{AllByRecursion}
use Rattle.row_cells.specs.Lists.{total}
use Rattle.epoch_tags.specs.declared.tuple.Pair.{Pair}
use Rattle.epoch_tags.specs.declared.message.ToCollector.{ToCollector}
use Rattle.epoch_tags.specs.declared.message.Post.{Post}
use Rattle.epoch_tags.specs.declared.message.ToJoiner.{ToJoiner}
use Rattle.epoch_tags.specs.Posts.{posted_to_collector}
use Rattle.epoch_tags.specs.declared.message.Msg.TheVariants.{Collector as Collector'}
use Rattle.epoch_tags.specs.declared.message.ToCollector.TheVariants.{Found, Fin}
use Rattle.joiner_core.specs.State.{does_hold, HoldsRows, Stocked, EpochState, MachineState}
use Rattle.theta_pred.specs.Formula.{Meaning}
use Rattle.epoch_tags.specs.declared.tuple.Tuple.{Tuple}
use Rattle.joiner_law.specs.Law.{JoinerStart, JoinerLists, Taken, CanTakeOfFeeder, CanTakeOfJoiner, IsTakenOf}
use Rattle.joiner_law.specs.Law.{received_count}
use Rattle.joiner_law.specs.Standing.{grown, with_sent}
use Rattle.joiner_core.specs.Outcomes.{Does}
use Rattle.joiner_core.specs.Calls.{held_in_all, fin_of, found_posts, fin_posts, accepts, takes_first, first_ready}
use Rattle.joiner_core.specs.Calls.{state_after, posts_after}
use Rattle.joiner_core.specs.Taking.{IsWithin, IsFixed, AreOwnPosts, TakesOfFeeder, TakesOfJoiner, Stands}
use Rattle.epoch_tags.specs.declared.actor.Actor.{Actor}
use Rattle.epoch_tags.specs.declared.actor.Actor.TheVariants.{Feeder, Joiner as Joiner', Controller, Collector}
use Rattle.epoch_tags.specs.Flags.{IsEachUp, flag_at}
use Rattle.epoch_tags.specs.Held.{held_at, BeginsWith}
use Rattle.joiner_core.specs.declared.machine.Machine.{Machine}

-- what the code's machine holds
abbrev pub state_of : Machine → MachineState
state_of m = record { epochs = m.epochs; of_feeders = m.of_feeders; of_joiners = m.of_joiners; told = m.told }

-- how many messages it holds, link by link
abbrev pub held_messages : MachineState → ℕ
held_messages m =
    total (length m.of_feeders) (λ p. length (held_at m.of_feeders p))
    + total (length m.of_joiners) (λ q. length (held_at m.of_joiners q))

-- in the midst of a call: what was taken and what is held are what was received
pub record StandsWithin (s : JoinerStart) (lists : JoinerLists) (waiting : List Pair) (m : MachineState) : Type 0 where
  pub taken : Taken
  pub stands : Stands s taken lists waiting m.epochs
  pub feeders : (p : ℕ) → p < s.feeders → taken.from_feeder p ++ held_at m.of_feeders p ≡ lists.from_feeder p
  pub joiners : (q : ℕ) → q < 2 ^ s.k → taken.from_joiner q ++ held_at m.of_joiners q ≡ lists.from_joiner q

-- all feeders have ended, and no step is open
pub record IsResting (m : EpochState) : Type 0 where
  pub closed : m.step ≡ None
  pub ended : IsEachUp m.ended

-- a part of a call, which turned the machine, the pairs that wait and the posts: for whatever lists the machine stood,
-- it stands for them with the new posts
pub record Advances (old new : MachineState) (waiting waiting' : List Pair) (before after : List Post) : Type 0 where
  pub added : List Post
  pub sends : after ≡ before ++ added
  pub quiet : posted_to_collector added ≡ []
  pub own : AreOwnPosts old.epochs added
  pub told : new.told ≡ old.told
  pub fixed : IsFixed old.epochs new.epochs
  pub rests : IsResting old.epochs → (new.epochs ≡ old.epochs) × (waiting' ≡ waiting)
  pub stands : (s : JoinerStart) (lists : JoinerLists) → StandsWithin s lists waiting old
      → StandsWithin s (with_sent lists added) waiting' new

-- what holds of the machine between two messages
pub record IsSound (m : MachineState) : Type 0 where
  pub within : IsWithin m.epochs
  pub feeders : length m.of_feeders ≡ m.epochs.feeders
  pub joiners : length m.of_joiners ≡ 2 ^ m.epochs.k
  pub feeder_rows : HoldsRows m.epochs.theta m.of_feeders
  pub joiner_rows : HoldsRows m.epochs.theta m.of_joiners

-- the first message held of that sender can be taken
pub record IsReadyOfFeeder (m : MachineState) (p : ℕ) : Type 0 where
  pub low : p < m.epochs.feeders
  pub first : ToJoiner
  pub begins : BeginsWith first (held_at m.of_feeders p)
  pub can : TakesOfFeeder m.epochs p first

-- the first message held of a joiner can be taken
pub record IsReadyOfJoiner (m : MachineState) (q : ℕ) : Type 0 where
  pub low : q < 2 ^ m.epochs.k
  pub first : ToJoiner
  pub begins : BeginsWith first (held_at m.of_joiners q)
  pub can : TakesOfJoiner m.epochs q first

-- no first message held of these senders can be taken
abbrev pub AreStuckOfFeeders : ℕ → MachineState → Type 0
AreStuckOfFeeders count m = (p : ℕ) → p < count → (x : ToJoiner) (rest : List ToJoiner)
    → held_at m.of_feeders p ≡ x ∷ rest → TakesOfFeeder m.epochs p x → ⊥

-- nor of the first joiners
abbrev pub AreStuckOfJoiners : ℕ → MachineState → Type 0
AreStuckOfJoiners count m = (q : ℕ) → q < count → (x : ToJoiner) (rest : List ToJoiner)
    → held_at m.of_joiners q ≡ x ∷ rest → TakesOfJoiner m.epochs q x → ⊥

-- no message held can be taken
pub record IsStuck (m : MachineState) : Type 0 where
  pub feeders : AreStuckOfFeeders m.epochs.feeders m
  pub joiners : AreStuckOfJoiners (2 ^ m.epochs.k) m

-- ---- in which order held messages are tried

-- the link is the first, feeders rising and then joiners rising, whose first held message can be taken
abbrev pub IsFirstReady : Actor → MachineState → Type 0
IsFirstReady (Feeder p) m = IsReadyOfFeeder m p × AreStuckOfFeeders p m
IsFirstReady (Joiner' q) m = IsReadyOfJoiner m q × AreStuckOfFeeders m.epochs.feeders m × AreStuckOfJoiners q m
IsFirstReady Controller m = ⊥
IsFirstReady Collector m = ⊥

-- the first message held of one sender is gone, and the others stand as they did
pub record IsWithoutFirst (sender : ℕ) (old new : List (List ToJoiner)) : Type 0 where
  pub first : ToJoiner
  pub rest : held_at old sender ≡ first ∷ held_at new sender
  pub others : new ≡ slice_set old sender (held_at new sender)

-- the link gave its first held message
abbrev pub HasGiven : Actor → MachineState → MachineState → Type 0
HasGiven (Feeder p) old new = IsWithoutFirst p old.of_feeders new.of_feeders × (new.of_joiners ≡ old.of_joiners)
HasGiven (Joiner' q) old new = IsWithoutFirst q old.of_joiners new.of_joiners × (new.of_feeders ≡ old.of_feeders)
HasGiven Controller old new = ⊥
HasGiven Collector old new = ⊥

-- the first link that was ready gave a message
pub record HasTakenNext (old new : MachineState) : Type 0 where
  pub from : Actor
  pub first : IsFirstReady from old
  pub given : HasGiven from old new

-- the held messages were tried, again after each one that was taken, until none could be taken
pub data AreTried : MachineState → MachineState → Type 0 where
  none_ready : {m : MachineState} → IsStuck m → AreTried m m
  next : {a b c : MachineState} → HasTakenNext a b → AreTried b c → AreTried a c

-- what is held stands as it did, since the message could be taken and nothing of its link was held
pub record IsTakenAtOnce (held : List ToJoiner) (can_take : Type 0) (old new : MachineState) : Type 0 where
  pub clear : held ≡ []
  pub can : can_take
  pub feeders : new.of_feeders ≡ old.of_feeders
  pub joiners : new.of_joiners ≡ old.of_joiners

-- the message was taken at once, or is the last that is held of its link
abbrev pub IsTakenOrHeld : Actor → ToJoiner → MachineState → MachineState → Type 0
IsTakenOrHeld (Feeder p) m old new =
    IsTakenAtOnce (held_at old.of_feeders p) (TakesOfFeeder old.epochs p m) old new
    ⊎ (new ≡ record old { of_feeders = slice_set old.of_feeders p (held_at old.of_feeders p ++ m ∷ []) })
IsTakenOrHeld (Joiner' q) m old new =
    IsTakenAtOnce (held_at old.of_joiners q) (TakesOfJoiner old.epochs q m) old new
    ⊎ (new ≡ record old { of_joiners = slice_set old.of_joiners q (held_at old.of_joiners q ++ m ∷ []) })
IsTakenOrHeld Controller m old new = ⊥
IsTakenOrHeld Collector m old new = ⊥

-- a call takes or holds its message, and then tries the held ones
pub record TakesInOrder (from : Actor) (m : ToJoiner) (old new : MachineState) : Type 0 where
  pub accepted : MachineState
  pub message : IsTakenOrHeld from m old accepted
  pub tried : AreTried accepted (record new { told = accepted.told })

-- one held message of this link was taken
pub record TookHeld (from : Actor) (old new : MachineState) (waiting waiting' : List Pair)
    (before after : List Post) : Type 0 where
  pub sound : IsSound new
  pub advances : Advances old new waiting waiting' before after
  pub given : HasGiven from old new
  pub fewer : held_in_all new < held_in_all old
  pub does : Does (takes_first from old) new waiting waiting' before after

-- the first link that was ready gave a message, which was taken
pub record DoesNext (old new : MachineState) (waiting waiting' : List Pair) (before after : List Post) : Type 0 where
  pub from : Actor
  pub first : first_ready old ≡ Some from
  pub fewer : held_in_all old ≡ suc (held_in_all new)
  pub does : Does (takes_first from old) new waiting waiting' before after

-- all feeders have ended, no step is open, and nothing is held
pub record HasFinished (m : MachineState) : Type 0 where
  pub closed : m.epochs.step ≡ None
  pub ended : IsEachUp m.epochs.ended
  pub feeders : (p : ℕ) → held_at m.of_feeders p ≡ []
  pub joiners : (q : ℕ) → held_at m.of_joiners q ≡ []

-- how a joiner may begin
pub record IsStart (s : JoinerStart) : Type 0 where
  pub within : s.shift ≤ s.k
  pub id : s.id < 2 ^ s.k
  pub some : 0 < s.feeders
  pub base : AllByRecursion (λ (x : Tuple). x.stamp ≤ s.epoch) s.base

-- what was sent to the collector: pairs, and once, where the machine has finished, the last message
pub record Collects (s : JoinerStart) (lists : JoinerLists) (m : MachineState) : Type 0 where
  pub founds : List (List Pair)
  pub last : List ToCollector
  pub to_collector : lists.to_collector ≡ map Found founds ++ last
  pub none_empty : AllByRecursion (λ (ps : List Pair). 0 < length ps) founds
  pub few : length founds ≤ received_count s lists
  pub untold : m.told ≡ false → last ≡ []
  pub told : m.told ≡ true → (last ≡ fin_of m.epochs ∷ []) × IsResting m.epochs
  pub finishes : HasFinished m → m.told ≡ true

-- between calls: no pair waits, no step is ready, and the first message held of each sender can't be taken; `done`
-- steps are settled
pub record StandsBetween (s : JoinerStart) (lists : JoinerLists) (m : MachineState) : Type 0 where
  pub start : IsStart s
  pub sound : IsSound m
  pub within : StandsWithin s lists [] m
  pub done : ℕ
  pub settled : m.epochs.epoch ≡ s.epoch + done
  pub collects : Collects s lists m
  pub of_feeders : (p : ℕ) → p < s.feeders → IsTakenOf (CanTakeOfFeeder s within.taken done p)
      (within.taken.from_feeder p) (lists.from_feeder p)
  pub of_joiners : (q : ℕ) → q < 2 ^ s.k → IsTakenOf (CanTakeOfJoiner s within.taken done q)
      (within.taken.from_joiner q) (lists.from_joiner q)

-- the same, with these messages taken and so many steps settled
pub record StandsAt (s : JoinerStart) (lists : JoinerLists) (t : Taken) (n : ℕ) (m : MachineState) : Type 0 where
  pub between : StandsBetween s lists m
  pub taken : between.within.taken ≡ t
  pub done : between.done ≡ n

-- the lists with a message received
abbrev pub with_message : Actor → ToJoiner → JoinerLists → JoinerLists
with_message (Feeder p) m lists = record lists { from_feeder = grown p m lists.from_feeder }
with_message (Joiner' q) m lists = record lists { from_joiner = grown q m lists.from_joiner }
with_message Controller m lists = lists
with_message Collector m lists = lists

-- the sender is a feeder or a joiner of the grid
abbrev pub IsOfGrid : Actor → EpochState → Type 0
IsOfGrid (Feeder p) m = p < m.feeders
IsOfGrid (Joiner' q) m = q < 2 ^ m.k
IsOfGrid Controller m = ⊥
IsOfGrid Collector m = ⊥

-- a message was taken or held
pub record Accepts (from : Actor) (m : ToJoiner) (old new : MachineState) (waiting waiting' : List Pair)
    (before after : List Post) : Type 0 where
  pub sound : IsSound new
  pub taken : IsTakenOrHeld from m old new
  pub added : List Post
  pub sends : after ≡ before ++ added
  pub quiet : posted_to_collector added ≡ []
  pub own : AreOwnPosts old.epochs added
  pub told : new.told ≡ old.told
  pub fixed : IsFixed old.epochs new.epochs
  pub rests : IsResting old.epochs → (new.epochs ≡ old.epochs) × (waiting' ≡ waiting)
  pub stands : (s : JoinerStart) (lists : JoinerLists) → StandsWithin s lists waiting old
      → StandsWithin s (with_sent (with_message from m lists) added) waiting' new
  pub does : Does (accepts from m old) new waiting waiting' before after

-- ---- what is sent at the end of a call

-- a post to the collector
abbrev pub post_to_collector : ToCollector → Post
post_to_collector m = record { to = Collector; msg = Collector' m }

-- nothing, or the last message
abbrev pub IsLastAtMost : List ToCollector → Type 0
IsLastAtMost [] = ⊤
IsLastAtMost (Found pairs ∷ ms) = ⊥
IsLastAtMost (Fin rows_r rows_s moved ∷ ms) = ms ≡ []

-- the posts of one call: those to joiners and the controller, then what it found, then the last message
pub record StandInOrder (posts : List Post) : Type 0 where
  pub others : List Post
  pub pairs : List Pair
  pub last : List ToCollector
  pub splits : posts ≡ others ++ found_posts pairs ++ map post_to_collector last
  pub quiet : posted_to_collector others ≡ []
  pub at_most : IsLastAtMost last

-- whether the last message was told, and what was appended for it
pub record TellsFin (m : MachineState) (told : Bool) (before after : List Post) : Type 0 where
  pub now : Bool
  pub sends : after ≡ before ++ fin_posts now m
  pub first : now ≡ true → (m.told ≡ false) × HasFinished m × (told ≡ true)
  pub other : now ≡ false → (told ≡ m.told) × (m.told ≡ false → HasFinished m → ⊥)

-- a call that took or held a message: for whatever lists the machine stood, it stands for them with the message and the
-- new posts
pub record Receives (from : Actor) (m : ToJoiner) (old new : MachineState) (before after : List Post) : Type 0 where
  pub sound : IsSound new
  pub fixed : IsFixed old.epochs new.epochs
  pub added : List Post
  pub sends : after ≡ before ++ added
  pub own : AreOwnPosts old.epochs added
  pub order : StandInOrder added
  pub tried : TakesInOrder from m old new
  pub state : new ≡ state_after from m old
  pub posts : added ≡ posts_after from m old
  pub stands : (s : JoinerStart) (lists : JoinerLists) → StandsBetween s lists old
      → StandsBetween s (with_sent (with_message from m lists) added) new

-- ---- the beginning

-- a new joiner stands for empty lists
abbrev pub nothing_yet : JoinerLists
nothing_yet = record {
  from_feeder = λ p. [];
  from_joiner = λ q. [];
  to_joiner = λ j. [];
  to_controller = [];
  to_collector = [];
}

-- how a joiner starts
abbrev pub start_of : ℕ → ℕ → ℕ → ℕ → ℕ → Meaning → List Tuple → JoinerStart
start_of k id shift epoch feeders theta base =
    record { k = k; feeders = feeders; id = id; matches = does_hold theta; epoch = epoch; shift = shift; base = base }

-- how the code makes it
pub record IsMade (k id shift epoch feeders : ℕ) (theta : Meaning) (base : Stocked) (m : MachineState) : Type 0 where
  pub at_k : m.epochs.k ≡ k
  pub at_id : m.epochs.id ≡ id
  pub at_shift : m.epochs.shift ≡ shift
  pub at_epoch : m.epochs.epoch ≡ epoch
  pub at_feeders : m.epochs.feeders ≡ feeders
  pub at_theta : m.epochs.theta ≡ theta
  pub store : m.epochs.store ≡ base
  pub moved : m.epochs.moved ≡ []
  pub step : m.epochs.step ≡ None
  pub ended : length m.epochs.ended ≡ feeders
  pub down : (p : ℕ) → flag_at m.epochs.ended p ≡ false
  pub of_feeders : length m.of_feeders ≡ feeders
  pub of_joiners : length m.of_joiners ≡ 2 ^ k
  pub no_feeders : (p : ℕ) → held_at m.of_feeders p ≡ []
  pub no_joiners : (q : ℕ) → held_at m.of_joiners q ≡ []
  pub told : m.told ≡ false
