-- A joiner as its callers see it, and what a call does to it.
use Rattle.std.specs.Prelude.{◌≡◌, ℕ, ◌+◌, ◌-◌, ◌^◌, Bool, true, List, ◌++◌, length}
use Rattle.row_cells.specs.Lists.{total}
use Rattle.epoch_tags.specs.declared.actor.Actor.{Actor}
use Rattle.epoch_tags.specs.declared.actor.Actor.TheVariants.{Joiner as Joiner'}
use Rattle.epoch_tags.specs.declared.message.Post.{Post}
use Rattle.epoch_tags.specs.declared.message.ToJoiner.{ToJoiner}
use Rattle.epoch_tags.specs.Posts.{AllGoOver}
use Rattle.theta_pred.specs.Formula.{Meaning}
use Rattle.joiner_law.specs.Law.{JoinerStart, JoinerLists, JoinerLaw, Taken}
use Rattle.joiner_law.specs.Standing.{with_sent}
use Rattle.joiner_core.specs.Calls.{state_after, posts_after}
use Rattle.joiner_core.specs.Machine.{StandsAt, StandInOrder, TakesInOrder, with_message}
use Rattle.joiner_core.specs.State.{AllSendRows, MachineState}

-- what it holds, and whether want of memory has stopped it
pub record JoinerState : Type 0 where
  pub machine : MachineState
  pub spent : Bool

-- want of memory has stopped it
abbrev pub IsSpent : JoinerState → Type 0
IsSpent joiner = joiner.spent ≡ true

-- the grid's k, its id and the number of feeders
abbrev pub k_of : JoinerState → ℕ
k_of joiner = joiner.machine.epochs.k

-- the joiner's number
abbrev pub id_of : JoinerState → ℕ
id_of joiner = joiner.machine.epochs.id

-- how many feeders have a link to it
abbrev pub feeders_of : JoinerState → ℕ
feeders_of joiner = joiner.machine.epochs.feeders

-- what its predicate says
abbrev pub theta_of : JoinerState → Meaning
theta_of joiner = joiner.machine.epochs.theta

-- it is joiner `id` of 2 ^ k, hears so many feeders and joins by this predicate
pub record IsJoiner (k id feeders : ℕ) (theta : Meaning) (joiner : JoinerState) : Type 0 where
  pub of_k : k_of joiner ≡ k
  pub of_id : id_of joiner ≡ id
  pub of_feeders : feeders_of joiner ≡ feeders
  pub of_theta : theta_of joiner ≡ theta

-- it began by `start`, these lists are what it has received and sent, and they keep the law
pub record StandsFor (start : JoinerStart) (lists : JoinerLists) (joiner : JoinerState) : Type 0 where
  pub taken : Taken
  pub law : JoinerLaw start lists taken
  pub machine : StandsAt start lists taken law.done joiner.machine

-- how many messages of these lists weren't taken
abbrev pub held_number : JoinerStart → JoinerLists → Taken → ℕ
held_number s lists t =
    total s.feeders (λ p. length (lists.from_feeder p) - length (t.from_feeder p))
    + total (2 ^ s.k) (λ q. length (lists.from_joiner q) - length (t.from_joiner q))

-- a call that took or held message m: its posts go over links of this joiner, and for whatever lists it stood, it
-- stands
-- for them with the message and the new posts at their ends
pub record TakesMessage (from : Actor) (m : ToJoiner) (old new : JoinerState) (before after : List Post) : Type 0 where
  pub added : List Post
  pub sends : after ≡ before ++ added
  pub over : AllGoOver (k_of old) (feeders_of old) (Joiner' (id_of old)) added
  pub rows : AllSendRows (theta_of old) added
  pub order : StandInOrder added
  pub tried : TakesInOrder from m old.machine new.machine
  -- what the call leaves and posts is determined by what the machine held, the sender and the message
  pub state : new.machine ≡ state_after from m old.machine
  pub posts : added ≡ posts_after from m old.machine
  pub same : IsJoiner (k_of old) (id_of old) (feeders_of old) (theta_of old) new
  pub stands : (start : JoinerStart) (lists : JoinerLists) → StandsFor start lists old
      → StandsFor start (with_sent (with_message from m lists) added) new
