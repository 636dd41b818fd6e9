-- What a call leaves and posts, as functions of what the machine held and of the message.
use Rattle.std.specs.Prelude.{ℕ, zero, suc, ◌+◌, ◌^◌, Bool, true, false, not, ◌&&◌, ◌||◌, List, [], ◌∷◌, ◌++◌, length}
use Rattle.std.specs.Prelude.{Option, Some, None, is_none, slice_set, sum_by, count_by, if◌then◌else◌}
use Rattle.std.specs.List.{list_all, find}
use Rattle.row_cells.specs.Lists.{counting_from}
use Rattle.row_cells.specs.declared.table.Side.TheVariants.{R, S}
use Rattle.epoch_tags.specs.declared.actor.Actor.{Actor}
use Rattle.epoch_tags.specs.declared.actor.Actor.TheVariants.{Feeder, Joiner, Controller, Collector}
use Rattle.epoch_tags.specs.declared.tuple.Pair.{Pair}
use Rattle.epoch_tags.specs.declared.message.Post.{Post}
use Rattle.epoch_tags.specs.declared.message.ToJoiner.{ToJoiner}
use Rattle.epoch_tags.specs.declared.message.ToCollector.{ToCollector}
use Rattle.epoch_tags.specs.declared.message.ToCollector.TheVariants.{Found, Fin}
use Rattle.epoch_tags.specs.declared.message.Msg.TheVariants.{Collector as Collector'}
use Rattle.epoch_tags.specs.Held.{held_at}
use Rattle.migration_plan.specs.Steps.{is_of}
use Rattle.joiner_core.specs.State.{EpochState, MachineState}
use Rattle.joiner_core.specs.Outcomes.{Outcome, quiet, followed_by, can_take_of_feeder, can_take_of_joiner}
use Rattle.joiner_core.specs.Outcomes.{of_feeder, of_joiner}

-- how many messages it holds
abbrev pub held_in_all : MachineState → ℕ
held_in_all m = sum_by length m.of_feeders + sum_by length m.of_joiners

-- ---- one message

-- the machine with what was done to its epochs
abbrev pub with_epochs : MachineState → Outcome EpochState → Outcome MachineState
with_epochs m done = record { left = record m { epochs = done.left }; found = done.found; posts = done.posts }

-- it takes a message of feeder p
abbrev pub takes_of_feeder : ℕ → ToJoiner → MachineState → Outcome MachineState
takes_of_feeder p x m = with_epochs m (of_feeder m.epochs p x)

-- it takes a message of a joiner
abbrev pub takes_of_joiner : ToJoiner → MachineState → Outcome MachineState
takes_of_joiner x m = with_epochs m (of_joiner m.epochs x)

-- it holds a message of feeder p, behind those that it holds of that feeder
abbrev pub holds_of_feeder : ℕ → ToJoiner → MachineState → MachineState
holds_of_feeder p x m = record m { of_feeders = slice_set m.of_feeders p (held_at m.of_feeders p ++ x ∷ []) }

-- it holds a message of joiner q, behind those that it holds of that joiner
abbrev pub holds_of_joiner : ℕ → ToJoiner → MachineState → MachineState
holds_of_joiner q x m = record m { of_joiners = slice_set m.of_joiners q (held_at m.of_joiners q ++ x ∷ []) }

-- nothing is held of that link
abbrev pub is_clear : List ToJoiner → Bool
is_clear [] = true
is_clear (x ∷ queue) = false

-- a message is taken where nothing is held of its link and it can be taken, and else it is held
abbrev pub accepts : Actor → ToJoiner → MachineState → Outcome MachineState
accepts (Feeder p) x m =
    if is_clear (held_at m.of_feeders p) && can_take_of_feeder m.epochs p x then takes_of_feeder p x m
    else quiet (holds_of_feeder p x m)
accepts (Joiner q) x m =
    if is_clear (held_at m.of_joiners q) && can_take_of_joiner m.epochs q x then takes_of_joiner x m
    else quiet (holds_of_joiner q x m)
accepts Controller x m = quiet m
accepts Collector x m = quiet m

-- ---- the held messages

-- something is held of the link, and the first can be taken
abbrev pub can_begin : (ToJoiner → Bool) → List ToJoiner → Bool
can_begin can_take [] = false
can_begin can_take (x ∷ queue) = can_take x

-- that of feeder p
abbrev pub is_ready_feeder : MachineState → ℕ → Bool
is_ready_feeder m p = can_begin (can_take_of_feeder m.epochs p) (held_at m.of_feeders p)

-- and that of joiner q
abbrev pub is_ready_joiner : MachineState → ℕ → Bool
is_ready_joiner m q = can_begin (can_take_of_joiner m.epochs q) (held_at m.of_joiners q)

-- the lowest joiner whose first held message can be taken
abbrev pub ready_joiner : MachineState → Option ℕ
ready_joiner m = find (is_ready_joiner m) (counting_from 0 (2 ^ m.epochs.k))

-- the lowest feeder whose first held message can be taken
abbrev pub ready_feeder : MachineState → Option ℕ
ready_feeder m = find (is_ready_feeder m) (counting_from 0 m.epochs.feeders)

-- that feeder, or else that joiner
abbrev pub feeder_or : Option ℕ → Option ℕ → Option Actor
feeder_or (Some p) joiner = Some (Feeder p)
feeder_or None (Some q) = Some (Joiner q)
feeder_or None None = None

-- the first link, feeders rising and then joiners rising, whose first held message can be taken
abbrev pub first_ready : MachineState → Option Actor
first_ready m = feeder_or (ready_feeder m) (ready_joiner m)

-- the first of what is held of feeder p is taken
abbrev pub takes_next_of_feeder : ℕ → MachineState → List ToJoiner → Outcome MachineState
takes_next_of_feeder p m [] = quiet m
takes_next_of_feeder p m (x ∷ queue) =
    takes_of_feeder p x (record m { of_feeders = slice_set m.of_feeders p queue })

-- the first of what is held of joiner q is taken
abbrev pub takes_next_of_joiner : ℕ → MachineState → List ToJoiner → Outcome MachineState
takes_next_of_joiner q m [] = quiet m
takes_next_of_joiner q m (x ∷ queue) =
    takes_of_joiner x (record m { of_joiners = slice_set m.of_joiners q queue })

-- the first held message of that link is taken
abbrev pub takes_first : Actor → MachineState → Outcome MachineState
takes_first (Feeder p) m = takes_next_of_feeder p m (held_at m.of_feeders p)
takes_first (Joiner q) m = takes_next_of_joiner q m (held_at m.of_joiners q)
takes_first Controller m = quiet m
takes_first Collector m = quiet m

-- the first held message of this link is taken, and then what is later; nothing is done where there is no such link
abbrev pub takes_then : (MachineState → Outcome MachineState) → MachineState → Option Actor → Outcome MachineState
takes_then later m None = quiet m
takes_then later m (Some from) = followed_by (takes_first from m) later

-- so many held messages at most are taken, as long as one can be: the first link's first, and after each one from the
-- lowest feeder again
abbrev pub takes_held : ℕ → MachineState → Outcome MachineState
takes_held zero m = quiet m
takes_held (suc n) m = takes_then (takes_held n) m (first_ready m)

-- all that can be
abbrev pub takes_all_held : MachineState → Outcome MachineState
takes_all_held m = takes_held (held_in_all m) m

-- ---- what is sent at the end of a call

-- the last message, as the machine has it
abbrev pub fin_of : EpochState → ToCollector
fin_of m = Fin (count_by (is_of R) m.store.tuples) (count_by (is_of S) m.store.tuples) m.moved

-- the pairs go to the collector in one post, where there are any
abbrev pub found_posts : List Pair → List Post
found_posts [] = []
found_posts (p ∷ ps) = record { to = Collector; msg = Collector' (Found (p ∷ ps)) } ∷ []

-- the posts of the last message: it is sent where the machine first has finished
abbrev pub fin_posts : Bool → MachineState → List Post
fin_posts true m = record { to = Collector; msg = Collector' (fin_of m.epochs) } ∷ []
fin_posts false m = []

-- all feeders have ended, no step is open, and nothing is held
abbrev pub has_finished : MachineState → Bool
has_finished m =
    is_none m.epochs.step
    && (list_all (λ up. up) m.epochs.ended && (list_all is_clear m.of_feeders && list_all is_clear m.of_joiners))

-- it first has finished
abbrev pub finishes : MachineState → Bool
finishes m = not m.told && has_finished m

-- ---- a call

-- what is done before the end of a call: its message is taken or held, and then the held ones are tried
abbrev pub plays : Actor → ToJoiner → MachineState → Outcome MachineState
plays from x m = followed_by (accepts from x m) takes_all_held

-- the machine after a call
abbrev pub left_by : Outcome MachineState → MachineState
left_by done = record done.left { told = done.left.told || finishes done.left }

-- the posts of a call: those of the messages that were taken, then the pairs, then the last message
abbrev pub posts_by : Outcome MachineState → List Post
posts_by done = done.posts ++ found_posts done.found ++ fin_posts (finishes done.left) done.left

-- the machine after a call with this message of this sender
abbrev pub state_after : Actor → ToJoiner → MachineState → MachineState
state_after from x m = left_by (plays from x m)

-- and what the call posts
abbrev pub posts_after : Actor → ToJoiner → MachineState → List Post
posts_after from x m = posts_by (plays from x m)
