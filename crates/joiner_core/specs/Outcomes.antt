-- What a joiner can take, and what taking one message does to its epochs, finds and posts, as functions of its state.
use Rattle.std.specs.Prelude.{ℕ, ◌+◌, Bool, true, false, not, ◌&&◌, ◌||◌, ◌==◌, nat_le, List, [], ◌++◌, Option, Some}
use Rattle.std.specs.Prelude.{None, ◌≡◌, replicate, slice_set, if◌then◌else◌}
use Rattle.std.specs.List.{list_all}
use Rattle.epoch_tags.specs.declared.tuple.Tuple.{Tuple}
use Rattle.epoch_tags.specs.declared.tuple.Pair.{Pair}
use Rattle.epoch_tags.specs.declared.message.Post.{Post}
use Rattle.epoch_tags.specs.declared.message.ToJoiner.{ToJoiner}
use Rattle.epoch_tags.specs.declared.message.ToJoiner.TheVariants.{Tup, Turn, End, Moved, MovedEnd}
use Rattle.epoch_tags.specs.Flags.{flag_at}
use Rattle.migration_plan.specs.Steps.{partner_in_step}
use Rattle.joiner_core.specs.State.{kept_stock, OpenStep, EpochState}
use Rattle.joiner_core.specs.Changes.{after_old, found_old, posts_old, after_new, found_new, after_moved, found_moved}
use Rattle.joiner_core.specs.Changes.{begun_posts, posts_turned, after_part, after_settle, posts_settled, turned_in}

-- what is done: what it leaves, the pairs that it finds and what it posts, each in order
pub record Outcome (S : Type 0) : Type 0 where
  pub left : S
  pub found : List Pair
  pub posts : List Post

-- a part of a call does just this: it leaves that state, and its pairs and posts are appended to those before
pub record Does {S : Type 0} (outcome : Outcome S) (new : S) (waiting waiting' : List Pair)
    (before after : List Post) : Type 0 where
  pub left : new ≡ outcome.left
  pub found : waiting' ≡ waiting ++ outcome.found
  pub posts : after ≡ before ++ outcome.posts

-- nothing is found and nothing is posted
abbrev pub quiet : {S : Type 0} → S → Outcome S
quiet left = record { left = left; found = []; posts = [] }

-- what the second leaves, with the pairs and posts of both
abbrev pub both : {S : Type 0} → Outcome S → Outcome S → Outcome S
both first second =
    record { left = second.left; found = first.found ++ second.found; posts = first.posts ++ second.posts }

-- something is done, and then what follows from what it left
abbrev pub followed_by : {S : Type 0} → Outcome S → (S → Outcome S) → Outcome S
followed_by first next = both first (next first.left)

-- ---- what can be taken

-- one of the two shifts is the other and 1
abbrev pub are_neighbours : ℕ → ℕ → Bool
are_neighbours old new = (new == old + 1) || (old == new + 1)

-- the epoch in which feeder p stamps: that of the open step once it has turned, and else the settled one
abbrev pub stamps_in : EpochState → ℕ → Option OpenStep → ℕ
stamps_in m p None = m.epoch
stamps_in m p (Some o) = if flag_at o.turned p then o.epoch else m.epoch

-- the turn is one to a neighbouring shift, or the one of the open step
abbrev pub turn_fits : EpochState → ℕ → ℕ → ℕ → Option OpenStep → Bool
turn_fits m p epoch shift None = (epoch == m.epoch + 1) && (nat_le shift m.k && are_neighbours m.shift shift)
turn_fits m p epoch shift (Some o) = not (flag_at o.turned p) && ((epoch == o.epoch) && (shift == o.shift))

-- this message of feeder p can be taken: the feeder hasn't ended, and a tuple or a turn fits
abbrev pub can_take_of_feeder : EpochState → ℕ → ToJoiner → Bool
can_take_of_feeder m p (Tup x) = not (flag_at m.ended p) && (x.stamp == stamps_in m p m.step)
can_take_of_feeder m p (Turn epoch shift) = not (flag_at m.ended p) && turn_fits m p epoch shift m.step
can_take_of_feeder m p End = not (flag_at m.ended p)
can_take_of_feeder m p (Moved epoch x) = false
can_take_of_feeder m p (MovedEnd epoch) = false

-- joiner q has this epoch's step open here, as the partner whose part goes on
abbrev pub part_fits : EpochState → ℕ → ℕ → Option OpenStep → Bool
part_fits m q epoch None = false
part_fits m q epoch (Some o) =
    (epoch == o.epoch) && (not o.partner_ended && (q == partner_in_step m.shift o.shift m.id))

-- this message of joiner q can be taken
abbrev pub can_take_of_joiner : EpochState → ℕ → ToJoiner → Bool
can_take_of_joiner m q (Tup x) = false
can_take_of_joiner m q (Turn epoch shift) = false
can_take_of_joiner m q End = false
can_take_of_joiner m q (Moved epoch x) = part_fits m q epoch m.step
can_take_of_joiner m q (MovedEnd epoch) = part_fits m q epoch m.step

-- ---- a step

-- a step that was just opened, to this epoch and shift: no feeder has turned, and of the tuples those are in it that
-- the joiner keeps, in stored order
abbrev pub fresh_step : EpochState → ℕ → ℕ → OpenStep
fresh_step m epoch shift = record {
  epoch = epoch;
  shift = shift;
  turned = replicate m.feeders false;
  store = kept_stock m.k shift m.id m.store;
  partner_ended = false;
}

-- the open step, or else a fresh one
abbrev pub begun_step : EpochState → ℕ → ℕ → Option OpenStep → OpenStep
begun_step m epoch shift None = fresh_step m epoch shift
begun_step m epoch shift (Some o) = o

-- the first turn opens the step
abbrev pub begun : EpochState → ℕ → ℕ → EpochState
begun m epoch shift = record m { step = Some (begun_step m epoch shift m.step) }

-- feeder p has turned in the open step
abbrev pub turned_step : ℕ → Option OpenStep → Option OpenStep
turned_step p None = None
turned_step p (Some o) = Some (record o { turned = slice_set o.turned p true })

-- the same of the epochs
abbrev pub turned : ℕ → EpochState → EpochState
turned p m = record m { step = turned_step p m.step }

-- a step is open in which all feeders have turned
abbrev pub are_all_up : Option OpenStep → Bool
are_all_up None = false
are_all_up (Some o) = list_all (λ up. up) o.turned

-- and in which the partner's part is over
abbrev pub is_ready : Option OpenStep → Bool
is_ready None = false
is_ready (Some o) = o.partner_ended && list_all (λ up. up) o.turned

-- the step is settled where it is ready, and the controller is told
abbrev pub settling : EpochState → Outcome EpochState
settling m = record { left = after_settle (is_ready m.step) m; found = []; posts = posts_settled (is_ready m.step) m }

-- ---- one message

-- the first turn opens the step and sends the rows of the exchanged side to the partner, in stored order
abbrev pub beginning : EpochState → ℕ → ℕ → Outcome EpochState
beginning m epoch shift = record { left = begun m epoch shift; found = []; posts = begun_posts m epoch shift m.step }

-- the last turn ends what is moved
abbrev pub turning : ℕ → EpochState → Outcome EpochState
turning p m = record { left = turned p m; found = []; posts = posts_turned m (are_all_up (turned_step p m.step)) }

-- a turn of feeder p
abbrev pub of_turn : EpochState → ℕ → ℕ → ℕ → Outcome EpochState
of_turn m p epoch shift = followed_by (followed_by (beginning m epoch shift) (turning p)) settling

-- a tuple of feeder p: one of the open step's epoch where the feeder has turned, and else one of the settled epoch
abbrev pub of_tup : EpochState → ℕ → Tuple → Outcome EpochState
of_tup m p x =
    if turned_in m.step p then record { left = after_new m x; found = found_new m x; posts = [] }
    else record { left = after_old m x; found = found_old m x; posts = posts_old m x }

-- the end of feeder p
abbrev pub of_end : EpochState → ℕ → Outcome EpochState
of_end m p = quiet (record m { ended = slice_set m.ended p true })

-- a tuple that the partner moved here
abbrev pub of_moved : EpochState → Tuple → Outcome EpochState
of_moved m x = record { left = after_moved m x; found = found_moved m x; posts = [] }

-- the end of the partner's part
abbrev pub of_moved_end : EpochState → Outcome EpochState
of_moved_end m = settling (after_part m)

-- a message of feeder p that can be taken
abbrev pub of_feeder : EpochState → ℕ → ToJoiner → Outcome EpochState
of_feeder m p (Tup x) = of_tup m p x
of_feeder m p (Turn epoch shift) = of_turn m p epoch shift
of_feeder m p End = of_end m p
of_feeder m p (Moved epoch x) = quiet m
of_feeder m p (MovedEnd epoch) = quiet m

-- a message of a joiner that can be taken
abbrev pub of_joiner : EpochState → ToJoiner → Outcome EpochState
of_joiner m (Tup x) = quiet m
of_joiner m (Turn epoch shift) = quiet m
of_joiner m End = quiet m
of_joiner m (Moved epoch x) = of_moved m x
of_joiner m (MovedEnd epoch) = of_moved_end m
