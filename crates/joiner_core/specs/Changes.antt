-- What each call does to the machine, as functions of its state.
use Rattle.std.specs.Prelude.{◌≡◌, ℕ, Bool, true, false, List, length, cond, slice_set, count_by, Option, Some, None}
use Rattle.std.specs.Prelude.{[], ◌∷◌, ◌++◌, map, filter}
use Rattle.row_cells.specs.declared.table.Side.{Side}
use Rattle.epoch_tags.specs.declared.tuple.Tuple.{Tuple}
use Rattle.epoch_tags.specs.declared.tuple.Pair.{Pair}
use Rattle.epoch_tags.specs.declared.message.Post.{Post}
use Rattle.epoch_tags.specs.Flags.{flag_at, IsEachUp}
use Rattle.migration_plan.specs.Steps.{holds, is_of, exchanged_side, partner_in_step}
use Rattle.joiner_law.specs.History.{probed, all_tuples, only_stamp}
use Rattle.joiner_law.specs.Posting.{moved_post, moved_end_post, settled_post}
use Rattle.joiner_core.specs.State.{does_hold, placed, with_placed, kept_stock, OpenStep, EpochState}

-- a list to which the tuple was added if it is kept
abbrev pub kept_at_end : Bool → Tuple → List Tuple → List Tuple
kept_at_end kept x b = cond kept (placed x b) b

-- ---- a late tuple

-- the open step with the tuple, if the joiner keeps it there
abbrev pub opened_late : ℕ → ℕ → OpenStep → Tuple → OpenStep
opened_late k id o x =
    record o { store = record o.store { tuples = kept_at_end (holds k o.shift id x) x o.store.tuples } }

-- the pairs that it makes in the new epoch
abbrev pub found_late : (Tuple → Tuple → Bool) → ℕ → ℕ → OpenStep → Tuple → List Pair
found_late matches k id o x = cond (holds k o.shift id x) (probed matches (only_stamp o.epoch) x o.store.tuples) []

-- it goes to the partner, where its side is exchanged
abbrev pub posts_late : Side → ℕ → ℕ → Tuple → List Post
posts_late side to epoch x = map (moved_post to epoch) (cond (is_of side x) (x ∷ []) [])

-- ---- a tuple of the settled epoch

-- the open step behind a tuple of the settled epoch
abbrev pub open_old : EpochState → Tuple → Option OpenStep → Option OpenStep
open_old m x None = None
open_old m x (Some o) = Some (opened_late m.k m.id o x)

-- it is stored, and in an open step perhaps kept
abbrev pub after_old : EpochState → Tuple → EpochState
after_old m x = record m { store = with_placed x m.store; step = open_old m x m.step }

-- the pairs that it makes in an open step
abbrev pub late_found : EpochState → Tuple → Option OpenStep → List Pair
late_found m x None = []
late_found m x (Some o) = found_late (does_hold m.theta) m.k m.id o x

-- all pairs that it makes
abbrev pub found_old : EpochState → Tuple → List Pair
found_old m x = probed (does_hold m.theta) all_tuples x m.store.tuples ++ late_found m x m.step

-- where it goes in an open step
abbrev pub late_posts : EpochState → Tuple → Option OpenStep → List Post
late_posts m x None = []
late_posts m x (Some o) = posts_late (exchanged_side m.shift o.shift) (partner_in_step m.shift o.shift m.id) o.epoch x

-- where it goes
abbrev pub posts_old : EpochState → Tuple → List Post
posts_old m x = late_posts m x m.step

-- ---- a tuple of the open step

-- the open step with one tuple more
abbrev pub with_new : OpenStep → Tuple → OpenStep
with_new o x = record o { store = with_placed x o.store }

-- it is stored in the open step
abbrev pub step_new : Tuple → Option OpenStep → Option OpenStep
step_new x None = None
step_new x (Some o) = Some (with_new o x)

-- what the joiner has then
abbrev pub after_new : EpochState → Tuple → EpochState
after_new m x = record m { step = step_new x m.step }

-- the pairs that it makes in an open step
abbrev pub new_found : EpochState → Tuple → Option OpenStep → List Pair
new_found m x None = []
new_found m x (Some o) = probed (does_hold m.theta) all_tuples x o.store.tuples

-- all pairs that it makes
abbrev pub found_new : EpochState → Tuple → List Pair
found_new m x = new_found m x m.step

-- ---- a tuple that the partner moved here

-- what the joiner has then
abbrev pub after_moved : EpochState → Tuple → EpochState
after_moved m x = after_new m x

-- the pairs that it makes in an open step
abbrev pub moved_found : EpochState → Tuple → Option OpenStep → List Pair
moved_found m x None = []
moved_found m x (Some o) = probed (does_hold m.theta) (only_stamp o.epoch) x o.store.tuples

-- all pairs that it makes
abbrev pub found_moved : EpochState → Tuple → List Pair
found_moved m x = moved_found m x m.step

-- ---- the first turn

-- the rows of the exchanged side go to the partner
abbrev pub posts_opened : EpochState → ℕ → ℕ → List Post
posts_opened m epoch shift = map (moved_post (partner_in_step m.shift shift m.id) epoch)
    (filter (is_of (exchanged_side m.shift shift)) m.store.tuples)

-- the step that was opened, to this epoch and shift
pub record IsOpened (m : EpochState) (e b : ℕ) (o : OpenStep) : Type 0 where
  pub epoch : o.epoch ≡ e
  pub shift : o.shift ≡ b
  pub count : length o.turned ≡ m.feeders
  pub turned : (p : ℕ) → flag_at o.turned p ≡ false
  pub store : o.store ≡ kept_stock m.k b m.id m.store
  pub partner_ended : o.partner_ended ≡ false

-- that step is open
abbrev pub HasOpened : EpochState → ℕ → ℕ → Option OpenStep → Type 0
HasOpened m e b None = ⊥
HasOpened m e b (Some o) = IsOpened m e b o

-- the step was opened, or was open before
abbrev pub HasBegun : EpochState → ℕ → ℕ → Option OpenStep → Option OpenStep → Type 0
HasBegun m e b None new = HasOpened m e b new
HasBegun m e b (Some o) new = new ≡ Some o

-- what goes out where it was opened
abbrev pub begun_posts : EpochState → ℕ → ℕ → Option OpenStep → List Post
begun_posts m e b None = posts_opened m e b
begun_posts m e b (Some o) = []

-- ---- a turn

-- a feeder has turned in the open step
abbrev pub HasTurned : ℕ → Option OpenStep → Option OpenStep → Type 0
HasTurned p None new = new ≡ None
HasTurned p (Some o) None = ⊥
HasTurned p (Some o) (Some o') = (o' ≡ record o { turned = o'.turned }) × (o'.turned ≡ slice_set o.turned p true)

-- all feeders have turned
abbrev pub AreAllUp : Option OpenStep → Type 0
AreAllUp None = ⊥
AreAllUp (Some o) = IsEachUp o.turned

-- the end of what is moved, in an open step
abbrev pub end_posts : EpochState → Option OpenStep → List Post
end_posts m None = []
end_posts m (Some o) = moved_end_post (partner_in_step m.shift o.shift m.id) o.epoch ∷ []

-- it goes out where all feeders have turned
abbrev pub posts_turned : EpochState → Bool → List Post
posts_turned m last = cond last (end_posts m m.step) []

-- ---- the end of the partner's part

-- the open step with its partner's part over
abbrev pub part_by : Option OpenStep → Option OpenStep
part_by None = None
part_by (Some o) = Some (record o { partner_ended = true })

-- what the joiner has when its partner's part is over
abbrev pub after_part : EpochState → EpochState
after_part m = record m { step = part_by m.step }

-- ---- the step is settled

-- the step is open, its partner's part is over and all feeders have turned
abbrev pub IsReady : Option OpenStep → Type 0
IsReady None = ⊥
IsReady (Some o) = (o.partner_ended ≡ true) × IsEachUp o.turned

-- the open step is settled
abbrev pub settled_by : EpochState → Option OpenStep → EpochState
settled_by m None = m
settled_by m (Some o) = record m {
  epoch = o.epoch;
  shift = o.shift;
  store = o.store;
  step = None;
  moved = m.moved ++ count_by (is_of (exchanged_side m.shift o.shift)) m.store.tuples ∷ [];
}

-- it is settled where it is ready
abbrev pub after_settle : Bool → EpochState → EpochState
after_settle true m = settled_by m m.step
after_settle false m = m

-- the controller is told of it
abbrev pub settle_posts : Option OpenStep → List Post
settle_posts None = []
settle_posts (Some o) = settled_post o.epoch ∷ []

-- and is told where it is ready
abbrev pub posts_settled : Bool → EpochState → List Post
posts_settled true m = settle_posts m.step
posts_settled false m = []

-- whether feeder p has turned in the open step
abbrev pub turned_in : Option OpenStep → ℕ → Bool
turned_in None p = false
turned_in (Some o) p = flag_at o.turned p
