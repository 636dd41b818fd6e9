-- A worked joiner, by computation: joiner 0 of two at shift 0, with one feeder, two rows of R and one of S, and a
-- predicate that is always true.
use Rattle.std.specs.Prelude.{◌≡◌, false, None, [], ◌∷◌, refl}
use Rattle.epoch_tags.specs.declared.actor.Actor.TheVariants.{Feeder, Joiner}
use Rattle.epoch_tags.specs.declared.message.ToJoiner.{ToJoiner}
use Rattle.epoch_tags.specs.declared.message.ToJoiner.TheVariants.{Tup, Turn, End, Moved, MovedEnd}
use Rattle.epoch_tags.specs.declared.message.ToCollector.TheVariants.{Found, Fin}
use Rattle.theta_pred.specs.Formula.{every, no_formula}
use Rattle.joiner_law.specs.Worked.{r_row, s_row}
use Rattle.joiner_law.specs.Posting.{moved_post, moved_end_post, settled_post}
use Rattle.joiner_core.specs.State.{MachineState}
use Rattle.joiner_core.specs.Calls.{state_after, posts_after}
use Rattle.joiner_core.specs.Machine.{post_to_collector}

-- the first of two joiners, before any message
abbrev pub joiner_0 : MachineState
joiner_0 = record {
  epochs = record {
    k = 1;
    id = 0;
    feeders = 1;
    theta = record { formula = every no_formula; width_r = 0; width_s = 0 };
    epoch = 0;
    shift = 0;
    store = record { tuples = r_row 0 0 0 ∷ r_row 1 1 0 ∷ s_row 0 0 0 ∷ []; key = None; access = None };
    ended = false ∷ [];
    step = None;
    moved = [];
  };
  of_feeders = [] ∷ [];
  of_joiners = [] ∷ [] ∷ [];
  told = false;
}

-- a row of S makes a pair with each row of R, in stored order, and they go in one post
pub pairs_are_posted : posts_after (Feeder 0) (Tup (s_row 1 1 0)) joiner_0
    ≡ post_to_collector (Found (record { i = 0; j = 1 } ∷ record { i = 1; j = 1 } ∷ [])) ∷ []
pairs_are_posted = refl

-- the one feeder's turn opens a step, sends the rows of R to the partner in stored order, and ends that
pub rows_are_moved : posts_after (Feeder 0) (Turn 1 1) joiner_0
    ≡ moved_post 1 1 (r_row 0 0 0) ∷ moved_post 1 1 (r_row 1 1 0) ∷ moved_end_post 1 1 ∷ []
rows_are_moved = refl

-- a row that the partner moved before that turn
abbrev pub early : ToJoiner
early = Moved 1 (r_row 2 2 0)

-- it is held
pub early_is_held : (state_after (Joiner 1) early joiner_0).of_joiners ≡ [] ∷ (early ∷ []) ∷ []
early_is_held = refl

-- and nothing is posted for it
pub early_posts_nothing : posts_after (Joiner 1) early joiner_0 ≡ []
early_posts_nothing = refl

-- the machine after the turn that it waits for
abbrev pub turned : MachineState
turned = state_after (Feeder 0) (Turn 1 1) (state_after (Joiner 1) early joiner_0)

-- then it is held no more
pub early_is_taken : turned.of_joiners ≡ [] ∷ [] ∷ []
early_is_taken = refl

-- once the partner has ended its part the step is settled
pub step_is_settled : posts_after (Joiner 1) (MovedEnd 1) turned ≡ settled_post 1 ∷ []
step_is_settled = refl

-- where the feeder ends at once, the last message is posted, with two rows of R, one of S and no step
pub last_is_posted : posts_after (Feeder 0) End joiner_0 ≡ post_to_collector (Fin 2 1 []) ∷ []
last_is_posted = refl
