-- A joiner that has just begun: all that it holds is determined by how it began.
use Rattle.std.specs.Prelude.{◌≡◌, ℕ, false, List}
use Rattle.epoch_tags.specs.declared.tuple.Tuple.{Tuple}
use Rattle.theta_pred.specs.Accesses.{IsOverRows}
use Rattle.theta_pred.specs.Formula.{Meaning}
use Rattle.joiner_core.specs.Machine.{IsMade}
use Rattle.joiner_core.specs.Standing.{JoinerState}
use Rattle.joiner_core.specs.State.{IsAccessOf, IsKeyOf, Stocked}

-- the store has these tuples, and the predicate's own key and access, whose tests read rows of its widths
pub record IsFirstStock (theta : Meaning) (tuples : List Tuple) (stock : Stocked) : Type 0 where
  pub tuples_are : stock.tuples ≡ tuples
  pub key : IsKeyOf theta stock.key
  pub access : IsAccessOf theta stock.access
  pub widths : IsOverRows theta stock.access

-- joiner `id` of 2 ^ k, settled at this epoch and shift, has these tuples, and has heard nothing
pub record HasBegun (k id shift epoch feeders : ℕ) (theta : Meaning) (tuples : List Tuple)
    (joiner : JoinerState) : Type 0 where
  pub stock : IsFirstStock theta tuples joiner.machine.epochs.store
  pub made : IsMade k id shift epoch feeders theta joiner.machine.epochs.store joiner.machine
  pub at_work : joiner.spent ≡ false

-- two joiners that have begun so are one
abbrev pub BeginningsAreOne : Type 0
BeginningsAreOne = (k id shift epoch feeders : ℕ) (theta : Meaning) (tuples : List Tuple) (one two : JoinerState)
    → HasBegun k id shift epoch feeders theta tuples one → HasBegun k id shift epoch feeders theta tuples two
    → one ≡ two
