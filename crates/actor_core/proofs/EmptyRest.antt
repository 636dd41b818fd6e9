-- What a run begins with, as the first of its waves.
use Rattle.std.proofs.Common.{◌≡◌, ℕ, zero, suc, ◌/◌, ◌^◌, refl, sym, ap, ap₂, subst, ◌∙◌, Option, List, [], ◌∷◌}
use Rattle.std.proofs.Common.{length, get_or}
use Rattle.std.specs.Prelude.{All, unwrap_or, false}
use Rattle.std.specs.List.{AllByRecursion}
use Rattle.std.proofs.lemmas.List.Elements.{recursion_from_All}
use mathlib.Core.Path.{fun_ext}
use Rattle.epoch_tags.specs.declared.tuple.Tuple.{Tuple}
use Rattle.theta_pred.specs.Formula.{Meaning}
use Rattle.store_parts.specs.Stored.{Stored}
use Rattle.joiner_core.specs.State.{IsKeyOf}
use Rattle.load_controller.specs.declared.line.Cause.TheVariants.{Start}
use Rattle.load_controller.specs.declared.line.TurnLine.{TurnLine}
use Rattle.trace_law.specs.declared.input.Input.{Input}
use Rattle.trace_law.specs.declared.setting.Setting.{Setting}
use Rattle.trace_law.specs.Validity.{IsValid}
use Rattle.trace_law.specs.Family.{IsRestFor, first_rest}
use Rattle.trace_law.proofs.First.{stands as first_stands}
use Rattle.actor_core.specs.declared.rests.Rest.{Rest}
use Rattle.actor_core.specs.Rests.{IsFirstStore, IsRestOf, rest_of, tuples_at}

-- the line of a controller that has counted nothing, at this shift
abbrev line_at : ℕ → TurnLine
line_at shift =
    record {
      cause = Start;
      rows_r = 0;
      rows_s = 0;
      base_r = 0;
      base_s = 0;
      epoch = 0;
      shift = shift;
      goal = shift;
      moving = false;
    }

module _ (theta : Meaning) where
  none_at : (stores : List Stored) → AllByRecursion (IsFirstStore theta) stores → (j : ℕ) → tuples_at stores j ≡ []
  none_at [] each j = refl
  none_at (store ∷ stores) (here, more) zero = here.empty
  none_at (store ∷ stores) (here, more) (suc j) = none_at stores more j

  module _ (k shift : ℕ) (fixed : Option ℕ) (stores : List Stored) (shift_is : shift ≡ unwrap_or fixed (k / 2))
      (first : All (IsFirstStore theta) stores) (setting : Setting) (grid : setting.k ≡ k)
      (same : setting.fixed ≡ fixed) where
    abbrev its : Rest
    its = record { k = k; line = line_at shift; stores = stores }

    -- it is the rest with which the laws have a run begin
    pub empty_is : rest_of its ≡ first_rest setting
    empty_is =
        let shift_of = shift_is ∙ ap₂ (λ f n. unwrap_or f (n / 2)) (sym same) (sym grid) in
        let tuples : tuples_at stores ≡ (λ j. []) =
        fun_ext (none_at stores (recursion_from_All (IsFirstStore theta) stores first)) in
        ap₂ (λ s (ts : ℕ → List Tuple). record { line = line_at s; stores = ts }) shift_of tuples

    -- and it stands for every valid input of the predicate
    pub empty_stands : (input : Input) → IsValid input setting → input.theta ≡ theta → length stores ≡ 2 ^ k
        → IsRestOf input setting its
    empty_stands input valid joined many = record {
      grid = sym grid;
      many = many ∙ ap (λ n. 2 ^ n) (sym grid);
      keys = λ i d low.
          subst (λ (m : Meaning). IsKeyOf m (get_or stores i d).key) (sym joined) (first i d low).key;
      stands = subst (IsRestFor input setting) (sym empty_is) (first_stands input setting valid);
    }
