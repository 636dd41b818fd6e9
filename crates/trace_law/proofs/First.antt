-- A run begins with a rest that stands for its input, and its wave has all rows.
use Rattle.std.proofs.Common.{◌≡◌, ℕ, refl, sym, ap, subst, arith, Bool, true, false, cond, not, ◌&&◌, List, [], ◌∷◌}
use Rattle.std.proofs.Common.{◌∙◌}
use Rattle.std.specs.Prelude.{map, filter, nat_lt}
use Rattle.std.proofs.lemmas.Bool.Decides.{nat_tests}
use Rattle.row_cells.specs.declared.table.Side.{Side}
use Rattle.row_cells.specs.declared.table.Side.TheVariants.{R, S}
use Rattle.row_cells.specs.Lists.{SameBag}
use Rattle.row_cells.proofs.Bags.{SameBag-refl}
use Rattle.migration_plan.specs.Steps.{holds}
use Rattle.load_controller.specs.declared.line.TurnLine.{TurnLine}
use Rattle.load_controller.proofs.Fresh.{start_fits}
use Rattle.row_tickets.specs.Share.{share}
use Rattle.trace_law.specs.declared.input.Input.{Input}
use Rattle.trace_law.specs.declared.setting.Setting.{Setting}
use Rattle.trace_law.specs.Join.{is_before, has_new, wave_pairs, nested_loop, row_count}
use Rattle.trace_law.specs.Validity.{IsValid}
use Rattle.trace_law.specs.Family.{IsRestFor, first_rest, is_old, all_places, old_rows, own_rows, tuple_of}

all_kept : {X : Type 0} (test : X → Bool) → ((x : X) → test x ≡ true) → (xs : List X) → filter test xs ≡ xs
all_kept test each [] = refl
all_kept test each (x ∷ xs) =
    ap (λ c. cond c (x ∷ filter test xs) (filter test xs)) (each x) ∙ ap (λ ys. x ∷ ys) (all_kept test each xs)

none_kept : {X : Type 0} (test : X → Bool) → ((x : X) → test x ≡ false) → (xs : List X) → filter test xs ≡ []
none_kept test each [] = refl
none_kept test each (x ∷ xs) = ap (λ c. cond c (x ∷ filter test xs) (filter test xs)) (each x) ∙ none_kept test each xs

none_below : (n : ℕ) → nat_lt n 0 ≡ false
none_below n = grind (arith, nat_tests)

module _ (input : Input) (setting : Setting) where
  abbrev line : TurnLine
  line = (first_rest setting).line

  none_before : (side : Side) (i : ℕ) → is_before line side i ≡ false
  none_before R i = none_below i
  none_before S i = none_below i

  no_old : old_rows input line ≡ []
  no_old =
      ap (λ places. map (tuple_of input line.epoch) places)
      (none_kept (is_old line) (λ place. none_before place.side place.index) (all_places input))

  -- so all pairs are of the first wave
  pub all_pairs : wave_pairs input line ≡ nested_loop input
  all_pairs =
      all_kept (has_new line) (λ pair. ap (λ c. not (c && is_before line S pair.j)) (none_before R pair.i))
      (nested_loop input)

  -- and all rows of each feeder's share
  pub all_shares : (p : ℕ)
      → own_rows input setting line p ≡ share setting.feed setting.feeders p (row_count input R) (row_count input S)
  all_shares p =
      all_kept (λ place. not (is_old line place)) (λ place. ap not (none_before place.side place.index))
      (share setting.feed setting.feeders p (row_count input R) (row_count input S))

  -- a run's first rest stands for its input
  pub stands : IsValid input setting → IsRestFor input setting (first_rest setting)
  stands valid = record {
    line = record {
      fits = start_fits setting.k setting.feeders setting.fixed setting.weights line valid.fixed refl;
      begins = λ start. refl;
      within_r = omega arith;
      within_s = omega arith;
    };
    stored = λ j h. subst (λ ts. SameBag [] (filter (holds setting.k line.shift j) ts)) (sym no_old) (SameBag-refl []);
  }
