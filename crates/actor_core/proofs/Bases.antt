-- What a joiner has stored before a wave: rows of the widths, none with a stamp of the wave.
use Rattle.std.proofs.Common.{◌≡◌, ℕ, ◌==◌, ◌<◌, ◌≤◌, ◌^◌, max, ap, arith, Bool, true, cond}
use Rattle.std.proofs.Common.{false}
use Rattle.std.proofs.Common.{[], length, ltb-true}
use Rattle.std.specs.Prelude.{not, filter, map}
use Rattle.std.specs.List.{AllByRecursion}
use Rattle.std.proofs.lemmas.Bool.{eqb-true, eq-eqb}
use Rattle.std.proofs.lemmas.List.Elements.{All-from_recursion}
use Rattle.row_cells.specs.declared.table.Side.{Side}
use Rattle.row_cells.specs.declared.table.Side.TheVariants.{R, S}
use Rattle.row_cells.proofs.Bags.{only_if}
use Rattle.row_cells.proofs.Everywhere.{weaken, all-map}
use Rattle.row_cells.proofs.Totals.{sum_same_on, sum_zero}
use Rattle.row_cells.proofs.Within.{within-refl, filtered_within, none_fails, all_pass}
use Rattle.epoch_tags.specs.declared.tuple.Tuple.{Tuple}
use Rattle.migration_plan.specs.Steps.{holds}
use Rattle.row_tickets.specs.declared.place.Place.{Place}
use Rattle.theta_pred.specs.Truth.{width_of}
use Rattle.load_controller.specs.declared.line.TurnLine.{TurnLine}
use Rattle.joiner_core.specs.State.{IsRow, AreRows}
use Rattle.trace_law.specs.Join.{row_count, is_before}
use Rattle.trace_law.specs.Validity.{IsValidInput}
use Rattle.trace_law.specs.Family.{IsRestFor, is_old, all_places, tuple_of, cells_of, old_rows, aged}
use Rattle.trace_law.proofs.Aged.{old_stamps}
use Rattle.trace_law.proofs.Sent.{unmapped}
use Rattle.actor_core.specs.Tasks.{Task}

-- a stamp is never lowered
never_lowered : (line : TurnLine) (t : Tuple) → t.stamp ≤ (aged line t).stamp
never_lowered line t = at (is_before line t.side t.index)
  where
    at : (c : Bool) → t.stamp ≤ cond c (max line.epoch t.stamp) t.stamp
    at true = omega arith
    at false = omega arith

module _ (task : Task) (valid : IsValidInput task.input) (stands : IsRestFor task.input task.setting task.rest) where
  abbrev line : TurnLine
  line = task.rest.line

  -- what passes with each row from before the wave passes with each that a joiner has stored, levelled
  levelled : (test : Tuple → Bool) → AllByRecursion (λ t. test t ≡ true) (old_rows task.input line) → (j : ℕ)
      → j < 2 ^ task.setting.k → AllByRecursion (λ t. test t ≡ true) (map (aged line) (task.rest.stores j))
  levelled test all j low =
      let old = old_rows task.input line in
      let bad : Tuple → ℕ = λ t. only_if (not (test t)) 1 in
      let same = (stands.stored j low).sums bad in
      let below = (filtered_within (holds task.setting.k line.shift j) old).sums bad in
      let none = sum_same_on (λ t. test t ≡ true) bad (λ t. 0) (λ t is. ap (λ c. only_if (not c) 1) is) old all in
      let zero = sum_zero old in
      none_fails test (map (aged line) (task.rest.stores j)) (omega (arith, same, below, none, zero))

  -- no stamp is above the line's epoch
  pub base_stamps : (j : ℕ) → j < 2 ^ task.setting.k
      → AllByRecursion (λ (t : Tuple). t.stamp ≤ line.epoch) (task.rest.stores j)
  base_stamps j low =
      let test : Tuple → Bool = λ t. t.stamp == line.epoch in
      let all = weaken (λ (t : Tuple). t.stamp ≡ line.epoch) (λ t. test t ≡ true)
      (λ t is. eq-eqb t.stamp line.epoch is) (old_rows task.input line) (old_stamps task.input line) in
      weaken (λ t. test (aged line t) ≡ true) (λ (t : Tuple). t.stamp ≤ line.epoch)
      (λ t is.
      let same = eqb-true (aged line t).stamp line.epoch is in
      let low = never_lowered line t in
      omega (arith, same, low)) (task.rest.stores j)
      (unmapped (λ t. test t ≡ true) (aged line) (task.rest.stores j) (levelled test all j low))

  old_there : (side : Side) (i : ℕ) → is_before line side i ≡ true → i < row_count task.input side
  old_there R i is = let low = ltb-true i line.rows_r is in let most = stands.line.within_r in omega (arith, low, most)
  old_there S i is = let low = ltb-true i line.rows_s is in let most = stands.line.within_s in omega (arith, low, most)

  -- and each is a row of its side's width
  pub base_rows : (j : ℕ) → j < 2 ^ task.setting.k → AreRows task.input.theta (task.rest.stores j)
  base_rows j low =
      let test : Tuple → Bool = λ t. length t.cells == width_of task.input.theta t.side in
      let places = filter (is_old line) (all_places task.input) in
      let wide : (a : Place) → is_old line a ≡ true → test (tuple_of task.input line.epoch a) ≡ true =
      λ a is.
      eq-eqb (length (cells_of task.input a.side a.index)) (width_of task.input.theta a.side)
      ((valid.sides a.side).rows a.index [] (old_there a.side a.index is)) in
      let all = all-map (λ t. test t ≡ true) (tuple_of task.input line.epoch) places
      (weaken (λ a. is_old line a ≡ true) (λ a. test (tuple_of task.input line.epoch a) ≡ true) wide places
      (all_pass (is_old line) places (all_places task.input) (within-refl places))) in
      All-from_recursion (IsRow task.input.theta) (task.rest.stores j)
      (weaken (λ t. test (aged line t) ≡ true) (IsRow task.input.theta)
      (λ t is. eqb-true (length t.cells) (width_of task.input.theta t.side) is) (task.rest.stores j)
      (unmapped (λ t. test t ≡ true) (aged line) (task.rest.stores j) (levelled test all j low)))
