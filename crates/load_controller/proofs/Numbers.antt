-- The numbers of a line stay in range, and its goal stays the best.
use Rattle.std.proofs.Common.{◌≡◌, ℕ, ◌+◌, ◌-◌, ◌*◌, ◌^◌, ◌<◌, ◌≤◌, inl, inr, refl, sym, ap, arith, Bool, true, false}
use Rattle.std.proofs.Common.{not, ◌||◌, ◌&&◌, cond, Option, None}
use Rattle.std.specs.Prelude.{◌==◌, nat_lt, nat_le, is_none}
use Rattle.std.proofs.lemmas.Nat.{pow-add}
use Rattle.std.proofs.lemmas.Bool.{cases_eq, and_parts, or_parts, or_cases, ltb-true, leb-true, eqb-false, not-true}
use Rattle.grid_map.specs.declared.cost.Weights.{Weights}
use Rattle.grid_map.specs.Load.{best_shift, IsNear}
use Rattle.grid_map.proofs.Near.{near_weighed}
use Rattle.migration_plan.specs.Steps.{next_step}
use Rattle.load_controller.specs.declared.line.Cause.{Cause}
use Rattle.load_controller.specs.declared.line.TurnLine.{TurnLine}
use Rattle.load_controller.specs.Journal.{Rules, Fits, has_doubled, counted_r, counted_s}
use Rattle.load_controller.specs.Next.{line_by, decides_by, goal_by, steps_by}
use Rattle.load_controller.specs.Machine.{IsBounded, IsGuided}
use Rattle.grid_map.proofs.Best.{best_within}
use Rattle.load_controller.proofs.Bound.{gap, next_nearer, next_within}
use Rattle.load_controller.proofs.Still.{chosen, not_doubled}

-- ---- in range

-- of a line's numbers
record Ranged (k rows_r rows_s base_r base_s epoch shift goal : ℕ) : Type 0 where
  few_r : rows_r ≤ 2 ^ 32
  few_s : rows_s ≤ 2 ^ 32
  low_r : base_r ≤ rows_r
  low_s : base_s ≤ rows_s
  shift_within : shift ≤ k
  goal_within : goal ≤ k
  paid : (a c : ℕ) → base_r < 2 ^ a → base_s < 2 ^ c → epoch + gap shift goal ≤ 2 ^ 31 + k * (a + c)

-- a doubled base has one binary digit more
digit_more : (base rows a : ℕ) → base < rows → 2 * base ≤ rows → rows < 2 ^ a
    → (a' : ℕ) × (a ≡ a' + 1) × (base < 2 ^ a')
digit_more base rows a more twice small = elim (cases_eq a 0) [
  | inl none ↦ let one : 2 ^ a ≡ 1 = rw none refl in absurd (omega arith)
  | inr some ↦
      let is : a ≡ (a - 1) + 1 = omega arith in
      let double : 2 ^ ((a - 1) + 1) ≡ 2 ^ (a - 1) * 2 = pow-add 2 (a - 1) 1 in
      let whole : 2 ^ a ≡ 2 ^ ((a - 1) + 1) = ap (λ n. 2 ^ n) is in
      (a - 1, is, omega arith)
]

more_digits : (k a a' c : ℕ) → a ≡ a' + 1 → k * (a + c) ≡ k * (a' + c) + k
more_digits k a a' c is = rw is (omega arith)

more_digits_s : (k a c c' : ℕ) → c ≡ c' + 1 → k * (a + c) ≡ k * (a + c') + k
more_digits_s k a c c' is = rw is (omega arith)

module _ (k rows_r rows_s base_r base_s epoch shift goal : ℕ) where
  decided : (goal' : ℕ) → Ranged k rows_r rows_s base_r base_s epoch shift goal → goal' ≤ k
      → (has_doubled base_r rows_r || has_doubled base_s rows_s) ≡ true
      → Ranged k rows_r rows_s rows_r rows_s epoch shift goal'
  decided goal' b within due = record {
    few_r = b.few_r;
    few_s = b.few_s;
    low_r = omega arith;
    low_s = omega arith;
    shift_within = b.shift_within;
    goal_within = within;
    paid = λ a c small_r small_s.
        let near : gap shift goal' ≤ k = omega (arith, b.shift_within) in
        let base_r_low = b.low_r in
        let base_s_low = b.low_s in
        elim (or_cases (has_doubled base_r rows_r) (has_doubled base_s rows_s) due) [
          | inl of_r ↦
              let parts = and_parts (nat_lt base_r rows_r) (nat_le (2 * base_r) rows_r) of_r in
              let digits =
              digit_more base_r rows_r a (ltb-true base_r rows_r parts.0) (leb-true (2 * base_r) rows_r parts.1)
              small_r in
              let old = b.paid digits.0 c digits.2 (omega arith) in
              let grows = more_digits k a digits.0 c digits.1 in
              omega arith
          | inr of_s ↦
              let parts = and_parts (nat_lt base_s rows_s) (nat_le (2 * base_s) rows_s) of_s in
              let digits =
              digit_more base_s rows_s c (ltb-true base_s rows_s parts.0) (leb-true (2 * base_s) rows_s parts.1)
              small_s in
              let old = b.paid a digits.0 (omega arith) digits.2 in
              let grows = more_digits_s k a c digits.0 digits.1 in
              omega arith
        ];
  }

  maybe_decided : (goal' : ℕ) (due : Bool) → Ranged k rows_r rows_s base_r base_s epoch shift goal → goal' ≤ k
      → (due ≡ true → (has_doubled base_r rows_r || has_doubled base_s rows_s) ≡ true)
      → Ranged k rows_r rows_s (cond due rows_r base_r) (cond due rows_s base_s) epoch shift (cond due goal' goal)
  maybe_decided goal' true b within doubled =
      decided goal' b within (doubled refl)
  maybe_decided goal' false b within doubled = b

  maybe_stepped : (steps : Bool) → (steps ≡ true → shift ≡ goal → ⊥)
      → Ranged k rows_r rows_s base_r base_s epoch shift goal
      → Ranged k rows_r rows_s base_r base_s (cond steps (epoch + 1) epoch) (cond steps (next_step shift goal) shift)
      goal
  maybe_stepped true differ b =
      let nearer = next_nearer shift goal (differ refl) in
      record {
        few_r = b.few_r;
        few_s = b.few_s;
        low_r = b.low_r;
        low_s = b.low_s;
        shift_within = next_within k shift goal b.shift_within b.goal_within;
        goal_within = b.goal_within;
        paid = λ a c small_r small_s. let old = b.paid a c small_r small_s in omega (arith, nearer, old);
      }
  maybe_stepped false differ b = b

  counted : (dr ds : ℕ) → Ranged k rows_r rows_s base_r base_s epoch shift goal → rows_r + dr ≤ 2 ^ 32
      → rows_s + ds ≤ 2 ^ 32 → Ranged k (rows_r + dr) (rows_s + ds) base_r base_s epoch shift goal
  counted dr ds b few_r few_s =
      let low_r = b.low_r in
      let low_s = b.low_s in
      record {
        few_r = few_r;
        few_s = few_s;
        low_r = omega arith;
        low_s = omega arith;
        shift_within = b.shift_within;
        goal_within = b.goal_within;
        paid = b.paid;
      }

-- a line after one in range is in range
pub bounded_after : (k : ℕ) (fixed : Option ℕ) (weights : Weights) (before : TurnLine) (opens : Bool) (cause : Cause)
    → IsBounded k before
    → before.rows_r + counted_r cause ≤ 2 ^ 32 → before.rows_s + counted_s cause ≤ 2 ^ 32
    → IsBounded k (line_by k fixed weights before opens cause)
bounded_after k fixed weights before opens cause b few_r few_s =
    let rows_r = before.rows_r + counted_r cause in
    let rows_s = before.rows_s + counted_s cause in
    let doubled = has_doubled before.base_r rows_r || has_doubled before.base_s rows_s in
    let decides = decides_by fixed before opens cause in
    let goal = goal_by k fixed weights before opens cause in
    let steps = steps_by k fixed weights before opens cause in
    let best = best_shift k before.shift (weights.r * rows_r) (weights.s * rows_s) in
    let start : Ranged k before.rows_r before.rows_s before.base_r before.base_s before.epoch before.shift before.goal =
    record {
      few_r = b.few_r;
      few_s = b.few_s;
      low_r = b.low_r;
      low_s = b.low_s;
      shift_within = b.shift;
      goal_within = b.goal;
      paid = b.paid;
    } in
    let more =
    counted k before.rows_r before.rows_s before.base_r before.base_s before.epoch before.shift before.goal
    (counted_r cause) (counted_s cause) start few_r few_s in
    let chose =
    maybe_decided k rows_r rows_s before.base_r before.base_s before.epoch before.shift before.goal best decides more
    (best_within k before.shift (weights.r * rows_r) (weights.s * rows_s) b.shift)
    (λ e. (and_parts (not opens && is_none fixed) doubled e).1) in
    let end =
    maybe_stepped k rows_r rows_s (cond decides rows_r before.base_r) (cond decides rows_s before.base_s)
    before.epoch before.shift goal steps
    (λ e same.
    eqb-false before.shift goal
    (not-true (before.shift == goal) (and_parts (not opens) (not (before.shift == goal)) e).1) same) chose in
    record {
      few_r = end.few_r;
      few_s = end.few_s;
      low_r = end.low_r;
      low_s = end.low_s;
      shift = end.shift_within;
      goal = end.goal_within;
      paid = end.paid;
    }

-- so an epoch more fits
pub epoch_fits : (k : ℕ) (line : TurnLine) → k ≤ 8 → IsBounded k line → line.epoch + 1 < 2 ^ 32
epoch_fits k line small b =
    let few_r = b.few_r in
    let few_s = b.few_s in
    let low_r = b.low_r in
    let low_s = b.low_s in
    let spent = b.paid 33 33 (omega arith) (omega arith) in
    omega arith

-- ---- near

-- and is best at its bases
pub guided_after : (k : ℕ) (fixed : Option ℕ) (weights : Weights) (before : TurnLine) (opens : Bool) (cause : Cause)
    → is_none fixed ≡ true → IsBounded k before → IsGuided k weights before
    → IsGuided k weights (line_by k fixed weights before opens cause)
guided_after k fixed weights before opens cause free b g =
    let rows_r = before.rows_r + counted_r cause in
    let rows_s = before.rows_s + counted_s cause in
    let low_r = b.low_r in
    let low_s = b.low_s in
    let s =
    chosen k weights.r weights.s rows_r rows_s before.base_r before.base_s before.shift before.goal g.best
    (omega arith) (omega arith) b.shift opens (is_none fixed)
    (has_doubled before.base_r rows_r || has_doubled before.base_s rows_s) free refl in
    record { best = s.best; reached = s.reached; not_due = s.not_due }

-- a still line that is best at its bases is near
pub near_line : (k : ℕ) (weights : Weights) (line : TurnLine) → IsBounded k line → IsGuided k weights line
    → line.moving ≡ false → IsNear k line.shift (weights.r * line.rows_r) (weights.s * line.rows_s)
near_line k weights line b g still =
    let parts =
    or_parts (has_doubled line.base_r line.rows_r) (has_doubled line.base_s line.rows_s) (g.not_due still) in
    rw (g.reached still)
    (near_weighed k line.goal weights.r weights.s line.base_r line.base_s line.rows_r line.rows_s g.best
    b.low_r (not_doubled line.base_r line.rows_r b.low_r parts.0) b.low_s
    (not_doubled line.base_s line.rows_s b.low_s parts.1))

-- ---- a first line

-- a first line that fits is in range
pub first_bounded : (rules : Rules) (line : TurnLine) → Fits rules line → line.epoch ≤ 2 ^ 31 → IsBounded rules.k line
first_bounded rules line fits early =
    let reached = fits.reached in
    let within = fits.within in
    record {
      few_r = fits.few_r;
      few_s = fits.few_s;
      low_r = fits.base_r;
      low_s = fits.base_s;
      shift = within;
      goal = omega arith;
      paid = λ a c small_r small_s. omega arith;
    }

-- and best at its bases where no shift is fixed
pub first_guided : (rules : Rules) (line : TurnLine) → Fits rules line → rules.fixed ≡ None
    → IsGuided rules.k rules.weights line
first_guided rules line fits free =
    let parts = fits.free free in
    record {
      best = rw fits.reached parts.1;
      reached = λ e. sym fits.reached;
      not_due = λ e. not-true (has_doubled line.base_r line.rows_r || has_doubled line.base_s line.rows_s) parts.0;
    }
