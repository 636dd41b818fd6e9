-- Where a journal isn't moving and no shift is fixed, its shift is near the best.
use Rattle.std.proofs.Common.{◌≡◌, ℕ, ◌+◌, ◌*◌, ◌≤◌, inl, inr, refl, sym, ap, subst, arith, Bool, true, false, not}
use Rattle.std.proofs.Common.{◌||◌, ◌&&◌, cond, List, [], ◌∷◌, None}
use Rattle.std.specs.Prelude.{◌==◌, nat_lt, nat_le, is_none}
use Rattle.std.proofs.lemmas.Bool.{or_parts, and_cases, ltb-false, leb-false, eqb-true, false≢true, true≢false}
use Rattle.std.proofs.lemmas.Bool.{not-true}
use Rattle.std.proofs.lemmas.Bool.Decides.{nat_tests}
use Rattle.grid_map.specs.Load.{best_shift, HasFewest, IsNear}
use Rattle.grid_map.proofs.Best.{best_fewest}
use Rattle.grid_map.proofs.Near.{near_weighed}
use Rattle.migration_plan.specs.Steps.{next_step}
use Rattle.load_controller.specs.declared.line.Cause.{Cause}
use Rattle.load_controller.specs.declared.line.TurnLine.{TurnLine}
use Rattle.load_controller.specs.Journal.{Rules, Follows, line_after, Fits, has_doubled, counted_r, counted_s}
use Rattle.load_controller.specs.Journal.{ends_step}
use Rattle.load_controller.proofs.Bound.{next_within}

-- ---- what holds of each line

-- the goal was best at the bases, and a line that isn't moving has reached it, with no decision due
pub record Sound (k r s rows_r rows_s base_r base_s shift goal : ℕ) (moving : Bool) : Type 0 where
  pub best : HasFewest k goal (r * base_r) (s * base_s)
  pub low_r : base_r ≤ rows_r
  pub low_s : base_s ≤ rows_s
  pub within : shift ≤ k
  pub reached : moving ≡ false → shift ≡ goal
  pub not_due : moving ≡ false → (has_doubled base_r rows_r || has_doubled base_s rows_s) ≡ false

abbrev OfLine : Rules → TurnLine → Type 0
OfLine rules line =
    Sound rules.k rules.weights.r rules.weights.s line.rows_r line.rows_s line.base_r line.base_s line.shift line.goal
    line.moving

none_doubled : (x y : ℕ) → (has_doubled x x || has_doubled y y) ≡ false
none_doubled x y = grind (arith, nat_tests)

module _ (k r s rows_r rows_s base_r base_s shift goal : ℕ) (best : HasFewest k goal (r * base_r) (s * base_s))
    (low_r : base_r ≤ rows_r) (low_s : base_s ≤ rows_s) (within : shift ≤ k) where
  -- a step that starts where the shift isn't the goal
  arrives : (has_doubled base_r rows_r || has_doubled base_s rows_s) ≡ false → (same : Bool)
      → (same ≡ true → shift ≡ goal)
      → Sound k r s rows_r rows_s base_r base_s (cond (not same) (next_step shift goal) shift) goal (not same)
  arrives not_due true is =
      record {
        best = best;
        low_r = low_r;
        low_s = low_s;
        within = within;
        reached = λ e. is refl;
        not_due = λ e. not_due;
      }
  arrives not_due false is =
      record {
        best = best;
        low_r = low_r;
        low_s = low_s;
        within = next_within k shift goal within best.within;
        reached = λ e. absurd (true≢false e);
        not_due = λ e. absurd (true≢false e);
      }

module _ (k r s rows_r rows_s base_r base_s shift goal : ℕ) (best : HasFewest k goal (r * base_r) (s * base_s))
    (low_r : base_r ≤ rows_r) (low_s : base_s ≤ rows_s) (within : shift ≤ k) where
  -- a decision that is due takes the best shift, and else the goal stays
  pub chosen : (is_open free doubled : Bool) → free ≡ true
      → doubled ≡ (has_doubled base_r rows_r || has_doubled base_s rows_s)
      → let is_due = not is_open && free && doubled in let next = cond is_due (best_shift k shift (r * rows_r) (s *
      rows_s)) goal in let steps = not is_open && not (shift == next) in Sound k r s rows_r rows_s (cond is_due rows_r
      base_r) (cond is_due rows_s base_s) (cond steps (next_step shift next) shift) next (is_open || steps)
  chosen true free doubled is_free is =
      record {
        best = best;
        low_r = low_r;
        low_s = low_s;
        within = within;
        reached = λ e. absurd (true≢false e);
        not_due = λ e. absurd (true≢false e);
      }
  chosen false true true is_free is =
      arrives k r s rows_r rows_s rows_r rows_s shift (best_shift k shift (r * rows_r) (s * rows_s))
      (best_fewest k shift (r * rows_r) (s * rows_s) within) (omega arith) (omega arith) within
      (none_doubled rows_r rows_s) (shift == best_shift k shift (r * rows_r) (s * rows_s))
      (eqb-true shift (best_shift k shift (r * rows_r) (s * rows_s)))
  chosen false true false is_free is =
      arrives k r s rows_r rows_s base_r base_s shift goal best low_r low_s within (sym is) (shift == goal)
      (eqb-true shift goal)
  chosen false false doubled is_free is =
      absurd (false≢true is_free)

after : (rules : Rules) (before : TurnLine) (past : List TurnLine) (cause : Cause) → is_none rules.fixed ≡ true
    → OfLine rules before
    → OfLine rules (line_after rules before past cause)
after rules before past cause free b =
    let rows_r = before.rows_r + counted_r cause in
    let rows_s = before.rows_s + counted_s cause in
    let is_open = before.moving && not (ends_step rules (before ∷ past) cause) in
    let low_r' : before.base_r ≤ rows_r = omega (arith, b.low_r) in
    let low_s' : before.base_s ≤ rows_s = omega (arith, b.low_s) in
    chosen rules.k rules.weights.r rules.weights.s rows_r rows_s before.base_r before.base_s before.shift before.goal
    b.best low_r' low_s' b.within is_open (is_none rules.fixed)
    (has_doubled before.base_r rows_r || has_doubled before.base_s rows_s) free refl

-- where no shift is fixed a first line that fits is best at its bases
pub at_first : (rules : Rules) (first : TurnLine) → Fits rules first → rules.fixed ≡ None → OfLine rules first
at_first rules first fits free =
    let parts = fits.free free in
    record {
      best = rw fits.reached parts.1;
      low_r = fits.base_r;
      low_s = fits.base_s;
      within = fits.within;
      reached = λ e. sym fits.reached;
      not_due = λ e. not-true (has_doubled first.base_r first.rows_r || has_doubled first.base_s first.rows_s) parts.0;
    }

-- so is every line of the journal
pub each : (rules : Rules) (first line : TurnLine) (past : List TurnLine) → Fits rules first → rules.fixed ≡ None
    → Follows rules first (line ∷ past) → OfLine rules line
each rules first line [] fits free is = subst (λ next. OfLine rules next) (sym is) (at_first rules first fits free)
each rules first line (before ∷ past) fits free (made, allowed, rest) =
    subst (λ next. OfLine rules next) (sym made)
    (after rules before past line.cause (ap is_none free) (each rules first before past fits free rest))

-- neither side has more than doubled since
pub not_doubled : (base rows : ℕ) → base ≤ rows → has_doubled base rows ≡ false → rows ≤ 2 * base
not_doubled base rows low e = elim (and_cases (nat_lt base rows) (nat_le (2 * base) rows) e) [
  | inl none ↦ omega (arith, ltb-false base rows none)
  | inr less ↦ omega (arith, leb-false (2 * base) rows less)
]

-- at every line that isn't moving
pub still_is_near : (rules : Rules) (first line : TurnLine) (past : List TurnLine) → Fits rules first
    → rules.fixed ≡ None → Follows rules first (line ∷ past)
    → line.moving ≡ false → IsNear rules.k line.shift (rules.weights.r * line.rows_r) (rules.weights.s * line.rows_s)
still_is_near rules first line past fits free follows still =
    let sound = each rules first line past fits free follows in
    let parts =
    or_parts (has_doubled line.base_r line.rows_r) (has_doubled line.base_s line.rows_s) (sound.not_due still) in
    rw (sound.reached still)
    (near_weighed rules.k line.goal rules.weights.r rules.weights.s line.base_r line.base_s line.rows_r line.rows_s
    sound.best
    sound.low_r (not_doubled line.base_r line.rows_r sound.low_r parts.0) sound.low_s
    (not_doubled line.base_s line.rows_s sound.low_s parts.1))
