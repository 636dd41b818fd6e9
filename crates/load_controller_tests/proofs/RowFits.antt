-- The lines of worked rows are some from which a controller can begin.
use Rattle.std.proofs.Common.{ℕ, zero, suc, ◌≤◌, refl, arith, None, false}
use Rattle.grid_map.specs.Load.{copies}
use Rattle.load_controller.specs.declared.line.Cause.TheVariants.{Start, Wave}
use Rattle.load_controller.specs.Journal.{Fits}
use Rattle.load_controller.specs.Standing.{rules_with}

fewest : (c : ℕ) → c ≤ 4 → copies 4 2 128 64 ≤ copies 4 c 128 64
fewest zero low = omega arith
fewest (suc zero) low = omega arith
fewest (suc (suc zero)) low = omega arith
fewest (suc (suc (suc zero))) low = omega arith
fewest (suc (suc (suc (suc zero)))) low = omega arith
fewest (suc (suc (suc (suc (suc c))))) low = absurd (omega arith)

-- the tests' uneven line fits
pub row_fits : (epoch : ℕ)
    → Fits (rules_with 4 1 None (record { r = 1; s = 1 }))
    (record {
      cause = Start;
      rows_r = 128;
      rows_s = 64;
      base_r = 128;
      base_s = 64;
      epoch = epoch;
      shift = 2;
      goal = 2;
      moving = false;
    })
row_fits epoch = record {
  still = refl;
  reached = refl;
  within = omega arith;
  few_r = omega arith;
  few_s = omega arith;
  base_r = omega arith;
  base_s = omega arith;
  free = λ none. (refl, record { within = omega arith; fewest = fewest });
  fixed = λ shift is. absurd (cc);
}

fewest_even : (c : ℕ) → c ≤ 2 → copies 2 1 8 8 ≤ copies 2 c 8 8
fewest_even zero low = omega arith
fewest_even (suc zero) low = omega arith
fewest_even (suc (suc zero)) low = omega arith
fewest_even (suc (suc (suc c))) low = absurd (omega arith)

-- so does a wave's line with eight rows of each side
pub wave_fits : Fits (rules_with 2 1 None (record { r = 1; s = 1 }))
    (record {
      cause = Wave;
      rows_r = 8;
      rows_s = 8;
      base_r = 8;
      base_s = 8;
      epoch = 2;
      shift = 1;
      goal = 1;
      moving = false;
    })
wave_fits = record {
  still = refl;
  reached = refl;
  within = omega arith;
  few_r = omega arith;
  few_s = omega arith;
  base_r = omega arith;
  base_s = omega arith;
  free = λ none. (refl, record { within = omega arith; fewest = fewest_even });
  fixed = λ shift is. absurd (cc);
}
