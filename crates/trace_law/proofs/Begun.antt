-- The first line of a wave: its cause aside, the line of its rest.
use Rattle.std.proofs.Common.{◌≡◌, ℕ, refl, false, ◌||◌}
use Rattle.load_controller.specs.declared.line.Cause.{Cause}
use Rattle.load_controller.specs.declared.line.Cause.TheVariants.{Start, Wave, Count, Settle, Drain}
use Rattle.load_controller.specs.declared.line.TurnLine.{TurnLine}
use Rattle.load_controller.specs.Journal.{Rules, Fits, begun, begun_by, is_count_of, is_drain_of}

-- a wave's first line fits where the line of its rest does
pub fits_begun : (rules : Rules) (line : TurnLine) → Fits rules line → Fits rules (begun line)
fits_begun rules line fits = record {
  still = fits.still;
  reached = fits.reached;
  within = fits.within;
  few_r = fits.few_r;
  few_s = fits.few_s;
  base_r = fits.base_r;
  base_s = fits.base_s;
  free = fits.free;
  fixed = fits.fixed;
}

-- it counts nothing, and no feeder has drained
pub no_drain : (p : ℕ) (cause : Cause) → is_drain_of p (begun_by cause) ≡ false
no_drain p Start = refl
no_drain p Wave = refl
no_drain p (Count feeder dr ds) = refl
no_drain p (Settle joiner) = refl
no_drain p (Drain feeder) = refl

-- it is no feeder's line
pub no_request : (p : ℕ) (cause : Cause) → (is_count_of p (begun_by cause) || is_drain_of p (begun_by cause)) ≡ false
no_request p Start = refl
no_request p Wave = refl
no_request p (Count feeder dr ds) = refl
no_request p (Settle joiner) = refl
no_request p (Drain feeder) = refl

-- it counts no rows
pub no_count : (p : ℕ) (cause : Cause) → is_count_of p (begun_by cause) ≡ false
no_count p Start = refl
no_count p Wave = refl
no_count p (Count feeder dr ds) = refl
no_count p (Settle joiner) = refl
no_count p (Drain feeder) = refl
