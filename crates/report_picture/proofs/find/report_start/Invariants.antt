use Rattle.std.proofs.Common.{◌≤◌, ◌<◌, ◌-◌, ℕ, length}
use Rattle.report_picture.specs.Texts.{BeginsLine, MayBegin}
use Rattle.report_picture.proofs.find.report_start.Given as goal

abbrev pub invariant-loop-place : goal.invariant-loop-place
invariant-loop-place l = record {
  within : l.start ≤ length l.text;
  line : l.place ≤ length l.text → BeginsLine l.text l.place;
  there : l.start < length l.text → MayBegin l.text l.start;
  last : (earlier : ℕ) → earlier < l.place → MayBegin l.text earlier → (earlier ≤ l.start) × (l.start < l.place)
      × (l.start < length l.text);
}

abbrev pub decreases-loop-place : goal.decreases-loop-place
decreases-loop-place l = length l.text - l.place
