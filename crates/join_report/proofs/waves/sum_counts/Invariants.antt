use Rattle.std.proofs.Common.{◌≡◌, length, take, min}
use Rattle.join_report.specs.Waves.{sums_of}
use Rattle.join_report.proofs.waves.sum_counts.Given as goal

abbrev pub invariant-loop-place : goal.invariant-loop-place
invariant-loop-place l = record {
  last : l.places ≡ min (length l.counts) (length l.more);
  sums : l.sums ≡ take l.place (sums_of l.counts l.more);
}
