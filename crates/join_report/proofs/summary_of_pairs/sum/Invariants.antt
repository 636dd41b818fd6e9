use Rattle.std.proofs.Common.{◌≡◌, take}
use Rattle.std.specs.Prelude.{sum_by}
use Rattle.join_report.specs.Summary.{numbers_of}
use Rattle.join_report.proofs.summary_of_pairs.sum.Given as goal

abbrev pub invariant-loop-pair : goal.invariant-loop-pair
invariant-loop-pair l = l.sum ≡ sum_by numbers_of (take l.pair-index l.pairs)
