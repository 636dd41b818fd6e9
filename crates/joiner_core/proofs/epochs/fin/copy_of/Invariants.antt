use Rattle.std.proofs.Common.{◌≡◌, take}
use Rattle.joiner_core.proofs.epochs.fin.copy_of.Given as goal

abbrev pub invariant-loop-count : goal.invariant-loop-count
invariant-loop-count l = l.copy ≡ take l.count-index l.counts
