use Rattle.std.proofs.Common.{length}
use Rattle.join_cli.proofs.in_one.+add_sums.Given as goal

abbrev pub decreases-add_sums : goal.decreases-add_sums
decreases-add_sums l = length l.counts.now
