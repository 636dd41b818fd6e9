use Rattle.std.proofs.Common.{length}
use Rattle.join_cli.proofs.waves.+through.Given as goal

abbrev pub decreases-through : goal.decreases-through
decreases-through g l = length l.ends.now
