use Rattle.std.proofs.Common.{length}
use Rattle.join_plan.proofs.places.+located.Given as goal

abbrev pub decreases-located : goal.decreases-located
decreases-located l = length l.ends.now
