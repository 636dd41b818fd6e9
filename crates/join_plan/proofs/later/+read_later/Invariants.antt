use Rattle.std.proofs.Common.{length}
use Rattle.join_plan.proofs.later.+read_later.Given as goal

abbrev pub decreases-read_later : goal.decreases-read_later
decreases-read_later g l = length l.later.now
