use Rattle.std.proofs.Common.{length}
use Rattle.kept_threads.proofs.pool.+work_by.Given as goal

abbrev pub decreases-work_by : goal.decreases-work_by
decreases-work_by g l = length l.workers.now
