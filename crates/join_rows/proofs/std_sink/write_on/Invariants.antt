use Rattle.std.proofs.Common.{length}
use Rattle.join_rows.proofs.Written.{IsPartly}
use Rattle.join_rows.proofs.std_sink.write_on.Given as goal

abbrev pub invariant-loop-rest : goal.invariant-loop-rest
invariant-loop-rest g l = IsPartly (g.W.Write.contents l.fn.to) (g.W.Write.contents l.to) l.fn.piece l.rest

abbrev pub decreases-loop-rest : goal.decreases-loop-rest
decreases-loop-rest g l = length l.rest
