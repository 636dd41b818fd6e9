use Rattle.std.proofs.Common.{◌≡◌, ◌++◌, take, map}
use Rattle.joiner_law.specs.Posting.{moved_post}
use Rattle.joiner_core.proofs.stock.send_all.Given as goal

abbrev pub invariant-loop-tuple : goal.invariant-loop-tuple
invariant-loop-tuple l = l.sends ≡ l.fn.sends ++ map (moved_post l.to l.epoch) (take l.tuple-index l.tuples)
