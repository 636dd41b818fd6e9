use Rattle.std.proofs.Common.{◌≡◌, ◌++◌}
use Rattle.join_cli.proofs.in_one.trail_of_both.Given as goal

abbrev pub invariant-loop-ends : goal.invariant-loop-ends
invariant-loop-ends l = l.both ≡ l.fn.trail ++ l.yielded
