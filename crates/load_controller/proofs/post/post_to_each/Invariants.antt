use Rattle.std.proofs.Common.{◌≡◌, ◌++◌}
use Rattle.load_controller.specs.Standing.{to_each}
use Rattle.load_controller.proofs.post.post_to_each.Given as goal

abbrev pub invariant-loop-p : goal.invariant-loop-p
invariant-loop-p l = l.sends ≡ l.fn.sends ++ to_each l.p l.m
