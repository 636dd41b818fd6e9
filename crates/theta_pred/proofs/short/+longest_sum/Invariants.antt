use Rattle.std.proofs.Common.{◌≡◌, max, map, drop}
use Rattle.theta_tree.specs.Sizes.{longest, longest_sum}
use Rattle.theta_pred.proofs.short.+longest_sum.Given as goal

abbrev pub invariant-loop-member : goal.invariant-loop-member
invariant-loop-member l =
    max l.longest (longest (map longest_sum (drop l.member-index l.member-items))) ≡ longest_sum l.pred

abbrev pub invariant-loop-member-2 : goal.invariant-loop-member-2
invariant-loop-member-2 l =
    max l.longest (longest (map longest_sum (drop l.member-index l.member-items))) ≡ longest_sum l.pred
