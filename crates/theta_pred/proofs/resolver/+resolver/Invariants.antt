use Rattle.std.proofs.Common.{◌≡◌, ◌≤◌, ◌++◌, length, map, drop}
use Rattle.theta_pred.specs.Formula.{formula_of, formulas}
use Rattle.theta_pred.specs.Names.{joined, names_in}
use Rattle.theta_tree.specs.Sizes.{longest, longest_sum}
use Rattle.theta_pred.specs.Resolved.{resolved}
use Rattle.theta_pred.specs.Sound.{AreSound}
use Rattle.theta_pred.proofs.Wrong.{Leads}
use Rattle.theta_pred.proofs.resolver.+resolver.Given as goal

abbrev pub invariant-resolved_members-loop-member : goal.invariant-resolved_members-loop-member
invariant-resolved_members-loop-member l =
    let left = drop l.member-index l.member-items in
    let resolve = map (resolved l.names_r l.names_s) in
    let sound = AreSound (length l.names_r) (length l.names_s) in
    record {
      all : l.member-items ≡ l.members.items;
      short : longest (map longest_sum left) ≤ 16;
      done : map formula_of l.trees.items ++ resolve left ≡ resolve l.members.items;
      sound : sound (formulas (resolve left)) → sound (formulas (resolve l.members.items));
      leads : Leads l.names_r l.names_s (joined (map names_in left)) (joined (map names_in l.members.items));
    }
