use Rattle.std.proofs.Common.{◌≡◌, ◌≤◌, ◌+◌, ◌∷◌, length, map, drop, sym, subst, arith}
use Rattle.theta_pred.specs.Formula.{formulas}
use Rattle.theta_pred.specs.Names.{joined, names_in}
use Rattle.theta_tree.specs.Sizes.{longest, longest_sum}
use Rattle.theta_pred.specs.Resolved.{resolved}
use Rattle.theta_pred.specs.Sound.{AreSound}
use Rattle.theta_pred.proofs.Left.{drop-next, resolved-next}
use Rattle.theta_pred.proofs.Wrong.{Leads, Leads-next}
use Rattle.theta_pred.proofs.resolver.+resolver.Goals as goal

pub resolved_members-loop-member-preserved : goal.resolved_members-loop-member-preserved
resolved_members-loop-member-preserved t c =
    let names_r = c.args.names_r.now in
    let names_s = c.args.names_s.now in
    let items = c.deref-member-items.result.now in
    let i = c.loop-member.member-index in
    let member = c.member-item.result in
    let left = drop i items in
    let rest = drop (i + 1) items in
    let whole = joined (map names_in c.args.members.now.items) in
    let before = c.loop-member.invariant in
    let left_is : left ≡ member ∷ rest = drop-next items i member c.loop-member-test.true c.member-item.is in
    let short = subst (λ l. longest (map longest_sum l) ≤ 16) left_is before.short in
    record {
      all = before.all;
      short = omega (arith, short);
      done = resolved-next names_r names_s c.loop-member.trees.items c.push.new.self.items member
          c.in_ok-resolved_tree.field-0
          left rest _ left_is c.in_ok-resolved_tree.ensures.ok c.in_ok-push.ensures.items before.done;
      sound = λ h. before.sound
          (subst (λ l. AreSound (length names_r) (length names_s) (formulas (map (resolved names_r names_s) l)))
          (sym left_is)
          (c.in_ok-resolved_tree.ensures.sound, h));
      leads = Leads-next names_r names_s (names_in member) (joined (map names_in rest)) whole
          (subst (λ l. Leads names_r names_s (joined (map names_in l)) whole) left_is before.leads)
          c.in_ok-resolved_tree.ensures.once;
    }
