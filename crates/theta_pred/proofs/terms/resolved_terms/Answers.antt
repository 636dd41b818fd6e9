use Rattle.std.proofs.Common.{◌≡◌, ◌+◌, ◌∷◌, length, drop, sym, subst}
use Rattle.theta_pred.specs.Names.{term_names, sum_names}
use Rattle.theta_pred.specs.Resolved.{resolved_sum}
use Rattle.theta_pred.specs.Sound.{AreWithin}
use Rattle.theta_pred.proofs.Left.{drop-next, resolved_sum-next}
use Rattle.theta_pred.proofs.Wrong.{Leads, Leads-next}
use Rattle.theta_pred.proofs.terms.resolved_terms.Goals as goal

pub loop-signed-preserved : goal.loop-signed-preserved
loop-signed-preserved c =
    let names_r = c.args.names_r.now in
    let names_s = c.args.names_s.now in
    let items = c.as_slice-signed-items.result.now in
    let i = c.loop-signed.signed-index in
    let signed = c.signed-item.result in
    let left = drop i items in
    let rest = drop (i + 1) items in
    let before = c.loop-signed.invariant in
    let left_is : left ≡ signed ∷ rest = drop-next items i signed c.loop-signed-test.true c.signed-item.is in
    record {
      all = before.all;
      done = resolved_sum-next names_r names_s c.loop-signed.terms c.push.new.self signed c.in_ok-number.number left
          rest _
          left_is c.in_ok-number.ensures.ok c.in_ok-push.ensures.ok before.done;
      within = λ h. before.within
          (subst (λ l. AreWithin (length names_r) (length names_s) (resolved_sum names_r names_s l)) (sym left_is)
          (c.in_ok-number.ensures.within, h));
      leads = Leads-next names_r names_s (term_names signed.term) (sum_names rest) (sum_names c.args.sum.now)
          (subst (λ l. Leads names_r names_s (sum_names l) (sum_names c.args.sum.now)) left_is before.leads)
          c.in_ok-number.ensures.once;
    }
