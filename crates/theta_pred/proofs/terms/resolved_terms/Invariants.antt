use Rattle.std.proofs.Common.{◌≡◌, ◌++◌, length, drop}
use Rattle.theta_pred.specs.Names.{sum_names}
use Rattle.theta_pred.specs.Resolved.{resolved_sum}
use Rattle.theta_pred.specs.Sound.{AreWithin}
use Rattle.theta_pred.proofs.Wrong.{Leads}
use Rattle.theta_pred.proofs.terms.resolved_terms.Given as goal

abbrev pub invariant-loop-signed : goal.invariant-loop-signed
invariant-loop-signed l =
    let left = drop l.signed-index l.signed-items in
    let within = AreWithin (length l.names_r) (length l.names_s) in
    record {
      all : l.signed-items ≡ l.sum;
      done : l.terms ++ resolved_sum l.names_r l.names_s left ≡ resolved_sum l.names_r l.names_s l.sum;
      within : within (resolved_sum l.names_r l.names_s left) → within (resolved_sum l.names_r l.names_s l.sum);
      leads : Leads l.names_r l.names_s (sum_names left) (sum_names l.sum);
    }
