use Rattle.std.proofs.Common.{◌≡◌, subst}
use Rattle.theta_tree.specs.Grammar.{Reads}
use Rattle.theta_tree.specs.Faults.{words}
use Rattle.theta_text.proofs.Places.{tokens_unique}
use Rattle.theta_text.proofs.Unique.{reads_unique}
use Rattle.theta_text.proofs.laws.texts_have_one_tree.Goals as goal

pub returns : goal.returns
returns c limits text t u (ps, are, reads) (qs, are', reads') =
    let same : qs ≡ ps = tokens_unique text qs ps are' are in
    reads_unique limits (words ps) t u reads (subst (λ z. Reads limits (words z) u) same reads')
