use Rattle.std.proofs.Common.{◌∙◌, sym, true≢false}
use Rattle.actor_core.proofs.machines.Core.is_over.Goals as goal

pub returns-in-Joiner-clause-over : goal.returns-in-Joiner-clause-over
returns-in-Joiner-clause-over c is = rw c.in-Joiner.is (λ s lists stands. (c.finished.ensures s lists stands).0 is)

pub returns-in-Joiner-clause-goes_on : goal.returns-in-Joiner-clause-goes_on
returns-in-Joiner-clause-goes_on c is =
    rw c.in-Joiner.is (λ s lists stands ends. true≢false (sym ((c.finished.ensures s lists stands).1 ends) ∙ is))
