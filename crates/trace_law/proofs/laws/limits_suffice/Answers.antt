use Rattle.trace_law.proofs.Validity.{within_limits}
use Rattle.trace_law.proofs.laws.limits_suffice.Goals as goal

pub returns : goal.returns
returns c = λ input setting of_input limits. within_limits input setting of_input limits
