use Rattle.trace_law.proofs.Bounds.{bounded}
use Rattle.trace_law.proofs.laws.lawful_is_bounded.Goals as goal

pub returns : goal.returns
returns c =
    λ input setting line journal valid for law a c' small_r small_s.
    bounded input setting line journal valid for law a c' small_r small_s
