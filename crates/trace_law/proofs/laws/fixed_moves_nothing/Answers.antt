use Rattle.trace_law.proofs.FixedShift.{moves_nothing}
use Rattle.trace_law.proofs.laws.fixed_moves_nothing.Goals as goal

pub returns : goal.returns
returns c =
    λ input setting line journal run for is shift fixed. moves_nothing input setting line journal run for is shift fixed
