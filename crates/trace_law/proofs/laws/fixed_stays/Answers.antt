use Rattle.trace_law.proofs.FixedShift.{all_stay, no_migration}
use Rattle.trace_law.proofs.laws.fixed_stays.Goals as goal

pub returns : goal.returns
returns c =
    λ input setting line journal valid for law shift fixed. (
      all_stay input setting line for journal law shift fixed,
      no_migration input setting line for journal law shift fixed,
    )
