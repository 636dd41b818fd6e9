use Rattle.load_controller.proofs.CallParts.{advances_none, advances_then}
use Rattle.load_controller.proofs.ledger.Ledger.count_held.Goals as goal

pub trial-init : goal.trial-init
trial-init c = (c.requires, advances_none _ _)

pub trial-preserved : goal.trial-preserved
trial-preserved c = (
  c.in_ok-count_one_held.ensures.sound,
  advances_then _ _ _ _ _ _ c.trial.invariant.1 c.in_ok-count_one_held.ensures.took,
)

pub returns-clause-took : goal.returns-clause-took
returns-clause-took c = advances_then _ _ _ _ _ _ c.trial.invariant.1 c.in_ok-count_one_held.ensures.took
