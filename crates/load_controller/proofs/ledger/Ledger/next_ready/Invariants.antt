use Rattle.std.proofs.Common.{ℕ, ◌<◌}
use Rattle.load_controller.specs.Machine.{IsReady}
use Rattle.load_controller.proofs.ledger.Ledger.next_ready.Given as goal

abbrev pub invariant-loop-joiner : goal.invariant-loop-joiner
invariant-loop-joiner l = (i : ℕ) → i < l.joiner → ¬ IsReady l.self i
