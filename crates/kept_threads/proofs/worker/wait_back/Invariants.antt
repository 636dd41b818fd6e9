use Rattle.std.proofs.Common.{◌≡◌}
use Rattle.kept_threads.proofs.worker.wait_back.Given as goal

abbrev pub invariant-loop : goal.invariant-loop
invariant-loop g l =
    ((goal.iterator-loop g).can_next l.iterator' × (goal.iterator-loop g).is_finite l.iterator')
    × (l.awaited.asked.value ≡ l.initial.awaited.asked.value)
