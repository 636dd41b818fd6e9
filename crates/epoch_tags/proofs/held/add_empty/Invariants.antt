use Rattle.std.proofs.Common.{◌≡◌, ℕ, length, []}
use Rattle.std.specs.Prelude.{map}
use Rattle.epoch_tags.specs.Held.{held_at}
use Rattle.epoch_tags.proofs.held.add_empty.Given as goal

abbrev pub invariant-loop-i : goal.invariant-loop-i
invariant-loop-i g l = (length l.queues.items ≡ l.i) × ((sender : ℕ)
    → held_at (map (λ q. q.items) l.queues.items) sender ≡ [])
