use Rattle.std.proofs.Common.{◌≡◌, ℕ, ◌<◌, []}
use Rattle.epoch_tags.specs.Held.{held_at}
use Rattle.epoch_tags.proofs.held.Held.is_empty.Given as goal

abbrev pub invariant-loop-sender : goal.invariant-loop-sender
invariant-loop-sender g l = (i : ℕ) → i < l.sender → held_at l.self i ≡ []
