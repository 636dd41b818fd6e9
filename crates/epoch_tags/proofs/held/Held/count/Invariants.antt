use Rattle.std.proofs.Common.{◌≡◌, ◌^◌, ◌-◌, length}
use Rattle.std.specs.Prelude.{min}
use Rattle.row_cells.specs.Lists.{total}
use Rattle.epoch_tags.specs.Held.{held_at}
use Rattle.epoch_tags.proofs.held.Held.count.Given as goal

abbrev pub invariant-loop-sender : goal.invariant-loop-sender
invariant-loop-sender g l = l.count ≡ min (total l.sender (λ i. length (held_at l.self i))) (2 ^ 64 - 1)
