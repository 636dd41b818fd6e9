use Rattle.std.proofs.Common.{◌≡◌, ◌-◌, ◌+◌, ◌≤◌, length, drop}
use Rattle.row_cells.specs.Numbers.{spaces_at}
use Rattle.row_cells.proofs.number.spaces_before.Given as goal

abbrev pub invariant-loop-place : goal.invariant-loop-place
invariant-loop-place l = (spaces_at l.text ≡ l.place + spaces_at (drop l.place l.text)) × (l.place ≤ length l.text)

abbrev pub decreases-loop-place : goal.decreases-loop-place
decreases-loop-place l = length l.text - l.place
