use Rattle.std.proofs.Common.{◌≡◌, ◌^◌, map, take}
use Rattle.group_split.proofs.sizing.sizes.Given as goal

abbrev pub invariant-loop-place : goal.invariant-loop-place
invariant-loop-place l = l.sizes ≡ map (λ place. 2 ^ place) (take l.place-index l.place-items)
