use Rattle.std.proofs.Common.{◌≡◌, take}
use Rattle.group_split.proofs.parts.names_of.Given as goal

abbrev pub invariant-loop-name : goal.invariant-loop-name
invariant-loop-name l = l.copy ≡ take l.name-index l.name-items
