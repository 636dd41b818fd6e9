use Rattle.std.proofs.Common.{◌≡◌, ◌++◌, map, take}
use Rattle.group_split.specs.Parts.{pair_in}
use Rattle.group_split.proofs.pairing.add_pairs.Given as goal

abbrev pub invariant-loop-pair : goal.invariant-loop-pair
invariant-loop-pair l = l.all ≡ l.initial.all ++ map (pair_in l.indices) (take l.pair-index l.pair-items)
