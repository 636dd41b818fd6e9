use Rattle.std.proofs.Common.{◌≡◌, drop, pos}
use Rattle.store_parts.specs.Accessed.{numbered}
use Rattle.store_parts.proofs.numbers.numbered.Given as goal

abbrev pub invariant-loop-same : goal.invariant-loop-same
invariant-loop-same l = numbered l.side l.number (drop l.same-index l.sames) l.row
    ≡ numbered l.side (pos 0) l.sames l.row
