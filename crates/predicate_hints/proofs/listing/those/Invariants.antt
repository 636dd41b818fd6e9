use Rattle.std.proofs.Common.{List, ◌++◌, drop}
use Rattle.predicate_hints.specs.declared.kinds.Expected.{Expected}
use Rattle.predicate_hints.specs.Listing.{AreThose, CanStand}
use Rattle.predicate_hints.proofs.listing.those.Given as goal

-- whatever those of the rest are, with what is found they are those of all
abbrev pub invariant-loop-kind : goal.invariant-loop-kind
invariant-loop-kind l = (rest : List Expected) → AreThose (CanStand l.text l.place) (drop l.kind-index l.kinds) rest
    → AreThose (CanStand l.text l.place) l.kinds (l.found.items ++ rest)
