use Rattle.std.proofs.Common.{◌≡◌, ◌++◌}
use Rattle.store_parts.specs.Places.{gathered}
use Rattle.store_parts.proofs.hashed.gather_each.Given as goal

abbrev pub invariant-loop-entry : goal.invariant-loop-entry
invariant-loop-entry l = l.found ++ gathered l.from l.to l.entry-iterator ≡ gathered l.from l.to l.map.entries
