use Rattle.std.proofs.Common.{◌≡◌, None, drop, take}
use Rattle.join_rows.specs.InMemory.{file_under}
use Rattle.join_rows.proofs.find.find.Given as goal

abbrev pub invariant-loop-i : goal.invariant-loop-i
invariant-loop-i l = (file_under (drop l.i l.files) l.name ≡ file_under l.files l.name)
    × (file_under (take l.i l.files) l.name ≡ None)
