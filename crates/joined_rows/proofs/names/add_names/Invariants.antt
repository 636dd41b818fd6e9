use Rattle.std.proofs.Common.{◌≡◌, ◌++◌, map, take}
use Rattle.joined_rows.proofs.names.add_names.Given as goal

abbrev pub invariant-loop-name : goal.invariant-loop-name
invariant-loop-name l = l.joined ≡ l.initial.joined ++ map (λ name. l.prefix ++ name) (take l.name-index l.names)
