use Rattle.std.proofs.Common.{◌≡◌, ◌++◌, drop, string_bytes}
use Rattle.predicate_hints.specs.Pointing as shown
use Rattle.predicate_hints.proofs.pointing.write_below.Given as goal

-- what is written, and what stands below the rest
abbrev pub invariant-loop-byte : goal.invariant-loop-byte
invariant-loop-byte l =
    string_bytes l.text ++ shown.all_below (drop l.byte-index l.line)
    ≡ string_bytes l.fn.text ++ shown.all_below l.line
