use Rattle.std.proofs.Common.{◌≡◌, drop}
use Rattle.store_parts.specs.Accessed.{number_from}
use Rattle.store_parts.proofs.numbers.number_of.Given as goal

abbrev pub invariant-loop-byte : goal.invariant-loop-byte
invariant-loop-byte l = number_from l.number (drop l.byte-index l.text) ≡ number_from 0 l.text
