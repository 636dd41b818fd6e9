use Rattle.std.proofs.Common.{◌≡◌, drop}
use Rattle.join_words.specs.Apart.{any_of}
use Rattle.join_words.proofs.apart.Given.first_of.Given as goal

abbrev pub invariant-loop-pair : goal.invariant-loop-pair
invariant-loop-pair l = any_of l.self (drop l.pair-index l.pairs) ≡ any_of l.self l.pairs
