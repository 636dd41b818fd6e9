use Rattle.std.proofs.Common.{◌≡◌, take}
use Rattle.std.specs.Prelude.{string_bytes}
use Rattle.join_cli.specs.Chain.{triple_lines}
use Rattle.join_cli.proofs.chain.triples_text.Given as goal

abbrev pub invariant-loop-triple : goal.invariant-loop-triple
invariant-loop-triple l = string_bytes l.text ≡ triple_lines (take l.triple-index l.triples)
