use Rattle.std.proofs.Common.{◌≡◌, take}
use Rattle.std.specs.Prelude.{string_bytes}
use Rattle.join_report.specs.PairLines.{pair_lines}
use Rattle.join_report.proofs.pairs.pairs_text.Given as goal

abbrev pub invariant-loop-pair : goal.invariant-loop-pair
invariant-loop-pair l = string_bytes l.text ≡ pair_lines (take l.pair-index l.pairs)
