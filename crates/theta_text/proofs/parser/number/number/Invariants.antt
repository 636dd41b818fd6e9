use Rattle.std.proofs.Common.{◌≡◌, ◌≤◌, drop}
use Rattle.theta_tree.specs.Tokens.{number_from, number_of}
use Rattle.theta_text.proofs.parser.number.number.Given as goal

abbrev pub invariant-loop-b : goal.invariant-loop-b
invariant-loop-b l = record {
  value : number_from l.value (drop l.b-index l.digits) ≡ number_of l.digits;
  within : l.value ≤ 9223372036854775807;
}
