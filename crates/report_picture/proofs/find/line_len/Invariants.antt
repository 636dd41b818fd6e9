use Rattle.std.proofs.Common.{◌≢◌, ◌≤◌, ◌<◌, ◌-◌, ℕ, get_or, length}
use Rattle.report_picture.proofs.find.line_len.Given as goal

abbrev pub invariant-loop-len : goal.invariant-loop-len
invariant-loop-len l = record {
  within : l.len ≤ length l.text;
  line : (place : ℕ) → place < l.len → get_or l.text place 0 ≢ 10;
}

abbrev pub decreases-loop-len : goal.decreases-loop-len
decreases-loop-len l = length l.text - l.len
