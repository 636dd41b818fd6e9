use Rattle.std.proofs.Common.{◌≡◌, ◌-◌, ◌≤◌, length, drop}
use Rattle.theta_text.specs.Front.{quoted_len}
use Rattle.theta_text.proofs.Fronts.{found_by}
use Rattle.theta_text.proofs.quoted_texts.quoted.Given as goal

abbrev pub invariant-loop-at : goal.invariant-loop-at
invariant-loop-at l = record {
  found : quoted_len l.quote l.text ≡ found_by l.at l.best (quoted_len l.quote (drop l.at l.text));
  within : l.at ≤ length l.text;
}

abbrev pub decreases-loop-at : goal.decreases-loop-at
decreases-loop-at l = length l.text - l.at
