use Rattle.std.proofs.Common.{◌≡◌, ◌++◌, ◌-◌}
use Rattle.group_split.specs.Sizes.{digits}
use Rattle.group_split.proofs.BinaryDigits.{digits_below}
use Rattle.group_split.proofs.sizing.digits.Given as goal

abbrev pub invariant-loop-step : goal.invariant-loop-step
invariant-loop-step l = l.places ++ digits_below l.joiners (7 - l.step) ≡ digits l.joiners
