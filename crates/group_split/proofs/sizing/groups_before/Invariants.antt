use Rattle.std.proofs.Common.{◌≡◌, ◌-◌, ◌≤◌, drop}
use Rattle.group_split.specs.Sizes.{before, digits}
use Rattle.group_split.proofs.BinaryDigits.{digits_below}
use Rattle.group_split.proofs.sizing.groups_before.Given as goal

abbrev pub invariant-loop-step : goal.invariant-loop-step
invariant-loop-step l = record {
  rest : drop l.group (digits l.joiners) ≡ digits_below l.joiners (7 - l.step);
  joined : l.joined ≡ before l.joiners l.group;
  passed : l.joined ≤ l.number;
  few : l.group ≤ l.step;
}
