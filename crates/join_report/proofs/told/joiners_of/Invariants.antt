use Rattle.std.proofs.Common.{◌≡◌, length, take, min}
use Rattle.join_report.specs.Report.{joiners_told}
use Rattle.join_report.proofs.told.joiners_of.Given as goal

abbrev pub invariant-loop-id : goal.invariant-loop-id
invariant-loop-id l = record {
  last : l.count ≡ min (length l.loads) (length l.made);
  joiners : l.joiners ≡ take l.id (joiners_told l.loads l.made);
}
