use Rattle.join_runtime.specs.Seating.{AreBelow, AreLinked}
use Rattle.join_runtime.proofs.seating.senders_of.Given as goal

abbrev pub invariant-loop-n : goal.invariant-loop-n
invariant-loop-n l = record {
  numbers : AreBelow l.cast l.n l.senders;
  links : AreLinked l.cast l.n l.to l.senders;
}
