use Rattle.predicate_hints.proofs.Readings.{stands_at_end}
use Rattle.predicate_hints.proofs.follow.stands.Goals as goal

pub returns-in-Some : goal.returns-in-Some
returns-in-Some c =
    stands_at_end c.args.text.now c.in-Some.fault c.is_at.result (rw c.in-Some.is at c.in_ok-fault_of.ensures)
    c.is_at.ensures
