use Rattle.predicate_hints.proofs.listing.can_stand.Goals as goal

pub returns-in-None : goal.returns-in-None
returns-in-None c = rw c.in-None.ensures c.may_end.ensures

pub returns-in-Some : goal.returns-in-Some
returns-in-Some c = rw c.in-Some.ensures c.may_follow.ensures
