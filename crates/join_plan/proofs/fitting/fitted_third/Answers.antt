use Rattle.join_plan.proofs.fitting.fitted_third.Goals as goal

pub returns-in-Err-clause-refused : goal.returns-in-Err-clause-refused
returns-in-Err-clause-refused c old new told spot asked same =
    c.in-Err.ensures.refused old new told spot asked (rw c.in-Some-table.is at same)
