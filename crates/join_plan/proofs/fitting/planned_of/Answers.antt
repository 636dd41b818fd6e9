use Rattle.join_plan.proofs.fitting.planned_of.Goals as goal

pub returns-in-Ok-clause-refused : goal.returns-in-Ok-clause-refused
returns-in-Ok-clause-refused c old new told spot asked same = c.checked.ensures.refused old new told spot asked
