use Rattle.std.proofs.Common.{refl, sym}
use Rattle.join_words.specs.Words.{asked}
use Rattle.join_plan.proofs.predicate.further.Goals as goal

pub returns-in-Err-clause-refused : goal.returns-in-Err-clause-refused
returns-in-Err-clause-refused c old new told spot =
    c.in-Err.ensures.refused old new told spot (asked c.args.options.now) (rw (sym c.chain.ensures, c.in-Some.is) refl)
