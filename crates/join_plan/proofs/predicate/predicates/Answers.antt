use Rattle.std.proofs.Common.{Ok, inl, refl}
use Rattle.join_words.specs.Words.{asked}
use Rattle.join_plan.proofs.Parsed.{only_memory}
use Rattle.join_plan.proofs.predicate.predicates.Goals as goal

-- a first text that has a tree is refused for want of memory alone
pub returns-in-Err-clause-further_early : goal.returns-in-Err-clause-further_early
returns-in-Err-clause-further_early c tree chain fault reads is wrong =
    inl (only_memory tree c.in-Err.refusal (c.in-Err.ensures.answer (Ok tree) reads))

pub returns-in-Err-clause-refused : goal.returns-in-Err-clause-refused
returns-in-Err-clause-refused c old new told spot =
    c.in-Err.ensures.refused old new told spot (asked c.args.options.now) refl
