use Rattle.std.proofs.Common.{refl}
use Rattle.join_words.specs.Words.{asked}
use Rattle.join_plan.specs.Texts.{trees_in}
use Rattle.join_plan.proofs.Prepared.{planned_by, refused_by, refused_unread, seen_by}
use Rattle.join_plan.proofs.order_of_refusals.prepare.Goals as goal

pub returns-in-Ok-clause-answer : goal.returns-in-Ok-clause-answer
returns-in-Ok-clause-answer g c files told same =
    planned_by (asked c.args.options.now) files (trees_in c.in-Ok.preds)
    c.prepare_over-planned.result c.in-Ok.ensures.have
    (c.prepare_over-planned.ensures.answer files told same)

pub returns-in-Ok-clause-seen : goal.returns-in-Ok-clause-seen
returns-in-Ok-clause-seen g c read memory =
    seen_by (g.H.Shelf.told c.args.shelf.now) (g.H.Shelf.picked c.prepare_over-planned.new.shelf)
    (asked c.args.options.now)
    (trees_in c.in-Ok.preds) c.prepare_over-planned.result c.in-Ok.ensures.have
    (c.prepare_over-planned.ensures.seen read memory)

pub returns-in-Ok-clause-further_early : goal.returns-in-Ok-clause-further_early
returns-in-Ok-clause-further_early g c tree chain fault reads is wrong =
    absurd (c.in-Ok.ensures.further_early tree chain fault reads is wrong)

pub returns-in-Err-clause-answer : goal.returns-in-Err-clause-answer
returns-in-Err-clause-answer g c files told same =
    refused_by (asked c.args.options.now) files c.in-Err.refusal c.in-Err.ensures.answer

pub returns-in-Err-clause-seen : goal.returns-in-Err-clause-seen
returns-in-Err-clause-seen g c read memory =
    refused_unread (g.H.Shelf.told c.args.shelf.now) (g.H.Shelf.picked c.args.shelf.now) (asked c.args.options.now)
    c.in-Err.refusal c.in-Err.ensures.answer memory

pub returns-in-Err-clause-further_early : goal.returns-in-Err-clause-further_early
returns-in-Err-clause-further_early g c tree chain fault reads is wrong =
    (c.in-Err.ensures.further_early tree chain fault reads is wrong, refl)

pub returns-in-Err-clause-refused : goal.returns-in-Err-clause-refused
returns-in-Err-clause-refused g c =
    c.in-Err.ensures.refused (g.H.Shelf.faults c.args.shelf.now) (g.H.Shelf.faults c.args.shelf.now)
    (g.H.Shelf.told c.args.shelf.now) (g.H.Shelf.picked c.args.shelf.now)
