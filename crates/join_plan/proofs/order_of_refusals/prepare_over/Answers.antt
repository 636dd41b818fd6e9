use Rattle.std.proofs.Common.{sym}
use Rattle.join_words.specs.Words.{asked}
use Rattle.join_plan.specs.Texts.{trees_in}
use Rattle.join_plan.specs.declared.fault.Refusal.TheVariants as refusals
use Rattle.join_plan.proofs.Prepared.{is_asked, refused_seen}
use Rattle.join_plan.proofs.Seen.{other_refusal}
use Rattle.join_plan.proofs.order_of_refusals.prepare_over.Goals as goal

pub returns-in-Ok-clause-asked : goal.returns-in-Ok-clause-asked
returns-in-Ok-clause-asked g c =
    is_asked (g.H.Shelf.told c.args.shelf.now) (asked c.args.options.now) (trees_in c.args.preds.now) c.in-Ok.found
    c.fitted.result c.requires.have c.in-Ok.ensures.found (λ count is. (c.in-Ok.ensures.made count is).1)
    c.in-Ok.ensures.chained c.in-Ok.ensures.waves c.fitted.ensures.found c.fitted.ensures.fit c.fitted.ensures.third
    c.fitted.ensures.ends

pub returns-in-Err-clause-seen : goal.returns-in-Err-clause-seen
returns-in-Err-clause-seen g c read memory =
    refused_seen (g.H.Shelf.told c.args.shelf.now) (g.H.Shelf.picked c.all_tables.new.shelf)
    (asked c.args.options.now) (trees_in c.args.preds.now) c.in-Err.refusal
    (c.in-Err.ensures.seen (other_refusal c.in-Err.refusal refusals.Read read)
    (other_refusal c.in-Err.refusal refusals.Memory memory))

pub returns-in-Ok-clause-refused : goal.returns-in-Ok-clause-refused
returns-in-Ok-clause-refused g c =
    c.fitted.ensures.refused (g.H.Shelf.faults c.args.shelf.now) (g.H.Shelf.faults c.all_tables.new.shelf)
    (g.H.Shelf.told c.args.shelf.now) (g.H.Shelf.picked c.all_tables.new.shelf) (asked c.args.options.now)
    (sym c.in-Ok.ensures.chained)
