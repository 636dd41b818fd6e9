use Rattle.std.proofs.Common.{◌∙◌, sym, subst, slice_index_or}
use Rattle.std.proofs.lemmas.Option.{slice_get-get_or}
use Rattle.link_trace.specs.declared.slots.Slot.TheVariants.{Begin}
use Rattle.link_trace.specs.States.{state_of}
use Rattle.link_trace.specs.Order.{Happens}
use Rattle.link_trace.specs.Marks.{IsMarkedFor}
use Rattle.actor_core.proofs.OwnNumbers.{some_is}
use Rattle.link_trace.proofs.ReplayMarks.{marked_after}
use Rattle.link_trace.proofs.first_ready.make_at.Goals as goal

pub returns-in-Took-clause-marks : goal.returns-in-Took-clause-marks
returns-in-Took-clause-marks c =
    marked_after c.args.slots.now c.args.marks.now.items c.mark.new.marks.items
    (slice_index_or c.args.slots.now c.args.at (Begin 0))
    (state_of c.args.world.now) (state_of c.make.new.world) c.requires.marks (c.in_ok-make.ensures.took (search))
    (subst (λ actor. IsMarkedFor actor c.args.slots.now c.args.marks.now.items c.mark.new.marks.items)
    c.maker_of.ensures c.mark.ensures)

pub returns-in-Took-clause-made : goal.returns-in-Took-clause-made
returns-in-Took-clause-made c same slot there =
    subst (λ s. Happens s (state_of c.args.world.now) (state_of c.make.new.world))
    (some_is (slice_index_or c.args.slots.now c.args.at (Begin 0)) slot
    (sym (slice_get-get_or c.args.slots.now c.args.at (Begin 0) c.requires.at) ∙ there))
    (c.in_ok-make.ensures.took (search))
