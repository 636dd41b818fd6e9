use Rattle.std.proofs.Common.{◌∙◌}
use Rattle.store_parts.proofs.AccessProbes.{asked_given, made_apart, stands_from_asked, below_from_asked}
use Rattle.store_parts.proofs.probe.by_access.places_asked.Goals as goal

pub within-requires : goal.within-requires
within-requires c = made_apart c.args.access.now c.args.tuple.now _ (c.as_slice.ensures ∙ c.in_ok-windows.ensures)

pub returns-clause-stands : goal.returns-clause-stands
returns-clause-stands c =
    let given = asked_given c.within.result (λ x. x) c.args.access.now c.args.tuple.now c.args.others.now.tuples
    c.args.others.now.index _ (c.as_slice.ensures ∙ c.in_ok-windows.ensures) c.requires c.within.ensures in
    stands_from_asked c.within.result (λ x. x) c.args.access.now c.args.tuple.now c.args.others.now.tuples given

pub returns-clause-below : goal.returns-clause-below
returns-clause-below c =
    let given = asked_given c.within.result (λ x. x) c.args.access.now c.args.tuple.now c.args.others.now.tuples
    c.args.others.now.index _ (c.as_slice.ensures ∙ c.in_ok-windows.ensures) c.requires c.within.ensures in
    below_from_asked c.within.result (λ x. x) c.args.access.now c.args.tuple.now c.args.others.now.tuples given
