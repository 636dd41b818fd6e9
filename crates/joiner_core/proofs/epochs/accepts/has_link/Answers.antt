use Rattle.std.proofs.Common.{sym, subst, arith}
use Rattle.std.proofs.lemmas.Bool.{ltb-true}
use Rattle.epoch_tags.specs.Links.{HasLink}
use Rattle.epoch_tags.specs.declared.actor.Actor.{Actor}
use Rattle.epoch_tags.specs.declared.actor.Actor.TheVariants.{Joiner as Joiner'}
use Rattle.joiner_core.proofs.CallerFacts.{no-id, feeder-link, joiner-link}
use Rattle.joiner_core.proofs.epochs.accepts.has_link.Goals as goal

pub returns-then-id-count-clause-down : goal.returns-then-id-count-clause-down
returns-then-id-count-clause-down c is link =
    let small = c.requires in
    let count = c.joiners-count.ensures in
    let high = c.if-id-count.true in
    no-id c.args.k c.args.feeders c.args.id c.args.from c.requires (omega arith) link

pub returns-in-Feeder-clause-up : goal.returns-in-Feeder-clause-up
returns-in-Feeder-clause-up c up =
    let small = c.requires in
    let count = c.joiners-count.ensures in
    let low = c.if-id-count.false in
    let below = ltb-true c.in-Feeder.p c.args.feeders up in
    subst (λ (from : Actor). HasLink c.args.k c.args.feeders from (Joiner' c.args.id)) (sym c.in-Feeder.is)
    (feeder-link c.args.k c.args.feeders c.in-Feeder.p c.args.id (omega arith) (omega arith))

pub returns-then-q-count-clause-up : goal.returns-then-q-count-clause-up
returns-then-q-count-clause-up c up =
    let small = c.requires in
    let count = c.joiners-count.ensures in
    let low = c.if-q-count.true in
    subst (λ (from : Actor). HasLink c.args.k c.args.feeders from (Joiner' c.args.id)) (sym c.in-Joiner.is)
    (joiner-link c.args.k c.args.feeders c.in-Joiner.q c.args.id (omega arith) (c.differ_in_one_bit.ensures.up up))
