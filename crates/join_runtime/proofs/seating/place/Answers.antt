use Rattle.std.proofs.Common.{◌∙◌, ap, set, sym}
use Rattle.actor_core.specs.Numbers.{number}
use Rattle.actor_core.proofs.OwnNumbers.{none_some}
use Rattle.join_runtime.proofs.MouthRows.{puts_there}
use Rattle.join_runtime.proofs.seating.place.Goals as goal

pub unreachable-requires : goal.unreachable-requires
unreachable-requires c =
    none_some c.requires.sender.place
    (sym c.in_default.is ∙ (c.number.ensures
    ∙ (ap (number c.args.cast) c.sender.ensures ∙ c.requires.sender.is)))

pub returns : goal.returns
returns c =
    let items = c.args.seats.now.items in
    let sender = c.in-Some.sender in
    puts_there c.args.cast c.args.receiver c.args.mouth sender c.index_mut.result.now items
    (set items sender c.put_mouth.new.self)
    (sym (ap (number c.args.cast) c.sender.ensures) ∙ (sym c.number.ensures ∙ c.in-Some.is))
    c.requires.sender c.requires.places c.index_mut.ensures.value
    (ap (set items sender) c.put_mouth.ensures)
