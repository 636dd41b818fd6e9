use Rattle.std.proofs.Common.{ap, ◌∙◌}
use Rattle.std.specs.Prelude.{slice_set}
use Rattle.epoch_tags.specs.Held.{held_at}
use Rattle.epoch_tags.proofs.Queues.{rest-left}
use Rattle.load_controller.proofs.MessageCalls.{advances_held}
use Rattle.load_controller.proofs.ledger.Ledger.count_first_held.Goals as goal

pub returns-clause-took : goal.returns-clause-took
returns-clause-took c =
    let old = c.args.self.now in
    let queues = c.take_first.new.self in
    let left = rest-left c.take_first.result old.line.epoch (held_at old.held c.args.joiner)
    (held_at queues c.args.joiner) _ c.take_first.ensures.first c.requires.ready.first in
    let now = c.take_first.ensures.rest ∙ ap (λ queue. slice_set old.held c.args.joiner queue) left in
    advances_held old (record old { held = queues }) c.count.new.self c.args.joiner c.args.sends.now c.count.new.sends
    c.requires.sound c.in_ok-count.ensures.sound c.requires.ready c.requires.lowest
    (ap (λ h. record old { held = h }) now) c.in_ok-count.ensures.took
