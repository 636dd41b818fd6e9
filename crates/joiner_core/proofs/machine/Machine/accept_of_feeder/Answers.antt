use Rattle.joiner_core.proofs.AcceptedMessages.{accepts-taken-feeder, accepts-held-feeder}
use Rattle.epoch_tags.specs.Held.{held_at}
use Rattle.joiner_core.specs.Outcomes.{can_take_of_feeder}
use Rattle.joiner_core.specs.Machine.{state_of}
use Rattle.joiner_core.proofs.Replays.{waits-behind, waits-feeder}
use Rattle.joiner_core.proofs.machine.Machine.accept_of_feeder.Goals as goal

pub returns-in_ok-take_of_feeder : goal.returns-in_ok-take_of_feeder
returns-in_ok-take_of_feeder c =
    accepts-taken-feeder (state_of c.args.self.now) (state_of c.take_of_feeder.new.self)
    c.args.p c.args.m c.args.found.now c.take_of_feeder.new.found c.args.sends.now c.take_of_feeder.new.sends
    c.requires.sound c.requires.few (c.is_clear.ensures.up c.if-is_clear.true)
    (c.can_take_of_feeder.ensures.up c.if-can_take_of_feeder.true)
    c.in_ok-take_of_feeder.ensures.rest c.in_ok-take_of_feeder.ensures.took

pub returns-in_ok-hold : goal.returns-in_ok-hold
returns-in_ok-hold c = accepts-held-feeder (state_of c.args.self.now)
    c.hold.new.self c.args.p c.args.m c.args.found.now c.args.sends.now c.requires.sound c.requires.few c.requires.row
    (elim c.else-is_clear.branch [
      | goal.else-is_clear-via-then-is_clear+else-can_take_of_feeder w ↦
          waits-feeder (held_at c.args.self.now.of_feeders c.args.p) c.args.self.now.epochs c.args.p c.args.m
          (w.can_take_of_feeder.ensures.down w.if-can_take_of_feeder.false)
      | goal.else-is_clear-via-else-is_clear w ↦
          waits-behind (held_at c.args.self.now.of_feeders c.args.p)
          (can_take_of_feeder c.args.self.now.epochs c.args.p c.args.m) (c.is_clear.ensures.down w.if-is_clear.false)
    ]) c.in_ok-hold.ensures.ok
