use Rattle.joiner_core.proofs.AcceptedMessages.{accepts-taken-joiner, accepts-held-joiner}
use Rattle.epoch_tags.specs.Held.{held_at}
use Rattle.joiner_core.specs.Outcomes.{can_take_of_joiner}
use Rattle.joiner_core.specs.Machine.{state_of}
use Rattle.joiner_core.proofs.Replays.{waits-behind, waits-joiner}
use Rattle.joiner_core.proofs.machine.Machine.accept_of_joiner.Goals as goal

pub returns-in_ok-take_of_joiner : goal.returns-in_ok-take_of_joiner
returns-in_ok-take_of_joiner c =
    accepts-taken-joiner (state_of c.args.self.now) (state_of c.take_of_joiner.new.self)
    c.args.q c.args.m c.args.found.now c.take_of_joiner.new.found c.args.sends.now c.take_of_joiner.new.sends
    c.requires.sound (c.is_clear.ensures.up c.if-is_clear.true)
    (c.can_take_of_joiner.ensures.up c.if-can_take_of_joiner.true)
    c.in_ok-take_of_joiner.ensures.rest c.in_ok-take_of_joiner.ensures.took

pub returns-in_ok-hold : goal.returns-in_ok-hold
returns-in_ok-hold c = accepts-held-joiner (state_of c.args.self.now)
    c.hold.new.self c.args.q c.args.m c.args.found.now c.args.sends.now c.requires.sound c.requires.few c.requires.row
    (elim c.else-is_clear.branch [
      | goal.else-is_clear-via-then-is_clear+else-can_take_of_joiner w ↦
          waits-joiner (held_at c.args.self.now.of_joiners c.args.q) c.args.self.now.epochs c.args.q c.args.m
          (w.can_take_of_joiner.ensures.down w.if-can_take_of_joiner.false)
      | goal.else-is_clear-via-else-is_clear w ↦
          waits-behind (held_at c.args.self.now.of_joiners c.args.q)
          (can_take_of_joiner c.args.self.now.epochs c.args.q c.args.m) (c.is_clear.ensures.down w.if-is_clear.false)
    ]) c.in_ok-hold.ensures.ok
