use Rattle.joiner_core.proofs.WholeCalls.{receives}
use Rattle.joiner_core.specs.Machine.{state_of}
use Rattle.joiner_core.proofs.machine.Machine.receive.Goals as goal

pub returns : goal.returns
returns c =
    receives c.args.from c.args.m (state_of c.args.self.now) (state_of c.accept.new.self)
    (state_of c.take_held.new.self) (state_of c.send_fin.new.self)
    c.new-found.result c.accept.new.found c.take_held.new.found
    c.args.sends.now c.accept.new.sends c.take_held.new.sends c.send_found.new.sends c.send_fin.new.sends
    c.requires.grid c.new-found.ensures c.in_ok-accept.ensures c.in_ok-take_held.ensures.sound
    c.in_ok-take_held.ensures.took c.in_ok-take_held.ensures.tried c.in_ok-take_held.ensures.stuck
    c.in_ok-take_held.ensures.does
    c.in_ok-send_found.ensures c.in_ok-send_fin.ensures.rest c.in_ok-send_fin.ensures.tells
