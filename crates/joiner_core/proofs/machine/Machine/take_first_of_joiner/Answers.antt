use Rattle.joiner_core.proofs.RowWidths.{row-first}
use Rattle.joiner_core.proofs.CallParts.{took-held-joiner}
use Rattle.joiner_core.specs.Machine.{state_of}
use Rattle.joiner_core.proofs.machine.Machine.take_first_of_joiner.Goals as goal

pub returns-in_ok-take_of_joiner : goal.returns-in_ok-take_of_joiner
returns-in_ok-take_of_joiner c =
    took-held-joiner (state_of c.args.self.now) (state_of c.take_of_joiner.new.self)
    c.take_first.new.self c.args.q c.in-Some.m c.args.found.now c.take_of_joiner.new.found c.args.sends.now
    c.take_of_joiner.new.sends
    c.requires.sound c.requires.ready c.in-Some.ensures.first c.in-Some.ensures.rest c.in_ok-take_of_joiner.ensures.rest
    c.in_ok-take_of_joiner.ensures.took

pub take_of_joiner-requires-clause-row : goal.take_of_joiner-requires-clause-row
take_of_joiner-requires-clause-row c = row-first c.args.self.now.epochs.theta c.args.self.now.of_joiners c.args.q
    c.in-Some.m _ c.in-Some.ensures.first c.requires.sound.joiner_rows
