use Rattle.joiner_core.proofs.RowWidths.{row-first}
use Rattle.joiner_core.proofs.CallParts.{took-held-feeder}
use Rattle.joiner_core.specs.Machine.{state_of}
use Rattle.joiner_core.proofs.machine.Machine.take_first_of_feeder.Goals as goal

pub returns-in_ok-take_of_feeder : goal.returns-in_ok-take_of_feeder
returns-in_ok-take_of_feeder c =
    took-held-feeder (state_of c.args.self.now) (state_of c.take_of_feeder.new.self)
    c.take_first.new.self c.args.p c.in-Some.m c.args.found.now c.take_of_feeder.new.found c.args.sends.now
    c.take_of_feeder.new.sends
    c.requires.sound c.requires.ready.low c.in-Some.ensures.first c.in-Some.ensures.rest
    c.in_ok-take_of_feeder.ensures.rest c.in_ok-take_of_feeder.ensures.took

pub take_of_feeder-requires-clause-row : goal.take_of_feeder-requires-clause-row
take_of_feeder-requires-clause-row c = row-first c.args.self.now.epochs.theta c.args.self.now.of_feeders c.args.p
    c.in-Some.m _ c.in-Some.ensures.first c.requires.sound.feeder_rows
