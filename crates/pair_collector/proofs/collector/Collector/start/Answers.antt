use Rattle.std.proofs.Common.{false, arith}
use Rattle.pair_collector.proofs.KeptMessages.{fresh_stands}
use Rattle.pair_collector.proofs.collector.Collector.start.Goals as goal

pub returns-clause-fresh : goal.returns-clause-fresh
returns-clause-fresh c = fresh_stands c.args.joiners c.loop.counter c.loop.parts.items _ false (omega arith)
    c.loop.invariant
