use Rattle.std.proofs.Common.{sym, subst}
use Rattle.epoch_tags.specs.declared.message.ToJoiner.{ToJoiner}
use Rattle.joiner_core.specs.Taking.{TookOfFeeder, TakesOfFeeder}
use Rattle.joiner_core.proofs.EndsAndParts.{took-end}
use Rattle.joiner_core.proofs.machine.Machine.take_of_feeder.Goals as goal

pub returns-in-End-clause-took : goal.returns-in-End-clause-took
returns-in-End-clause-took c =
    subst (λ (z : ToJoiner). TookOfFeeder c.args.p z c.args.self.now.epochs c.take_end.new.self c.args.found.now
    c.args.found.now c.args.sends.now c.args.sends.now) (sym c.in-End.is)
    (took-end c.args.self.now.epochs c.take_end.new.self c.args.p c.args.found.now c.args.sends.now c.requires.within
    (subst (λ (z : ToJoiner). TakesOfFeeder c.args.self.now.epochs c.args.p z) c.in-End.is c.requires.can)
    c.take_end.ensures.rest c.take_end.ensures.ended)
