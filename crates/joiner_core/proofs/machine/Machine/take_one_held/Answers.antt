use Rattle.epoch_tags.specs.declared.actor.Actor.TheVariants.{Feeder, Joiner as Joiner'}
use Rattle.joiner_core.proofs.CallParts.{advances-none}
use Rattle.joiner_core.proofs.Replays.{next-feeder, next-joiner, does-no-held}
use Rattle.joiner_core.proofs.machine.Machine.take_one_held.Goals as goal

pub returns-in-None-ready_joiner-clause-took : goal.returns-in-None-ready_joiner-clause-took
returns-in-None-ready_joiner-clause-took c = advances-none _ _ _

pub returns-in_ok-take_first_of_feeder-in-Some-clause-next : goal.returns-in_ok-take_first_of_feeder-in-Some-clause-next
returns-in_ok-take_first_of_feeder-in-Some-clause-next c = λ more. record {
  from = Feeder c.in-Some.p;
  first = (c.in-Some.ensures.ready, c.in-Some.ensures.first);
  given = c.in_ok-take_first_of_feeder-in-Some.ensures.given;
}

pub returns-in_ok-take_first_of_joiner-in-Some-ready_joiner-clause-next :
    goal.returns-in_ok-take_first_of_joiner-in-Some-ready_joiner-clause-next
returns-in_ok-take_first_of_joiner-in-Some-ready_joiner-clause-next c = λ more. record {
  from = Joiner' c.in-Some-ready_joiner.q;
  first = (c.in-Some-ready_joiner.ensures.ready, c.in-None.ensures.ready, c.in-Some-ready_joiner.ensures.first);
  given = c.in_ok-take_first_of_joiner-in-Some-ready_joiner.ensures.given;
}

pub returns-in_ok-take_first_of_feeder-in-Some-clause-does : goal.returns-in_ok-take_first_of_feeder-in-Some-clause-does
returns-in_ok-take_first_of_feeder-in-Some-clause-does c = λ more.
    next-feeder _ _ c.in-Some.p _ _ _ _ c.requires c.in-Some.ensures.ready c.in-Some.ensures.first
    c.in_ok-take_first_of_feeder-in-Some.ensures

pub returns-in_ok-take_first_of_joiner-in-Some-ready_joiner-clause-does :
    goal.returns-in_ok-take_first_of_joiner-in-Some-ready_joiner-clause-does
returns-in_ok-take_first_of_joiner-in-Some-ready_joiner-clause-does c = λ more.
    next-joiner _ _ c.in-Some-ready_joiner.q _ _ _ _ c.requires c.in-None.ensures.ready
    c.in-Some-ready_joiner.ensures.ready c.in-Some-ready_joiner.ensures.first
    c.in_ok-take_first_of_joiner-in-Some-ready_joiner.ensures

pub returns-in-None-ready_joiner-clause-rests : goal.returns-in-None-ready_joiner-clause-rests
returns-in-None-ready_joiner-clause-rests c = λ more.
    does-no-held _ _ _ (record { feeders = c.in-None.ensures.ready; joiners = c.in-None-ready_joiner.ensures.ready })
