use Rattle.std.proofs.Common.{subst}
use Rattle.joiner_core.specs.Machine.{state_of, AreTried, none_ready, next}
use Rattle.joiner_core.specs.State.{MachineState}
use Rattle.joiner_core.proofs.CallParts.{advances-none, advances-then}
use Rattle.joiner_core.proofs.Replays.{does-held}
use Rattle.joiner_core.proofs.machine.Machine.take_held.Goals as goal

pub trial-init : goal.trial-init
trial-init c = record {
  sound = c.requires;
  took = advances-none _ _ _;
  tried = λ last tried. tried;
  does = λ last w posts does. does;
}

pub trial-preserved : goal.trial-preserved
trial-preserved c = record {
  sound = c.in_ok-take_one_held.ensures.sound;
  took = advances-then _ _ _ _ _ _ _ _ _ c.trial.invariant.took c.in_ok-take_one_held.ensures.took;
  tried = λ last tried. c.trial.invariant.tried last (next (c.in_ok-take_one_held.ensures.next c.if-branch.true) tried);
  does = λ last w posts does. c.trial.invariant.does last w posts
      (does-held _ _ last _ _ w _ _ posts (c.in_ok-take_one_held.ensures.does c.if-branch.true) does);
}

pub returns-clause-took : goal.returns-clause-took
returns-clause-took c = advances-then _ _ _ _ _ _ _ _ _ c.trial.invariant.took c.in_ok-take_one_held.ensures.took

pub returns-clause-tried : goal.returns-clause-tried
returns-clause-tried c =
    c.trial.invariant.tried _ (subst (λ (z : MachineState). AreTried z (state_of c.take_one_held.new.self))
    (c.in_ok-take_one_held.ensures.none c.if-branch.false)
    (none_ready (c.in_ok-take_one_held.ensures.stuck c.if-branch.false)))

pub returns-clause-does : goal.returns-clause-does
returns-clause-does c = c.trial.invariant.does _ _ _ (c.in_ok-take_one_held.ensures.rests c.if-branch.false)
