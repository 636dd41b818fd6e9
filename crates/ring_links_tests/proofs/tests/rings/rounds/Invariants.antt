use Rattle.std.proofs.Common.{◌≡◌}
use Rattle.epoch_tags.specs.declared.actor.Actor.TheVariants.{Feeder}
use Rattle.ring_links.specs.Rings.{AreEnds}
use Rattle.ring_links_tests.proofs.tests.rings.rounds.Given as goal

abbrev pub invariant-loop-number : goal.invariant-loop-number
invariant-loop-number l = AreEnds l.out l.inn × (l.out.from ≡ Feeder 0)
