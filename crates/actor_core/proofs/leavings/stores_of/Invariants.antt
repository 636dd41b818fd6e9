use Rattle.std.proofs.Common.{◌≡◌, ◌-◌, length}
use Rattle.actor_core.specs.Leavings.{AreStores}
use Rattle.actor_core.proofs.leavings.stores_of.Given as goal

abbrev pub invariant-loop-core : goal.invariant-loop-core
invariant-loop-core l = record {
  left : l.before ≡ l.feeders - length l.yielded;
  stores : AreStores l.feeders l.yielded l.stores;
}
