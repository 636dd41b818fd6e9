use Rattle.std.proofs.Common.{◌≡◌, ◌+◌, ◌++◌, length}
use Rattle.actor_core.specs.Rests.{AreMade, task_upto}
use Rattle.actor_core.proofs.waves.joiners_in_wave.Given as goal

abbrev pub invariant-loop-store : goal.invariant-loop-store
invariant-loop-store l = record {
  left : l.yielded ++ l.store-iterator.rest.items ≡ l.fn.rest.stores;
  number : l.j ≡ length l.yielded;
  made : AreMade (task_upto l.fn.end l.input l.setting l.fn.rest) (l.setting.feeders + l.j) l.cores.items;
}
