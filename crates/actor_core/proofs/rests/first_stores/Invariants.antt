use Rattle.std.proofs.Common.{◌≡◌, length}
use Rattle.std.specs.Prelude.{All}
use Rattle.actor_core.specs.Rests.{IsFirstStore}
use Rattle.actor_core.proofs.rests.first_stores.Given as goal

abbrev pub invariant-loop : goal.invariant-loop
invariant-loop l = record {
  many : length l.stores ≡ l.counter;
  first : All (IsFirstStore l.theta) l.stores;
}
