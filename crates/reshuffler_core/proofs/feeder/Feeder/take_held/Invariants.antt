use Rattle.std.proofs.Common.{◌≡◌, length}
use Rattle.reshuffler_core.specs.Machine.{Advances}
use Rattle.reshuffler_core.proofs.feeder.Feeder.take_held.Given as goal

abbrev pub invariant-held : goal.invariant-held
invariant-held l = record {
  spent : l.self.spent ≡ l.initial.self.spent;
  advances : Advances l.initial.self l.self l.initial.sends l.sends;
}

abbrev pub decreases-held : goal.decreases-held
decreases-held l = length l.self.held
