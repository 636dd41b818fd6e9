use Rattle.std.proofs.Common.{subst, sym}
use Rattle.joiner_core.specs.Standing.{JoinerState, IsSpent}
use Rattle.joiner_core.proofs.CallerFacts.{sound-at-work}
use Rattle.joiner_core.specs.Machine.{state_of}
use Rattle.joiner_core.proofs.joiner.Joiner.hears.Goals as goal

pub hears-requires : goal.hears-requires
hears-requires c =
    let going = subst (λ (z : JoinerState). ¬ (IsSpent z)) (sym c.self.view_is) c.requires in
    (sound-at-work (record { machine = (state_of c.self.inside.machine); spent = c.self.inside.spent })
    c.self.invariant going).within.small
