use Rattle.std.proofs.Common.{◌∙◌, ap, ◌+◌}
use Rattle.joiner_core.proofs.joiner.Joiner.settled_epoch.Goals as goal

pub returns : goal.returns
returns c =
    rw (← c.self.view_is) (λ s lists stands. c.settled.ensures ∙ stands.machine.between.settled
    ∙ ap (λ n. s.epoch + n) stands.machine.done)
