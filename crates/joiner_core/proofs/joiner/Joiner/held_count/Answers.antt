use Rattle.std.proofs.Common.{◌∙◌, ap, ◌^◌, ◌-◌}
use Rattle.std.specs.Prelude.{min}
use Rattle.joiner_law.specs.Law.{Taken}
use Rattle.joiner_core.specs.Machine.{state_of}
use Rattle.joiner_core.specs.Standing.{held_number}
use Rattle.joiner_core.proofs.CallerFacts.{held-law}
use Rattle.joiner_core.proofs.joiner.Joiner.held_count.Goals as goal

pub returns : goal.returns
returns c = rw (← c.self.view_is) (λ s lists stands.
    c.held_count.ensures
    ∙ ap (λ n. min n (2 ^ 64 - 1)) (held-law s lists (state_of c.self.inside.machine) stands.machine.between)
    ∙ ap (λ (t : Taken). min (held_number s lists t) (2 ^ 64 - 1)) stands.machine.taken)
