use Rattle.std.proofs.Common.{subst, IsTrue, ◌↔◌}
use Rattle.joiner_law.specs.Law.{Taken, IsFinished}
use Rattle.joiner_core.proofs.Finished.{finished-law, law-finished}
use Rattle.joiner_core.proofs.CallerFacts.{told-by}
use Rattle.joiner_core.specs.Machine.{state_of}
use Rattle.joiner_core.proofs.joiner.Joiner.finished.Goals as goal

pub returns : goal.returns
returns c = rw (← c.self.view_is) (λ s lists stands.
    let m = (state_of c.self.inside.machine) in
    let is = stands.machine.between in
    subst (λ (t : Taken). IsTrue c.finished.result ↔ IsFinished s lists t) stands.machine.taken
    (told-by c.finished.result
    (λ up. finished-law s lists m is (c.finished.ensures.up up))
    (λ down over. c.finished.ensures.down down (law-finished s lists m is over))))
