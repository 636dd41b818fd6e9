-- Two machines that have just begun alike are one.
use Rattle.std.proofs.Common.{sym, ap, ◌∙◌}
use Rattle.joiner_core.proofs.OneBeginning.{one_beginning}
use Rattle.actor_core.specs.FirstCores.{FirstCoresAreOne}
use Rattle.actor_core.specs.Standing.{OfFeeder, OfJoiner, OfController, OfCollector}
use Rattle.actor_core.specs.declared.machines.Core.TheVariants.{Joiner as TheJoiner}

-- two machines that have just begun alike are one
pub one_first : FirstCoresAreOne
one_first theta (OfFeeder p feeders start) one two is is' = is ∙ sym is'
one_first theta (OfJoiner s) one two is is' =
    is.is ∙ ap TheJoiner (one_beginning s.k s.id s.shift s.epoch s.feeders theta s.base is.joiner is'.joiner is.begun
    is'.begun) ∙ sym is'.is
one_first theta (OfController start) one two is is' = is ∙ sym is'
one_first theta (OfCollector joiners) one two is is' = is ∙ sym is'
