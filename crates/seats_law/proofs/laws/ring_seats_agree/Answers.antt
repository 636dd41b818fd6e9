use Rattle.ring_runtime.specs.Bouts.{cores_in, lists_in}
use Rattle.actor_core.proofs.CompleteAnswer.{agrees}
use Rattle.seats_law.proofs.laws.ring_seats_agree.Goals as goal

pub returns : goal.returns
returns c = λ task v stands fronts. agrees task v.cast (cores_in v) (lists_in v) stands fronts
