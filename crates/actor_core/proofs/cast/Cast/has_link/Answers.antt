use Rattle.actor_core.proofs.Joined.{links}
use Rattle.actor_core.proofs.cast.Cast.has_link.Goals as goal

pub returns : goal.returns
returns c k grid = links k c.args.self.joiners c.args.self.feeders c.args.from c.args.to c.are_joined.result
    c.are_joined.ensures.up c.are_joined.ensures.down grid
