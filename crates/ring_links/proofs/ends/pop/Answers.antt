use Rattle.rtrb.specs.Ring.{known_items}
use Rattle.ring_links.proofs.KnownAtEnds.{known_after}
use Rattle.ring_links.proofs.ends.pop.Goals as goal

pub returns-in-Ok-clause-known : goal.returns-in-Ok-clause-known
returns-in-Ok-clause-known c =
    known_after c.in-Ok.m (known_items c.args.consumer.now) (known_items c.pop.new.self) c.in-Ok.ensures.ok.1
