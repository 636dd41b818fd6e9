use Rattle.std.proofs.Common.{◌↔◌, ap, subst}
use Rattle.std.specs.Prelude.{IsTrue}
use Rattle.epoch_tags.specs.Links.{HasLink}
use Rattle.actor_core.specs.declared.cast.Cast.{Cast}
use Rattle.link_trace.proofs.world.World.has.Goals as goal

pub returns-clause-of_run : goal.returns-clause-of_run
returns-clause-of_run c task lists stands =
    let k = task.setting.k in
    subst (λ (cast : Cast). IsTrue c.has_link.result ↔ HasLink k cast.feeders c.args.from c.args.to)
    stands.machines.cast_is
    (c.has_link.ensures k (ap (λ (cast : Cast). cast.joiners) stands.machines.cast_is))
