use Rattle.std.proofs.Math.Pow.{pow_mono}
use Rattle.actor_core.proofs.start.joiners_of.Goals as goal

pub returns-clause-few : goal.returns-clause-few
returns-clause-few c = rw c.power.ensures (pow_mono {i = c.args.setting.now.k} {j = 8} c.requires)
