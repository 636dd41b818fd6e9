use Rattle.std.proofs.Common.{◌+◌, cond, lt-ltb, Some, None, ap, sym, subst}
use Rattle.epoch_tags.specs.declared.actor.Actor.TheVariants.{Feeder}
use Rattle.actor_core.specs.Rests.{AreMade, task_upto}
use Rattle.actor_core.proofs.WaveBeginnings.{made_at, one_made}
use Rattle.actor_core.proofs.waves.feeders_in_wave.Goals as goal

pub loop-p-preserved : goal.loop-p-preserved
loop-p-preserved c =
    let task = task_upto c.args.end c.args.input.now c.args.setting.now c.args.rest.now in
    let p = c.loop-p.p in
    let made = c.in_ok-feeder_in_wave.ensures in
    let at = ap (λ b. cond b (Some p) None) (lt-ltb p task.setting.feeders c.loop-p-test.true) in
    subst (AreMade task (p + 1)) (sym c.in_ok-push.ensures.items)
    (one_made task p c.loop-p.cores.items c.in_ok-feeder_in_wave.field-0 c.loop-p.invariant
    (made_at task (Feeder p) p c.in_ok-feeder_in_wave.field-0 at made.stands made.live made.given
    made.joins))
