use Rattle.std.proofs.Common.{◌++◌, ◌∷◌, [], ap, sym, subst, ◌∙◌}
use Rattle.actor_core.specs.Numbers.{cast_of, count_of}
use Rattle.actor_core.specs.Rests.{AreMade, task_upto}
use Rattle.actor_core.proofs.WaveBeginnings.{made_stand, whole_made}
use Rattle.actor_core.proofs.waves.cores_in_wave.Goals as goal

pub returns-clause-made : goal.returns-clause-made
returns-clause-made c =
    let task = task_upto c.args.end c.args.input.now c.args.setting.now c.args.rest in
    let controller = c.in_ok-controller_in_wave in
    let collector = c.in_ok-collector in
    let items = c.in_ok-push-2.ensures.items ∙ ap (λ cores. cores ++ collector.field-0 ∷ [])
    c.in_ok-push.ensures.items in
    subst (AreMade task (count_of (cast_of task.setting))) (sym items)
    (whole_made task c.in_ok-cores.cores.items controller.field-0 collector.field-0
    c.in_ok-cores.ensures controller.ensures.stands controller.ensures.live controller.ensures.given
    collector.ensures.stands collector.ensures.live collector.ensures.given)

pub returns-clause-stands : goal.returns-clause-stands
returns-clause-stands c =
    made_stand (task_upto c.args.end c.args.input.now c.args.setting.now c.args.rest) c.push-2.new.self.items
    (returns-clause-made c)
