use Rattle.std.proofs.Common.{◌+◌, sym, subst}
use Rattle.actor_core.specs.Tasks.{task_of}
use Rattle.join_runtime.specs.Seating.{AreFresh}
use Rattle.join_runtime.proofs.Starts.{none_fresh, one_fresh}
use Rattle.join_runtime.proofs.seating.first_cores.Goals as goal

pub loop-n-init : goal.loop-n-init
loop-n-init c =
    let task = task_of c.args.input.now c.args.setting.now in
    subst (AreFresh task 0) (sym c.new-cores.ensures.items) (none_fresh task)

pub loop-n-preserved : goal.loop-n-preserved
loop-n-preserved c =
    let task = task_of c.args.input.now c.args.setting.now in
    let own = c.in_ok-core_at.ensures in
    subst (AreFresh task (c.loop-n.n + 1)) (sym c.in_ok-push.ensures.items)
    (one_fresh task c.loop-n.n c.loop-n.cores.items c.in_ok-core_at.field-0 c.loop-n.invariant
    (record { stands = own.stands; live = own.live; given = own.given }))
