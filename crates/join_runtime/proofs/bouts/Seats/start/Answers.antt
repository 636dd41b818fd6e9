use Rattle.std.proofs.Common.{◌∙◌, false, length, refl}
use Rattle.actor_core.specs.Tasks.{task_of}
use Rattle.join_runtime.specs.Seating.{AreFresh}
use Rattle.join_runtime.proofs.Starts.{start_empty, start_given, start_joined, start_linked, start_settled}
use Rattle.join_runtime.proofs.Starts.{start_stands}
use Rattle.join_runtime.proofs.bouts.Seats.start.Goals as goal

pub seats_of-requires-clause-all : goal.seats_of-requires-clause-all
seats_of-requires-clause-all c = c.in_ok-cores.ensures.all ∙ c.count.ensures

pub seats_of-requires-clause-first : goal.seats_of-requires-clause-first
seats_of-requires-clause-first c =
    record {
      task = task_of c.args.input.now c.args.setting.now;
      cast_is = c.of-cast.ensures.of;
      fresh = record { all = refl; each = c.in_ok-cores.ensures.each };
    }

pub invariant_of-result : goal.invariant_of-result
invariant_of-result c =
    let task = task_of c.args.input.now c.args.setting.now in
    let cores = c.in_ok-cores.cores.items in
    let all = c.in_ok-cores.ensures.all ∙ c.count.ensures in (
      start_joined task c.of-cast.result cores c.in_ok-seats.seats.items c.of-cast.ensures.of all
          c.in_ok-seats.ensures,
      λ z. start_settled task c.of-cast.result cores c.in_ok-seats.seats.items c.of-cast.ensures.of all
          c.in_ok-seats.ensures (record { all = refl; each = c.in_ok-cores.ensures.each }),
    )

pub returns : goal.returns
returns c =
    let task = task_of c.args.input.now c.args.setting.now in
    let cast = c.of-cast.result in
    let is = c.of-cast.ensures.of in
    let cores = c.in_ok-cores.cores.items in
    let seats = c.in_ok-seats.seats.items in
    let all = c.in_ok-cores.ensures.all ∙ c.count.ensures in
    let seated = c.in_ok-seats.ensures in
    let fresh : AreFresh task (length cores) cores = record { all = refl; each = c.in_ok-cores.ensures.each } in
    record {
      stands = start_stands task cast cores seats is all seated fresh false;
      empty = start_empty task cast cores seats is all seated false;
      links = start_linked task cast cores seats is all seated false;
      given = start_given task cast cores seats is all seated fresh false;
      at_work = refl;
    }
