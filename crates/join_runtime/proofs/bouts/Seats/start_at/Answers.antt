use Rattle.std.proofs.Common.{◌∙◌, ap, false, refl, sym}
use Rattle.actor_core.specs.Numbers.{count_of}
use Rattle.actor_core.specs.Rests.{task_upto}
use Rattle.actor_core.proofs.LaterEnds.{stands_upto}
use Rattle.join_runtime.proofs.Starts.{made_fresh, start_empty, start_given, start_joined, start_joins, start_linked}
use Rattle.join_runtime.proofs.Starts.{start_settled, start_stands}
use Rattle.join_runtime.proofs.bouts.Seats.start_at.Goals as goal

pub cores_in_wave-requires-clause-end : goal.cores_in_wave-requires-clause-end
cores_in_wave-requires-clause-end c = c.requires.end.within

pub cores_in_wave-requires-clause-rest : goal.cores_in_wave-requires-clause-rest
cores_in_wave-requires-clause-rest c =
    stands_upto c.args.end c.args.input.now c.args.setting.now c.args.rest c.requires.end c.requires.rest

pub seats_of-requires-clause-all : goal.seats_of-requires-clause-all
seats_of-requires-clause-all c = c.in_ok-cores.ensures.made.all ∙ ap count_of (sym c.of-cast.ensures.of)

pub seats_of-requires-clause-first : goal.seats_of-requires-clause-first
seats_of-requires-clause-first c =
    let task = task_upto c.args.end c.args.input.now c.args.setting.now c.args.rest in
    record {
      task = task;
      cast_is = c.of-cast.ensures.of;
      fresh = made_fresh task _ c.in_ok-cores.cores.items c.in_ok-cores.ensures.made;
    }

pub invariant_of-result : goal.invariant_of-result
invariant_of-result c =
    let task = task_upto c.args.end c.args.input.now c.args.setting.now c.args.rest in
    let cores = c.in_ok-cores.cores.items in
    let all = c.in_ok-cores.ensures.made.all ∙ ap count_of (sym c.of-cast.ensures.of) in (
      start_joined task c.of-cast.result cores c.in_ok-seats.seats.items c.of-cast.ensures.of all
          c.in_ok-seats.ensures,
      λ z. start_settled task c.of-cast.result cores c.in_ok-seats.seats.items c.of-cast.ensures.of all
          c.in_ok-seats.ensures (made_fresh task _ cores c.in_ok-cores.ensures.made),
    )

pub returns : goal.returns
returns c =
    let task = task_upto c.args.end c.args.input.now c.args.setting.now c.args.rest in
    let cast = c.of-cast.result in
    let is = c.of-cast.ensures.of in
    let cores = c.in_ok-cores.cores.items in
    let seats = c.in_ok-seats.seats.items in
    let made = c.in_ok-cores.ensures.made in
    let all = made.all ∙ ap count_of (sym is) in
    let seated = c.in_ok-seats.ensures in
    let fresh = made_fresh task _ cores made in
    record {
      stands = start_stands task cast cores seats is all seated fresh false;
      empty = start_empty task cast cores seats is all seated false;
      joins = start_joins task cast cores seats is all seated c.args.input.now.theta
          (λ n core is. (made.each n core is).joins);
      links = start_linked task cast cores seats is all seated false;
      given = start_given task cast cores seats is all seated fresh false;
      at_work = refl;
    }
