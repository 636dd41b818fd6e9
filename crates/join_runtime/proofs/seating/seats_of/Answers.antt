use Rattle.std.proofs.Common.{length}
use Rattle.join_runtime.proofs.FirstServed.{served_seated}
use Rattle.join_runtime.proofs.MouthRows.{filled_awake}
use Rattle.join_runtime.proofs.NewSeats.{new_places, new_senders}
use Rattle.join_runtime.proofs.seating.seats_of.Goals as goal

pub give_all-requires-clause-senders : goal.give_all-requires-clause-senders
give_all-requires-clause-senders c = new_senders c.args.cast (length c.args.cores.items)
    c.args.cores.items c.in_ok-seats.seats.items c.in_ok-seats.mouths.items c.in_ok-seats.ensures c.requires.all

pub give_all-requires-clause-places : goal.give_all-requires-clause-places
give_all-requires-clause-places c = new_places c.args.cast (length c.args.cores.items)
    c.args.cores.items c.in_ok-seats.seats.items c.in_ok-seats.mouths.items c.in_ok-seats.ensures c.requires.all

pub wake_all-requires : goal.wake_all-requires
wake_all-requires c =
    served_seated c.args.cast c.args.cores.items c.give_all.new.seats.items c.requires.all
    c.requires.first
    (record {
      first = c.in_ok-seats.seats.items;
      mouths = c.in_ok-seats.mouths.items;
      new = c.in_ok-seats.ensures;
      filled = c.give_all.ensures;
    })

pub returns : goal.returns
returns c = record {
  first = c.in_ok-seats.seats.items;
  mouths = c.in_ok-seats.mouths.items;
  new = c.in_ok-seats.ensures;
  filled = filled_awake c.args.cast (length c.in_ok-seats.mouths.items) c.in_ok-seats.mouths.items
      c.in_ok-seats.seats.items c.give_all.new.seats.items c.wake_all.new.seats.items c.give_all.ensures
      c.wake_all.ensures;
}
