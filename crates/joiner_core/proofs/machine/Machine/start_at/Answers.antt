use Rattle.std.proofs.Common.{refl}
use Rattle.joiner_core.proofs.machine.Machine.start_at.Goals as goal

pub returns-in-Ok : goal.returns-in-Ok
returns-in-Ok c = rw c.settled_at.ensures (record {
  at_k = refl;
  at_id = refl;
  at_shift = refl;
  at_epoch = refl;
  at_feeders = refl;
  at_theta = refl;
  store = refl;
  moved = refl;
  step = refl;
  ended = c.in-Ok.ensures.ended;
  down = c.in-Ok.ensures.down;
  of_feeders = c.in-Ok.ensures.of_feeders;
  of_joiners = c.in-Ok.ensures.of_joiners;
  no_feeders = c.in-Ok.ensures.no_feeders;
  no_joiners = c.in-Ok.ensures.no_joiners;
  told = refl;
})
