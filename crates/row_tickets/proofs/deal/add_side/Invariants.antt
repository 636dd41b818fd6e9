use Rattle.std.proofs.Common.{◌-◌, ◌≡◌, ◌%◌, ◌++◌, map}
use Rattle.row_tickets.specs.Share.{place_at, share_of}
use Rattle.row_tickets.proofs.Strides.{indices_from}
use Rattle.row_tickets.proofs.deal.add_side.Given as goal

abbrev pub invariant-rows : goal.invariant-rows
invariant-rows l = record {
  of_p : l.i % l.feeders ≡ l.p;
  to_come : l.places ++ map (place_at l.side) (indices_from l.feeders l.p l.i l.rows)
      ≡ l.initial.places ++ share_of l.feeders l.p l.side l.rows;
}

abbrev pub decreases-rows : goal.decreases-rows
decreases-rows l = l.rows - l.i
