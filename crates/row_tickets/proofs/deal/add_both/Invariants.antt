use Rattle.std.proofs.Common.{◌-◌, ◌≡◌, ◌%◌, ◌++◌, flat_map}
use Rattle.row_tickets.specs.Share.{both_at, indices}
use Rattle.row_tickets.proofs.Strides.{indices_from}
use Rattle.row_tickets.proofs.deal.add_both.Given as goal

abbrev pub invariant-rows : goal.invariant-rows
invariant-rows l = record {
  of_p : l.i % l.feeders ≡ l.p;
  to_come : l.places ++ flat_map (both_at l.rows_r l.rows_s) (indices_from l.feeders l.p l.i l.rows)
      ≡ l.initial.places ++ flat_map (both_at l.rows_r l.rows_s) (indices l.feeders l.p l.rows);
}

abbrev pub decreases-rows : goal.decreases-rows
decreases-rows l = l.rows - l.i
