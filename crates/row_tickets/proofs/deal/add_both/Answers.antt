use Rattle.std.proofs.Common.{◌≡◌, ◌+◌, ◌++◌, ◌∙◌, flat_map, sym, ap, append_assoc}
use Rattle.std.proofs.Math.Nat.{mod-eq_of_lt}
use Rattle.row_tickets.specs.Share.{both_at}
use Rattle.row_tickets.proofs.Strides.{indices_from, indices_begin, indices_next, stays_of_p}
use Rattle.row_tickets.proofs.deal.add_both.Goals as goal

pub rows-init : goal.rows-init
rows-init c =
    let a = c.args in
    let at : c.from-i.result ≡ a.p = cc in
    record {
      of_p = rw at (mod-eq_of_lt c.requires.feeder);
      to_come = rw at (ap (λ is. a.places.now ++ flat_map (both_at a.rows_r a.rows_s) is)
          (sym (indices_begin a.feeders a.p c.max-rows.result c.requires.feeder)));
    }

pub rows-preserved : goal.rows-preserved
rows-preserved c =
    let a = c.args in
    let i = c.rows.i in
    let by : c.from-i-in-rows.result ≡ a.feeders = cc in
    let next = indices_next a.feeders a.p i c.max-rows.result c.requires.feeder c.rows.invariant.of_p
    c.rows-test.true in
    let later = flat_map (both_at a.rows_r a.rows_s) (indices_from a.feeders a.p (i + a.feeders) c.max-rows.result) in
    record {
      of_p = rw by (stays_of_p a.feeders i ∙ c.rows.invariant.of_p);
      to_come = rw by (ap (λ is. is ++ later) c.in_ok-add_index.ensures
          ∙ append_assoc c.rows.places (both_at a.rows_r a.rows_s i) later
          ∙ ap (λ is. c.rows.places ++ flat_map (both_at a.rows_r a.rows_s) is) (sym next) ∙ c.rows.invariant.to_come);
    }
