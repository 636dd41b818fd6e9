use Rattle.std.proofs.Common.{◌≡◌, ◌+◌, ◌++◌, ◌∷◌, ◌∙◌, [], map, sym, ap, append_assoc}
use Rattle.std.proofs.Math.Nat.{mod-eq_of_lt}
use Rattle.row_tickets.specs.Share.{place_at}
use Rattle.row_tickets.proofs.Strides.{indices_from, indices_begin, indices_next, stays_of_p}
use Rattle.row_tickets.proofs.deal.add_side.Goals as goal

pub rows-init : goal.rows-init
rows-init c =
    let a = c.args in
    let at : c.from-i.result ≡ a.p = cc in
    record {
      of_p = rw at (mod-eq_of_lt c.requires.feeder);
      to_come = rw at (ap (λ is. a.places.now ++ map (place_at a.side) is)
          (sym (indices_begin a.feeders a.p a.rows c.requires.feeder)));
    }

pub rows-preserved : goal.rows-preserved
rows-preserved c =
    let a = c.args in
    let i = c.rows.i in
    let by : c.from-i-in-rows.result ≡ a.feeders = cc in
    let next = indices_next a.feeders a.p i a.rows c.requires.feeder c.rows.invariant.of_p c.rows-test.true in
    let later = map (place_at a.side) (indices_from a.feeders a.p (i + a.feeders) a.rows) in
    record {
      of_p = rw by (stays_of_p a.feeders i ∙ c.rows.invariant.of_p);
      to_come = rw by (ap (λ is. is ++ later) c.in_ok-push.ensures.ok
          ∙ append_assoc c.rows.places (place_at a.side i ∷ []) later
          ∙ ap (λ is. c.rows.places ++ map (place_at a.side) is) (sym next) ∙ c.rows.invariant.to_come);
    }
