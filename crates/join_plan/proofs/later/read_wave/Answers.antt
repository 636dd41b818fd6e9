use Rattle.std.proofs.Common.{[], ◌∷◌, arith, refl}
use Rattle.row_cells.specs.declared.table.Side.TheVariants.{R, S}
use Rattle.join_plan.specs.Files.{Source}
use Rattle.join_plan.proofs.LaterFiles.{seen_last, seen_next, seen_refused}
use Rattle.join_plan.proofs.Refusals.{later_refuses_if}
use Rattle.join_plan.proofs.later.read_wave.Goals as goal

pub returns-in-Ok-clause-seen : goal.returns-in-Ok-clause-seen
returns-in-Ok-clause-seen g c read memory =
    let of_r : Source = record { side = R; wave = c.args.number; name = c.args.wave.now.name_r.now } in
    let of_s : Source = record { side = S; wave = c.args.number; name = c.args.wave.now.name_s.now } in
    seen_next (g.H.Shelf.told c.args.shelf.now) (g.H.Shelf.picked c.args.shelf.now)
    (g.H.Shelf.picked c.read_next.new.shelf) (g.H.Shelf.picked c.read_next-in-Ok.new.shelf) c.args.waves c.in-Ok.waves
    of_r (of_s ∷ []) c.read_next-in-Ok.result (c.in-Ok.ensures.seen (λ e. cc e) (λ e. cc e))
    (seen_last (g.H.Shelf.told c.args.shelf.now) (g.H.Shelf.picked c.read_next.new.shelf)
    (g.H.Shelf.picked c.read_next-in-Ok.new.shelf) c.in-Ok.waves of_s c.read_next-in-Ok.result
    (rw c.in-Ok.ensures.told at (c.read_next-in-Ok.ensures.seen read memory)))

pub returns-in-Err-clause-seen : goal.returns-in-Err-clause-seen
returns-in-Err-clause-seen g c read memory =
    let of_r : Source = record { side = R; wave = c.args.number; name = c.args.wave.now.name_r.now } in
    let of_s : Source = record { side = S; wave = c.args.number; name = c.args.wave.now.name_s.now } in
    seen_refused (g.H.Shelf.told c.args.shelf.now) (g.H.Shelf.picked c.args.shelf.now)
    (g.H.Shelf.picked c.read_next.new.shelf) c.args.waves of_r (of_s ∷ []) c.in-Err.refusal
    (c.in-Err.ensures.seen read memory)

pub returns-in-Ok-clause-refused : goal.returns-in-Ok-clause-refused
returns-in-Ok-clause-refused g c asked are =
    later_refuses_if (g.H.Shelf.faults c.args.shelf.now) (g.H.Shelf.faults c.read_next.new.shelf)
    (g.H.Shelf.faults c.read_next-in-Ok.new.shelf) (g.H.Shelf.told c.args.shelf.now)
    (g.H.Shelf.told c.read_next.new.shelf) (g.H.Shelf.picked c.read_next-in-Ok.new.shelf) asked
    c.read_next-in-Ok.result c.in-Ok.ensures.rises c.in-Ok.ensures.told
    (c.read_next-in-Ok.ensures.refused asked (are _ (1, omega arith, refl)))

pub returns-in-Err-clause-refused : goal.returns-in-Err-clause-refused
returns-in-Err-clause-refused g c asked are = c.in-Err.ensures.refused asked (are _ (0, omega arith, refl))
