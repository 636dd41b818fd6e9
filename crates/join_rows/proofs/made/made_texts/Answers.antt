use Rattle.std.proofs.Common.{◌≡◌, ◌∙◌, ◌++◌, ap, arith, subst, sym}
use Rattle.std.specs.List.{flat_map}
use Rattle.row_cells.specs.Shared.{AreRowsOf}
use Rattle.join_rows.specs.Made.{made_fields}
use Rattle.join_rows.proofs.MadeTables.{made-are_rows, made-more, made_rows}
use Rattle.join_rows.proofs.made.made_texts.Goals as goal

pub loop-place-preserved : goal.loop-place-preserved
loop-place-preserved c =
    c.in_ok-add_row.ensures
    ∙ ap (λ texts. texts ++ made_fields c.args.side c.loop-place.place) c.loop-place.invariant
    ∙ sym (made-more c.args.side c.loop-place.place)

pub returns : goal.returns
returns c =
    let whole : c.loop-place.place ≡ c.args.count = omega (arith, c.loop-place.auto.place-end, c.loop-place-test.false) in
    subst (AreRowsOf (made_rows c.args.side c.args.count) 3 c.args.count)
    (sym (c.loop-place.invariant ∙ ap (λ count. flat_map (λ row. row) (made_rows c.args.side count)) whole))
    (made-are_rows c.args.side c.args.count)
