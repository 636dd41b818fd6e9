use Rattle.std.proofs.Common.{◌≡◌, ◌*◌, ◌∙◌, ◌∷◌, ◌++◌, [], Some, ap, arith, length, map, sym, take}
use Rattle.std.proofs.lemmas.List.{map-append}
use Rattle.row_cells.specs.Cells.{cells_of}
use Rattle.row_cells.specs.Shared.{part_of, row_at}
use Rattle.row_cells.proofs.SharedRows.{before-row, rows-all, rows-more}
use Rattle.row_cells.proofs.cells.rows_over.Goals as goal

pub overflow_mul-place : goal.overflow_mul-place
overflow_mul-place c = let before = before-row c.loop-place.place c.args.count c.args.width (length c.args.texts) c.loop-place-test.true
    c.requires.whole in
    omega (arith, before, c.len-all.ensures, c.len-all.type_inv)

pub loop-place-preserved : goal.loop-place-preserved
loop-place-preserved c rows are =
    let same : c.in_ok-try_clone.field-0.value ≡ record { texts = c.args.texts; width = c.args.width } =
    c.in_ok-try_clone.ensures ∙ c.in_ok-shared.ensures.ok in
    c.in_ok-push.ensures.ok
    ∙ ap (λ made. made ++ (row_at (Some c.in_ok-try_clone.field-0) (c.loop-place.place * c.args.width) ∷ []))
    (c.loop-place.invariant rows are)
    ∙ ap (λ sheet. map cells_of (take c.loop-place.place rows)
    ++ (cells_of (part_of sheet.texts (c.loop-place.place * c.args.width) sheet.width) ∷ [])) same
    ∙ sym (map-append cells_of (take c.loop-place.place rows)
    (part_of c.args.texts (c.loop-place.place * c.args.width) c.args.width ∷ []))
    ∙ ap (map cells_of) (sym (rows-more rows c.args.width c.args.count c.args.texts c.loop-place.place are
    c.loop-place-test.true))

pub returns : goal.returns
returns c rows are = c.loop-place.invariant rows are
    ∙ ap (map cells_of) (rows-all rows c.args.width c.args.count c.args.texts c.loop-place.place are c.loop-place-test.false)
