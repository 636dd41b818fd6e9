use Rattle.std.proofs.Common.{◌<◌, ◌∙◌, ◌∷◌, ◌++◌, [], ap, arith, length, sym, take}
use Rattle.std.proofs.lemmas.List.{append_assoc, map-append, take_all}
use Rattle.row_cells.specs.Cells.{cell_of, cells_of}
use Rattle.row_cells.proofs.SharedRows.{cells-more}
use Rattle.row_cells.proofs.cells.Cells.add_texts.Goals as goal

pub loop-place-preserved : goal.loop-place-preserved
loop-place-preserved c =
    let within : c.loop-place.place < length c.args.self.now =
    omega (arith, c.loop-place-test.true, c.len-place-end.ensures) in
    let new = cell_of c.text_at.result.now ∷ [] in
    ap cells_of c.in_ok-push.ensures.ok
    ∙ map-append cell_of c.loop-place.texts (c.text_at.result.now ∷ [])
    ∙ ap (λ cells. cells ++ new) c.loop-place.invariant
    ∙ append_assoc (cells_of c.args.texts.now) (take c.loop-place.place c.args.self.now) new
    ∙ ap (λ cells. cells_of c.args.texts.now ++ cells) (sym (cells-more c.args.self.now c.loop-place.place
    c.text_at.result.now within c.text_at.ensures))

pub returns : goal.returns
returns c =
    c.loop-place.invariant
    ∙ ap (λ cells. cells_of c.args.texts.now ++ cells)
    (take_all c.loop-place.place c.args.self.now (omega (arith, c.loop-place-test.false, c.len-place-end.ensures)))
