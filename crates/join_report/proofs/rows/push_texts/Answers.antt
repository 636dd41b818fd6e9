use Rattle.std.proofs.Common.{◌<◌, ◌∙◌, ◌∷◌, ◌++◌, [], ap, arith, length, map, sym, take}
use Rattle.std.proofs.lemmas.List.{append_assoc, map-append, take_all}
use Rattle.row_cells.proofs.SharedRows.{texts_of-more}
use Rattle.join_report.specs.RowLines.{texts_of}
use Rattle.join_report.proofs.rows.push_texts.Goals as goal

pub loop-place-preserved : goal.loop-place-preserved
loop-place-preserved c =
    let within : c.loop-place.place < length c.args.row.now =
    omega (arith, c.loop-place-test.true, c.len-place-end.ensures) in
    let before = map (λ field. field.now) c.args.fields.now.items in
    ap (map (λ field. field.now)) c.in_ok-push.ensures.items
    ∙ map-append (λ field. field.now) c.loop-place.fields.items (c.text_at.result ∷ [])
    ∙ ap (λ texts. texts ++ c.text_at.result.now ∷ []) c.loop-place.invariant
    ∙ append_assoc before (texts_of (take c.loop-place.place c.args.row.now)) (c.text_at.result.now ∷ [])
    ∙ ap (λ texts. before ++ texts) (sym (texts_of-more c.args.row.now c.loop-place.place c.text_at.result.now within
    c.text_at.ensures))

pub returns : goal.returns
returns c =
    c.loop-place.invariant
    ∙ ap (λ cells. map (λ field. field.now) c.args.fields.now.items ++ texts_of cells)
    (take_all c.loop-place.place c.args.row.now (omega (arith, c.loop-place-test.false, c.len-place-end.ensures)))
