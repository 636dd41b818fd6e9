use Rattle.std.proofs.Common.{◌≤◌, ◌<◌, ◌+◌, ◌∙◌, inl, inr, ap, arith, length, sym}
use Rattle.std.specs.List.{slice_get}
use Rattle.row_cells.specs.Shared.{part_of}
use Rattle.row_cells.proofs.SharedRows.{cells-past, cells-text, length-part, part-get, part-past}
use Rattle.row_cells.proofs.cells.text_of.Goals as goal

pub returns-in_default : goal.returns-in_default
returns-in_default c =
    let texts = c.args.sheet.now.texts in
    let far = c.in_default.ensures in
    let past : length texts ≤ c.args.first + c.args.place =
    omega (arith, far, c.len-all.ensures, c.len-all.type_inv) in
    cells-past (part_of texts c.args.first c.args.sheet.now.width) c.args.place
    (part-past texts c.args.first c.args.sheet.now.width c.args.place (inr past))

pub returns-then-at-all : goal.returns-then-at-all
returns-then-at-all c =
    let texts = c.args.sheet.now.texts in
    let at = c.in-Some.ensures.1 in
    let within : c.args.place < length (part_of texts c.args.first c.args.sheet.now.width) = omega (
      arith,
      length-part texts c.args.first c.args.sheet.now.width,
      c.if-place-sheet.true,
      c.if-at-all.true,
      at,
      c.len-all.ensures,
    ) in
    cells-text (part_of texts c.args.first c.args.sheet.now.width) c.args.place c.at.result.now
    (part-get texts c.args.first c.args.sheet.now.width c.args.place c.at.result.now within
    (sym (ap (slice_get texts) at) ∙ c.at.ensures))

pub returns-else-place-sheet : goal.returns-else-place-sheet
returns-else-place-sheet c =
    let texts = c.args.sheet.now.texts in
    let at = c.in-Some.ensures.1 in
    cells-past (part_of texts c.args.first c.args.sheet.now.width) c.args.place
    (part-past texts c.args.first c.args.sheet.now.width c.args.place (elim c.else-place-sheet.either [
      | inl both ↦ inr (omega (arith, both.1, at, c.len-all.ensures))
      | inr past ↦ inl past
    ]))
