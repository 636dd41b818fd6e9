use Rattle.std.proofs.Common.{◌∙◌, Some, ap, get_or, length, sym}
use Rattle.std.proofs.lemmas.Option.{slice_get-get_or}
use Rattle.row_cells.proofs.CutTexts.{begin-end, cut-at, end-within}
use Rattle.row_cells.proofs.texts.text_at.Goals as goal

pub piece-requires-clause-rises : goal.piece-requires-clause-rises
piece-requires-clause-rises c =
    begin-end 0 c.args.ends.now (length c.args.bytes.now) c.args.place c.begin_of.result
    (get_or c.args.ends.now c.args.place 0) c.requires.ends c.begin_of.ensures
    (slice_get-get_or c.args.ends.now c.args.place 0 c.requires.within)

pub piece-requires-clause-within : goal.piece-requires-clause-within
piece-requires-clause-within c =
    end-within 0 c.args.ends.now (length c.args.bytes.now) c.args.place (get_or c.args.ends.now c.args.place 0)
    c.requires.ends (slice_get-get_or c.args.ends.now c.args.place 0 c.requires.within)

pub returns : goal.returns
returns c =
    cut-at 0 c.args.ends.now c.args.bytes.now c.args.place c.begin_of.result (get_or c.args.ends.now c.args.place 0)
    c.begin_of.ensures (slice_get-get_or c.args.ends.now c.args.place 0 c.requires.within)
    ∙ ap (λ text. Some text) (sym c.piece.ensures)
