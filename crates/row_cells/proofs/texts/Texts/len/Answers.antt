use Rattle.std.proofs.Common.{◌∙◌, ap, length, sym}
use Rattle.row_cells.proofs.CutTexts.{length-cut}
use Rattle.row_cells.proofs.texts.Texts.len.Goals as goal

pub returns : goal.returns
returns c =
    ap length c.as_slice.ensures.value
    ∙ sym (length-cut 0 c.self.inside.ends.items c.self.inside.bytes.items)
    ∙ ap length c.self.view_is
