use Rattle.std.proofs.Common.{◌≡◌, ◌∙◌, ◌∷◌, ◌++◌, [], ap}
use Rattle.std.proofs.lemmas.List.{map-append}
use Rattle.row_cells.specs.Cells.{cell_of, cells_of}
use Rattle.row_cells.proofs.SharedRows.{cell-is}
use Rattle.row_cells.proofs.cells.Cells.push.Goals as goal

pub returns-clause-ok : goal.returns-clause-ok
returns-clause-ok c =
    let own : cells_of c.add_texts.new.texts ≡ c.args.self.now =
    c.in_ok-add_texts.ensures ∙ ap (λ texts. cells_of texts ++ c.args.self.now) c.new-texts.ensures in
    c.branch.view_is ∙ c.in_ok-self-inside.ensures
    ∙ ap cells_of c.in_ok-push.ensures.ok
    ∙ map-append cell_of c.add_texts.new.texts (c.as_slice.result.now ∷ [])
    ∙ ap (λ cells. cells ++ cell_of c.as_slice.result.now ∷ []) own
    ∙ ap (λ new. c.args.self.now ++ new ∷ []) (ap cell_of c.as_slice.ensures ∙ cell-is c.args.cell)
