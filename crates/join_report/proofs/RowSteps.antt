-- One more record behind the others.
use Rattle.std.proofs.Common.{◌≡◌, ◌∙◌, ◌<◌, ◌+◌, ℕ, List, [], ◌∷◌, ◌++◌, length, take, get_or, ap}
use Rattle.std.proofs.lemmas.List.{append-nil, take_more}
use Rattle.std.proofs.lemmas.Grind.{flat_map-append}
use Rattle.epoch_tags.specs.declared.tuple.Pair.{Pair}
use Rattle.row_cells.specs.declared.table.Cell.{Cell}
use Rattle.join_report.specs.RowLines.{row_line, row_lines}

-- the records of one pair more are those of the pairs before it and then its own
pub row_lines-more : (rows_r rows_s : List (List Cell)) (pairs : List Pair) (place : ℕ) (pair : Pair)
    → place < length pairs
    → row_lines rows_r rows_s (take (place + 1) pairs) ≡ row_lines rows_r rows_s (take place pairs)
    ++ row_line rows_r rows_s (get_or pairs place pair)
row_lines-more rows_r rows_s pairs place pair within =
    let last = get_or pairs place pair in
    ap (row_lines rows_r rows_s) (take_more pairs place pair within)
    ∙ flat_map-append (row_line rows_r rows_s) (take place pairs) (last ∷ [])
    ∙ ap (λ line. row_lines rows_r rows_s (take place pairs) ++ line) (append-nil (row_line rows_r rows_s last))
