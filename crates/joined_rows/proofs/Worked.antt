-- Worked rows: joined names, and the joined row of a pair.
use Rattle.std.proofs.Common.{◌≡◌, [], ◌∷◌, refl}
use Rattle.std.specs.Prelude.{codes}
use Rattle.row_cells.specs.Cells.{cell_of}
use Rattle.joined_rows.specs.Joined.{joined_names, joined_row}

-- `id` and `id` come to be `r_id` and `s_id`
pub two_names : joined_names (codes "id" ∷ []) (codes "id" ∷ []) ≡ codes "r_id" ∷ codes "s_id" ∷ []
two_names = refl

-- the second row of R, and then the first of S
pub a_row : joined_row ([] ∷ (cell_of (codes "a") ∷ []) ∷ []) ((cell_of (codes "b") ∷ cell_of (codes "c") ∷ []) ∷ [])
    (record { i = 1; j = 0 })
    ≡ cell_of (codes "a") ∷ cell_of (codes "b") ∷ cell_of (codes "c") ∷ []
a_row = refl
