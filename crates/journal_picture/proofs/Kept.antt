-- Each line with rows of a lawful journal has its point.
use Rattle.std.proofs.Common.{◌≡◌, ◌≤◌, ◌^◌, ℕ, true, ap, subst, refl, List, [], ◌∷◌}
use Rattle.std.specs.Prelude.{All, nat_le, filter, map, reverse}
use Rattle.std.specs.List.{AllByRecursion}
use Rattle.std.proofs.lemmas.Bool.{le-leb}
use Rattle.std.proofs.lemmas.List.{reverse-reverse}
use Rattle.std.proofs.lemmas.List.Elements.{recursion_from_All}
use Rattle.row_cells.proofs.Everywhere.{all-reverse}
use Rattle.load_controller.specs.declared.line.TurnLine.{TurnLine}
use Rattle.load_controller.specs.Journal.{Rules, Fits, Follows}
use Rattle.load_controller.proofs.Bound.{shifts_within}
use Rattle.journal_picture.specs.Points.{IsFew, counts_rows, has_point, point_of, points_of}

-- a line of the grid with not too many rows has a point where it counts a row
has_where_rows : (k : ℕ) (line : TurnLine) → line.shift ≤ k → IsFew line → has_point k line ≡ counts_rows line
has_where_rows k line within few =
    let of_grid : nat_le line.shift k ≡ true = le-leb line.shift k within in
    let few_r : nat_le line.rows_r (2 ^ 32) ≡ true = le-leb line.rows_r (2 ^ 32) few.few_r in
    let few_s : nat_le line.rows_s (2 ^ 32) ≡ true = le-leb line.rows_s (2 ^ 32) few.few_s in
    rw (of_grid, few_r, few_s)

-- so the same lines of a journal are kept
same_kept : (k : ℕ) (journal : List TurnLine) → AllByRecursion (λ line. line.shift ≤ k) journal
    → AllByRecursion IsFew journal → filter (has_point k) journal ≡ filter counts_rows journal
same_kept k [] within few = refl
same_kept k (line ∷ journal) (within, others_within) (few, others_few) =
    let here = has_where_rows k line within few in
    let others = same_kept k journal others_within others_few in
    rw (here, others)

-- no shift of a past is past the grid
past_within : (rules : Rules) (first : TurnLine) (past : List TurnLine) → Fits rules first → Follows rules first past
    → AllByRecursion (λ line. line.shift ≤ rules.k) past
past_within rules first [] fits follows = absurd follows
past_within rules first (line ∷ past) fits follows = shifts_within rules first line past fits follows

-- in a journal that a controller makes of not too many rows, each line with rows has its point
pub each_has_its_point : (rules : Rules) (first : TurnLine) (journal : List TurnLine) → Fits rules first
    → Follows rules first (reverse journal) → All IsFew journal
    → points_of rules.k rules.weights journal ≡ map (point_of rules.k rules.weights) (filter counts_rows journal)
each_has_its_point rules first journal fits follows few =
    let IsOfGrid : TurnLine → Type 0 = λ line. line.shift ≤ rules.k in
    let back = all-reverse IsOfGrid (reverse journal) (past_within rules first (reverse journal) fits follows) in
    ap (map (point_of rules.k rules.weights))
    (same_kept rules.k journal (subst (AllByRecursion IsOfGrid) (reverse-reverse journal) back)
    (recursion_from_All IsFew journal few))
