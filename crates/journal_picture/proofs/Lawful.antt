-- The points of a lawful journal are within the bound.
use Rattle.std.proofs.Common.{◌≡◌, subst, List, [], ◌∷◌}
use Rattle.std.specs.Prelude.{None, All, reverse}
use Rattle.std.specs.List.{AllByRecursion}
use Rattle.std.proofs.lemmas.List.{reverse-reverse}
use Rattle.std.proofs.lemmas.List.Elements.{All-from_recursion}
use Rattle.row_cells.proofs.Everywhere.{all-reverse}
use Rattle.load_controller.specs.declared.line.TurnLine.{TurnLine}
use Rattle.load_controller.specs.Journal.{Rules, Fits, Follows}
use Rattle.load_controller.proofs.Still.{still_is_near}
use Rattle.journal_picture.specs.Points.{points_of}
use Rattle.journal_picture.specs.Bound.{IsNearWhereStill, IsWithin}
use Rattle.journal_picture.proofs.Within.{points_within}

-- each line of a past that follows is near where it isn't moving
all_near : (rules : Rules) (first : TurnLine) (past : List TurnLine) → Fits rules first → rules.fixed ≡ None
    → Follows rules first past → AllByRecursion (IsNearWhereStill rules.k rules.weights) past
all_near rules first [] fits free follows = absurd follows
all_near rules first (line ∷ []) fits free follows =
    (λ still. still_is_near rules first line [] fits free follows still, tt)
all_near rules first (line ∷ before ∷ past) fits free follows = (
  λ still. still_is_near rules first line (before ∷ past) fits free follows still,
  all_near rules first (before ∷ past) fits free follows.2,
)

-- where no shift is fixed, each point of a journal that a controller makes is within the bound
pub stays_within : (rules : Rules) (first : TurnLine) (journal : List TurnLine) → Fits rules first → rules.fixed ≡ None
    → Follows rules first (reverse journal) → All IsWithin (points_of rules.k rules.weights journal)
stays_within rules first journal fits free follows =
    let near = IsNearWhereStill rules.k rules.weights in
    let each = all-reverse near (reverse journal) (all_near rules first (reverse journal) fits free follows) in
    points_within rules.k rules.weights journal
    (All-from_recursion near journal (subst (AllByRecursion near) (reverse-reverse journal) each))
