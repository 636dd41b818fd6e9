-- How long the sums of a predicate are.
use Rattle.std.specs.Prelude.{ℕ, max, List, [], ◌∷◌, length}
use Rattle.theta_tree.specs.declared.tree.Pred.{Pred, fold-Pred}
use Rattle.theta_tree.specs.declared.tree.Pred.TheOpen.{Pred-F}

-- the greatest of some numbers, or 0
abbrev pub longest : List ℕ → ℕ
longest [] = 0
longest (n ∷ ns) = max n (longest ns)

-- one step of longest_sum, at a predicate whose parts have theirs
abbrev pub length_step : Pred-F ℕ → ℕ
length_step (Pred-F.Or members) = longest members.items
length_step (Pred-F.And members) = longest members.items
length_step (Pred-F.Not member) = member.value
length_step (Pred-F.Num left op right) = max (length left) (length right)
length_step (Pred-F.Abs sum op bound) = length sum
length_step (Pred-F.Txt left op right) = 0

-- how many terms the longest sum has
abbrev pub longest_sum : Pred → ℕ
longest_sum = fold-Pred ℕ length_step
