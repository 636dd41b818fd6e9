-- The summary of a join of x rows of R with y rows of S.
use Rattle.std.specs.Prelude.{ℕ, ◌+◌, List, ◌++◌, length, sum_by, codes}
use Rattle.std.specs.Fmt.{decimal}
use Rattle.epoch_tags.specs.declared.tuple.Pair.{Pair}

-- the numbers of a pair's rows, counted from 1, added up
abbrev pub numbers_of : Pair → ℕ
numbers_of pair = (pair.i + 1) + (pair.j + 1)

-- three lines: the numbers of rows; how many pairs; the sum over them
abbrev pub summary_of : ℕ → ℕ → List Pair → List ℕ
summary_of x y pairs =
    codes "rows " ++ decimal x ++ codes " " ++ decimal y
    ++ codes "\npairs " ++ decimal (length pairs)
    ++ codes "\nsum " ++ decimal (sum_by numbers_of pairs) ++ codes "\n"
