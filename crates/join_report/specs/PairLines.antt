-- The text of pairs, whose rows are counted from 1 there.
use Rattle.std.specs.Prelude.{ℕ, ◌+◌, List, ◌++◌, flat_map, codes}
use Rattle.std.specs.Fmt.{decimal}
use Rattle.epoch_tags.specs.declared.tuple.Pair.{Pair}

-- the two numbers with a comma between them, and a line feed
abbrev pub pair_line : Pair → List ℕ
pair_line pair = decimal (pair.i + 1) ++ codes "," ++ decimal (pair.j + 1) ++ codes "\n"

-- the lines of pairs, in their order
abbrev pub pair_lines : List Pair → List ℕ
pair_lines pairs = flat_map pair_line pairs
