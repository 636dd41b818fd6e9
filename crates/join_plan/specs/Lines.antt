-- What a line says of a fault.
use Rattle.std.specs.Prelude.{ℕ, List, [], ◌++◌, cond, ◌==◌, codes}
use Rattle.std.specs.Fmt.{decimal}
use Rattle.std.specs.Str.{is_utf8}
use Rattle.row_cells.specs.declared.table.Side.{Side}
use Rattle.row_cells.specs.declared.table.Side.TheVariants.{R, S}
use Rattle.join_plan.specs.declared.fault.TextFault.{TextFault}
use Rattle.join_plan.specs.declared.fault.TextFault.TheVariants.{Syntax, Deep, Wide, Literal, NoColumn, TwoColumns}
use Rattle.join_plan.specs.declared.fault.InputFault.{InputFault}
use Rattle.join_plan.specs.declared.fault.InputFault.TheVariants.{Header, NoHeader, Width, Number}
use Rattle.join_plan.specs.declared.fault.LimitFault.{LimitFault}
use Rattle.join_plan.specs.declared.fault.LimitFault.TheVariants.{TooLong, TooMany, Total, Between}

-- of a side
abbrev pub side_line : Side → List ℕ
side_line R = codes "R"
side_line S = codes "S"

-- of a column's name: its bytes, or `?` where they aren't UTF-8
abbrev pub name_line : List ℕ → List ℕ
name_line name = cond (is_utf8 name) name (codes "?")

-- of the text of a predicate
abbrev pub text_line : TextFault → List ℕ
text_line (Syntax place) = codes "not understood at byte " ++ decimal place
text_line (Deep place) = codes "nested too deep at byte " ++ decimal place
text_line (Wide place) = codes "sum too long at byte " ++ decimal place
text_line (Literal place) = codes "number too large at byte " ++ decimal place
text_line (NoColumn side name) = side_line side ++ codes " has no column " ++ name_line name
text_line (TwoColumns side name) = side_line side ++ codes " has column " ++ name_line name ++ codes " more than once"

-- of a side's file: that of the first wave by its side alone
abbrev pub file_line : Side → ℕ → List ℕ
file_line side wave = side_line side ++ cond (wave == 1) [] (decimal wave)

-- of a row of such a file
abbrev pub row_line : Side → ℕ → ℕ → List ℕ
row_line side wave row = file_line side wave ++ codes " row " ++ decimal row

-- of a cell of such a row
abbrev pub cell_line : Side → ℕ → ℕ → ℕ → List ℕ
cell_line side wave row column = row_line side wave row ++ codes " column " ++ decimal column

-- of how many rows a side has up to such a file
abbrev pub count_line : Side → ℕ → ℕ → List ℕ
count_line side wave rows = file_line side wave ++ codes " has " ++ decimal rows

-- of a file that is no table or has another header, or a cell that is no number
abbrev pub input_line : InputFault → List ℕ
input_line (NoHeader side wave) = file_line side wave ++ codes " has no header"
input_line (Header side wave) = file_line side wave ++ codes " has another header"
input_line (Width side wave row found) = row_line side wave row ++ codes " has " ++ decimal found ++ codes " fields"
input_line (Number side wave column row) = cell_line side wave row column ++ codes " is no number"

-- of a limit
abbrev pub limit_line : LimitFault → List ℕ
limit_line (TooLong side wave) = file_line side wave ++ codes " has more than 16777216 bytes"
limit_line (TooMany side wave) = file_line side wave ++ codes " has more than 262144 rows"
limit_line (Total side wave rows) = count_line side wave rows ++ codes " rows in all"
limit_line (Between pairs) = decimal pairs ++ codes " pairs between the joins"
