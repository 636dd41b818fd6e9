-- What a token begins.
use Rattle.std.specs.Prelude.{Option, Some, None, Bool, true, false}
use Rattle.theta_tree.specs.declared.token.Token.{Token}
use Rattle.theta_tree.specs.declared.token.Token.TheVariants.{Word, Literal, Open}
use Rattle.theta_tree.specs.declared.token.Keyword.TheVariants.{Not, Abs, Text, R, S}
use Rattle.row_cells.specs.declared.table.Side.{Side}
use Rattle.row_cells.specs.declared.table.Side.TheVariants as sides
use Rattle.theta_text.specs.declared.parser.units.Start.{Start}
use Rattle.theta_text.specs.declared.parser.units.Start.TheVariants.{StartNot, StartOpen, StartBand, StartTxt, StartNum}

-- which unit begins with this token: a test on numbers, where it is none of the others
abbrev pub unit_start : Token → Start
unit_start (Word Not w) = StartNot
unit_start Open = StartOpen
unit_start (Word Abs w) = StartBand
unit_start (Word Text w) = StartTxt
unit_start (Literal w) = StartTxt
unit_start _ = StartNum

-- the side that a name begins with
abbrev pub named_side : Token → Option Side
named_side (Word R w) = Some sides.R
named_side (Word S w) = Some sides.S
named_side _ = None

-- whether the token is the word `text`
abbrev pub is_text : Token → Bool
is_text (Word Text w) = true
is_text _ = false
