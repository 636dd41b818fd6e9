-- A place shown below its line.
use Rattle.std.specs.Prelude.{ℕ, ◌-◌, List, [], ◌∷◌, ◌++◌, length, take, drop, Bool, not, cond, ◌||◌, ◌==◌, nat_le, map}
use Rattle.std.specs.List.{prefix_len, suffix_len, filter}

-- a byte that is no line end, that is neither LF nor CR
abbrev pub is_within_line : ℕ → Bool
is_within_line b = not ((b == 10) || (b == 13))

-- what stands before the first line end, or all
abbrev pub first_line : List ℕ → List ℕ
first_line text = take (prefix_len is_within_line text) text

-- what stands behind the last line end, or all
abbrev pub last_line : List ℕ → List ℕ
last_line text = drop (length text - suffix_len is_within_line text) text

-- the first byte of a character
abbrev pub begins_character : ℕ → Bool
begins_character b = nat_le b 127 || nat_le 192 b

-- a tab below a tab, and a blank below whatever else
abbrev pub below : ℕ → ℕ
below b = cond (b == 9) 9 32

-- what stands below characters: one byte for each
abbrev pub all_below : List ℕ → List ℕ
all_below text = map below (filter begins_character text)

-- a line, and under it a `^` below the place between its two parts
abbrev pub marked : List ℕ → List ℕ → List ℕ
marked before behind = before ++ behind ++ 10 ∷ [] ++ all_below before ++ 94 ∷ []

-- the line of the text in which the place is, with the mark
abbrev pub shown_at : List ℕ → ℕ → List ℕ
shown_at text place = marked (last_line (take place text)) (first_line (drop place text))
