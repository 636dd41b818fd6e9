-- Which rows a feeder has, and in which order.
use Rattle.std.specs.Prelude.{ℕ, ◌%◌, ◌==◌, nat_lt, max, List, [], ◌∷◌, ◌++◌, map, filter, flat_map, if◌then◌else◌}
use Rattle.std.specs.List.{range_with_len}
use Rattle.row_cells.specs.declared.table.Side.{Side}
use Rattle.row_cells.specs.declared.table.Side.TheVariants.{R, S}
use Rattle.row_tickets.specs.declared.place.Feed.{Feed}
use Rattle.row_tickets.specs.declared.place.Feed.TheVariants.{Alternate, RFirst, SFirst}
use Rattle.row_tickets.specs.declared.place.Place.{Place}

-- the indices below n that leave p when divided by the number of feeders
abbrev pub indices : ℕ → ℕ → ℕ → List ℕ
indices feeders p n = filter (λ i. i % feeders == p) (range_with_len 0 n)

-- the row of this side and index
abbrev pub place_at : Side → ℕ → Place
place_at side i = record { side = side; index = i }

-- feeder p's rows of one side, of n
abbrev pub share_of : ℕ → ℕ → Side → ℕ → List Place
share_of feeders p side n = map (place_at side) (indices feeders p n)

-- the rows of index i, R before S, where the sides have them
abbrev pub both_at : ℕ → ℕ → ℕ → List Place
both_at rows_r rows_s i =
    (if nat_lt i rows_r then place_at R i ∷ [] else []) ++ (if nat_lt i rows_s then place_at S i ∷ [] else [])

-- feeder p's rows of both sides, in the order of the feed
abbrev pub share : Feed → ℕ → ℕ → ℕ → ℕ → List Place
share Alternate feeders p rows_r rows_s = flat_map (both_at rows_r rows_s) (indices feeders p (max rows_r rows_s))
share RFirst feeders p rows_r rows_s = share_of feeders p R rows_r ++ share_of feeders p S rows_s
share SFirst feeders p rows_r rows_s = share_of feeders p S rows_s ++ share_of feeders p R rows_r
