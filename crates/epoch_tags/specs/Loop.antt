-- The nested loop over two lists of rows: what a join is to answer.
use Rattle.std.specs.Prelude.{Bool, Some, None, List, filter_map, flat_map, if◌then◌else◌}
use Rattle.std.specs.List.{enumerate_from}
use Rattle.epoch_tags.specs.declared.tuple.Pair.{Pair}

-- the pairs of rows that match, by their places: ordered by the place in the first list and then by that in the second
abbrev pub nested_loop : {X Y : Type 0} → (X → Y → Bool) → List X → List Y → List Pair
nested_loop matches rows_r rows_s =
    flat_map (λ a. filter_map (λ b. if matches a.1 b.1 then Some (record { i = a.0; j = b.0 })
    else None) (enumerate_from 0 rows_s)) (enumerate_from 0 rows_r)
