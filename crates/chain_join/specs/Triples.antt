-- Triples of the places of rows in three lists.
use Rattle.std.specs.Prelude.{Bool, Some, None, List, filter_map, flat_map, if◌then◌else◌}
use Rattle.std.specs.List.{enumerate_from, slice_index_or}
use Rattle.epoch_tags.specs.declared.tuple.Pair.{Pair}
use Rattle.chain_join.specs.declared.triples.Triple.{Triple}

-- the triples of rows that match, by their places: ordered by the place in the first list, then by that in the second,
-- then by that in the third
abbrev pub triple_loop : {X Y Z : Type 0} → (X → Y → Z → Bool) → List X → List Y → List Z → List Triple
triple_loop matches rows_r rows_s rows_q =
    flat_map (λ a. flat_map (λ b. filter_map
    (λ c. if matches a.1 b.1 c.1 then Some (record { i = a.0; j = b.0; l = c.0 }) else None)
    (enumerate_from 0 rows_q)) (enumerate_from 0 rows_s)) (enumerate_from 0 rows_r)

-- the triple of a joined row, whose pair of the first loop stands at its place, and a row of Q; 0 and 0 where there is
-- no such pair
abbrev pub triple_at : List Pair → Pair → Triple
triple_at firsts pair =
    let first = slice_index_or firsts pair.i (record { i = 0; j = 0 }) in
    record { i = first.i; j = first.j; l = pair.j }
