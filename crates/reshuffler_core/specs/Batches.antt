-- A load in batches.
use Rattle.std.specs.Prelude.{ℕ, ◌+◌, ◌-◌, ◌*◌, ◌/◌, List, map, take, drop, length}
use Rattle.std.specs.List.{range_with_len}

-- the list cut after every `size` elements
abbrev pub cut : {X : Type 0} → ℕ → List X → List (List X)
cut size xs = map (λ i. take size (drop (i * size) xs)) (range_with_len 0 ((length xs + size - 1) / size))
