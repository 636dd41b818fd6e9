-- The order of pairs.
use Rattle.std.specs.Prelude.{◌≡◌, ◌<◌, ◌≤◌, ◌⊎◌, ⊤, List, [], ◌∷◌}
use Rattle.std.specs.List.{AllByRecursion}
use Rattle.epoch_tags.specs.declared.tuple.Pair.{Pair}

-- one pair comes before another: by the first number, and then by the second
abbrev pub IsBefore : Pair → Pair → Type 0
IsBefore p q = (p.i < q.i) ⊎ ((p.i ≡ q.i) × (p.j ≤ q.j))

-- each pair comes before all behind it
abbrev pub InOrder : List Pair → Type 0
InOrder [] = ⊤
InOrder (p ∷ ps) = AllByRecursion (IsBefore p) ps × InOrder ps
