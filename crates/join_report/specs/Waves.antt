-- What the waves of a run have together.
use Rattle.std.specs.Prelude.{ℕ, ◌+◌, List}
use Rattle.std.specs.Simd.Lanes.{zip2}

-- the numbers of two waves added up, place by place, as far as both go
abbrev pub sums_of : List ℕ → List ℕ → List ℕ
sums_of counts more = zip2 (λ count other. count + other) counts more
