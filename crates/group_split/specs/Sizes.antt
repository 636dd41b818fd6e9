-- The sizes of groups of joiners, and which rows of R each has.
use Rattle.std.specs.Prelude.{ℕ, ◌+◌, ◌/◌, ◌%◌, ◌^◌, ◌<◌, ◌≤◌, ◌==◌, nat_lt, nat_le, Bool, ◌&&◌, sum, List, [], ◌∷◌}
use Rattle.std.specs.Prelude.{map, filter, take}
use Rattle.std.specs.List.{range_with_len}
use Rattle.rand_pcg.specs.Lcg.{advance, started, increment_of}
use Rattle.rand_pcg.specs.Pcg.{multiplier_64, pcg32}

-- the binary digit of this place, which stands for 2 ^ place, is 1
abbrev pub has_digit : ℕ → ℕ → Bool
has_digit joiners place = (joiners / 2 ^ place) % 2 == 1

-- the places of the binary digits that are 1, greatest first, of a number up to 127: there is a group for each
unfoldable pub digits : ℕ → List ℕ
digits joiners = filter (has_digit joiners) (6 ∷ 5 ∷ 4 ∷ 3 ∷ 2 ∷ 1 ∷ 0 ∷ [])

-- how many joiners each group has: what the digits that are 1 stand for, greatest first
abbrev pub sizes : ℕ → List ℕ
sizes joiners = map (λ place. 2 ^ place) (digits joiners)

-- ---- which number is of which group

-- how many joiners there are in the groups before this one
abbrev pub before : ℕ → ℕ → ℕ
before joiners g = sum (take g (sizes joiners))

-- the number is of group g, the least whose joiners and those of the groups before it are more than the number
pub record IsGroupOf (joiners number g : ℕ) : Type 0 where
  pub from : before joiners g ≤ number
  pub below : number < before joiners (g + 1)

-- the same as a test
abbrev pub is_of : ℕ → ℕ → ℕ → Bool
is_of joiners g number = nat_le (before joiners g) number && nat_lt number (before joiners (g + 1))

-- word i of the generator with this seed, on the stream of groups
abbrev pub word_of : ℕ → ℕ → ℕ
word_of seed i = (pcg32 (advance 64 multiplier_64 i (started 64 multiplier_64 seed (increment_of 64 57)))).0

-- the numbers of the first rows of R, so many of them
abbrev pub numbers_of : ℕ → ℕ → ℕ → List ℕ
numbers_of seed joiners count = map (λ i. word_of seed i % joiners) (range_with_len 0 count)
