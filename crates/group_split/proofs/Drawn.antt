-- The numbers by which rows fall to groups.
use Rattle.std.proofs.Common.{◌≡◌, ℕ, ◌%◌, ◌<◌, refl, arith, length}
use Rattle.std.specs.Prelude.{All}
use Rattle.std.specs.List.{range_with_len}
use Rattle.std.proofs.lemmas.List.Elements.{All-map}
use Rattle.std.proofs.lemmas.List.FromFn.{length-map-range_with_len}
use Rattle.rand_pcg.specs.Lcg.{Lcg, state_after, advance}
use Rattle.group_split.specs.Sizes.{numbers_of, word_of}

-- no jump
pub advance-zero : (w m : ℕ) (g : Lcg) → advance w m 0 g ≡ g
unfolding state_after
advance-zero w m g = refl

-- each number is below that of joiners
pub numbers_below : (seed joiners count : ℕ) → 0 < joiners
    → All (λ number. number < joiners) (numbers_of seed joiners count)
numbers_below seed joiners count some =
    All-map (λ number. number < joiners) (λ i. word_of seed i % joiners) (range_with_len 0 count)
    (λ k d low. omega arith)

-- and there are as many as asked for
pub numbers_many : (seed joiners count : ℕ) → length (numbers_of seed joiners count) ≡ count
numbers_many seed joiners count = length-map-range_with_len (λ i. word_of seed i % joiners) 0 count
