-- Worked rows.
use Rattle.std.proofs.Common.{◌≡◌, [], ◌∷◌, refl, arith}
use Rattle.rand_pcg.specs.Lcg.{state_after}
use Rattle.group_split.specs.Sizes.{digits, sizes, IsGroupOf, numbers_of}
use Rattle.group_split.specs.Parts.{part}

-- five joiners are a group of four and one of one
five_joiners : sizes 5 ≡ 4 ∷ 1 ∷ []
unfolding digits
five_joiners = refl

-- and seven are three groups
seven_joiners : sizes 7 ≡ 4 ∷ 2 ∷ 1 ∷ []
unfolding digits
seven_joiners = refl

-- of numbers below five the last is of the second group
the_last_of_five : IsGroupOf 5 4 1
unfolding digits
the_last_of_five = record { from = omega arith; below = omega arith }

-- where there is one joiner each number is 0
one_joiner : numbers_of 1 1 3 ≡ 0 ∷ 0 ∷ 0 ∷ []
unfolding state_after
one_joiner = refl

-- the rows of three numbers
first_part : part 5 (0 ∷ 4 ∷ 2 ∷ []) 0 ≡ 0 ∷ 2 ∷ []
unfolding digits
first_part = refl

second_part : part 5 (0 ∷ 4 ∷ 2 ∷ []) 1 ≡ 1 ∷ []
unfolding digits
second_part = refl

-- a group may have no row
no_row : part 3 (0 ∷ 0 ∷ 0 ∷ []) 1 ≡ []
unfolding digits
no_row = refl
