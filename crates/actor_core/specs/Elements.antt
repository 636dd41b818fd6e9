-- What holds of the elements of a list.
use Rattle.std.specs.Prelude.{◌≡◌, ℕ, List, slice_get, Some}

-- P of the one at this place, if there is one
abbrev pub IsAt : {X : Type 0} → (X → Type 0) → ℕ → List X → Type 0
IsAt {X} P place xs = (there : X) → slice_get xs place ≡ Some there → P there

-- P of the one at each place
abbrev pub IsAllAt : {X : Type 0} → (X → Type 0) → List X → Type 0
IsAllAt {X} P xs = (place : ℕ) (there : X) → slice_get xs place ≡ Some there → P there

-- P of the one at some place
pub record IsSomeAt {X : Type 0} (P : X → Type 0) (xs : List X) : Type 0 where
  pub place : ℕ
  pub there : X
  pub is : slice_get xs place ≡ Some there
  pub holds : P there
