-- How often a word stands among names.
use Rattle.std.specs.Prelude.{◌≡◌, ℕ, ◌<◌, List, [], ◌∷◌, length}
use Rattle.theta_pred.specs.declared.named.Standing.{Standing}
use Rattle.theta_pred.specs.declared.named.Standing.TheVariants.{Nowhere, Once, Often}

-- these are all the places
abbrev pub IsStanding : Standing → List ℕ → Type 0
IsStanding Nowhere places = places ≡ []
IsStanding (Once place) places = places ≡ place ∷ []
IsStanding Often places = 1 < length places
