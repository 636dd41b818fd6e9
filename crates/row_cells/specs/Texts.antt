-- Texts that lie one behind the other.
use Rattle.std.specs.Prelude.{◌≡◌, ◌≤◌, ℕ, List, [], ◌∷◌, slice_range}

-- the texts that end at these places of the bytes, the first of which begins here
abbrev pub cut : ℕ → List ℕ → List ℕ → List (List ℕ)
cut from [] bytes = []
cut from (end ∷ ends) bytes = slice_range bytes from end ∷ cut end ends bytes

-- the ends don't fall, from this place on, and the last is that of all bytes
abbrev pub AreEnds : ℕ → List ℕ → ℕ → Type 0
AreEnds from [] total = from ≡ total
AreEnds from (end ∷ ends) total = (from ≤ end) × AreEnds end ends total
