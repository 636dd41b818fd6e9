-- Flags, one for each index.
use Rattle.std.specs.Prelude.{◌≡◌, ◌<◌, ℕ, Bool, true, false, List, length, slice_index_or}

-- the flag of that number; it is down where there is none
abbrev pub flag_at : List Bool → ℕ → Bool
flag_at flags i = slice_index_or flags i false

-- all flags are up
abbrev pub IsEachUp : List Bool → Type 0
IsEachUp flags = (i : ℕ) → i < length flags → flag_at flags i ≡ true
