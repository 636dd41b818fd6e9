-- How many names a join has.
use Rattle.std.proofs.Common.{◌≡◌, ◌+◌, ℕ, List, length}
use Rattle.std.proofs.lemmas.List.{length-append, length-map}
use Rattle.joined_rows.specs.Joined.{joined_names}

-- as many joined names as there are names
pub length-joined_names : (names_r names_s : List (List ℕ))
    → length (joined_names names_r names_s) ≡ length names_r + length names_s
length-joined_names names_r names_s = simp (length-append, length-map)
