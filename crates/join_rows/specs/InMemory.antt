-- What a shelf and a sink in memory hold.
use Rattle.std.specs.Prelude.{◌≡◌, ℕ, List, [], ◌∷◌, Option, None, Some, if◌then◌else◌, option_map, length, take, drop}
use Rattle.std.specs.Prelude.{min, ◌-◌, IfSome, Bool, ◌==◌}
use Rattle.std.specs.List.{list_any, slice_get}
use Rattle.std.specs.Str.{bytes_eq}
use Rattle.join_rows.specs.Shelves.{Spot, raised}
use Rattle.join_rows.specs.declared.named_file.NamedFile.{NamedFile}
use Rattle.join_rows.specs.declared.named_file.Place.{Place}

-- the bytes of the first file of this name
abbrev pub file_under : List NamedFile → List ℕ → Option (List ℕ)
file_under [] name = None
file_under (f ∷ files) name = if bytes_eq f.name name then Some f.bytes else file_under files name

-- the name and the place of the picked file
abbrev pub spot_in : ℕ → NamedFile → List ℕ × ℕ
spot_in at file = (file.name, at)

-- what is picked, by its name
abbrev pub named_spot : List NamedFile → Option Place → Spot
named_spot files None = None
named_spot files (Some p) = option_map (spot_in p.at) (slice_get files p.file)

-- the files are those of before, and this one, in the place of one of its name
abbrev pub Adds : List NamedFile → List NamedFile → List ℕ → List ℕ → Type 0
Adds old new name bytes = (n : List ℕ) → file_under new n ≡ (if bytes_eq name n then Some bytes else file_under old n)

-- a shelf: its files, what is picked, how many calls were made, the numbers of those that are to fail, and how many
-- failed
pub record MapState : Type 0 where
  pub files : List NamedFile
  pub picked : Spot
  pub picks : ℕ
  pub reads : ℕ
  pub failing_picks : List ℕ
  pub failing_reads : List ℕ
  pub faults : ℕ

-- a sink: its bytes, how many it may hold, how many puts were made, the numbers of those that are to fail, and how many
-- failed
pub record ListState : Type 0 where
  pub bytes : List ℕ
  pub room : ℕ
  pub puts : ℕ
  pub failing : List ℕ
  pub faults : ℕ

-- whether the call after so many others is to fail
abbrev pub is_named : ℕ → List ℕ → Bool
is_named calls failing = list_any (λ call. call == raised calls) failing

-- a read fills as much of the buffer as the picked file has left, with its next bytes
abbrev pub Fills : List NamedFile → Spot → ℕ → List ℕ → List ℕ → Type 0
Fills files None n old new = n ≡ 0
Fills files (Some spot) n old new = IfSome (file_under files spot.0) (λ bytes.
    (n ≡ min (length bytes - spot.1) (length old)) × (take n new ≡ take n (drop spot.1 bytes)))
