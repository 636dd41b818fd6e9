-- A file past the greatest length.
use Rattle.std.specs.Prelude.{◌≡◌, ◌<◌, ◌^◌, ℕ, List, Contains, None, Option, Some}
use Rattle.join_rows.specs.Shelves.{Spot, Told}
use Rattle.join_words.specs.Words.{Asked}
use Rattle.join_plan.specs.declared.fault.LimitFault.TheVariants.{TooLong}
use Rattle.join_plan.specs.Files.{Source, sources}
use Rattle.join_plan.specs.Texts.{Trees}
use Rattle.join_cli.specs.declared.outcome.Outcome.{Outcome}
use Rattle.join_cli.specs.declared.outcome.Outcome.TheVariants.{Limit}
use Rattle.join_cli.specs.Seen.{EndsOver}

-- a file of this name is asked for, and the outcome tells that it is too long
pub record IsTooLong (asked : Asked) (name : List ℕ) (outcome : Outcome) : Type 0 where
  pub source : Source
  pub among : Contains (sources asked) source
  pub named : source.name ≡ name
  pub told : outcome ≡ Limit (TooLong source.side source.wave)

-- a run of files that ends as what was read of them says, at a place past the greatest length, has told that file as
-- too long
abbrev pub PastIsTooLong : Type 0
PastIsTooLong = (told : Told) (spot : Spot) (asked : Asked) (trees : Trees) (old new : Option (List ℕ))
    (outcome : Outcome)
    (name : List ℕ) (place : ℕ) → asked.make ≡ None → EndsOver told spot asked trees old new outcome
    → spot ≡ Some (name, place) → 2 ^ 24 < place → IsTooLong asked name outcome
