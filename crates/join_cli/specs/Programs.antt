-- What a run of the program with its words leaves.
use Rattle.std.specs.Prelude.{◌≡◌, ℕ, List, Option, Ok}
use Rattle.join_rows.specs.Shelves.{Told}
use Rattle.join_words.specs.Words.{Asked, asked_of}
use Rattle.join_cli.specs.Courses.{Course}
use Rattle.join_cli.specs.Ends.{Wrote, WroteFront}

-- the output of what these words ask for was written, over a run of it that went this way
pub record WroteOver (words : List (List ℕ)) (told : Told) (way : Course) (old new : Option (List ℕ)) : Type 0 where
  pub asked : Asked
  pub are : asked_of words ≡ Ok asked
  pub wrote : Wrote told asked way old new

-- the output of what these words ask for was written, over some run of it
pub record WroteBy (words : List (List ℕ)) (told : Told) (old new : Option (List ℕ)) : Type 0 where
  pub way : Course
  pub over : WroteOver words told way old new

-- a front of such an output was written
pub record WroteFrontBy (words : List (List ℕ)) (told : Told) (old new : Option (List ℕ)) : Type 0 where
  pub asked : Asked
  pub are : asked_of words ≡ Ok asked
  pub wrote : WroteFront told asked old new
