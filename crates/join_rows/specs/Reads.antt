-- What reading the bytes of a file answers.
use Rattle.std.specs.Prelude.{◌≡◌, ◌⊎◌, ◌≤◌, ◌<◌, ◌+◌, ◌^◌, ℕ, List, Result, Ok, Err, length, take, Some}
use Rattle.join_rows.specs.Shelves.{Lacks, Spot, Tells, Told}
use Rattle.join_rows.specs.Records.{AnswerSays, SaysOf, table_of}
use Rattle.row_cells.specs.declared.table.Table.{Table}
use Rattle.join_rows.specs.declared.fault.TableFault.{TableFault}
use Rattle.join_rows.specs.declared.fault.TableFault.TheVariants as fault

-- no call of the shelf failed, and it stands in the named file at a place no further than one past the limit
abbrev pub Stands : Told → List ℕ → ℕ → ℕ → Spot → Type 0
Stands told name old new spot = (new ≡ old) × (Lacks told name → ⊥) × (place : ℕ) × (spot ≡ Some (name, place))
    × (place ≤ 2 ^ 24 + 1)

-- one byte more than the limit was read, and the bytes are the first of a told file
pub record IsPast (told : Told) (name : List ℕ) (spot : Spot) : Type 0 where
  pub bytes : List ℕ
  pub size : length bytes ≡ 2 ^ 24 + 1
  pub place : spot ≡ Some (name, length bytes)
  pub first : (file : List ℕ) → Tells told name file → (length bytes ≤ length file) × (bytes ≡ take (length bytes) file)

-- the whole bytes of a file: told are the files, old and new are the counts of faults, and spot is where the shelf
-- stands then
abbrev pub WholeOk : Told → List ℕ → ℕ → ℕ → Spot → List ℕ → Type 0
WholeOk told name old new spot bytes = (new ≡ old) × (Lacks told name → ⊥) × (spot ≡ Some (name, length bytes))
    × (length bytes ≤ 2 ^ 24)
    × ((file : List ℕ) → Tells told name file → bytes ≡ file)

-- or why there are none
abbrev pub WholeErr : Told → List ℕ → ℕ → ℕ → Spot → TableFault → Type 0
WholeErr told name old new spot fault.Read = (old < new) ⊎ Lacks told name
WholeErr told name old new spot fault.TooLong = (new ≡ old) × (Lacks told name → ⊥) × IsPast told name spot
WholeErr told name old new spot fault.Memory = Stands told name old new spot
WholeErr told name old new spot why = ⊥

-- the answer is that of bytes which were read of the named file, as many as the place in it says, and the first of a
-- told file: it is what the definition makes of them, it says of them what it means, and it is the fault that they
-- have, if they have one
pub record IsOfBytes (told : Told) (name : List ℕ) (spot : Spot) (result : Result Table TableFault) : Type 0 where
  pub bytes : List ℕ
  pub place : spot ≡ Some (name, length bytes)
  pub first : (file : List ℕ) → Tells told name file → bytes ≡ take (2 ^ 24 + 1) file
  pub answer : result ≡ table_of bytes
  pub says : AnswerSays result bytes
  pub exact : (why : TableFault) → SaysOf why bytes → result ≡ Err why

-- what a file's bytes answer: the table that they are, or what is wrong with them; where there are none, why
abbrev pub answer_of : Result (List ℕ) TableFault → Result Table TableFault
answer_of (Ok bytes) = table_of bytes
answer_of (Err why) = Err why
