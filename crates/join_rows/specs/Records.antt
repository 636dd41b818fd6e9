-- The table that the bytes of a file are, and what is wrong where they are none.
use Rattle.std.specs.Prelude.{◌≡◌, ◌≢◌, ◌≤◌, ◌<◌, ◌+◌, ◌^◌, ◌==◌, ◌++◌, Bool, false, ℕ, List, [], ◌∷◌}
use Rattle.std.specs.Prelude.{if◌then◌else◌, length, map, take, nat_lt, Option, None, Some, Result, Ok, Err, All}
use Rattle.csv.specs.Reading.{default_config, is_bom, records}
use Rattle.row_cells.specs.Cells.{AreWide, HasItsNumber, cells_of}
use Rattle.row_cells.specs.declared.table.Table.{Table}
use Rattle.join_rows.specs.declared.fault.TableFault.{TableFault}
use Rattle.join_rows.specs.declared.fault.TableFault.TheVariants as fault

-- whether a text begins with a byte order mark
abbrev pub has_mark : List ℕ → Bool
has_mark [] = false
has_mark (a ∷ []) = false
has_mark (a ∷ b ∷ []) = false
has_mark (a ∷ b ∷ c ∷ rest) = is_bom a b c

-- a text after each byte order mark at its beginning
unfoldable pub after_marks : List ℕ → List ℕ
after_marks [] = []
after_marks (a ∷ []) = a ∷ []
after_marks (a ∷ b ∷ []) = a ∷ b ∷ []
after_marks (a ∷ b ∷ c ∷ rest) = if is_bom a b c then after_marks rest else a ∷ b ∷ c ∷ rest

-- the records that the default reader of `csv` defines over a file's bytes
abbrev pub records_of : List ℕ → List (List (List ℕ))
records_of bytes = records default_config (after_marks bytes)

-- a file may have so many bytes
abbrev pub most_bytes : ℕ
most_bytes = 2 ^ 24

-- and a table so many rows under its header
abbrev pub most_rows : ℕ
most_rows = 2 ^ 18

-- what is wrong with the rows from this number on, if anything: the first row of another width, or the first past the
-- limit, whichever comes first
unfoldable pub fault_of_rows : ℕ → ℕ → List (List (List ℕ)) → Option TableFault
fault_of_rows width number [] = None
fault_of_rows width number (row ∷ rows) =
    if nat_lt most_rows number then Some fault.TooMany
    else if length row == width then fault_of_rows width (number + 1) rows
    else Some (fault.Width number (length row))

-- the table of a header and the rows under it, which are counted from 1
unfoldable pub table_of_records : List (List (List ℕ)) → Result Table TableFault
table_of_records [] = Err fault.NoHeader
table_of_records (names ∷ rows) = unless (fault_of_rows (length names) 1 rows)
  where
    unless : Option TableFault → Result Table TableFault
    unless None = Ok (record { names = names; rows = map cells_of rows })
    unless (Some fault) = Err fault

-- the table of a file's bytes, or what is wrong with them
unfoldable pub table_of : List ℕ → Result Table TableFault
table_of bytes = if nat_lt most_bytes (length bytes) then Err fault.TooLong else table_of_records (records_of bytes)

-- the row of this number, counted from 1, has this many fields, not as many as the header, and is the first such
pub record IsFirstOfOtherWidth (width number found : ℕ) (rows : List (List (List ℕ))) : Type 0 where
  pub before : List (List (List ℕ))
  pub row : List (List ℕ)
  pub after : List (List (List ℕ))
  pub joined : rows ≡ before ++ row ∷ after
  pub wide : AreWide width before
  pub counted : number ≡ length before + 1
  pub few : number ≤ most_rows
  pub other : length row ≢ width
  pub fields : found ≡ length row

-- there is a row past the limit, and none before it has another width than the header
pub record AreTooMany (width : ℕ) (rows : List (List (List ℕ))) : Type 0 where
  pub many : most_rows < length rows
  pub wide : AreWide width (take most_rows rows)

-- what each fault says of a file's records, the header being the first
abbrev pub SaysOfRecords : TableFault → List (List (List ℕ)) → Type 0
SaysOfRecords fault.NoHeader records = records ≡ []
SaysOfRecords (fault.Width number found) (names ∷ rows) = IsFirstOfOtherWidth (length names) number found rows
SaysOfRecords fault.TooMany (names ∷ rows) = AreTooMany (length names) rows
SaysOfRecords fault records = ⊥

-- and of its bytes
abbrev pub SaysOf : TableFault → List ℕ → Type 0
SaysOf fault.TooLong bytes = most_bytes < length bytes
SaysOf fault bytes = (length bytes ≤ most_bytes) × SaysOfRecords fault (records_of bytes)

-- the table is that of these bytes: the first of their records is its header, the cells of the others are its rows, and
-- these are as wide as the header and no more than the limit
pub record IsTableOf (bytes : List ℕ) (table : Table) : Type 0 where
  pub records : List (List (List ℕ))
  pub read : records_of bytes ≡ table.names ∷ records
  pub rows : table.rows ≡ map cells_of records
  pub wide : AreWide (length table.names) records
  pub few : length records ≤ most_rows
  pub short : length bytes ≤ most_bytes

-- what an answer says of the bytes that it is of
abbrev pub AnswerSays : Result Table TableFault → List ℕ → Type 0
AnswerSays (Ok table) bytes = IsTableOf bytes table
AnswerSays (Err fault) bytes = SaysOf fault bytes

-- a table has a header of a name or more, no row of another width, no more rows than the limit, and in each cell the
-- number of its text
pub record IsTable (table : Table) : Type 0 where
  pub named : 0 < length table.names
  pub wide : All (λ row. length row ≡ length table.names) table.rows
  pub few : length table.rows ≤ most_rows
  pub numbers : All (λ row. All HasItsNumber row) table.rows
