-- What a table of records has, and what each fault says of them.
use Rattle.std.proofs.Common.{◌≡◌, ◌≤◌, ◌<◌, ◌+◌, ◌∙◌, ◌⊎◌, inl, inr, ℕ, zero, suc, Bool, true, false, List, [], ◌∷◌}
use Rattle.std.proofs.Common.{◌++◌, length, map, arith, refl, sym, subst, Option, Result, IfOk, Ok, Err, None, Some}
use Rattle.std.proofs.Common.{length-append, add-one}
use Rattle.std.specs.Prelude.{◌==◌, nat_lt, All}
use Rattle.std.proofs.lemmas.List.{length-map}
use Rattle.csv.specs.Machine.{Read, ends_at_end, field_after, fields_after, is_end, next_record, step}
use Rattle.csv.specs.Reading.{default_config, records, records_from}
use Rattle.csv.specs.declared.parser.Action.{Action}
use Rattle.csv.specs.declared.parser.Action.TheVariants as act
use Rattle.csv.specs.declared.parser.State.{State}
use Rattle.csv.specs.declared.parser.State.TheVariants as st
use Rattle.row_cells.specs.declared.table.Table.{Table}
use Rattle.row_cells.specs.Cells.{AreWide, HasItsNumber, cell_of, cells_of}
use Rattle.join_rows.specs.Records.{IsTable, fault_of_rows, most_rows}
use Rattle.join_rows.specs.Records.{records_of, table_of_records}
use Rattle.row_cells.proofs.Numbers.{number_of-writes, number_of-written}
use Rattle.join_rows.specs.declared.fault.TableFault.{TableFault}
use Rattle.join_rows.specs.declared.fault.TableFault.TheVariants as fault

-- a record has a field
some_field : (fields : List (List ℕ)) (field : List ℕ) → 0 < length (fields ++ (field ∷ []))
some_field fields field = omega (arith, length-append fields (field ∷ []))

ended_field : (a : Action) (fields : List (List ℕ)) (field : List ℕ) → is_end a ≡ true
    → 0 < length (fields_after a fields field)
ended_field act.EndRecord fields field h = some_field fields field
ended_field act.Skip fields field h = cc h
ended_field act.Copy fields field h = cc h
ended_field act.EndField fields field h = cc h

record_named : (s : State) (fields : List (List ℕ)) (field xs : List ℕ) (p : Read)
    → next_record default_config s fields field xs ≡ Some p → 0 < length p.0
unfolding next_record
record_named s fields field [] p h = by (ends_at_end s) refl
  where
    by : (x : Bool) → ends_at_end s ≡ x → 0 < length p.0
    by true e = let q : (fields ++ (field ∷ []), st.StartRecord, []) ≡ p = cc (rw e at h) in
        rw (← q) (some_field fields field)
    by false e = cc (rw e at h)
record_named s fields field (c ∷ rest) p h = by (is_end (step default_config s c).1) refl h
    (record_named (step default_config s c).0 (fields_after (step default_config s c).1 fields field)
    (field_after (step default_config s c).1 c field) rest p)
  where
    by : (x : Bool) → is_end (step default_config s c).1 ≡ x
        → next_record default_config s fields field (c ∷ rest) ≡ Some p
        → (next_record default_config (step default_config s c).0
        (fields_after (step default_config s c).1 fields field) (field_after (step default_config s c).1 c field)
        rest ≡ Some p → 0 < length p.0)
        → 0 < length p.0
    by true e k more = let q : (
      fields_after (step default_config s c).1 fields field,
      (step default_config s c).0,
      rest,
    ) ≡ p = cc (rw e at k) in rw (← q) (ended_field (step default_config s c).1 fields field e)
    by false e k more = more (rw e at k)

records_named : (xs : List ℕ) (names : List (List ℕ)) (rows : List (List (List ℕ)))
    → records default_config xs ≡ names ∷ rows → 0 < length names
unfolding records_from
records_named xs names rows h = by (next_record default_config st.StartRecord [] [] xs) refl
  where
    by : (x : Option Read) → next_record default_config st.StartRecord [] [] xs ≡ x → 0 < length names
    by None e = cc (rw (add-one, e) at h)
    by (Some p) e = let q : p.0 ≡ names = cc (rw (add-one, e) at h) in
        rw (← q) (record_named st.StartRecord [] [] xs p e)

-- rows without a fault have the width, and are not too many
pub none_wide : (width number : ℕ) (rows : List (List (List ℕ))) → number ≤ 262145
    → fault_of_rows width number rows ≡ None → AreWide width rows × (number + length rows ≤ 262145)
unfolding fault_of_rows
none_wide width number [] few h = (tt, omega (arith, few))
none_wide width number (row ∷ rows) few h = by (nat_lt most_rows number) (length row == width) refl refl
    (none_wide width (number + 1) rows)
  where
    by : (past same : Bool) → nat_lt most_rows number ≡ past → (length row == width) ≡ same
        → (number + 1 ≤ 262145 → fault_of_rows width (number + 1) rows ≡ None → AreWide width rows
        × (number + 1 + length rows ≤ 262145))
        → AreWide width (row ∷ rows) × (number + length (row ∷ rows) ≤ 262145)
    by true same p s more = cc (rw p at h)
    by false true p s more =
        let within : number + 1 ≤ 262145 = grind (arith, p) in
        let left = more within (rw (p, s) at h) in
        ((grind (arith, s), left.0), omega (arith, left.1))
    by false false p s more = cc (rw (p, s) at h)

all_wide : (width : ℕ) (rows : List (List (List ℕ))) → AreWide width rows
    → All (λ row. length row ≡ width) (map cells_of rows)
all_wide width [] h k d e = absurd (omega (arith, e))
all_wide width (row ∷ rows) h zero d e = length-map row _ ∙ h.0
all_wide width (row ∷ rows) h (suc k) d e = all_wide width rows h.1 k d (omega (arith, e))

-- the cells of fields have the numbers of their texts
pub cell-number : (text : List ℕ) → HasItsNumber (cell_of text)
cell-number text number = (number_of-writes text number, number_of-written text number)

-- and so have all cells of a row
pub cells_numbers : (fields : List (List ℕ)) → All HasItsNumber (cells_of fields)
cells_numbers [] k d e = absurd (omega (arith, e))
cells_numbers (field ∷ fields) zero d e = cell-number field
cells_numbers (field ∷ fields) (suc k) d e = cells_numbers fields k d (omega (arith, e))

rows_numbers : (rows : List (List (List ℕ))) → All (λ row. All HasItsNumber row) (map cells_of rows)
rows_numbers [] k d e = absurd (omega (arith, e))
rows_numbers (row ∷ rows) zero d e = cells_numbers row
rows_numbers (row ∷ rows) (suc k) d e = rows_numbers rows k d (omega (arith, e))

-- the table of a text's records has a name or more, rows of that width, within the limit, and its cells' numbers
pub table-shape : (bytes : List ℕ) (table : Table) → table_of_records (records_of bytes) ≡ Ok table → IsTable table
unfolding table_of_records
table-shape bytes table h = go (records_of bytes) refl h
  where
    go : (all : List (List (List ℕ))) → records_of bytes ≡ all → table_of_records all ≡ Ok table → IsTable table
    go [] e h = cc h
    go (names ∷ rows) e h = by (fault_of_rows (length names) 1 rows) refl
      where
        by : (found : Option TableFault) → fault_of_rows (length names) 1 rows ≡ found → IsTable table
        by None q =
            let same : record { names = names; rows = map cells_of rows } ≡ table = cc (rw q at h) in
            let wide = none_wide (length names) 1 rows (omega arith) q in
            subst IsTable same (record {
              named = records_named _ names rows e;
              wide = all_wide (length names) rows wide.0;
              few = omega (arith, wide.1, length-map rows cells_of);
              numbers = rows_numbers rows;
            })
        by (Some why) q = cc (rw q at h)

-- so has each table that is answered, where the answer is that of the records or a want of memory
pub table-in-shape : (bytes : List ℕ) (r : Result Table TableFault) → (r ≡ Err fault.Memory)
    ⊎ (r ≡ table_of_records (records_of bytes)) → IfOk r IsTable
table-in-shape bytes (Err why) h = tt
table-in-shape bytes (Ok table) (inl m) = cc m
table-in-shape bytes (Ok table) (inr f) = table-shape bytes table (sym f)
