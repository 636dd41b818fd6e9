-- The text of joined rows, read back.
use Rattle.std.proofs.Common.{◌≡◌, ◌≤◌, ◌<◌, ◌+◌, ◌∙◌, ℕ, zero, suc, List, [], ◌∷◌, ◌++◌, length, map, refl, ap, arith}
use Rattle.std.proofs.Common.{length-append}
use Rattle.std.specs.Prelude.{if◌then◌else◌, Option, None, Some}
use Rattle.std.specs.Io.KnownBytes.{Keeps}
use Rattle.csv.specs.Reading.{default_config, records, records_from}
use Rattle.csv.specs.Machine.{next_record}
use Rattle.csv.specs.Writing.{default_writer, is_blank, read_back, row_body}
use Rattle.csv.specs.declared.parser.State.TheVariants as st
use Rattle.csv.proofs.RoundTrip.{read-write}
use Rattle.epoch_tags.specs.declared.tuple.Pair.{Pair}
use Rattle.row_cells.specs.declared.table.Cell.{Cell}
use Rattle.join_report.specs.RowLines.{joined_fields, row_line, row_lines}

-- what was known to be written is kept
pub kept_text : (known : Option (List ℕ)) (kept text : List ℕ) → Keeps known (Some kept) → known ≡ Some text
    → kept ≡ text
kept_text None kept text keeps is = absurd (cc)
kept_text (Some written) kept text keeps is = let same : written ≡ text = cc in keeps ∙ same

module _ (rows_r rows_s : List (List Cell)) where
  abbrev read_fields : Pair → List (List ℕ)
  read_fields pair = read_back (joined_fields rows_r rows_s pair)

  -- a record has a byte, its end
  some_byte : (pair : Pair) → 0 < length (row_line rows_r rows_s pair)
  some_byte pair =
      let fields = joined_fields rows_r rows_s pair in
      let quotes : List ℕ = if is_blank default_writer fields then 34 ∷ 34 ∷ [] else [] in
      omega (
        arith,
        length-append (row_body default_writer fields) (quotes ++ (10 ∷ [])),
        length-append quotes (10 ∷ []),
      )

  as_many_bytes : (pairs : List Pair) → length pairs ≤ length (row_lines rows_r rows_s pairs)
  as_many_bytes [] = omega arith
  as_many_bytes (pair ∷ pairs) = omega (
    arith,
    some_byte pair,
    as_many_bytes pairs,
    length-append (row_line rows_r rows_s pair) (row_lines rows_r rows_s pairs),
  )

  reads : (fuel : ℕ) (pairs : List Pair) → length pairs ≤ fuel
      → records_from default_config (suc fuel) st.StartRecord (row_lines rows_r rows_s pairs) ≡ map read_fields pairs
  unfolding records_from next_record
  reads fuel [] few = refl
  reads zero (pair ∷ pairs) few = absurd (omega (arith, few))
  reads (suc fuel) (pair ∷ pairs) few =
      rw (read-write (joined_fields rows_r rows_s pair) (row_lines rows_r rows_s pairs))
      (ap (λ rows. read_fields pair ∷ rows) (reads fuel pairs (omega (arith, few))))

  -- a reader of csv finds in the lines of pairs one record each, of its fields as they read back
  pub records-row_lines : (pairs : List Pair) → records default_config (row_lines rows_r rows_s pairs)
      ≡ map read_fields pairs
  records-row_lines pairs =
      let one : length (row_lines rows_r rows_s pairs) + 1 ≡ suc (length (row_lines rows_r rows_s pairs)) =
      omega arith in
      ap (λ n. records_from default_config n st.StartRecord (row_lines rows_r rows_s pairs)) one
      ∙ reads (length (row_lines rows_r rows_s pairs)) pairs (as_many_bytes pairs)
