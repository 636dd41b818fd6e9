-- The rows that were judged, and what they say of all the records.
use Rattle.std.proofs.Common.{◌≡◌, ◌≢◌, ◌≤◌, ◌<◌, ◌+◌, ◌∙◌, ℕ, List, [], ◌∷◌, ◌++◌, length, map, arith, refl, sym, Ok}
use Rattle.std.proofs.Common.{Err, length-append}
use Rattle.csv.specs.Reading.{Reached, default_config, records}
use Rattle.csv.specs.declared.parser.State.{State}
use Rattle.csv.specs.declared.parser.State.TheVariants as st
use Rattle.row_cells.specs.Cells.{AreWide, cells_of}
use Rattle.join_rows.specs.Records.{table_of_records}
use Rattle.join_rows.specs.declared.fault.TableFault.TheVariants as fault
use Rattle.row_cells.specs.declared.table.Table.{Table}
use Rattle.join_rows.proofs.Counted.{records-begin}
use Rattle.join_rows.proofs.Tables.{answers-good, answers-long, answers-narrow, wide-more}

-- so many rows of this width were read behind a header, and then this is left of the text
pub record AreJudged (text : List ℕ) (width count : ℕ) (state : State) (left : List ℕ) : Type 0 where
  pub names : List (List ℕ)
  pub done : List (List (List ℕ))
  pub named : width ≡ length names
  pub reached : Reached default_config st.StartRecord text (names ∷ done) state left
  pub wide : AreWide (length names) done
  pub counted : count ≡ length done
  pub few : length done ≤ 262144

module _ (text : List ℕ) (width count : ℕ) (state : State) where
  -- one more row of the width
  pub judged-more : (after : State) (left rest : List ℕ) (row : List (List ℕ))
      (are : AreJudged text width count state left)
      → Reached default_config st.StartRecord text ((are.names ∷ are.done) ++ (row ∷ [])) after rest
      → count ≢ 262144 → length row ≡ width → AreJudged text width (count + 1) after rest
  judged-more after left rest row are more below same = record {
    names = are.names;
    done = are.done ++ (row ∷ []);
    named = are.named;
    reached = more;
    wide = wide-more (length are.names) are.done row are.wide (same ∙ are.named);
    counted = omega (arith, length-append are.done (row ∷ []), are.counted);
    few = omega (arith, length-append are.done (row ∷ []), are.few, are.counted, below);
  }

-- no more row: they are a table
pub judged-end : (text : List ℕ) (width count : ℕ) (state : State) (left : List ℕ)
    (are : AreJudged text width count state left) → records default_config text ≡ are.names ∷ are.done
    → (table : Table) × (table_of_records (records default_config text) ≡ Ok table)
judged-end text width count state left are all = (
  record { names = are.names; rows = map cells_of are.done },
  sym (answers-good (records default_config text) are.names are.done (map cells_of are.done) all refl are.wide are.few),
)

module _ (text : List ℕ) (width count : ℕ) (state : State) where
  -- a row past the limit
  pub judged-long : (after : State) (left rest : List ℕ) (row : List (List ℕ))
      (are : AreJudged text width count state left)
      → Reached default_config st.StartRecord text ((are.names ∷ are.done) ++ (row ∷ [])) after rest
      → count ≡ 262144 → table_of_records (records default_config text) ≡ Err fault.TooMany
  judged-long after left rest row are more many =
      let (n, front) = records-begin text rest after ((are.names ∷ are.done) ++ (row ∷ [])) more in
      sym (answers-long (records default_config text) are.names row are.done _ front are.wide
      (sym are.counted ∙ many))

  -- a row of another width
  pub judged-narrow : (after : State) (left rest : List ℕ) (row : List (List ℕ))
      (are : AreJudged text width count state left)
      → Reached default_config st.StartRecord text ((are.names ∷ are.done) ++ (row ∷ [])) after rest
      → count ≢ 262144 → length row ≢ width
      → table_of_records (records default_config text) ≡ Err (fault.Width (count + 1) (length row))
  judged-narrow after left rest row are more below other =
      let (n, front) = records-begin text rest after ((are.names ∷ are.done) ++ (row ∷ [])) more in
      let fits : length are.done < 262144 = omega (arith, are.few, are.counted, below) in
      rw are.counted (sym (answers-narrow (records default_config text) are.names row are.done _ front are.wide fits
      (λ e. other (e ∙ sym are.named))))
