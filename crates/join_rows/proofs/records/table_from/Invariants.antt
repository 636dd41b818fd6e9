use Rattle.std.proofs.Common.{◌≡◌, ◌-◌, ◌≤◌, ℕ, List, ◌∷◌, Some, length}
use Rattle.std.specs.List.{flat_map}
use Rattle.csv.specs.Reading.{Reached, Ready, default_config, source_of}
use Rattle.csv.specs.declared.parser.State.TheVariants as st
use Rattle.csv.specs.declared.reader.Trim.TheVariants as trim
use Rattle.row_cells.specs.Cells.{AreWide}
use Rattle.join_rows.specs.Records.{after_marks}
use Rattle.join_rows.proofs.records.table_from.Given as goal

abbrev pub invariant-rows : goal.invariant-rows
invariant-rows l =
    (l.reader.trim ≡ trim.None) × Ready l.reader × (l.reader.config ≡ default_config) × (l.width ≡ length l.names)
    × (y : List ℕ) × (source_of (λ s. Some s.now) l.reader ≡ Some y)
    × (done : List (List (List ℕ))) × Reached default_config st.StartRecord (after_marks l.fn.text) (l.names ∷ done)
    l.reader.state y
    × (l.texts ≡ flat_map (λ row. row) done) × AreWide (length l.names) done
    × (l.count ≡ length done) × (length done ≤ 262144)

abbrev pub decreases-rows : goal.decreases-rows
decreases-rows l = 262144 - l.count
