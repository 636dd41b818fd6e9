-- A made table is a table.
use Rattle.std.proofs.Common.{◌≡◌, ◌≤◌, ◌+◌, ◌^◌, ◌∙◌, ℕ, List, [], ◌∷◌, ◌++◌, ap, length, arith, map, refl}
use Rattle.std.specs.Prelude.{All}
use Rattle.std.specs.List.{flat_map, range_with_len}
use Rattle.std.proofs.lemmas.List.Elements.{All-map}
use Rattle.std.proofs.lemmas.List.FromFn.{length-map-range_with_len, map-range_with_len_more}
use Rattle.row_cells.proofs.SharedRows.{texts-more}
use Rattle.row_cells.specs.declared.table.Cell.{Cell}
use Rattle.row_cells.specs.declared.table.Side.{Side}
use Rattle.join_rows.specs.Made.{made_fields, made_names, made_table}
use Rattle.row_cells.specs.Cells.{HasItsNumber, cells_of}
use Rattle.join_rows.specs.Records.{IsTable}
use Rattle.row_cells.specs.Cells.{AreWide}
use Rattle.row_cells.specs.Shared.{AreRowsOf}
use Rattle.join_rows.proofs.Shapes.{cells_numbers}

-- the rows of a made table, as texts
abbrev pub made_rows : Side → ℕ → List (List (List ℕ))
made_rows side count = map (made_fields side) (range_with_len 0 count)

-- all are of one width
wide_rows : (side : Side) (places : List ℕ) → AreWide 3 (map (made_fields side) places)
wide_rows side [] = tt
wide_rows side (place ∷ places) = (refl, wide_rows side places)

-- they are cut out of one list
pub made-are_rows : (side : Side) (count : ℕ)
    → AreRowsOf (made_rows side count) 3 count (flat_map (λ row. row) (made_rows side count))
made-are_rows side count = record {
  joined = refl;
  counted = length-map-range_with_len (made_fields side) 0 count;
  wide = wide_rows side (range_with_len 0 count);
}

-- with one row more
pub made-more : (side : Side) (count : ℕ)
    → flat_map (λ row. row) (made_rows side (count + 1))
    ≡ flat_map (λ row. row) (made_rows side count) ++ made_fields side count
made-more side count =
    ap (flat_map (λ row. row)) (map-range_with_len_more (made_fields side) 0 count count (omega arith))
    ∙ texts-more (made_rows side count) (made_fields side count)

-- of up to 2^16 rows it is: named, of one width, within the limit, with the number of each cell's text
pub made-shape : (side : Side) (count : ℕ) → count ≤ 2 ^ 16 → IsTable (made_table side count)
made-shape side count few =
    let row = λ (place : ℕ). cells_of (made_fields side place) in
    let places = range_with_len 0 count in
    record {
      named = omega arith;
      wide = All-map (λ (cells : List Cell). length cells ≡ length made_names) row places (λ k d within. refl);
      few = omega (arith, few, length-map-range_with_len row 0 count);
      numbers = All-map (λ (cells : List Cell). All HasItsNumber cells) row places
          (λ k d within. cells_numbers (made_fields side _));
    }
