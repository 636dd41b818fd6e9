-- Rows cut out of one list of cells.
use Rattle.std.proofs.Common.{◌≡◌, ◌≤◌, ◌<◌, ◌+◌, ◌*◌, ◌∙◌, ℕ, zero, suc, List, [], ◌∷◌, ◌++◌, length, take, drop}
use Rattle.std.proofs.Common.{◌-◌, ◌⊎◌, inl, inr, get_or, arith, ap, length-append, map, min, refl, sym, Option, None, Some}
use Rattle.std.proofs.Common.{ℤ, option_and_then, option_map, subst}
use Rattle.std.proofs.Props.{props}
use Rattle.std.specs.List.{slice_get}
use Rattle.std.proofs.lemmas.Option.{get_or_from_slice_get, slice_get-get_or, slice_get-map, slice_get_past}
use Rattle.std.specs.List.{AllByRecursion, flat_map}
use Rattle.std.proofs.Math.Seq.{drop-append-add, take-append_seam}
use Rattle.std.proofs.lemmas.List.{append-nil, get_or-drop, get_or-take, length-drop, length-take, map-append, take_all, take_more}
use Rattle.std.proofs.lemmas.List.Concat.{flat_map-append}
use Rattle.row_cells.specs.Cells.{AreWide, cell_of, cells_of, text_in}
use Rattle.row_cells.specs.Numbers.{number_of}
use Rattle.row_cells.specs.Shared.{AreRowsOf, part_of}
use Rattle.row_cells.specs.declared.table.Cell.{Cell}

-- the row at a place is cut out of the cells of all rows
row_cut : {T : Type 0} (rows : List (List T)) (width k : ℕ) → AllByRecursion (λ row. length row ≡ width) rows
    → k < length rows → part_of (flat_map (λ row. row) rows) (k * width) width ≡ get_or rows k []
row_cut [] width k wide within = absurd (omega (arith, within))
row_cut (row ∷ rows) width zero wide within =
    let none : zero * width ≡ 0 = omega arith in
    ap (λ n. take width (drop n (row ++ flat_map (λ r. r) rows))) none
    ∙ ap (λ n. take n (row ++ flat_map (λ r. r) rows)) (sym wide.0) ∙ take-append_seam row (flat_map (λ r. r) rows)
row_cut (row ∷ rows) width (suc k) wide within =
    let behind : suc k * width ≡ length row + k * width = omega (arith, wide.0) in
    ap (take width) (ap (λ n. drop n (row ++ flat_map (λ r. r) rows)) behind
    ∙ drop-append-add row (flat_map (λ r. r) rows) (k * width))
    ∙ row_cut rows width k wide.1 (omega (arith, within))

-- one more row
pub rows-more : {T : Type 0} (rows : List (List T)) (width count : ℕ) (cells : List T) (k : ℕ)
    → AreRowsOf rows width count cells → k < count
    → take (k + 1) rows ≡ take k rows ++ (part_of cells (k * width) width ∷ [])
rows-more rows width count cells k are more =
    let within : k < length rows = omega (arith, more, are.counted) in
    take_more rows k [] within ∙ ap (λ row. take k rows ++ (row ∷ []))
    (sym (row_cut rows width k are.wide within) ∙ ap (λ all. part_of all (k * width) width) are.joined)

-- and no more
pub rows-all : {T : Type 0} (rows : List (List T)) (width count : ℕ) (cells : List T) (k : ℕ)
    → AreRowsOf rows width count cells → count ≤ k → take k rows ≡ rows
rows-all rows width count cells k are end = take_all k rows (omega (arith, end, are.counted))

-- the cells of all rows are as many as the rows have
length_cells : {T : Type 0} (rows : List (List T)) (width : ℕ) → AllByRecursion (λ row. length row ≡ width) rows
    → length (flat_map (λ row. row) rows) ≡ length rows * width
length_cells [] width wide = omega arith
length_cells (row ∷ rows) width wide =
    omega (arith, length-append row (flat_map (λ r. r) rows), wide.0, length_cells rows width wide.1)

-- the rows of records of one width, and their texts
pub texts-are_rows : (width : ℕ) (done : List (List (List ℕ))) (texts : List (List ℕ)) → AreWide width done
    → texts ≡ flat_map (λ row. row) done → AreRowsOf done width (length done) texts
texts-are_rows width done texts wide joined = record { joined = sym joined; counted = refl; wide = wide }

-- so many cells have the rows
pub cells-counted : {T : Type 0} (rows : List (List T)) (width count : ℕ) (cells : List T)
    → AreRowsOf rows width count cells → length cells ≡ count * width
cells-counted rows width count cells are =
    ap length (sym are.joined) ∙ length_cells rows width are.wide ∙ ap (λ n. n * width) are.counted

-- one record more
pub texts-more : (done : List (List (List ℕ))) (row : List (List ℕ))
    → flat_map (λ r. r) (done ++ row ∷ []) ≡ flat_map (λ r. r) done ++ row
texts-more done row =
    flat_map-append (λ r. r) done (row ∷ [])
    ∙ ap (λ texts. flat_map (λ r. r) done ++ texts) (append-nil row)

-- how many items a part has
pub length-part : {T : Type 0} (items : List T) (first count : ℕ)
    → length (part_of items first count) ≡ min count (length items - first)
length-part items first count = length-take count (drop first items) ∙ ap (min count) (length-drop first items)

-- the item at a place of a part
pub part-get : {T : Type 0} (items : List T) (first count place : ℕ) (item : T) → place < length (part_of items first count)
    → slice_get items (first + place) ≡ Some item → slice_get (part_of items first count) place ≡ Some item
part-get items first count place item within there =
    let few : place < count = omega (arith, within, length-part items first count) in
    slice_get-get_or (part_of items first count) place item within
    ∙ ap (λ found. Some found) (get_or-take count (drop first items) place item few
    ∙ get_or-drop first items place item ∙ get_or_from_slice_get items (first + place) item item there)

-- a place behind a part
pub part-past : {T : Type 0} (items : List T) (first count place : ℕ) → (count ≤ place) ⊎ (length items ≤ first + place)
    → length (part_of items first count) ≤ place
part-past items first count place (inl past) = omega (arith, past, length-part items first count)
part-past items first count place (inr past) = omega (arith, past, length-part items first count)

-- the text of the cell at a place
pub cells-text : (texts : List (List ℕ)) (place : ℕ) (text : List ℕ) → slice_get texts place ≡ Some text
    → text ≡ text_in (slice_get (cells_of texts) place)
cells-text texts place text there =
    sym (ap text_in (slice_get-map cell_of texts place ∙ ap (option_map cell_of) there))

-- and past the last
pub cells-past : (texts : List (List ℕ)) (place : ℕ) → length texts ≤ place
    → [] ≡ text_in (slice_get (cells_of texts) place)
cells-past texts place past =
    sym (ap text_in (slice_get-map cell_of texts place ∙ ap (option_map cell_of) (slice_get_past texts place past)))

-- the number of the text of a cell is that of the cell
pub text-number : (found : Option Cell) → number_of (text_in found) ≡ option_and_then (λ cell. cell.num) found
unfolding number_of
text-number None = refl
text-number (Some cell) = sym cell.own

-- a cell is that of its text
pub cell-is : (cell : Cell) → cell_of cell.text ≡ cell
cell-is cell =
    let once : IsProp (number_of cell.text ≡ number_of cell.text) = hlevel props in
    subst (λ (num : Option ℤ). (own : num ≡ number_of cell.text)
    → cell_of cell.text ≡ record { text = cell.text; num = num; own = own }) (sym cell.own)
    (λ own. ap (λ own. record { text = cell.text; num = number_of cell.text; own = own }) (once refl own)) cell.own

-- one more cell of a row, whose text is this
pub cells-more : (row : List Cell) (place : ℕ) (text : List ℕ) → place < length row
    → text ≡ text_in (slice_get row place) → take (place + 1) row ≡ take place row ++ cell_of text ∷ []
cells-more row place text within is =
    let none = cell_of [] in
    let same : text ≡ (get_or row place none).text = is ∙ ap text_in (slice_get-get_or row place none within) in
    take_more row place none within
    ∙ ap (λ cell. take place row ++ cell ∷ []) (sym (ap cell_of same ∙ cell-is (get_or row place none)))

-- and one more text
pub texts_of-more : (row : List Cell) (place : ℕ) (text : List ℕ) → place < length row
    → text ≡ text_in (slice_get row place)
    → map (λ cell. cell.text) (take (place + 1) row) ≡ map (λ cell. cell.text) (take place row) ++ text ∷ []
texts_of-more row place text within is =
    ap (map (λ (cell : Cell). cell.text)) (cells-more row place text within is)
    ∙ map-append (λ (cell : Cell). cell.text) (take place row) (cell_of text ∷ [])

-- so many whole rows stand before a row
pub before-row : (place count width all : ℕ) → place < count → all ≡ count * width → place * width ≤ all
before-row place zero width all low is = absurd (omega (arith, low))
before-row zero (suc count) width all low is = omega arith
before-row (suc place) (suc count) width all low is =
    let one : suc place * width ≡ width + place * width = omega arith in
    let more : suc count * width ≡ width + count * width = omega arith in
    omega (arith, one, more, is, before-row place count width (count * width) (omega (arith, low)) refl)
