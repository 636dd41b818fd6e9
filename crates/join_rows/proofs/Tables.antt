-- Which records are a table, and what is wrong with the others.
use Rattle.std.proofs.Common.{◌≡◌, ◌≢◌, ◌≤◌, ◌<◌, ◌+◌, ◌∙◌, ℕ, true, false, List, [], ◌∷◌, ◌++◌, length, map, arith}
use Rattle.std.proofs.Common.{refl, sym, ap, Ok, Err, None, Some, add-zero}
use Rattle.std.specs.Prelude.{◌==◌, nat_lt}
use Rattle.std.proofs.lemmas.List.{append-nil, append_assoc}
use Rattle.row_cells.specs.declared.table.Cell.{Cell}
use Rattle.row_cells.specs.Cells.{AreWide, cells_of}
use Rattle.join_rows.specs.Records.{fault_of_rows, most_rows, table_of_records}
use Rattle.join_rows.specs.declared.fault.TableFault.TheVariants as fault

-- rows of the width, and within the limit, are passed over
pub fault_of_rows-append : (width number : ℕ) (done more : List (List (List ℕ))) → AreWide width done
    → number + length done ≤ 262145
    → fault_of_rows width number (done ++ more) ≡ fault_of_rows width (number + length done) more
unfolding fault_of_rows
fault_of_rows-append width number [] more wide few = rw (add-zero number) refl
fault_of_rows-append width number (row ∷ done) more wide few =
    let within : nat_lt most_rows number ≡ false = grind (arith, few) in
    let same : (length row == width) ≡ true = grind (arith, wide.0) in
    let step : number + 1 + length done ≡ number + length (row ∷ done) = omega arith in
    rw (within, same) (fault_of_rows-append width (number + 1) done more wide.1 (omega (arith, few))
    ∙ ap (λ (n : ℕ). fault_of_rows width n more) step)

-- one more row of the width
pub wide-more : (width : ℕ) (done : List (List (List ℕ))) (row : List (List ℕ)) → AreWide width done
    → length row ≡ width → AreWide width (done ++ (row ∷ []))
wide-more width [] row wide e = (e, tt)
wide-more width (d ∷ done) row wide e = (wide.0, wide-more width done row wide.1 e)

-- the answers, from what was read of all the records

-- no record: no header
pub answers-none : (all : List (List (List ℕ))) → all ≡ [] → Err fault.NoHeader ≡ table_of_records all
unfolding table_of_records
answers-none all e = rw e refl

-- a header, and rows of its width within the limit: their table
pub answers-good : (all : List (List (List ℕ))) (names : List (List ℕ)) (done : List (List (List ℕ)))
    (rows : List (List Cell)) → all ≡ names ∷ done → rows ≡ map cells_of done
    → AreWide (length names) done → length done ≤ 262144 → Ok (record { names = names; rows = rows })
    ≡ table_of_records all
unfolding table_of_records fault_of_rows
answers-good all names done rows e r wide few =
    let none : fault_of_rows (length names) 1 done ≡ None =
    sym (ap (fault_of_rows (length names) 1) (append-nil done))
    ∙ fault_of_rows-append (length names) 1 done [] wide (omega (arith, few)) in
    rw (e, r, none) refl

-- within the limit, a first row of another width: its number and how many fields it has
pub answers-narrow : (all : List (List (List ℕ))) (names row : List (List ℕ)) (done more : List (List (List ℕ)))
    → all ≡ (names ∷ (done ++ (row ∷ []))) ++ more
    → AreWide (length names) done → length done < 262144 → length row ≢ length names
    → Err (fault.Width (length done + 1) (length row)) ≡ table_of_records all
unfolding table_of_records fault_of_rows
answers-narrow all names row done more e wide few other =
    let within : nat_lt most_rows (1 + length done) ≡ false = grind (arith, few) in
    let differs : (length row == length names) ≡ false = grind (arith, other) in
    let swap : 1 + length done ≡ length done + 1 = omega arith in
    let at_row : fault_of_rows (length names) (1 + length done) (row ∷ more)
    ≡ Some (fault.Width (length done + 1) (length row)) = rw (within, differs, swap) refl in
    let found = fault_of_rows-append (length names) 1 done (row ∷ more) wide (omega (arith, few)) ∙ at_row in
    rw (e, append_assoc done (row ∷ []) more, found) refl

-- a row past the limit, behind rows of the header's width alone: too many rows
pub answers-long : (all : List (List (List ℕ))) (names row : List (List ℕ)) (done more : List (List (List ℕ)))
    → all ≡ (names ∷ (done ++ (row ∷ []))) ++ more
    → AreWide (length names) done → length done ≡ 262144 → Err fault.TooMany ≡ table_of_records all
unfolding table_of_records fault_of_rows
answers-long all names row done more e wide many =
    let past : nat_lt most_rows (1 + length done) ≡ true = grind (arith, many) in
    let at_row : fault_of_rows (length names) (1 + length done) (row ∷ more) ≡ Some fault.TooMany = rw past refl in
    let found = fault_of_rows-append (length names) 1 done (row ∷ more) wide (omega (arith, many)) ∙ at_row in
    rw (e, append_assoc done (row ∷ []) more, found) refl
