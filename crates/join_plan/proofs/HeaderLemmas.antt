-- Headers that are compared name by name.
use Rattle.std.proofs.Common.{◌≡◌, ◌+◌, ◌<◌, ℕ, zero, suc, Bool, true, false, List, [], ◌∷◌, length, refl, sym, ap}
use Rattle.std.proofs.Common.{subst, arith, get_or}
use Rattle.std.specs.Prelude.{◌&&◌, not}
use Rattle.std.specs.Str.{bytes_eq}
use Rattle.std.proofs.lemmas.Slice.Eq.{bytes_eq-Decides}
use Rattle.std.proofs.Math.Bool.{true≢false}
use Rattle.std.proofs.lemmas.List.Elements.{All-append}
use Rattle.std.proofs.lemmas.List.{length-append}
use Rattle.std.specs.Prelude.{◌++◌, ◌≤◌, All}
use Rattle.row_cells.specs.Cells.{HasItsNumber}
use Rattle.join_rows.specs.Records.{IsTable, most_rows}
use Rattle.row_cells.specs.declared.table.Table.{Table}
use Rattle.join_plan.specs.Headers.{same_names}

-- a test whose opposite holds fails
pub not_true : (b : Bool) → true ≡ not b → b ≡ false
not_true true is = absurd (true≢false is)
not_true false is = refl

and_false : (b : Bool) → (b && false) ≡ false
and_false true = refl
and_false false = refl

-- headers of two lengths aren't equal
pub names_differ : (one other : List (List ℕ)) → (length one ≡ length other → ⊥) → false ≡ same_names one other
unfolding same_names
names_differ [] [] differ = absurd (differ refl)
names_differ [] (b ∷ others) differ = refl
names_differ (a ∷ names) [] differ = refl
names_differ (a ∷ names) (b ∷ others) differ = rw (← names_differ names others (λ l. differ (ap suc l)))
    (sym (and_false (bytes_eq a b)))

-- the names at this place aren't the same
pub names_part : (one other : List (List ℕ)) (i : ℕ) (d e : List ℕ) → i < length one → length one ≡ length other
    → bytes_eq (get_or one i d) (get_or other i e) ≡ false → false ≡ same_names one other
unfolding same_names
names_part [] other i d e below long part = absurd (omega (arith, below))
names_part (a ∷ names) [] i d e below long part = refl
names_part (a ∷ names) (b ∷ others) zero d e below long part = rw part refl
names_part (a ∷ names) (b ∷ others) (suc i) d e below long part =
    rw (← names_part names others i d e (omega (arith, below)) (omega (arith, long)) part)
    (sym (and_false (bytes_eq a b)))

-- the names of all places below this are the same
pub names_same : (one other : List (List ℕ)) → length one ≡ length other
    → ((i : ℕ) → i < length one → bytes_eq (get_or one i []) (get_or other i []) ≡ true) → true ≡ same_names one other
unfolding same_names
names_same [] [] long same = refl
names_same [] (b ∷ others) long same = absurd (omega (arith, long))
names_same (a ∷ names) [] long same = absurd (omega (arith, long))
names_same (a ∷ names) (b ∷ others) long same =
    rw (same zero (omega arith)) (names_same names others (omega (arith, long))
    (λ i below. same (suc i) (omega (arith, below))))

-- equal headers are one
pub names_are : (one other : List (List ℕ)) → same_names one other ≡ true → one ≡ other
unfolding same_names
names_are [] [] same = refl
names_are [] (b ∷ others) same = absurd (true≢false (sym same))
names_are (a ∷ names) [] same = absurd (true≢false (sym same))
names_are (a ∷ names) (b ∷ others) same = by (bytes_eq a b) refl (names_are names others) same
  where
    by : (e : Bool) → bytes_eq a b ≡ e → (same_names names others ≡ true → names ≡ others)
        → (e && same_names names others) ≡ true → (a ∷ names) ≡ (b ∷ others)
    by true is others_are both = rw ((bytes_eq-Decides a b).0 is, others_are both) refl
    by false is others_are both = absurd (true≢false (sym both))

-- the rows of both under one header are a table
pub joined_table : (first more joined : Table) → IsTable first → IsTable more → same_names first.names more.names ≡ true
    → joined.names ≡ first.names → joined.rows ≡ first.rows ++ more.rows
    → length first.rows + length more.rows ≤ most_rows → IsTable joined
joined_table first more joined is_first is_more same names rows few = record {
  named = rw names is_first.named;
  wide = rw (names, rows) (All-append (λ row. length row ≡ length first.names) first.rows more.rows is_first.wide
      (subst (λ n. All (λ row. length row ≡ length n) more.rows) (sym (names_are first.names more.names same))
      is_more.wide));
  few = rw (rows, length-append first.rows more.rows) few;
  numbers = rw rows (All-append (λ row. All HasItsNumber row) first.rows more.rows is_first.numbers is_more.numbers);
}
