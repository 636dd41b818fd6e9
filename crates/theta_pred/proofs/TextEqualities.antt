-- Where an equality of texts is true of two rows, the texts of its columns are equal.
use Rattle.std.proofs.Common.{◌≡◌, ℕ, true, List, Some, sym, subst, ◌∙◌}
use Rattle.std.specs.Ordering.{is_eq, nat_cmp}
use Rattle.std.specs.Cmp.Lexicographic.{slice_cmp}
use Rattle.std.proofs.lemmas.Map.Text.{is_eq-slice_cmp}
use Rattle.std.proofs.lemmas.Slice.Eq.{bytes_eq-Decides}
use Rattle.std.proofs.lemmas.Option.{none-some}
use Rattle.theta_tree.specs.declared.tree.Op.TheVariants.{Eq}
use Rattle.row_cells.specs.declared.table.Cell.{Cell}
use Rattle.row_cells.specs.declared.table.Side.{Side}
use Rattle.row_cells.specs.declared.table.Side.TheVariants.{R, S}
use Rattle.theta_pred.specs.declared.text_atom.TextAtom.{TextAtom}
use Rattle.theta_pred.specs.declared.tree.Column.{Column}
use Rattle.theta_pred.specs.declared.tree.Text.TheVariants as texts
use Rattle.theta_pred.specs.Formula.{txt}
use Rattle.theta_pred.specs.TextAtoms.{of_sides, of_columns, text_at}
use Rattle.theta_pred.specs.Truth.{is_true}
use Rattle.theta_pred.proofs.KeyLaws.{some-injective}

same_texts : (xs ys : List ℕ) → is_eq (slice_cmp nat_cmp xs ys) ≡ true → xs ≡ ys
same_texts xs ys is = (bytes_eq-Decides xs ys).0 (sym (is_eq-slice_cmp xs ys) ∙ is)

-- the texts of an atom's columns are equal in two rows
abbrev AreEqual : List Cell → List Cell → TextAtom → Type 0
AreEqual r s atom = text_at atom.r r ≡ text_at atom.s s

of_two : (r s : List Cell) (left right : Side) (i j : ℕ) (atom : TextAtom) → of_sides left right i j ≡ Some atom
    → is_true r s (txt (texts.Cell (record {
      side =
          left;
      place = i;
    })) Eq (texts.Cell (record { side = right; place = j }))) ≡ true
    → AreEqual r s atom
of_two r s R R i j atom is holds = absurd (none-some atom is)
of_two r s S S i j atom is holds = absurd (none-some atom is)
of_two r s R S i j atom is holds =
    subst (AreEqual r s) (some-injective (record {
      r =
          i;
      s = j;
    }) atom is) (same_texts (text_at i r) (text_at j s) holds)
of_two r s S R i j atom is holds =
    subst (AreEqual r s) (some-injective (record {
      r =
          j;
      s = i;
    }) atom is) (sym (same_texts (text_at i s) (text_at j r) holds))

-- where an equality of the texts of a column of R and one of S is true, the two rows have one text there
pub of_columns-equal : (r s : List Cell) (left right : Column) (atom : TextAtom) → of_columns left right ≡ Some atom
    → is_true r s (txt (texts.Cell left) Eq (texts.Cell right)) ≡ true → text_at atom.r r ≡ text_at atom.s s
of_columns-equal r s left right atom is holds = of_two r s left.side right.side left.place right.place atom is holds
