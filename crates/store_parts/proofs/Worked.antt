-- Worked rows: two rows of R that probe a store of three rows of S by the key of a band.
use Rattle.std.specs.Prelude.{◌≡◌, ℕ, pos, neg_ℤ, false, Option, Some, None, List, [], ◌∷◌, codes, count_by, refl}
use Rattle.std.proofs.Common.{ap}
use Rattle.row_cells.specs.Numbers.{number_of}
use Rattle.row_cells.specs.Cells.{cell_of}
use Rattle.row_cells.specs.declared.table.Side.{Side}
use Rattle.row_cells.specs.declared.table.Side.TheVariants.{R, S}
use Rattle.epoch_tags.specs.declared.tuple.Tuple.{Tuple}
use Rattle.theta_pred.specs.declared.atom.KeyAtom.{KeyAtom}
use Rattle.theta_pred.specs.declared.agree.Access.{Access}
use Rattle.theta_pred.specs.declared.agree.Same.TheVariants.{Texts}
use Rattle.theta_pred.specs.declared.atom.Part.{Part}
use Rattle.theta_pred.specs.Keys.{atom_of, is_atom_true, Atom}
use Rattle.store_parts.specs.Evaluated.{evaluated, looked_at}
use Rattle.store_parts.specs.declared.by_stamp.Which.TheVariants.{All}

-- ---- the key of abs(r.at - s.at) <= 2, `at` being the second column of both

abbrev at : List Part
at = record { minus = false; column = 1 } ∷ []

abbrev band : Atom
band = record { r_sum = at; s_sum = at; low = Some (neg_ℤ (pos 2)); high = Some (pos 2) }

-- ---- the rows

abbrev row : Side → ℕ → List ℕ → List ℕ → Tuple
row side index price at =
    record { side = side; index = index; ticket = 0; stamp = 0; cells = cell_of price ∷ cell_of at ∷ [] }

abbrev stored : List Tuple
stored = row S 0 (codes "100") (codes "898") ∷ row S 1 (codes "101") (codes "902")
    ∷ row S 2 (codes "97") (codes "903") ∷ []

abbrev first : Tuple
first = row R 0 (codes "105") (codes "900")

abbrev second : Tuple
second = row R 1 (codes "99") (codes "903")

-- ---- what the probes evaluate

-- how many of the stored tuples an atom is true of
abbrev count : Tuple → Atom → ℕ
count t atom = count_by (λ other. is_atom_true atom t.cells other.cells) stored

-- the first row, at 900, evaluates those at 898 and 902
pub first_evaluates_2 : (key : KeyAtom) → atom_of key ≡ band → evaluated (Some key) first All stored ≡ 2
unfolding number_of
first_evaluates_2 key is_band = ap (count first) is_band

-- the second, at 903, evaluates those at 902 and 903
pub second_evaluates_2 : (key : KeyAtom) → atom_of key ≡ band → evaluated (Some key) second All stored ≡ 2
unfolding number_of
second_evaluates_2 key is_band = ap (count second) is_band

-- without a key the first evaluates all three
pub scan_evaluates_3 : evaluated None first All stored ≡ 3
scan_evaluates_3 = refl

-- ---- rows of one text, and an access that names it

abbrev word : Side → List ℕ → Tuple
word side text = record {
  side = side;
  index = 0;
  ticket = 0;
  stamp = 0;
  cells = cell_of text ∷ [];
}

abbrev words : List Tuple
words = word S (97 ∷ []) ∷ word S (98 ∷ []) ∷ word S (97 ∷ []) ∷ word S [] ∷ []

abbrev by_words : Access
by_words = record { sames = Texts (record { r = 0; s = 0 }) ∷ []; range = None }

-- a row of R with the first of these texts evaluates the two of four rows of S that have it too
pub text_evaluates_2 : (key : Option KeyAtom) → looked_at key (Some by_words) (word R (97 ∷ [])) All words ≡ 2
text_evaluates_2 key = refl
