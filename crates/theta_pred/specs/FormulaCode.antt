-- A code for formulas, by which a proof tells them apart: the marks of a formula in prefix order.
use Rattle.std.specs.Prelude.{◌≡◌, ℤ, List, [], ◌∷◌, refl}
use Rattle.std.specs.Coded.{Coded, code_by, coded_list}
use Rattle.std.proofs.Common.{ap, ◌∙◌}
use Rattle.theta_tree.specs.declared.tree.Op.{Op}
use Rattle.theta_pred.specs.declared.tree.SignedTerm.{SignedTerm}
use Rattle.theta_pred.specs.declared.tree.Text.{Text}
use Rattle.theta_pred.specs.Formula.{Formula, any, every, negation, num, band, txt, Formulas, no_formula, formula}

-- a constructor, with what it holds beside formulas
pub data Mark : Type 0 where
  is_any : Mark
  is_every : Mark
  is_negation : Mark
  is_num : List SignedTerm → Op → List SignedTerm → Mark
  is_band : List SignedTerm → Op → ℤ → Mark
  is_txt : Text → Op → Text → Mark
  no_more : Mark
  one_more : Mark

-- a formula that was read, or the members of one
pub data Part : Type 0 where
  one : Formula → Part
  members : Formulas → Part

-- the parts behind a mark, put together by it
abbrev pub read_mark : Mark → List Part → List Part
read_mark is_any (members fs ∷ parts) = one (any fs) ∷ parts
read_mark is_every (members fs ∷ parts) = one (every fs) ∷ parts
read_mark is_negation (one f ∷ parts) = one (negation f) ∷ parts
read_mark (is_num left op right) parts = one (num left op right) ∷ parts
read_mark (is_band sum op bound) parts = one (band sum op bound) ∷ parts
read_mark (is_txt left op right) parts = one (txt left op right) ∷ parts
read_mark no_more parts = members no_formula ∷ parts
read_mark one_more (one f ∷ members fs ∷ parts) = members (formula f fs) ∷ parts
read_mark _ parts = parts

-- the parts that these marks make, read from the last to the first
abbrev pub parts_of : List Mark → List Part
parts_of [] = []
parts_of (mark ∷ marks) = read_mark mark (parts_of marks)

-- the formula that was read last
abbrev pub first_formula : List Part → Formula
first_formula (one f ∷ parts) = f
first_formula _ = any no_formula

abbrev mutual
  -- the marks of a formula, in front of these
  pub marks_before : Formula → List Mark → List Mark
  marks_before (any fs) rest = is_any ∷ member_marks_before fs rest
  marks_before (every fs) rest = is_every ∷ member_marks_before fs rest
  marks_before (negation f) rest = is_negation ∷ marks_before f rest
  marks_before (num left op right) rest = is_num left op right ∷ rest
  marks_before (band sum op bound) rest = is_band sum op bound ∷ rest
  marks_before (txt left op right) rest = is_txt left op right ∷ rest

  -- the marks of its members, in front of these
  pub member_marks_before : Formulas → List Mark → List Mark
  member_marks_before no_formula rest = no_more ∷ rest
  member_marks_before (formula f fs) rest = one_more ∷ marks_before f (member_marks_before fs rest)

mutual
  -- the marks of a formula make just this part
  pub parts_of-marks : (f : Formula) (rest : List Mark) → parts_of (marks_before f rest) ≡ one f ∷ parts_of rest
  parts_of-marks (any fs) rest = ap (read_mark is_any) (parts_of-member_marks fs rest)
  parts_of-marks (every fs) rest = ap (read_mark is_every) (parts_of-member_marks fs rest)
  parts_of-marks (negation f) rest = ap (read_mark is_negation) (parts_of-marks f rest)
  parts_of-marks (num left op right) rest = refl
  parts_of-marks (band sum op bound) rest = refl
  parts_of-marks (txt left op right) rest = refl

  -- and those of its members just theirs
  pub parts_of-member_marks : (fs : Formulas) (rest : List Mark)
      → parts_of (member_marks_before fs rest) ≡ members fs ∷ parts_of rest
  parts_of-member_marks no_formula rest = refl
  parts_of-member_marks (formula f fs) rest =
      ap (read_mark one_more) (parts_of-marks f (member_marks_before fs rest)
      ∙ ap (λ parts. one f ∷ parts) (parts_of-member_marks fs rest))

-- a formula as its marks, and back
abbrev pub formula_code : Coded Mark → Coded Formula
formula_code marks = code_by (List Mark) (coded_list marks) (λ f. marks_before f []) (λ ms. first_formula (parts_of ms))
    (λ f. ap first_formula (parts_of-marks f []))
