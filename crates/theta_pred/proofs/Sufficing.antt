-- Where a predicate says no more than its agreements, it is true of two rows that agree in all of them.
use Rattle.std.proofs.Common.{◌≡◌, ℕ, Bool, true, false, not, cond, List, [], ◌∷◌, ◌++◌, Option, Some, None, refl, sym}
use Rattle.std.proofs.Common.{ap, subst, ◌∙◌, arith, ℤ, pos, ◌-ℤ◌, neg_ℤ}
use Rattle.std.specs.Prelude.{int_le, is_some, option_map, option_to_list, ◌&&◌, ◌||◌}
use Rattle.std.specs.Cmp.{int_cmp_is}
use Rattle.std.specs.Ordering.{int_cmp, is_eq, nat_cmp}
use Rattle.std.specs.Cmp.Lexicographic.{slice_cmp}
use Rattle.std.specs.declared.cmp.Ordering.TheVariants.{Equal}
use Rattle.std.proofs.lemmas.Bool.{false≢true}
use Rattle.std.proofs.lemmas.Int.{ints}
use Rattle.std.proofs.lemmas.List.Folds.{list_all-append}
use Rattle.std.proofs.lemmas.Map.Text.{is_eq-slice_cmp}
use Rattle.std.proofs.lemmas.Slice.Eq.{bytes_eq-Decides}
use Rattle.std.specs.Str.{bytes_eq}
use Rattle.theta_tree.specs.declared.tree.Op.TheVariants.{Eq, Ne, Lt, Le, Gt, Ge}
use Rattle.row_cells.specs.declared.table.Cell.{Cell}
use Rattle.row_cells.specs.declared.table.Side.{Side}
use Rattle.row_cells.specs.declared.table.Side.TheVariants.{R, S}
use Rattle.theta_pred.specs.declared.atom.Part.{Part}
use Rattle.theta_pred.specs.declared.tree.Number.{Number}
use Rattle.theta_pred.specs.declared.tree.Number.TheVariants as numbers
use Rattle.theta_pred.specs.declared.tree.SignedTerm.{SignedTerm}
use Rattle.theta_pred.specs.declared.tree.Text.TheVariants as texts'
use Rattle.theta_pred.specs.Accesses.{Agreement, Suffices, Terms, access_of, agree_in_all, agreement_in, agreements_at}
use Rattle.theta_pred.specs.Accesses.{agreements_in, agreements_of, agrees, all_terms, alone, do_agree, has_same}
use Rattle.theta_pred.specs.Accesses.{is_in_range, of_sums, own_in, range_of, spans, tells_more, texts}
use Rattle.theta_pred.specs.Formula.{Formula, any, every, negation, num, band, txt, Formulas, no_formula, formula}
use Rattle.theta_pred.specs.Formula.{Meaning}
use Rattle.theta_pred.specs.Keys.{columns_of, constant_of, flipped, is_between, key_of, number_columns, splits}
use Rattle.theta_pred.specs.Linear.{value_of}
use Rattle.theta_pred.specs.OneSided.{is_true_alone, names}
use Rattle.theta_pred.specs.Sufficing.{agreements_suffice, each_suffices, gives_agreement, is_equality}
use Rattle.theta_pred.specs.Sums.{number_of, of_side, plus, signed_of, sum_of, with_sign}
use Rattle.theta_pred.specs.TextAtoms.{of_sides, text_at}
use Rattle.theta_pred.specs.Truth.{compares, each_is_true, is_true}
use Rattle.theta_pred.proofs.Agreements.{own_terms}
use Rattle.theta_pred.proofs.KeyBounds.{at_most}
use Rattle.theta_pred.proofs.KeyLaws.{difference_true, value_of-append}
use Rattle.theta_pred.proofs.KeyMembers.{and_left, and_right}
use Rattle.theta_pred.proofs.OneSidedLaws.{alone_true}
use Rattle.theta_pred.proofs.SumTests.{both}

-- ---- a sum is there where those of its columns of each side are

first_there : (o p : Option ℤ) → is_some (plus o p) ≡ true → is_some o ≡ true
first_there None p is = is
first_there (Some x) p is = refl

second_there : (o p : Option ℤ) → is_some (plus o p) ≡ true → is_some p ≡ true
second_there None p is = absurd (false≢true is)
second_there (Some x) None is = is
second_there (Some x) (Some y) is = refl

both_there : (o p : Option ℤ) → is_some o ≡ true → is_some p ≡ true → is_some (plus o p) ≡ true
both_there None p one two = one
both_there (Some x) None one two = two
both_there (Some x) (Some y) one two = refl

front_there : (xs ys : List Part) (row : List Cell) → is_some (value_of (xs ++ ys) row) ≡ true
    → is_some (value_of xs row) ≡ true
front_there xs ys row is =
    first_there (value_of xs row) (value_of ys row) (sym (ap is_some (value_of-append xs ys row)) ∙ is)

back_there : (xs ys : List Part) (row : List Cell) → is_some (value_of (xs ++ ys) row) ≡ true
    → is_some (value_of ys row) ≡ true
back_there xs ys row is =
    second_there (value_of xs row) (value_of ys row) (sym (ap is_some (value_of-append xs ys row)) ∙ is)

-- a number is there with one sign where it is with another
other_sign : (f g : ℤ → ℤ) (o : Option ℤ) → is_some (plus (option_map f o) (Some (pos 0))) ≡ true
    → is_some (option_map g o) ≡ true
other_sign f g None is = is
other_sign f g (Some x) is = refl

cell_there : (r s : List Cell) (minus t u : Bool) (side : Side) (place : ℕ)
    → is_some (value_of (number_columns R t (numbers.Cell (record { side = side; place = place }))) r) ≡ true
    → is_some (value_of (number_columns S u (numbers.Cell (record { side = side; place = place }))) s) ≡ true
    → is_some (option_map (with_sign minus) (number_of r s (numbers.Cell (record { side = side; place = place }))))
    ≡ true
cell_there r s minus t u R place in_r in_s = other_sign (with_sign t) (with_sign minus) _ in_r
cell_there r s minus t u S place in_r in_s = other_sign (with_sign u) (with_sign minus) _ in_s

number_there : (r s : List Cell) (minus t u : Bool) (number : Number)
    → is_some (value_of (number_columns R t number) r) ≡ true
    → is_some (value_of (number_columns S u number) s) ≡ true
    → is_some (option_map (with_sign minus) (number_of r s number)) ≡ true
number_there r s minus t u (numbers.Given value) in_r in_s = refl
number_there r s minus t u (numbers.Cell column) in_r in_s = cell_there r s minus t u column.side column.place in_r in_s

sum_there : (r s : List Cell) (t u : Bool) (terms : List SignedTerm)
    → is_some (value_of (columns_of R t terms) r) ≡ true → is_some (value_of (columns_of S u terms) s) ≡ true
    → is_some (sum_of r s terms) ≡ true
sum_there r s t u [] in_r in_s = refl
sum_there r s t u (term ∷ terms) in_r in_s =
    let t' = flipped t term.minus in
    let u' = flipped u term.minus in
    both_there (signed_of r s term) (sum_of r s terms)
    (number_there r s term.minus t' u' term.number
    (front_there (number_columns R t' term.number) (columns_of R t terms) r in_r)
    (front_there (number_columns S u' term.number) (columns_of S u terms) s in_s))
    (sum_there r s t u terms
    (back_there (number_columns R t' term.number) (columns_of R t terms) r in_r)
    (back_there (number_columns S u' term.number) (columns_of S u terms) s in_s))

-- ---- an equality of sums is true where its columns are so far apart

r_there : (gap : ℤ) (o p : Option ℤ) → is_between (Some gap) (Some gap) o p ≡ true → is_some o ≡ true
r_there gap None p is = is
r_there gap (Some x) p is = refl

s_there : (gap : ℤ) (o p : Option ℤ) → is_between (Some gap) (Some gap) o p ≡ true → is_some p ≡ true
s_there gap None p is = absurd (false≢true is)
s_there gap (Some x) None is = is
s_there gap (Some x) (Some y) is = refl

enclosed : (a b : ℤ) → (int_le a b && int_le b a) ≡ true → a ≡ b
enclosed a b is =
    let above = and_left (int_le a b) (int_le b a) is in
    let below = and_right (int_le a b) (int_le b a) is in
    grind (arith, ints, above, below)

one_gap : (a b : ℤ) (o p : Option ℤ) → is_between (Some a) (Some a) o p ≡ true
    → is_between (Some b) (Some b) o p ≡ true → a ≡ b
one_gap a b None p one two = absurd (false≢true one)
one_gap a b (Some x) None one two = absurd (false≢true one)
one_gap a b (Some x) (Some y) one two = enclosed a (x -ℤ y) one ∙ sym (enclosed b (x -ℤ y) two)

equal_compare : (x y : ℤ) → x ≡ y → is_eq (int_cmp x y) ≡ true
equal_compare x y is = ap is_eq (sym (int_cmp_is x y Equal is))

module _ (r s : List Cell) (left right : List SignedTerm) where
  equal_sums : (o p : Option ℤ) → o ≡ sum_of r s left
      → p ≡ sum_of r s right
      → is_some o ≡ true → is_some p ≡ true → agrees r s (of_sums left right) ≡ true → compares Eq o p ≡ true
  equal_sums None p is_o is_p one two agree = absurd (false≢true one)
  equal_sums (Some x) None is_o is_p one two agree = absurd (false≢true two)
  equal_sums (Some x) (Some y) is_o is_p one two agree =
      let c = constant_of left -ℤ constant_of right in
      let g = (x -ℤ y) -ℤ c in
      let apart = difference_true r s left right (Some g) (Some g) x y (sym is_o) (sym is_p)
      (λ gap is. both _ _ (at_most g gap (omega (arith, ints))) (at_most gap g (omega (arith, ints)))) in
      let same = one_gap g (neg_ℤ c) _ _ apart agree in
      equal_compare x y (omega (arith, ints, same))

sums_equal : (r s : List Cell) (left right : List SignedTerm) → agrees r s (of_sums left right) ≡ true
    → compares Eq (sum_of r s left) (sum_of r s right) ≡ true
sums_equal r s left right agree =
    let gap = neg_ℤ (constant_of left -ℤ constant_of right) in
    let rs = columns_of R false left ++ columns_of R true right in
    let ss = columns_of S true left ++ columns_of S false right in
    let in_r = r_there gap (value_of rs r) (value_of ss s) agree in
    let in_s = s_there gap (value_of rs r) (value_of ss s) agree in
    equal_sums r s left right (sum_of r s left) (sum_of r s right) refl refl
    (sum_there r s false true left (front_there (columns_of R false left) (columns_of R true right) r in_r)
    (front_there (columns_of S true left) (columns_of S false right) s in_s))
    (sum_there r s true false right (back_there (columns_of R false left) (columns_of R true right) r in_r)
    (back_there (columns_of S true left) (columns_of S false right) s in_s))
    agree

-- ---- an equality of texts is true where the texts of its columns are equal

texts_equal : (xs ys : List ℕ) → xs ≡ ys → is_eq (slice_cmp nat_cmp xs ys) ≡ true
texts_equal xs ys is = is_eq-slice_cmp xs ys ∙ (bytes_eq-Decides xs ys).1 is

of_two : (r s : List Cell) (left right : Side) (i j : ℕ) → is_some (of_sides left right i j) ≡ true
    → agree_in_all (option_to_list (option_map texts (of_sides left right i j))) r s ≡ true
    → is_true r s (txt (texts'.Cell (record { side = left; place = i })) Eq
    (texts'.Cell (record { side = right; place = j }))) ≡ true
of_two r s R R i j has agree = absurd (false≢true has)
of_two r s S S i j has agree = absurd (false≢true has)
of_two r s R S i j has agree =
    texts_equal (text_at i r) (text_at j s)
    ((bytes_eq-Decides (text_at i r) (text_at j s)).0 (and_left (bytes_eq (text_at i r) (text_at j s)) true agree))
of_two r s S R i j has agree =
    texts_equal (text_at i s) (text_at j r)
    (sym ((bytes_eq-Decides (text_at j r) (text_at i s)).0
    (and_left (bytes_eq (text_at j r) (text_at i s)) true agree)))

-- ---- a member is true where rows agree in what it gives

split_equal : (r s : List Cell) (left right : List SignedTerm) (b : Bool) → b ≡ true
    → agree_in_all (option_to_list (cond b (Some (of_sums left right)) None)) r s ≡ true
    → compares Eq (sum_of r s left) (sum_of r s right) ≡ true
split_equal r s left right true has agree =
    sums_equal r s left right (and_left (agrees r s (of_sums left right)) true agree)
split_equal r s left right false has agree = absurd (false≢true has)

-- an equality is true where rows agree in it
equality_enough : (r s : List Cell) (f : Formula) → is_equality f ≡ true
    → agree_in_all (option_to_list (agreement_in f)) r s ≡ true → is_true r s f ≡ true
equality_enough r s (any fs) has agree = absurd (false≢true has)
equality_enough r s (every fs) has agree = absurd (false≢true has)
equality_enough r s (negation f) has agree = absurd (false≢true has)
equality_enough r s (num left Eq right) has agree = split_equal r s left right (splits left right) has agree
equality_enough r s (num left Ne right) has agree = absurd (false≢true has)
equality_enough r s (num left Lt right) has agree = absurd (false≢true has)
equality_enough r s (num left Le right) has agree = absurd (false≢true has)
equality_enough r s (num left Gt right) has agree = absurd (false≢true has)
equality_enough r s (num left Ge right) has agree = absurd (false≢true has)
equality_enough r s (band sum op bound) has agree = absurd (false≢true has)
equality_enough r s (txt (texts'.Given bytes) op right) has agree = absurd (false≢true has)
equality_enough r s (txt (texts'.Cell left) Eq (texts'.Given bytes)) has agree = absurd (false≢true has)
equality_enough r s (txt (texts'.Cell left) Eq (texts'.Cell right)) has agree =
    of_two r s left.side right.side left.place right.place has agree
equality_enough r s (txt (texts'.Cell left) Ne right) has agree = absurd (false≢true has)
equality_enough r s (txt (texts'.Cell left) Lt right) has agree = absurd (false≢true has)
equality_enough r s (txt (texts'.Cell left) Le right) has agree = absurd (false≢true has)
equality_enough r s (txt (texts'.Cell left) Gt right) has agree = absurd (false≢true has)
equality_enough r s (txt (texts'.Cell left) Ge right) has agree = absurd (false≢true has)

-- a test of one side is true where the side's row passes it, by whether it names columns of the other
own_by : (side : Side) (r s : List Cell) (f : Formula) (named : Bool) → names (of_side S R side) f ≡ named
    → not named ≡ true
    → agree_in_all (option_to_list (cond named None (Some (alone side f)))) r s ≡ true → is_true r s f ≡ true
own_by side r s f true names_some has agree = absurd (false≢true has)
own_by side r s f false names_none has agree =
    alone_true side r s f names_none (and_left (is_true_alone side (of_side r s side) f) true agree)

own_enough : (side : Side) (r s : List Cell) (f : Formula) → not (names (of_side S R side) f) ≡ true
    → agree_in_all (option_to_list (own_in side f)) r s ≡ true → is_true r s f ≡ true
own_enough side r s f has agree = own_by side r s f (names (of_side S R side) f) refl has agree

-- rows that agree in two lists of agreements agree in each
front_agrees : (r s : List Cell) (these those : List Agreement) → agree_in_all (these ++ those) r s ≡ true
    → agree_in_all these r s ≡ true
front_agrees r s these those agree =
    and_left (agree_in_all these r s) (agree_in_all those r s)
    (sym (list_all-append (agrees r s) these those) ∙ agree)

back_agrees : (r s : List Cell) (these those : List Agreement) → agree_in_all (these ++ those) r s ≡ true
    → agree_in_all those r s ≡ true
back_agrees r s these those agree =
    and_right (agree_in_all these r s) (agree_in_all those r s)
    (sym (list_all-append (agrees r s) these those) ∙ agree)

-- what follows from each of two follows where one of them is true
of_either : (P : Type 0) (a b : Bool) → (a ≡ true → P) → (b ≡ true → P) → (a || b) ≡ true → P
of_either P true b one other is = one refl
of_either P false b one other is = other is

-- a member that gives an agreement is true where rows agree in all that it gives
member_enough : (r s : List Cell) (f : Formula) → gives_agreement f ≡ true
    → agree_in_all (agreements_at f) r s ≡ true → is_true r s f ≡ true
member_enough r s f gives agree =
    let equality = option_to_list (agreement_in f) in
    let own_r = option_to_list (own_in R f) in
    let own_s = option_to_list (own_in S f) in
    let two = front_agrees r s (equality ++ own_r) own_s agree in
    of_either (is_true r s f ≡ true) (is_equality f || not (names S f)) (not (names R f))
    (of_either (is_true r s f ≡ true) (is_equality f) (not (names S f))
    (λ is. equality_enough r s f is (front_agrees r s equality own_r two))
    (λ is. own_enough R r s f is (back_agrees r s equality own_r two)))
    (λ is. own_enough S r s f is (back_agrees r s (equality ++ own_r) own_s agree))
    gives

mutual
  -- a predicate that says no more than its agreements is true where rows agree in all of these
  pub suffices-law : (r s : List Cell) (f : Formula) → agreements_suffice f ≡ true
      → agree_in_all (agreements_of f) r s ≡ true → is_true r s f ≡ true
  suffices-law r s (any fs) enough agree = member_enough r s (any fs) enough agree
  suffices-law r s (every fs) enough agree = each_suffices-law r s fs enough agree
  suffices-law r s (negation f) enough agree = member_enough r s (negation f) enough agree
  suffices-law r s (num left op right) enough agree = member_enough r s (num left op right) enough agree
  suffices-law r s (band sum op bound) enough agree = member_enough r s (band sum op bound) enough agree
  suffices-law r s (txt left op right) enough agree = member_enough r s (txt left op right) enough agree

  -- so is each of members that say no more
  pub each_suffices-law : (r s : List Cell) (fs : Formulas) → each_suffices fs ≡ true
      → agree_in_all (agreements_in fs) r s ≡ true → each_is_true r s fs ≡ true
  each_suffices-law r s no_formula enough agree = refl
  each_suffices-law r s (formula f fs) enough agree =
      both (is_true r s f) (each_is_true r s fs)
      (suffices-law r s f (and_left (agreements_suffice f) (each_suffices fs) enough)
      (front_agrees r s (agreements_of f) (agreements_in fs) agree))
      (each_suffices-law r s fs (and_right (agreements_suffice f) (each_suffices fs) enough)
      (back_agrees r s (agreements_of f) (agreements_in fs) agree))

-- a predicate that says no more than its agreements is true of rows that agree in all of its access
pub access_suffices : (theta : Meaning) (terms : Terms) → agreements_suffice theta.formula ≡ true
    → access_of theta.formula ≡ Some terms → Suffices theta terms
access_suffices theta terms enough is =
    let f = theta.formula in
    let more = has_same (agreements_of f) || tells_more (key_of f) (range_of (spans f)) in
    λ r s agree. suffices-law r s f enough
    (and_left (agree_in_all (agreements_of f) r s) (is_in_range (range_of (spans f)) r s)
    (subst (λ t. do_agree t r s ≡ true) (sym (own_terms more (all_terms f) terms is)) agree))
