-- Lists of pairs in order are one list where they are one bag, and the nested loop is in order.
use Rattle.std.proofs.Common.{◌≡◌, ℕ, ◌+◌, ◌<◌, ◌≤◌, ◌^◌, inl, inr, refl, sym, ◌∙◌, ap, subst, arith, Bool, true, false}
use Rattle.std.proofs.Common.{cond, List, [], ◌∷◌, ◌++◌, Some, None}
use Rattle.std.specs.Prelude.{filter, sum_by, filter_map, flat_map, ◌==◌}
use Rattle.std.specs.List.{AllByRecursion, enumerate_from, cons_option}
use Rattle.std.proofs.lemmas.Bool.{cases_Bool, and_parts, and_from, eqb-true, eq-eqb}
use Rattle.std.proofs.lemmas.List.Sums.{sum_by-cons}
use Rattle.row_cells.specs.declared.table.Cell.{Cell}
use Rattle.row_cells.specs.declared.table.Side.TheVariants.{R, S}
use Rattle.row_cells.specs.Lists.{SameBag, IsWithinBag}
use Rattle.row_cells.proofs.Bags.{only_if}
use Rattle.epoch_tags.specs.declared.tuple.Pair.{Pair}
use Rattle.epoch_tags.specs.declared.message.ToCollector.{ToCollector}
use Rattle.epoch_tags.specs.declared.message.ToCollector.TheVariants.{Found, Fin}
use Rattle.epoch_tags.specs.Messages.{found_before_fin}
use Rattle.pair_collector.specs.Law.{pairs_taken}
use Rattle.pair_collector.specs.Order.{IsBefore, InOrder}
use Rattle.trace_law.specs.declared.input.Input.{Input}
use Rattle.trace_law.specs.Join.{has_new, wave_pairs, nested_loop, matches_of, rows_of}
use Rattle.trace_law.specs.declared.setting.Setting.{Setting}
use Rattle.trace_law.specs.Validity.{IsValid}
use Rattle.trace_law.specs.Family.{Rest, IsRestFor, Family, IsAgreeing, is_pair}
use Rattle.trace_law.proofs.Loop.{loop_pair}
use Rattle.load_controller.specs.declared.line.TurnLine.{TurnLine}
use Rattle.trace_law.proofs.StampOf.{filtered}
use Rattle.trace_law.proofs.Sent.{nothing_wrong}
use Rattle.row_cells.proofs.Within.{IsWithinBag-trans, within-gather, within-append, within-refl}
use Rattle.row_cells.proofs.Everywhere.{weaken, all-append}

one_pair : (p q : Pair) → p.i ≡ q.i → p.j ≡ q.j → p ≡ q
one_pair p q same_i same_j = ap (λ n. loop_pair n p.j) same_i ∙ ap (λ n. loop_pair q.i n) same_j

-- what holds of all pairs holds of one that is there
holds_of : (P : Pair → Type 0) (x : Pair) (zs : List Pair) → 0 < sum_by (λ z. only_if (is_pair x.i x.j z) 1) zs
    → AllByRecursion P zs → P x
holds_of P x [] some each = absurd (omega arith)
holds_of P x (z ∷ zs) some (here, more) = elim (cases_Bool (is_pair x.i x.j z)) [
  | inl is ↦
      let parts = and_parts (z.i == x.i) (z.j == x.j) is in
      subst P (one_pair z x (eqb-true z.i x.i parts.0) (eqb-true z.j x.j parts.1)) here
  | inr other ↦
      let all = sum_by-cons (λ y. only_if (is_pair x.i x.j y) 1) z zs in
      let none : only_if (is_pair x.i x.j z) 1 ≡ 0 = ap (λ t. only_if t 1) other in
      holds_of P x zs (omega arith) more
]

is_there : (x : Pair) (xs : List Pair) → 0 < sum_by (λ z. only_if (is_pair x.i x.j z) 1) (x ∷ xs)
is_there x xs =
    let all = sum_by-cons (λ y. only_if (is_pair x.i x.j y) 1) x xs in
    let one : only_if (is_pair x.i x.j x) 1 ≡ 1 =
    ap (λ t. only_if t 1) (and_from (x.i == x.i) (x.j == x.j) (eq-eqb x.i x.i refl) (eq-eqb x.j x.j refl)) in
    omega arith

both_before : (p q : Pair) → IsBefore p q → IsBefore q p → p ≡ q
both_before p q (inl less) (inl more) = absurd (omega arith)
both_before p q (inl less) (inr (same, low)) = absurd (omega arith)
both_before p q (inr (same, low)) (inl more) = absurd (omega arith)
both_before p q (inr (same, low)) (inr (same', low')) = one_pair p q same (omega arith)

-- two lists in order that are one bag are one list
pub one_order : (xs ys : List Pair) → SameBag xs ys → InOrder xs → InOrder ys → xs ≡ ys
one_order [] [] same left right = refl
one_order [] (y ∷ ys) same left right = let is = same.sums (λ p. 1) in
    let all = sum_by-cons (λ (p : Pair). 1) y ys in absurd (omega arith)
one_order (x ∷ xs) [] same left right = let is = same.sums (λ p. 1) in
    let all = sum_by-cons (λ (p : Pair). 1) x xs in absurd (omega arith)
one_order (x ∷ xs) (y ∷ ys) same (first, left) (first', right) =
    let count_x = same.sums (λ z. only_if (is_pair x.i x.j z) 1) in
    let count_y = same.sums (λ z. only_if (is_pair y.i y.j z) 1) in
    let x_there = is_there x xs in
    let y_there = is_there y ys in
    let self : (p : Pair) → IsBefore p p = λ p. inr (refl, omega arith) in
    let y_first : IsBefore y x = holds_of (IsBefore y) x (y ∷ ys) (omega arith) (self y, first') in
    let x_first : IsBefore x y = holds_of (IsBefore x) y (x ∷ xs) (omega arith) (self x, first) in
    let head : x ≡ y = both_before x y x_first y_first in
    let more : SameBag xs ys = record {
      sums = λ f.
          let a = sum_by-cons f x xs in
          let c = sum_by-cons f y ys in
          let is = same.sums f in
          let one = ap f head in
          omega arith;
    } in
    ap (λ z. z ∷ xs) head ∙ ap (λ zs. y ∷ zs) (one_order xs ys more left right)

-- ---- the nested loop

in_order-append : (P Q : Pair → Type 0) → ((p q : Pair) → P p → Q q → IsBefore p q) → (xs ys : List Pair) → InOrder xs
    → InOrder ys → AllByRecursion P xs → AllByRecursion Q ys → InOrder (xs ++ ys)
in_order-append P Q before [] ys left right ps qs = right
in_order-append P Q before (x ∷ xs) ys (first, left) right (p, ps) qs = (
  all-append (IsBefore x) xs ys first (weaken Q (IsBefore x) (λ q is. before x q p is) ys qs),
  in_order-append P Q before xs ys left right ps qs,
)

module _ (input : Input) where
  abbrev inner : ℕ × List Cell → ℕ → List (List Cell) → List Pair
  inner a n rows =
      filter_map (λ b. cond (matches_of input a.1 b.1) (Some (loop_pair a.0 b.0)) None) (enumerate_from n rows)

  inner_all : (a : ℕ × List Cell) (n m : ℕ) (rows : List (List Cell)) → m ≤ n
      → AllByRecursion (λ p. (p.i ≡ a.0) × (m ≤ p.j)) (inner a n rows)
  inner_all a n m [] low = tt
  inner_all a n m (row ∷ rows) low = by_test (matches_of input a.1 row) (inner_all a (n + 1) m rows (omega arith))
    where
      by_test : (t : Bool) → AllByRecursion (λ (p : Pair). (p.i ≡ a.0) × (m ≤ p.j)) (inner a (n + 1) rows)
          → AllByRecursion (λ (p : Pair). (p.i ≡ a.0) × (m ≤ p.j))
          (cons_option (cond t (Some (loop_pair a.0 n)) None) (inner a (n + 1) rows))
      by_test true more = ((refl, low), more)
      by_test false more = more

  inner_order : (a : ℕ × List Cell) (n : ℕ) (rows : List (List Cell)) → InOrder (inner a n rows)
  inner_order a n [] = tt
  inner_order a n (row ∷ rows) =
      by_test (matches_of input a.1 row) (inner_order a (n + 1) rows) (inner_all a (n + 1) n rows (omega arith))
    where
      by_test : (t : Bool) → InOrder (inner a (n + 1) rows)
          → AllByRecursion (λ (p : Pair). (p.i ≡ a.0) × (n ≤ p.j)) (inner a (n + 1) rows)
          → InOrder (cons_option (cond t (Some (loop_pair a.0 n)) None) (inner a (n + 1) rows))
      by_test true more each = (
        weaken (λ p. (p.i ≡ a.0) × (n ≤ p.j)) (IsBefore (loop_pair a.0 n)) (λ p is. inr (sym is.0, is.1))
            (inner a (n + 1) rows) each,
        more,
      )
      by_test false more each = more

  abbrev outer : ℕ → List (List Cell) → List Pair
  outer n rows = flat_map (λ a. inner a 0 (rows_of input S)) (enumerate_from n rows)

  outer_all : (n m : ℕ) (rows : List (List Cell)) → m ≤ n → AllByRecursion (λ p. m ≤ p.i) (outer n rows)
  outer_all n m [] low = tt
  outer_all n m (row ∷ rows) low =
      all-append (λ p. m ≤ p.i) (inner (n, row) 0 (rows_of input S)) (outer (n + 1) rows)
      (weaken (λ p. (p.i ≡ n) × (0 ≤ p.j)) (λ p. m ≤ p.i) (λ p is. omega (arith, is.0))
      (inner (n, row) 0 (rows_of input S)) (inner_all (n, row) 0 0 (rows_of input S) (omega arith)))
      (outer_all (n + 1) m rows (omega arith))

  outer_order : (n : ℕ) (rows : List (List Cell)) → InOrder (outer n rows)
  outer_order n [] = tt
  outer_order n (row ∷ rows) =
      in_order-append (λ p. (p.i ≡ n) × (0 ≤ p.j)) (λ q. n + 1 ≤ q.i) (λ p q is more. inl (omega (arith, is.0)))
      (inner (n, row) 0 (rows_of input S)) (outer (n + 1) rows)
      (inner_order (n, row) 0 (rows_of input S)) (outer_order (n + 1) rows)
      (inner_all (n, row) 0 0 (rows_of input S) (omega arith)) (outer_all (n + 1) (n + 1) rows (omega arith))

  -- the nested loop is in order
  pub loop_in_order : InOrder (nested_loop input)
  loop_in_order = outer_order 0 (rows_of input R)

filter_in_order : (keep : Pair → Bool) (xs : List Pair) → InOrder xs → InOrder (filter keep xs)
filter_in_order keep [] order = tt
filter_in_order keep (x ∷ xs) (first, order) = by_test (keep x) (filter_in_order keep xs order)
  where
    by_test : (c : Bool) → InOrder (filter keep xs) → InOrder (cond c (x ∷ filter keep xs) (filter keep xs))
    by_test true more = (filtered (IsBefore x) keep xs first, more)
    by_test false more = more

-- and so are those with a row of the wave
pub wave_in_order : (input : Input) (line : TurnLine) → InOrder (wave_pairs input line)
wave_in_order input line = filter_in_order (has_new line) (nested_loop input) (loop_in_order input)

-- ---- what the collector has at every moment

found_front : (xs ys : List ToCollector) → IsWithinBag (found_before_fin xs) (found_before_fin (xs ++ ys))
found_front [] ys = record { sums = λ f. omega arith }
found_front (Found ps ∷ xs) ys = within-append (within-refl ps) (found_front xs ys)
found_front (Fin rows_r rows_s moved ∷ xs) ys = within-refl []

-- at every moment the collector has taken pairs of the wave, none twice
pub nothing_wrong_taken : (input : Input) (setting : Setting) → IsValid input setting → (rest : Rest)
    → IsRestFor input setting rest → (f : Family) → IsAgreeing input setting rest f
    → IsWithinBag (pairs_taken (2 ^ setting.k) f.collector) (wave_pairs input rest.line)
nothing_wrong_taken input setting valid rest stands f agrees =
    IsWithinBag-trans
    (within-gather (2 ^ setting.k) (λ j. found_before_fin (f.collector.from_joiner j))
    (λ j. found_before_fin (f.joiner j).to_collector)
    (λ j h.
    let link = agrees.joiner_collector j h in
    subst (λ ms. IsWithinBag (found_before_fin (f.collector.from_joiner j)) (found_before_fin ms)) link.joins
    (found_front (f.collector.from_joiner j) link.rest)))
    (nothing_wrong input setting valid rest stands f agrees)
