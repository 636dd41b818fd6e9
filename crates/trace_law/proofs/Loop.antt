-- The nested loop as a sum over rows, and the pairs of the rows granted against it.
use Rattle.std.proofs.Common.{◌≡◌, ℕ, ◌+◌, ◌<◌, ◌≤◌, refl, sym, ◌∙◌, ap, arith, Bool, true, false, cond, ◌&&◌, List, []}
use Rattle.std.proofs.Common.{◌∷◌, ◌++◌, length, Some, None}
use Rattle.std.specs.Prelude.{map, filter, not, filter_map, flat_map, sum_by}
use Rattle.std.specs.List.{enumerate_from, cons_option, range_with_len}
use Rattle.std.proofs.lemmas.List.Sums.{sum_by-cons, sum_by-append}
use Rattle.row_cells.specs.declared.table.Side.{Side}
use Rattle.row_cells.specs.declared.table.Side.TheVariants.{R, S}
use Rattle.row_cells.specs.declared.table.Cell.{Cell}
use Rattle.row_cells.specs.Lists.{SameBag, IsWithinBag, gather, total}
use Rattle.row_cells.proofs.Bags.{only_if, sum-same, sum-filter, sum_of_map, sum-flat_map}
use Rattle.epoch_tags.specs.declared.tuple.Tuple.{Tuple}
use Rattle.epoch_tags.specs.declared.tuple.Pair.{Pair}
use Rattle.epoch_tags.specs.declared.message.ToFeeder.{ToFeeder}
use Rattle.migration_plan.specs.Steps.{is_of}
use Rattle.reshuffler_core.proofs.Arrivals.{granted}
use Rattle.joiner_law.specs.Law.{pairs_by, pair_of}
use Rattle.trace_law.specs.declared.input.Input.{Input}
use Rattle.trace_law.specs.Join.{nested_loop, row_count, matches_of, rows_of}
use Rattle.row_tickets.specs.declared.place.Place.{Place}
use Rattle.row_tickets.specs.Share.{share, place_at}
use Rattle.reshuffler_core.specs.Batches.{cut}
use Rattle.trace_law.specs.declared.setting.Setting.{Setting}
use Rattle.trace_law.specs.Validity.{IsValid}
use Rattle.load_controller.specs.declared.line.TurnLine.{TurnLine}
use Rattle.trace_law.specs.Family.{Rest, tuple_of, cells_of, feeder_start, is_old, all_places, old_rows}
use Rattle.trace_law.specs.Join.{is_before, has_new, wave_pairs}
use Rattle.trace_law.proofs.Cuts.{joined_again}
use Rattle.trace_law.proofs.FoundOnce.{sum-pairs}
use Rattle.trace_law.proofs.RowSums.{shares_sum}
use Rattle.trace_law.proofs.Stamps.{grant_epochs, granted_is, IsBlind, some_of_batches}
use Rattle.row_cells.proofs.Totals.{total_same, total_le, total-add, sum-gather, sum_by-le, sum_plus, zeros}
use Rattle.row_cells.proofs.Totals.{enumerate_sum, range_sum}

-- the sum over all rows of the input
abbrev pub row_sum : Input → (Tuple → ℕ) → ℕ
row_sum input g =
    total (row_count input R) (λ i. g (tuple_of input 0 (place_at R i)))
    + total (row_count input S) (λ i. g (tuple_of input 0 (place_at S i)))

-- ---- the nested loop

sum-filter_map : {X Y : Type 0} (f : Y → ℕ) (test : X → Bool) (g : X → Y) (xs : List X)
    → sum_by f (filter_map (λ x. cond (test x) (Some (g x)) None) xs) ≡ sum_by (λ x. only_if (test x) (f (g x))) xs
sum-filter_map f test g [] = refl
sum-filter_map f test g (x ∷ xs) =
    by_test (test x) (sum-filter_map f test g xs) ∙ sym (sum_by-cons (λ y. only_if (test y) (f (g y))) x xs)
  where
    by_test : (t : Bool)
        → sum_by f (filter_map (λ y. cond (test y) (Some (g y)) None) xs) ≡ sum_by (λ y. only_if (test y) (f (g y))) xs
        → sum_by f (cons_option (cond t (Some (g x)) None) (filter_map (λ y. cond (test y) (Some (g y)) None) xs))
        ≡ only_if t (f (g x)) + sum_by (λ y. only_if (test y) (f (g y))) xs
    by_test true rest =
        sum_by-cons f (g x) (filter_map (λ y. cond (test y) (Some (g y)) None) xs) ∙ ap (λ n. f (g x) + n) rest
    by_test false rest = rest ∙ omega arith

-- the pair of these numbers
abbrev pub loop_pair : ℕ → ℕ → Pair
loop_pair i j = record { i = i; j = j }

-- a sum over the nested loop, row by row
pub loop_sum : (input : Input) (f : Pair → ℕ)
    → sum_by f (nested_loop input)
    ≡ total (row_count input R)
    (λ i.
    total (row_count input S)
    (λ j. only_if (matches_of input (cells_of input R i) (cells_of input S j)) (f (loop_pair i j))))
loop_sum input f =
    let inner : (a : ℕ × List Cell)
    → sum_by f
    (filter_map (λ b. cond (matches_of input a.1 b.1) (Some (loop_pair a.0 b.0)) None)
    (enumerate_from 0 (rows_of input S)))
    ≡ total (length (rows_of input S))
    (λ j. only_if (matches_of input a.1 (cells_of input S j)) (f (loop_pair a.0 j))) = λ a.
    sum-filter_map f (λ (b : ℕ × List Cell). matches_of input a.1 b.1) (λ b. loop_pair a.0 b.0)
    (enumerate_from 0 (rows_of input S))
    ∙ enumerate_sum (λ b. only_if (matches_of input a.1 b.1) (f (loop_pair a.0 b.0))) [] 0 (rows_of input S)
    ∙ total_same (length (rows_of input S))
    (λ j. only_if (matches_of input a.1 (cells_of input S j)) (f (loop_pair a.0 (0 + j))))
    (λ j. only_if (matches_of input a.1 (cells_of input S j)) (f (loop_pair a.0 j)))
    (λ j low. let same : 0 + j ≡ j = omega arith in
    ap (λ n. only_if (matches_of input a.1 (cells_of input S j)) (f (loop_pair a.0 n))) same) in
    sum-flat_map f
    (λ a.
    filter_map (λ b. cond (matches_of input a.1 b.1) (Some (loop_pair a.0 b.0)) None)
    (enumerate_from 0 (rows_of input S))) (enumerate_from 0 (rows_of input R))
    ∙ sum-same
    (λ a.
    sum_by f
    (filter_map (λ b. cond (matches_of input a.1 b.1) (Some (loop_pair a.0 b.0)) None)
    (enumerate_from 0 (rows_of input S))))
    (λ a.
    total (length (rows_of input S))
    (λ j. only_if (matches_of input a.1 (cells_of input S j)) (f (loop_pair a.0 j)))) inner
    (enumerate_from 0 (rows_of input R))
    ∙ enumerate_sum
    (λ a.
    total (length (rows_of input S))
    (λ j. only_if (matches_of input a.1 (cells_of input S j)) (f (loop_pair a.0 j)))) [] 0 (rows_of input R)
    ∙ total_same (length (rows_of input R))
    (λ i.
    total (length (rows_of input S))
    (λ j. only_if (matches_of input (cells_of input R i) (cells_of input S j)) (f (loop_pair (0 + i) j))))
    (λ i.
    total (length (rows_of input S))
    (λ j. only_if (matches_of input (cells_of input R i) (cells_of input S j)) (f (loop_pair i j))))
    (λ i low. let same : 0 + i ≡ i = omega arith in
    ap
    (λ n.
    total (length (rows_of input S))
    (λ j. only_if (matches_of input (cells_of input R i) (cells_of input S j)) (f (loop_pair n j)))) same)

-- what one pair of tuples weighs
abbrev pub weight : Input → (Pair → ℕ) → Tuple → Tuple → ℕ
weight input f r q = only_if (is_of R r) (only_if (is_of S q && matches_of input r.cells q.cells) (f (pair_of r q)))

-- the pairs of all rows are the nested loop's
pub rows_pair_up : (input : Input) (f : Pair → ℕ)
    → row_sum input (λ r. row_sum input (weight input f r)) ≡ sum_by f (nested_loop input)
rows_pair_up input f =
    let of_r : (i : ℕ)
    → row_sum input (weight input f (tuple_of input 0 (place_at R i)))
    ≡ total (row_count input S)
    (λ j. only_if (matches_of input (cells_of input R i) (cells_of input S j)) (f (loop_pair i j))) = λ i.
    let none =
    zeros (row_count input R)
    (λ j. weight input f (tuple_of input 0 (place_at R i)) (tuple_of input 0 (place_at R j))) (λ j. refl) in
    ap (λ n. n
    + total (row_count input S)
    (λ j. only_if (matches_of input (cells_of input R i) (cells_of input S j)) (f (loop_pair i j)))) none
    ∙ omega arith in
    let of_s : (i : ℕ) → row_sum input (weight input f (tuple_of input 0 (place_at S i))) ≡ 0 = λ i.
    let a =
    zeros (row_count input R)
    (λ j. weight input f (tuple_of input 0 (place_at S i)) (tuple_of input 0 (place_at R j))) (λ j. refl) in
    let b =
    zeros (row_count input S)
    (λ j. weight input f (tuple_of input 0 (place_at S i)) (tuple_of input 0 (place_at S j))) (λ j. refl) in
    omega arith in
    let none = zeros (row_count input S) (λ i. row_sum input (weight input f (tuple_of input 0 (place_at S i)))) of_s in
    let all =
    total_same (row_count input R) (λ i. row_sum input (weight input f (tuple_of input 0 (place_at R i))))
    (λ i.
    total (row_count input S)
    (λ j. only_if (matches_of input (cells_of input R i) (cells_of input S j)) (f (loop_pair i j))))
    (λ i low. of_r i) in
    ap (λ n. total (row_count input R) (λ i. row_sum input (weight input f (tuple_of input 0 (place_at R i)))) + n) none
    ∙ ap (λ n. n + 0) all ∙ omega arith ∙ sym (loop_sum input f)

-- ---- the rows that are known: those from before the wave, and those that feeders were granted

sum-batches : (input : Input) (g : Tuple → ℕ) (bs : List (List Place))
    → sum_by g (flat_map (λ ts. ts) (map (λ batch. map (tuple_of input 0) batch) bs))
    ≡ sum_by (λ a. g (tuple_of input 0 a)) (flat_map (λ ts. ts) bs)
sum-batches input g bs =
    sum-flat_map g (λ ts. ts) (map (λ batch. map (tuple_of input 0) batch) bs)
    ∙ sum_of_map (sum_by g) (λ batch. map (tuple_of input 0) batch) bs
    ∙ sum-same (λ batch. sum_by g (map (tuple_of input 0) batch)) (λ batch. sum_by (λ a. g (tuple_of input 0 a)) batch)
    (λ batch. sum_of_map g (tuple_of input 0) batch) bs
    ∙ sym (sum-flat_map (λ a. g (tuple_of input 0 a)) (λ ts. ts) bs)

-- feeder p's rows, those of earlier waves included
abbrev pub rows_at : Input → Setting → ℕ → List Place
rows_at input setting p = share setting.feed setting.feeders p (row_count input R) (row_count input S)

-- what a row counts for where it is one of the wave, and where it is an older one
abbrev pub new_weight : Input → TurnLine → (Tuple → ℕ) → Place → ℕ
new_weight input line g a = only_if (not (is_old line a)) (g (tuple_of input 0 a))

-- what an older row counts for, and 0 for one of the wave
abbrev pub old_weight : Input → TurnLine → (Tuple → ℕ) → Place → ℕ
old_weight input line g a = only_if (is_old line a) (g (tuple_of input 0 a))

-- a sum over a feeder's batches is one over its rows of the wave
pub batches_sum : (input : Input) (setting : Setting) (rest : Rest) (g : Tuple → ℕ) (p : ℕ) → 0 < setting.batch
    → sum_by g (flat_map (λ ts. ts) (feeder_start input setting rest p).batches)
    ≡ sum_by (new_weight input rest.line g) (rows_at input setting p)
batches_sum input setting rest g p some =
    let own = filter (λ place. not (is_old rest.line place)) (rows_at input setting p) in
    sum-batches input g (cut setting.batch own)
    ∙ ap (sum_by (λ a. g (tuple_of input 0 a))) (joined_again setting.batch own some)
    ∙ sum-filter (λ a. g (tuple_of input 0 a)) (λ place. not (is_old rest.line place)) (rows_at input setting p)

-- all places of the input
pub places_sum : (input : Input) (h : Place → ℕ)
    → sum_by h (all_places input)
    ≡ total (row_count input R) (λ i. h (place_at R i)) + total (row_count input S) (λ i. h (place_at S i))
places_sum input h =
    let of_side : (side : Side) (n : ℕ)
    → sum_by h (map (place_at side) (range_with_len 0 n)) ≡ total n (λ i. h (place_at side i)) = λ side n.
    sum_of_map h (place_at side) (range_with_len 0 n) ∙ range_sum (λ i. h (place_at side i)) 0 n
    ∙ total_same n (λ i. h (place_at side (0 + i))) (λ i. h (place_at side i))
    (λ i low. let same : 0 + i ≡ i = omega arith in ap (λ m. h (place_at side m)) same) in
    let parts =
    sum_by-append h (map (place_at R) (range_with_len 0 (row_count input R)))
    (map (place_at S) (range_with_len 0 (row_count input S))) in
    let r = of_side R (row_count input R) in
    let s = of_side S (row_count input S) in
    omega arith

-- a sum over the older rows, row by row
pub old_sum : (input : Input) (line : TurnLine) (g : Tuple → ℕ) → IsBlind g
    → sum_by g (old_rows input line)
    ≡ total (row_count input R) (λ i. old_weight input line g (place_at R i))
    + total (row_count input S) (λ i. old_weight input line g (place_at S i))
old_sum input line g blind =
    sum_of_map g (tuple_of input line.epoch) (filter (is_old line) (all_places input))
    ∙ sum-filter (λ a. g (tuple_of input line.epoch a)) (is_old line) (all_places input)
    ∙ sum-same (λ a. only_if (is_old line a) (g (tuple_of input line.epoch a))) (old_weight input line g)
    (λ a. ap (only_if (is_old line a)) (blind line.epoch (tuple_of input 0 a))) (all_places input)
    ∙ places_sum input (old_weight input line g)

-- a number under a test and under its contrary
pub either : (c : Bool) (n : ℕ) → only_if c n + only_if (not c) n ≡ n
either true n = omega arith
either false n = omega arith

-- what is known are rows of the input, each once
pub known_within : (input : Input) (setting : Setting) → IsValid input setting
    → (rest : Rest) (taken : ℕ → List ToFeeder) (g : Tuple → ℕ) → IsBlind g
    → sum_by g
    (old_rows input rest.line
    ++ gather setting.feeders (λ p. granted rest.line.epoch (feeder_start input setting rest p).batches (taken p)))
    ≤ row_sum input g
known_within input setting valid rest taken g blind =
    let to_p : ℕ → List Tuple = λ p. granted rest.line.epoch (feeder_start input setting rest p).batches (taken p) in
    let below =
    total_le setting.feeders (λ p. sum_by g (to_p p))
    (λ p. sum_by (new_weight input rest.line g) (rows_at input setting p))
    (λ p low.
    let is = ap (sum_by g) (granted_is rest.line.epoch (feeder_start input setting rest p).batches (taken p)) in
    let few =
    some_of_batches g blind (grant_epochs rest.line.epoch (taken p)) (feeder_start input setting rest p).batches in
    let all = batches_sum input setting rest g p valid.batch in
    omega arith) in
    let sums = sum-gather g setting.feeders to_p in
    let rows =
    shares_sum setting.feed setting.feeders valid.some (new_weight input rest.line g) (row_count input R)
    (row_count input S) in
    let older = old_sum input rest.line g blind in
    let whole = sum_by-append g (old_rows input rest.line) (gather setting.feeders to_p) in
    let both : (side : Side) (n : ℕ)
    → total n (λ i. old_weight input rest.line g (place_at side i))
    + total n (λ i. new_weight input rest.line g (place_at side i))
    ≡ total n (λ i. g (tuple_of input 0 (place_at side i))) = λ side n.
    sym (total-add n (λ i. old_weight input rest.line g (place_at side i))
    (λ i. new_weight input rest.line g (place_at side i)))
    ∙ total_same n
    (λ i. old_weight input rest.line g (place_at side i) + new_weight input rest.line g (place_at side i))
    (λ i. g (tuple_of input 0 (place_at side i)))
    (λ i low. either (is_old rest.line (place_at side i)) (g (tuple_of input 0 (place_at side i)))) in
    let both_r = both R (row_count input R) in
    let both_s = both S (row_count input S) in
    omega arith

-- ---- their pairs

-- the predicate on two tuples
abbrev pub joins_of : Input → Tuple → Tuple → Bool
joins_of input r q = matches_of input r.cells q.cells

-- the pairs of known rows are pairs of the nested loop, each once
pub known_pairs : (input : Input) (setting : Setting) → IsValid input setting
    → (rest : Rest) (taken : ℕ → List ToFeeder)
    → let all =
    old_rows input rest.line
    ++ gather setting.feeders
    (λ p. granted rest.line.epoch (feeder_start input setting rest p).batches (taken p)) in
    IsWithinBag (pairs_by (joins_of input) all all) (nested_loop input)
known_pairs input setting valid rest taken = record {
  sums = λ f.
      let all =
      old_rows input rest.line
      ++ gather setting.feeders (λ p. granted rest.line.epoch (feeder_start input setting rest p).batches (taken p))
      in
      let whole = sum-pairs f (joins_of input) all all in
      let each =
      sum_by-le (λ r. sum_by (weight input f r) all) (λ r. row_sum input (weight input f r))
      (λ r. known_within input setting valid rest taken (weight input f r) (λ e t. refl)) all in
      let rows = known_within input setting valid rest taken (λ r. row_sum input (weight input f r)) (λ e t. refl) in
      let loop = rows_pair_up input f in
      omega arith;
}

-- the pairs of older rows are the nested loop's that have no row of the wave
pub old_pairs : (input : Input) (line : TurnLine)
    → SameBag (pairs_by (joins_of input) (old_rows input line) (old_rows input line))
    (filter (λ pair. not (has_new line pair)) (nested_loop input))
old_pairs input line = record {
  sums = λ f.
      let old_r : ℕ → Bool = λ i. is_before line R i in
      let old_s : ℕ → Bool = λ j. is_before line S j in
      let its : ℕ → ℕ → ℕ =
      λ i j. only_if (matches_of input (cells_of input R i) (cells_of input S j)) (f (loop_pair i j)) in
      let inner : (r : Tuple)
      → sum_by (weight input f r) (old_rows input line)
      ≡ total (row_count input R) (λ j. old_weight input line (weight input f r) (place_at R j))
      + total (row_count input S) (λ j. old_weight input line (weight input f r) (place_at S j)) =
      λ r. old_sum input line (weight input f r) (λ e t. refl) in
      let W : Tuple → ℕ = λ r. sum_by (weight input f r) (old_rows input line) in
      let outer = old_sum input line W (λ e t. refl) in
      let of_r : (i : ℕ)
      → W (tuple_of input 0 (place_at R i)) ≡ total (row_count input S) (λ j. only_if (old_s j) (its i j)) = λ i.
      let none =
      zeros (row_count input R)
      (λ j. old_weight input line (weight input f (tuple_of input 0 (place_at R i))) (place_at R j))
      (λ j. nothing (old_r j)) in
      inner (tuple_of input 0 (place_at R i))
      ∙ ap (λ n. n + total (row_count input S) (λ j. only_if (old_s j) (its i j))) none ∙ omega arith in
      let of_s : (i : ℕ) → W (tuple_of input 0 (place_at S i)) ≡ 0 = λ i.
      let a =
      zeros (row_count input R)
      (λ j. old_weight input line (weight input f (tuple_of input 0 (place_at S i))) (place_at R j))
      (λ j. nothing (old_r j)) in
      let c =
      zeros (row_count input S)
      (λ j. old_weight input line (weight input f (tuple_of input 0 (place_at S i))) (place_at S j))
      (λ j. nothing (old_s j)) in
      inner (tuple_of input 0 (place_at S i)) ∙ omega arith in
      let none_s =
      zeros (row_count input S) (λ i. old_weight input line W (place_at S i))
      (λ i. ap (only_if (old_s i)) (of_s i) ∙ nothing (old_s i)) in
      let all_r =
      total_same (row_count input R) (λ i. old_weight input line W (place_at R i))
      (λ i.
      total (row_count input S)
      (λ j.
      only_if (matches_of input (cells_of input R i) (cells_of input S j))
      (only_if (not (has_new line (loop_pair i j))) (f (loop_pair i j)))))
      (λ i low. ap (only_if (old_r i)) (of_r i)
      ∙ pushed (row_count input S) (old_r i) (λ j. only_if (old_s j) (its i j))
      ∙ total_same (row_count input S) (λ j. only_if (old_r i) (only_if (old_s j) (its i j)))
      (λ j.
      only_if (matches_of input (cells_of input R i) (cells_of input S j))
      (only_if (not (has_new line (loop_pair i j))) (f (loop_pair i j))))
      (λ j low'.
      turned (old_r i) (old_s j) (matches_of input (cells_of input R i) (cells_of input S j)) (f (loop_pair i j))))
      in
      sum-pairs f (joins_of input) (old_rows input line) (old_rows input line)
      ∙ outer
      ∙ ap (λ n. total (row_count input R) (λ i. old_weight input line W (place_at R i)) + n) none_s
      ∙ ap (λ n. n + 0) all_r ∙ omega arith
      ∙ sym (loop_sum input (λ pair. only_if (not (has_new line pair)) (f pair)))
      ∙ sym (sum-filter f (λ pair. not (has_new line pair)) (nested_loop input));
}
  where
    nothing : (c : Bool) → only_if c 0 ≡ 0
    nothing true = refl
    nothing false = refl

    pushed : (n : ℕ) (c : Bool) (h : ℕ → ℕ) → only_if c (total n h) ≡ total n (λ i. only_if c (h i))
    pushed n true h = refl
    pushed n false h = sym (zeros n (λ i. 0) (λ i. refl))

    turned : (r s m : Bool) (n : ℕ) → only_if r (only_if s (only_if m n)) ≡ only_if m (only_if (not (not (r && s))) n)
    turned true true true n = refl
    turned true true false n = refl
    turned true false true n = refl
    turned true false false n = refl
    turned false s true n = refl
    turned false s false n = refl

-- ---- so what is found besides are pairs with a row of the wave

-- what is left of the nested loop's pairs without those of two older rows are the wave's
pub rest_is_new : (input : Input) (line : TurnLine) (found : List Pair)
    → IsWithinBag (found ++ pairs_by (joins_of input) (old_rows input line) (old_rows input line)) (nested_loop input)
    → IsWithinBag found (wave_pairs input line)
rest_is_new input line found within = record {
  sums = λ f.
      let a = within.sums f in
      let c = sum_by-append f found (pairs_by (joins_of input) (old_rows input line) (old_rows input line)) in
      let d = (old_pairs input line).sums f in
      let e = sum-filter f (λ pair. not (has_new line pair)) (nested_loop input) in
      let g = sum-filter f (has_new line) (nested_loop input) in
      let h =
      sum_plus (λ pair. only_if (has_new line pair) (f pair)) (λ pair. only_if (not (has_new line pair)) (f pair))
      (nested_loop input) in
      let k =
      sum-same (λ pair. only_if (has_new line pair) (f pair) + only_if (not (has_new line pair)) (f pair)) f
      (λ pair. either (has_new line pair) (f pair)) (nested_loop input) in
      omega arith;
}
