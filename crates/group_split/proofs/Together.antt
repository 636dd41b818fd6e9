-- The answers of groups put together: group by group, and in the end all pairs.
use Rattle.std.proofs.Common.{◌≡◌, ℕ, suc, ◌+◌, ◌<◌, ◌≤◌, ◌^◌, Bool, true, false, cond, Some, refl, sym, ◌∙◌, ap, subst}
use Rattle.std.proofs.Common.{arith, add-one, List, [], ◌∷◌, ◌++◌, append_assoc, append-nil, length, map, drop}
use Rattle.std.proofs.Common.{ltb-true}
use Rattle.std.specs.Prelude.{All, sum_by, nat_lt, slice_get}
use Rattle.std.specs.List.{AllByRecursion}
use Rattle.std.specs.List.Sorted.{IsPermutation}
use Rattle.std.proofs.Math.Seq.{drop-cons, drop-length}
use Rattle.std.proofs.lemmas.Bool.{lt-ltb}
use Rattle.std.proofs.lemmas.List.Elements.{All-from_recursion}
use Rattle.std.proofs.lemmas.List.Sums.{sum_by-cons, sum_by-append}
use Rattle.std.proofs.lemmas.Option.{get_or_from_slice_get}
use Rattle.row_cells.specs.declared.table.Side.TheVariants.{R, S}
use Rattle.row_cells.specs.Lists.{SameBag, total}
use Rattle.row_cells.proofs.Bags.{only_if, SameBag-permutation, SameBag-sym, SameBag-trans}
use Rattle.row_cells.proofs.Totals.{total_same, zeros, total-zero}
use Rattle.epoch_tags.specs.declared.tuple.Pair.{Pair}
use Rattle.pair_collector.specs.Order.{InOrder}
use Rattle.trace_law.specs.declared.input.Input.{Input}
use Rattle.trace_law.specs.declared.setting.Setting.{Setting}
use Rattle.trace_law.specs.Validity.{IsValidInput}
use Rattle.trace_law.specs.Join.{nested_loop, row_count, matches_of, wave_pairs}
use Rattle.trace_law.specs.Laws.{SortsIntoTheLoop}
use Rattle.load_controller.specs.declared.line.TurnLine.{TurnLine}
use Rattle.trace_law.specs.Family.{cells_of}
use Rattle.trace_law.proofs.Loop.{loop_sum, loop_pair}
use Rattle.group_split.specs.declared.join.GroupsRun.{GroupsRun}
use Rattle.group_split.specs.Sizes.{digits}
use Rattle.group_split.specs.Parts.{part, input_of_part, setting_of_group, pair_in}
use Rattle.group_split.specs.Groups.{AreGroups, AreGroupsFrom, IsGroupRun}
use Rattle.group_split.specs.Joining.{AddsRun, HasJoined, pairs_of_part}
use Rattle.group_split.proofs.Parted.{part_within, part_few}
use Rattle.group_split.proofs.PartRuns.{row_weight, part_sum, parts_sum, valid_part}

-- a run of a group's input is one of its part
pub adds_part : (input : Input) (setting : Setting) (rows indices : List ℕ) (its : Input) (old new : GroupsRun)
    → indices ≡ rows → its ≡ input_of_part input indices
    → AddsRun its setting (map (pair_in indices) (nested_loop its)) old new
    → AddsRun (input_of_part input rows) setting (pairs_of_part input rows) old new
adds_part input setting rows indices its old new are is adds =
    subst (λ is. AddsRun (input_of_part input is) setting (pairs_of_part input is) old new) are
    (subst (λ made. AddsRun made setting (map (pair_in indices) (nested_loop made)) old new) is adds)

-- ---- one group after the other

module _ (input : Input) (joiners : ℕ) (numbers : List ℕ) (setting : Setting) where
  abbrev sum_at : (Pair → ℕ) → ℕ → ℕ
  sum_at f h = sum_by f (pairs_of_part input (part joiners numbers h))

  -- one group more
  pub join_more : (g k : ℕ) (its : Setting) (old new : GroupsRun) → slice_get (digits joiners) g ≡ Some k
      → g < length (digits joiners) → its ≡ setting_of_group setting k
      → HasJoined input joiners numbers setting g old
      → AddsRun (input_of_part input (part joiners numbers g)) its (pairs_of_part input (part joiners numbers g))
      old new
      → HasJoined input joiners numbers setting (g + 1) new
  join_more g k its old new here low with_k so_far adds = record {
    groups = λ runs trail rest.
        let ds = digits joiners in
        let next : drop g ds ≡ k ∷ drop (g + 1) ds =
        drop-cons ds g 0 low ∙ ap (λ place. place ∷ drop (suc g) ds) (get_or_from_slice_get ds g k 0 here)
        ∙ ap (λ m. k ∷ drop m ds) (sym (add-one g)) in
        let all_runs : old.runs ++ (adds.answer ∷ runs) ≡ new.runs ++ runs =
        sym (append_assoc old.runs (adds.answer ∷ []) runs) ∙ ap (λ rs. rs ++ runs) (sym adds.runs_are) in
        let all_ends : old.trail ++ (adds.ends ∷ trail) ≡ new.trail ++ trail =
        sym (append_assoc old.trail (adds.ends ∷ []) trail) ∙ ap (λ es. es ++ trail) (sym adds.trail_is) in
        let is =
        subst (λ its. IsGroupRun (input_of_part input (part joiners numbers g)) its adds.answer adds.ends) with_k
        adds.is in
        let whole = so_far.groups (adds.answer ∷ runs) (adds.ends ∷ trail)
        (subst
        (λ places. AreGroupsFrom input joiners numbers setting g places (adds.answer ∷ runs) (adds.ends ∷ trail))
        (sym next) (is, rest)) in
        subst (λ rs. AreGroups input joiners numbers setting rs (new.trail ++ trail)) all_runs
        (subst (λ es. AreGroups input joiners numbers setting (old.runs ++ (adds.answer ∷ runs)) es) all_ends whole);
    pairs = λ f.
        ap (sum_by f) adds.pairs_are ∙ sum_by-append f old.pairs (pairs_of_part input (part joiners numbers g))
        ∙ ap (λ n. n + sum_at f g) (so_far.pairs f) ∙ ap (λ m. total m (sum_at f)) (sym (add-one g));
  }

  -- all groups
  pub all_groups : (found : GroupsRun) → HasJoined input joiners numbers setting (length (digits joiners)) found
      → AreGroups input joiners numbers setting found.runs found.trail
  all_groups found joined =
      let ds = digits joiners in
      let whole = joined.groups [] []
      (subst (λ places. AreGroupsFrom input joiners numbers setting (length ds) places [] []) (sym (drop-length ds))
      tt) in
      subst (λ rs. AreGroups input joiners numbers setting rs found.trail) (append-nil found.runs)
      (subst (λ es. AreGroups input joiners numbers setting (found.runs ++ []) es) (append-nil found.trail) whole)

  -- their pairs are those of the nested loop
  pub all_pairs : (found : GroupsRun) → joiners < 2 ^ 7 → All (λ number. number < joiners) numbers
      → length numbers ≡ row_count input R → HasJoined input joiners numbers setting (length (digits joiners)) found
      → SameBag found.pairs (nested_loop input)
  all_pairs found few below many joined = record {
    sums = λ f.
        joined.pairs f
        ∙ total_same (length (digits joiners)) (sum_at f) (λ g. sum_by (row_weight input f) (part joiners numbers g))
        (λ g low. part_sum input (part joiners numbers g) f)
        ∙ parts_sum input joiners numbers f few below many;
  }

-- in order they are those pairs in their order
pub ordered_pairs : (input : Input) (line : TurnLine) (found pairs : List Pair) → SortsIntoTheLoop
    → wave_pairs input line ≡ nested_loop input → SameBag found (nested_loop input)
    → IsPermutation found pairs → InOrder pairs → pairs ≡ nested_loop input
ordered_pairs input line found pairs sorts whole same moves order =
    sorts input line pairs order
    (subst (SameBag pairs) (sym whole) (SameBag-trans (SameBag-sym (SameBag-permutation found pairs moves)) same))
    ∙ whole

-- ---- the rows of pairs

-- 0 where the test passes, else 1
abbrev zero_if : Bool → ℕ
zero_if t = cond t 0 1

none_weighs : (n : ℕ) (pairs : List Pair) → sum_by (λ pair. zero_if (nat_lt pair.i n)) pairs ≡ 0
    → AllByRecursion (λ pair. pair.i < n) pairs
none_weighs n [] is = tt
none_weighs n (pair ∷ pairs) is =
    let all = sum_by-cons (λ (p : Pair). zero_if (nat_lt p.i n)) pair pairs in
    (low (nat_lt pair.i n) refl (omega arith), none_weighs n pairs (omega arith))
  where
    low : (t : Bool) → nat_lt pair.i n ≡ t → zero_if t ≡ 0 → pair.i < n
    low true is none = ltb-true pair.i n is
    low false is none = absurd (omega arith)

-- the nested loop's pairs are of rows that are there
pub pairs_there : (input : Input) → All (λ pair. pair.i < row_count input R) (nested_loop input)
pairs_there input =
    let n = row_count input R in
    let m = row_count input S in
    let f : Pair → ℕ = λ pair. zero_if (nat_lt pair.i n) in
    let test : ℕ → ℕ → Bool = λ i j. matches_of input (cells_of input R i) (cells_of input S j) in
    All-from_recursion (λ pair. pair.i < n) (nested_loop input)
    (none_weighs n (nested_loop input)
    (loop_sum input f
    ∙ total_same n
    (λ i. total m (λ j. only_if (test i j) (f (loop_pair i j))))
    (λ i. 0)
    (λ i low. zeros m (λ j. only_if (test i j) (f (loop_pair i j)))
    (λ j. nothing (test i j) (f (loop_pair i j)) (ap zero_if (lt-ltb i n low))))
    ∙ total-zero n))
  where
    nothing : (t : Bool) (m : ℕ) → m ≡ 0 → only_if t m ≡ 0
    nothing true m is = is
    nothing false m is = refl

-- so are those of a run of a part
pub run_pairs_there : (input : Input) (line : TurnLine) (pairs : List Pair) (n : ℕ) → pairs ≡ wave_pairs input line
    → wave_pairs input line ≡ nested_loop input → row_count input R ≡ n → All (λ pair. pair.i < n) pairs
run_pairs_there input line pairs n are whole many =
    subst (All (λ pair. pair.i < n)) (sym (are ∙ whole))
    (subst (λ m. All (λ pair. pair.i < m) (nested_loop input)) many (pairs_there input))

-- ---- the rows of a part

module _ (input : Input) (joiners : ℕ) (numbers : List ℕ) (many : length numbers ≡ row_count input R)
    (g : ℕ) (indices : List ℕ) (are : indices ≡ part joiners numbers g) where
  -- they are those of rows
  pub indices_low : All (λ index. index < row_count input R) indices
  indices_low =
      subst (All (λ index. index < row_count input R)) (sym are)
      (subst (λ n. All (λ index. index < n) (part joiners numbers g)) many (part_within joiners numbers g))

  -- no more than there are rows
  pub indices_few : length indices ≤ row_count input R
  indices_few = let few = part_few joiners numbers g in let same = ap length are in omega arith

  -- each fits 32 bits
  pub indices_small : IsValidInput input → All (λ index. index < 2 ^ 32) indices
  indices_small valid = λ k d low. let its = indices_low k d low in let few = (valid.sides R).few in omega arith

  -- and what the group joins is valid
  pub group_valid : (its : Input) → IsValidInput input → its ≡ input_of_part input indices → IsValidInput its
  group_valid its valid is = subst IsValidInput (sym is) (valid_part input indices valid indices_low indices_few)
