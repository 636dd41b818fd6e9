-- What a group joins is a valid input, and its pairs are those of its rows of R; all groups' pairs are all pairs.
use Rattle.std.proofs.Common.{◌≡◌, ℕ, ◌+◌, ◌^◌, ◌<◌, ◌≤◌, refl, sym, ◌∙◌, ap, subst, arith, List, [], ◌∷◌, length, map}
use Rattle.std.specs.Prelude.{All, sum_by, slice_index, slice_index_or, None, IfSome}
use Rattle.std.proofs.lemmas.List.{get_or-map, length-map}
use Rattle.std.proofs.lemmas.List.Elements.{All-map}
use Rattle.std.proofs.lemmas.List.Sums.{sum_by-cons}
use Rattle.row_cells.specs.declared.table.Side.{Side}
use Rattle.row_cells.specs.declared.table.Side.TheVariants.{R, S}
use Rattle.row_cells.specs.Lists.{total}
use Rattle.row_cells.proofs.Bags.{only_if, sum_of_map}
use Rattle.row_cells.proofs.Totals.{total_same, total_front}
use Rattle.epoch_tags.specs.declared.tuple.Pair.{Pair}
use Rattle.trace_law.specs.declared.input.Input.{Input}
use Rattle.trace_law.specs.declared.setting.Setting.{Setting}
use Rattle.trace_law.specs.Validity.{IsFor, IsValidInput, IsValidSetting}
use Rattle.trace_law.specs.Join.{nested_loop, row_count, matches_of, table_of, tickets_of}
use Rattle.trace_law.specs.Family.{cells_of}
use Rattle.theta_pred.specs.Truth.{width_of}
use Rattle.trace_law.proofs.Loop.{loop_sum, loop_pair}
use Rattle.group_split.specs.Sizes.{digits}
use Rattle.group_split.specs.Parts.{part, input_of_part, setting_of_group, pair_in}
use Rattle.group_split.proofs.Parted.{parted}

-- ---- validity

at-map : {X : Type 0} (f : ℕ → X) (indices : List ℕ) (p : ℕ) (d : X) → p < length indices
    → slice_index_or (map f indices) p d ≡ f (slice_index indices p)
at-map f indices p d low = get_or-map f indices p 0 d low

-- a part of a valid input is valid, also one without rows
pub valid_part : (input : Input) (indices : List ℕ) → IsValidInput input
    → All (λ i. i < row_count input R) indices → length indices ≤ row_count input R
    → IsValidInput (input_of_part input indices)
valid_part input indices valid low few = record { sides = sides; bytes = bytes }
  where
    sides : (side : Side)
        → IsFor (table_of (input_of_part input indices) side) (tickets_of (input_of_part input indices) side)
        (width_of input.theta side)
    sides R =
        let its = valid.sides R in
        let rows = length-map indices (λ i. slice_index_or input.table_r.rows i []) in
        record {
          few = omega arith;
          each = length-map indices (slice_index input.tickets_r) ∙ sym rows;
          header = its.header;
          rows = All-map (λ row. length row ≡ width_of input.theta R) (λ i. slice_index_or input.table_r.rows i [])
              indices (λ k d there. its.rows (slice_index_or indices k d) [] (low k d there));
        }
    sides S = valid.sides S

    bytes : (side : Side) → All (λ ticket. ticket < 2 ^ 8) (tickets_of (input_of_part input indices) side)
    bytes R =
        All-map (λ ticket. ticket < 2 ^ 8) (slice_index input.tickets_r) indices
        (λ k d there.
        let each = (valid.sides R).each in
        let its = low k d there in
        valid.bytes R (slice_index_or indices k d) 0 (omega arith))
    bytes S = valid.bytes S

-- and so is the setting of a group where no shift is fixed
pub valid_setting : (setting : Setting) (k : ℕ) → IsValidSetting setting → setting.fixed ≡ None → k < 7
    → IsValidSetting (setting_of_group setting k)
valid_setting setting k valid free low = record {
  joiners = omega arith;
  some_feeders = valid.some_feeders;
  few_feeders = valid.few_feeders;
  some_workers = valid.some_workers;
  few_workers = valid.few_workers;
  some_rows = valid.some_rows;
  few_rows = valid.few_rows;
  fixed = subst (λ fixed. IfSome fixed (λ shift. shift ≤ k)) (sym free) tt;
  weights = valid.weights;
}

-- ---- pairs

-- what R's row i weighs: its matching pairs
abbrev pub row_weight : Input → (Pair → ℕ) → ℕ → ℕ
row_weight input f i =
    total (row_count input S)
    (λ j. only_if (matches_of input (cells_of input R i) (cells_of input S j)) (f (loop_pair i j)))

total_at : (h : ℕ → ℕ) (indices : List ℕ) → total (length indices) (λ p. h (slice_index indices p)) ≡ sum_by h indices
total_at h [] = refl
total_at h (i ∷ indices) =
    total_front (length indices) (λ p. h (slice_index (i ∷ indices) p))
    ∙ ap (λ n. h i + n) (total_at h indices) ∙ sym (sum_by-cons h i indices)

-- a part's pairs, by their numbers in the whole table, are those of its rows
pub part_sum : (input : Input) (indices : List ℕ) (f : Pair → ℕ)
    → sum_by f (map (pair_in indices) (nested_loop (input_of_part input indices)))
    ≡ sum_by (row_weight input f) indices
part_sum input indices f =
    let its = input_of_part input indices in
    let rows = input.table_r.rows in
    sum_of_map f (pair_in indices) (nested_loop its)
    ∙ loop_sum its (λ pair. f (pair_in indices pair))
    ∙ ap (λ n. total n
    (λ p. total (row_count input S)
    (λ j. only_if (matches_of input (cells_of its R p) (cells_of input S j))
    (f (loop_pair (slice_index indices p) j)))))
    (length-map indices (λ i. slice_index_or rows i []))
    ∙ total_same (length indices)
    (λ p. total (row_count input S)
    (λ j. only_if (matches_of input (cells_of its R p) (cells_of input S j))
    (f (loop_pair (slice_index indices p) j))))
    (λ p. row_weight input f (slice_index indices p))
    (λ p low. ap
    (λ row. total (row_count input S)
    (λ j. only_if (matches_of input row (cells_of input S j)) (f (loop_pair (slice_index indices p) j))))
    (at-map (λ i. slice_index_or rows i []) indices p [] low))
    ∙ total_at (row_weight input f) indices

-- all parts' pairs are all pairs
pub parts_sum : (input : Input) (joiners : ℕ) (numbers : List ℕ) (f : Pair → ℕ) → joiners < 2 ^ 7
    → All (λ number. number < joiners) numbers → length numbers ≡ row_count input R
    → total (length (digits joiners)) (λ g. sum_by (row_weight input f) (part joiners numbers g))
    ≡ sum_by f (nested_loop input)
parts_sum input joiners numbers f few below many =
    parted joiners numbers (row_weight input f) few below
    ∙ ap (λ n. total n (row_weight input f)) many ∙ sym (loop_sum input f)
