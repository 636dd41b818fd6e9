-- The rows of all feeders are all rows of the wave.
use Rattle.std.proofs.Common.{◌≡◌, ℕ, ◌+◌, ◌<◌, ◌≤◌, refl, sym, ◌∙◌, ap, arith, Bool, true, false, cond, List, [], ◌∷◌}
use Rattle.std.proofs.Common.{◌++◌}
use Rattle.std.specs.Prelude.{map, not, nat_lt, sum_by, count_by}
use Rattle.std.proofs.lemmas.List.Sums.{sum_by-cons}
use Rattle.row_cells.specs.declared.table.Side.TheVariants.{R, S}
use Rattle.row_cells.specs.Lists.{total}
use Rattle.row_cells.proofs.Bags.{only_if, sum-same, sum-filter, sum_of_map, sum-flat_map}
use Rattle.row_cells.proofs.Totals.{total_same, total-add, total-const, below_sum, zeros}
use Rattle.epoch_tags.specs.declared.tuple.Tuple.{Tuple}
use Rattle.epoch_tags.specs.declared.message.ToController.TheVariants.{Drained}
use Rattle.epoch_tags.specs.Messages.{asked_r, asked_s}
use Rattle.migration_plan.specs.Steps.{is_of, same_side}
use Rattle.reshuffler_core.specs.Law.{ask_for, requests}
use Rattle.trace_law.specs.declared.input.Input.{Input}
use Rattle.trace_law.specs.Join.{row_count}
use Rattle.row_tickets.specs.declared.place.Place.{Place}
use Rattle.row_tickets.specs.Share.{share, place_at}
use Rattle.trace_law.specs.Batches.{size_of}
use Rattle.trace_law.specs.declared.setting.Setting.{Setting}
use Rattle.trace_law.specs.Family.{Rest, tuple_of, is_old, own_rows, batches, feeder_start}
use Rattle.trace_law.proofs.Cuts.{joined_again}
use Rattle.trace_law.proofs.RowSums.{shares_sum}
use Rattle.trace_law.proofs.Loop.{either}

-- ---- what feeders ask for

asked_r_is : (bs : List (List Tuple)) → asked_r (map ask_for bs ++ Drained ∷ []) ≡ sum_by (λ b. count_by (is_of R) b) bs
asked_r_is [] = refl
asked_r_is (b ∷ bs) = let more = asked_r_is bs in let e = sum_by-cons (λ b. count_by (is_of R) b) b bs in omega arith

asked_s_is : (bs : List (List Tuple)) → asked_s (map ask_for bs ++ Drained ∷ []) ≡ sum_by (λ b. count_by (is_of S) b) bs
asked_s_is [] = refl
asked_s_is (b ∷ bs) = let more = asked_s_is bs in let e = sum_by-cons (λ b. count_by (is_of S) b) b bs in omega arith

-- ---- the rows of a wave

-- of the first n indices those from m on
pub new_count : (m n : ℕ) → m ≤ n → total n (λ i. only_if (not (nat_lt i m)) 1) + m ≡ n
new_count m n low =
    let old = below_sum m n (λ i. 1) low in
    let of_old = total-const m 1 in
    let of_all = total-const n 1 in
    let parts = total-add n (λ i. only_if (nat_lt i m) 1) (λ i. only_if (not (nat_lt i m)) 1) in
    let each =
    total_same n (λ i. only_if (nat_lt i m) 1 + only_if (not (nat_lt i m)) 1) (λ i. 1)
    (λ i below. either (nat_lt i m) 1) in
    omega arith

module _ (input : Input) (setting : Setting) (some : 0 < setting.feeders) (batch : 0 < setting.batch) (rest : Rest)
  where
    -- whatever is counted of a feeder's batches is counted of its rows
    pub of_places : (g : Place → ℕ) (p : ℕ)
        → sum_by (λ b. sum_by g b) (batches input setting rest.line p) ≡ sum_by g (own_rows input setting rest.line p)
    of_places g p =
        sym (sum-flat_map g (λ b. b) (batches input setting rest.line p))
        ∙ ap (λ ps. sum_by g ps) (joined_again setting.batch (own_rows input setting rest.line p) batch)

    -- and of its tuples
    pub of_batches : (g : Tuple → ℕ) (p : ℕ)
        → sum_by (λ b. sum_by g b) (feeder_start input setting rest p).batches
        ≡ sum_by (λ place. g (tuple_of input 0 place)) (own_rows input setting rest.line p)
    of_batches g p =
        sum_of_map (λ b. sum_by g b) (λ b. map (tuple_of input 0) b) (batches input setting rest.line p)
        ∙ sum-same (λ b. sum_by g (map (tuple_of input 0) b)) (λ b. sum_by (λ place. g (tuple_of input 0 place)) b)
        (λ b. sum_of_map g (tuple_of input 0) b) (batches input setting rest.line p)
        ∙ sym (sum-flat_map (λ place. g (tuple_of input 0 place)) (λ b. b) (batches input setting rest.line p))
        ∙ ap (λ ps. sum_by (λ place. g (tuple_of input 0 place)) ps)
        (joined_again setting.batch (own_rows input setting rest.line p) batch)

    -- all feeders together have each row of the wave
    pub own_total : (h : Place → ℕ) → total setting.feeders (λ p. sum_by h (own_rows input setting rest.line p))
        ≡ total (row_count input R) (λ i. only_if (not (is_old rest.line (place_at R i))) (h (place_at R i)))
        + total (row_count input S) (λ i. only_if (not (is_old rest.line (place_at S i))) (h (place_at S i)))
    own_total h =
        let own : Place → Bool = λ a. not (is_old rest.line a) in
        let dealt : ℕ → List Place =
        λ p. share setting.feed setting.feeders p (row_count input R) (row_count input S) in
        total_same setting.feeders (λ p. sum_by h (own_rows input setting rest.line p))
        (λ p. sum_by (λ a. only_if (own a) (h a)) (dealt p)) (λ p low. sum-filter h own (dealt p))
        ∙ shares_sum setting.feed setting.feeders some (λ a. only_if (own a) (h a)) (row_count input R)
        (row_count input S)

    nothing : (c : Bool) → only_if c 0 ≡ 0
    nothing true = refl
    nothing false = refl

    module _ (low_r : rest.line.rows_r ≤ row_count input R) (low_s : rest.line.rows_s ≤ row_count input S) where
      all_of_r : total setting.feeders
          (λ p. sum_by (λ place. cond (same_side R place.side) 1 0) (own_rows input setting rest.line p))
          + rest.line.rows_r ≡ row_count input R
      all_of_r =
          let whole = own_total (λ place. cond (same_side R place.side) 1 0) in
          let r = new_count rest.line.rows_r (row_count input R) low_r in
          let s =
          zeros (row_count input S) (λ i. only_if (not (is_old rest.line (place_at S i))) 0)
          (λ i. nothing (not (is_old rest.line (place_at S i)))) in
          omega arith

      all_of_s : total setting.feeders
          (λ p. sum_by (λ place. cond (same_side S place.side) 1 0) (own_rows input setting rest.line p))
          + rest.line.rows_s ≡ row_count input S
      all_of_s =
          let whole = own_total (λ place. cond (same_side S place.side) 1 0) in
          let r =
          zeros (row_count input R) (λ i. only_if (not (is_old rest.line (place_at R i))) 0)
          (λ i. nothing (not (is_old rest.line (place_at R i)))) in
          let s = new_count rest.line.rows_s (row_count input S) low_s in
          omega arith

      -- the rows of R in all batches of the wave, and those from before it, are all
      pub in_all_r : total setting.feeders (λ p. sum_by (λ b. (size_of b).0) (batches input setting rest.line p))
          + rest.line.rows_r ≡ row_count input R
      in_all_r =
          let a =
          total_same setting.feeders (λ q. sum_by (λ b. (size_of b).0) (batches input setting rest.line q))
          (λ q. sum_by (λ place. cond (same_side R place.side) 1 0) (own_rows input setting rest.line q))
          (λ q low. of_places (λ place. cond (same_side R place.side) 1 0) q) in
          let b = all_of_r in
          omega arith

      -- so are those of S
      pub in_all_s : total setting.feeders (λ p. sum_by (λ b. (size_of b).1) (batches input setting rest.line p))
          + rest.line.rows_s ≡ row_count input S
      in_all_s =
          let a =
          total_same setting.feeders (λ q. sum_by (λ b. (size_of b).1) (batches input setting rest.line q))
          (λ q. sum_by (λ place. cond (same_side S place.side) 1 0) (own_rows input setting rest.line q))
          (λ q low. of_places (λ place. cond (same_side S place.side) 1 0) q) in
          let b = all_of_s in
          omega arith

      -- so many rows of R feeders ask for
      pub asks_for_r : total setting.feeders (λ q. asked_r (requests (feeder_start input setting rest q)))
          + rest.line.rows_r ≡ row_count input R
      asks_for_r =
          let a =
          total_same setting.feeders (λ q. asked_r (requests (feeder_start input setting rest q)))
          (λ q. sum_by (λ place. cond (same_side R place.side) 1 0) (own_rows input setting rest.line q))
          (λ q low. asked_r_is (feeder_start input setting rest q).batches ∙ of_batches (λ t. cond (is_of R t) 1 0) q)
          in
          let b = all_of_r in
          omega arith

      -- and of S
      pub asks_for_s : total setting.feeders (λ q. asked_s (requests (feeder_start input setting rest q)))
          + rest.line.rows_s ≡ row_count input S
      asks_for_s =
          let a =
          total_same setting.feeders (λ q. asked_s (requests (feeder_start input setting rest q)))
          (λ q. sum_by (λ place. cond (same_side S place.side) 1 0) (own_rows input setting rest.line q))
          (λ q low. asked_s_is (feeder_start input setting rest q).batches ∙ of_batches (λ t. cond (is_of S t) 1 0) q)
          in
          let b = all_of_s in
          omega arith
