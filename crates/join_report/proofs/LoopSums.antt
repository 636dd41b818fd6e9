-- The numbers of the rows of all pairs of a nested loop, added up.
use Rattle.std.proofs.Common.{◌≤◌, ◌<◌, ◌+◌, ◌*◌, ◌^◌, ℕ, Bool, true, false, cond, List, [], ◌∷◌, Some, None, length}
use Rattle.std.proofs.Common.{arith}
use Rattle.std.specs.Prelude.{filter_map, flat_map, sum_by}
use Rattle.std.specs.List.{cons_option, enumerate_from}
use Rattle.std.proofs.lemmas.List.Sums.{sum_by-append, sum_by-cons}
use Rattle.epoch_tags.specs.Loop.{nested_loop}
use Rattle.epoch_tags.specs.declared.tuple.Pair.{Pair}
use Rattle.join_report.specs.Summary.{numbers_of}

module _ {X Y : Type 0} (matches : X → Y → Bool) where
  abbrev inner : ℕ × X → ℕ → List Y → List Pair
  inner a n rows = filter_map (λ b. cond (matches a.1 b.1) (Some (record { i = a.0; j = b.0 })) None)
      (enumerate_from n rows)

  inner_sum : (a : ℕ × X) (n : ℕ) (rows : List Y) → a.0 < 262144 → n + length rows ≤ 262144
      → sum_by numbers_of (inner a n rows) ≤ length rows * 524288
  inner_sum a n [] low few = omega arith
  inner_sum a n (row ∷ rows) low few = by_test (matches a.1 row) (inner_sum a (n + 1) rows low (omega (arith, few)))
    where
      by_test : (test : Bool) → sum_by numbers_of (inner a (n + 1) rows) ≤ length rows * 524288
          → sum_by numbers_of (cons_option (cond test (Some (record { i = a.0; j = n })) None) (inner a (n + 1) rows))
          ≤ length (row ∷ rows) * 524288
      by_test true rest =
          let one = sum_by-cons numbers_of (record { i = a.0; j = n }) (inner a (n + 1) rows) in
          omega (arith, one, rest, low, few)
      by_test false rest = omega (arith, rest)

  outer_sum : (n : ℕ) (rows_r : List X) (rows_s : List Y) → n + length rows_r ≤ 262144 → length rows_s ≤ 262144
      → sum_by numbers_of (flat_map (λ a. inner a 0 rows_s) (enumerate_from n rows_r)) ≤ length rows_r * 137438953472
  outer_sum n [] rows_s few_r few_s = omega arith
  outer_sum n (row ∷ rows) rows_s few_r few_s =
      let one = inner_sum (n, row) 0 rows_s (omega (arith, few_r)) (omega (arith, few_s)) in
      let rest = outer_sum (n + 1) rows rows_s (omega (arith, few_r)) few_s in
      let both = sum_by-append numbers_of (inner (n, row) 0 rows_s)
      (flat_map (λ a. inner a 0 rows_s) (enumerate_from (n + 1) rows)) in
      omega (arith, one, rest, both, few_s)

  -- it fits 64 bits
  pub loop_sum_fits : (rows_r : List X) (rows_s : List Y) → length rows_r ≤ 2 ^ 18 → length rows_s ≤ 2 ^ 18
      → sum_by numbers_of (nested_loop matches rows_r rows_s) < 2 ^ 64
  loop_sum_fits rows_r rows_s few_r few_s =
      let all = outer_sum 0 rows_r rows_s (omega (arith, few_r)) (omega (arith, few_s)) in
      omega (arith, all, few_r)
