-- What the collector answers in the end.
use Rattle.std.specs.Prelude.{◌≡◌, ℕ, ◌-◌, ◌^◌, min, List, map, length, slice_index, IsPermutation}
use Rattle.std.specs.List.{range_with_len}
use Rattle.row_cells.specs.Lists.{total, greatest}
use Rattle.epoch_tags.specs.Messages.{found_before_fin}
use Rattle.pair_collector.specs.declared.collected.Collected.{Collected}
use Rattle.pair_collector.specs.Law.{CollectorLists, CollectorLaw, pairs_taken}
use Rattle.pair_collector.specs.Order.{InOrder}
use Rattle.pair_collector.specs.Standing.{last_of, held_of, moves_of}

-- how many rows joiner j moved in each step
abbrev pub moves : CollectorLists → ℕ → List ℕ
moves lists j = moves_of (last_of (lists.from_joiner j))

-- how many rows all joiners moved in a step, a shorter list counting as 0 past its end
abbrev pub moved_in : ℕ → CollectorLists → ℕ → ℕ
moved_in joiners lists step = total joiners (λ j. slice_index (moves lists j) step)

-- the answer for these lists
pub record Collects (joiners : ℕ) (lists : CollectorLists) (collected : Collected) : Type 0 where
  pub pairs : IsPermutation (pairs_taken joiners lists) collected.pairs
  pub law : CollectorLaw joiners collected.pairs lists
  pub order : InOrder collected.pairs
  pub made : collected.made ≡ map (λ j. length (found_before_fin (lists.from_joiner j))) (range_with_len 0 joiners)
  pub loads : collected.loads ≡ map (λ j. held_of (last_of (lists.from_joiner j))) (range_with_len 0 joiners)
  pub moved : collected.moved ≡ map (λ step. min (moved_in joiners lists step) (2 ^ 64 - 1))
      (range_with_len 0 (greatest joiners (λ j. length (moves lists j))))
