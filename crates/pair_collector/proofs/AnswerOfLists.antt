-- The answer over what is kept is the answer for the lists.
use Rattle.std.proofs.Common.{◌≡◌, ◌<◌, ◌-◌, ◌^◌, min, ℕ, refl, ◌∙◌, ap, subst, List, [], ◌∷◌, length, get_or}
use Rattle.std.specs.Prelude.{map, slice_index, slice_index_or, IsPermutation}
use Rattle.std.specs.List.{range_with_len}
use Rattle.std.proofs.lemmas.Option.{slice_get-get_or}
use Rattle.row_cells.specs.Lists.{greatest}
use Rattle.row_cells.proofs.Bags.{SameBag-permutation, SameBag-sym}
use Rattle.row_cells.proofs.Totals.{total_same, greatest_same}
use Rattle.epoch_tags.specs.declared.tuple.Pair.{Pair}
use Rattle.pair_collector.specs.declared.collected.Collected.{Collected}
use Rattle.pair_collector.specs.Kept.{Kept}
use Rattle.pair_collector.specs.Law.{CollectorLists, pairs_taken}
use Rattle.pair_collector.specs.Order.{InOrder}
use Rattle.pair_collector.specs.Standing.{CollectorState, StandsFor, kept_of, nothing_kept, pairs_kept, held_of}
use Rattle.pair_collector.specs.Standing.{moves_of, longest, moved_by}
use Rattle.pair_collector.specs.Answer.{Collects, moves, moved_in}
use Rattle.pair_collector.proofs.KeptMessages.{as_map, pairs_are}

map_of_map : {X Y Z : Type 0} (g : Y → Z) (f : X → Y) (xs : List X) → map g (map f xs) ≡ map (λ x. g (f x)) xs
map_of_map g f [] = refl
map_of_map g f (x ∷ xs) = ap (λ ys. g (f x) ∷ ys) (map_of_map g f xs)

-- two functions that agree everywhere make the same of a list
pub map_same : {X Y : Type 0} (f g : X → Y) → ((x : X) → f x ≡ g x) → (xs : List X) → map f xs ≡ map g xs
map_same f g same [] = refl
map_same f g same (x ∷ xs) = ap (λ y. y ∷ map f xs) (same x) ∙ ap (λ ys. g x ∷ ys) (map_same f g same xs)

module _ (joiners : ℕ) (lists : CollectorLists) (state : CollectorState) (stands : StandsFor joiners lists state) where
  at_place : (j : ℕ) → j < joiners → slice_index_or state.joiners j nothing_kept ≡ kept_of (lists.from_joiner j)
  at_place j low = stands.each j (get_or state.joiners j nothing_kept)
      (slice_get-get_or state.joiners j nothing_kept (rw stands.began low))

  each_mapped : {Y : Type 0} (g : Kept → Y) → map g state.joiners
      ≡ map (λ j. g (kept_of (lists.from_joiner j))) (range_with_len 0 joiners)
  each_mapped g =
      ap (map g) (as_map state lists stands.each) ∙ ap (λ n. map g
      (map (λ j. kept_of (lists.from_joiner j)) (range_with_len 0 n))) stands.began
      ∙ map_of_map g (λ j. kept_of (lists.from_joiner j)) (range_with_len 0 joiners)

  longest_is : longest state.joiners joiners ≡ greatest joiners (λ j. length (moves lists j))
  longest_is = greatest_same joiners (λ j. length (moves_of (slice_index_or state.joiners j nothing_kept).last))
      (λ j. length (moves lists j))
      (λ j low. ap (λ (kept : Kept). length (moves_of kept.last)) (at_place j low))

  moved_is : (step : ℕ) → moved_by state.joiners step joiners ≡ moved_in joiners lists step
  moved_is step = total_same joiners (λ j. slice_index (moves_of (slice_index_or state.joiners j nothing_kept).last)
      step) (λ j. slice_index (moves lists j) step)
      (λ j low. ap (λ (kept : Kept). slice_index (moves_of kept.last) step) (at_place j low))

  -- an answer that is put in order and counted from what is kept is the answer for the lists
  pub collects : (collected : Collected) (all : List Pair) → all ≡ pairs_kept state → IsPermutation all collected.pairs
      → InOrder collected.pairs
      → collected.made ≡ map (λ kept. length kept.pairs) state.joiners
      → collected.loads ≡ map (λ kept. held_of kept.last) state.joiners
      → collected.moved ≡ map (λ step. min (moved_by state.joiners step (length state.joiners)) (2 ^ 64 - 1))
      (range_with_len 0 (longest state.joiners (length state.joiners)))
      → Collects joiners lists collected
  collects collected all are permuted order made loads moved =
      let taken : all ≡ pairs_taken joiners lists = are ∙ pairs_are state lists stands.each
      ∙ ap (λ n. pairs_taken n lists) stands.began in
      let pairs : IsPermutation (pairs_taken joiners lists) collected.pairs =
      subst (λ ps. IsPermutation ps collected.pairs) taken permuted in
      record {
        pairs = pairs;
        law = record { kept = SameBag-sym (SameBag-permutation (pairs_taken joiners lists) collected.pairs pairs) };
        order = order;
        made = made ∙ each_mapped (λ kept. length kept.pairs);
        loads = loads ∙ each_mapped (λ kept. held_of kept.last);
        moved = moved
            ∙ ap (λ m. map (λ step. min (moved_by state.joiners step m) (2 ^ 64 - 1))
            (range_with_len 0 (longest state.joiners m))) stands.began
            ∙ ap (λ n. map (λ step. min (moved_by state.joiners step joiners) (2 ^ 64 - 1)) (range_with_len 0 n))
            longest_is
            ∙ map_same (λ step. min (moved_by state.joiners step joiners) (2 ^ 64 - 1))
            (λ step. min (moved_in joiners lists step) (2 ^ 64 - 1))
            (λ step. ap (λ n. min n (2 ^ 64 - 1)) (moved_is step))
            (range_with_len 0 (greatest joiners (λ j. length (moves lists j))));
      }
