-- The pairs behind those that were given are those that the lists have more.
use Rattle.std.proofs.Common.{◌≡◌, ◌<◌, ◌+◌, ℕ, refl, sym, ◌∙◌, ap, subst, List, [], ◌∷◌, ◌++◌, length, get_or}
use Rattle.std.proofs.Common.{append_assoc}
use Rattle.std.specs.Prelude.{map, drop, slice_index, slice_index_or}
use Rattle.std.specs.List.{sum_by}
use Rattle.std.proofs.Math.Seq.{drop-append-add}
use Rattle.std.proofs.lemmas.List.{get_or-map, length-append}
use Rattle.std.proofs.lemmas.List.Sums.{sum_by-append}
use Rattle.std.proofs.lemmas.Option.{slice_get-get_or}
use Rattle.row_cells.specs.Lists.{IsPrefix, SameBag, gather, total}
use Rattle.row_cells.proofs.Totals.{gather_same, sum-gather, total-add, total_same}
use Rattle.epoch_tags.specs.declared.tuple.Pair.{Pair}
use Rattle.epoch_tags.specs.declared.message.ToCollector.{ToCollector}
use Rattle.epoch_tags.specs.declared.message.ToCollector.TheVariants.{Found, Fin}
use Rattle.epoch_tags.specs.Messages.{found_before_fin}
use Rattle.pair_collector.specs.Kept.{Kept}
use Rattle.pair_collector.specs.Law.{CollectorLists, pairs_taken}
use Rattle.pair_collector.specs.Standing.{CollectorState, StandsFor, kept_of, nothing_kept}
use Rattle.pair_collector.specs.Fresh.{kept_behind, pairs_since, HasGiven}

module _ (joiners : ℕ) (lists : CollectorLists) (state : CollectorState) (stands : StandsFor joiners lists state) where
  kept_at : (j : ℕ) → j < joiners → slice_index_or state.joiners j nothing_kept ≡ kept_of (lists.from_joiner j)
  kept_at j low = stands.each j (get_or state.joiners j nothing_kept)
      (slice_get-get_or state.joiners j nothing_kept (rw stands.began low))

  -- the pairs that are kept behind those given are those that the lists have behind the earlier lists'
  pub behind_is_since : (earlier : CollectorLists) → HasGiven joiners earlier state
      → kept_behind state.given state.joiners (length state.joiners) ≡ pairs_since joiners earlier lists
  behind_is_since earlier gave =
      ap (kept_behind state.given state.joiners) stands.began
      ∙ gather_same joiners (λ j. drop (slice_index state.given j) (slice_index_or state.joiners j nothing_kept).pairs)
      (λ j. drop (length (found_before_fin (earlier.from_joiner j))) (found_before_fin (lists.from_joiner j)))
      (λ j low. ap (λ (kept : Kept). drop (slice_index state.given j) kept.pairs) (kept_at j low)
      ∙ ap (λ n. drop n (found_before_fin (lists.from_joiner j))) (gave j low))

  -- with these counts all is given
  pub all_given : (given : List ℕ) → given ≡ map (λ (kept : Kept). length kept.pairs) state.joiners → (j : ℕ)
      → j < joiners
      → slice_index given j ≡ length (found_before_fin (lists.from_joiner j))
  all_given given is j low =
      ap (λ ns. slice_index ns j) is
      ∙ get_or-map (λ (kept : Kept). length kept.pairs) state.joiners j nothing_kept 0 (rw stands.began low)
      ∙ ap (λ (kept : Kept). length kept.pairs) (kept_at j low)

-- ---- where lists go on from earlier ones

found_front : (ms more : List ToCollector) → found_before_fin ms
    ++ drop (length (found_before_fin ms)) (found_before_fin (ms ++ more)) ≡ found_before_fin (ms ++ more)
found_front [] more = refl
found_front (Found pairs ∷ ms) more =
    let before = found_before_fin ms in
    let all = found_before_fin (ms ++ more) in
    ap (λ n. (pairs ++ before) ++ drop n (pairs ++ all)) (length-append pairs before)
    ∙ ap (λ ps. (pairs ++ before) ++ ps) (drop-append-add pairs all (length before))
    ∙ append_assoc pairs before (drop (length before) all)
    ∙ ap (λ ps. pairs ++ ps) (found_front ms more)
found_front (Fin rows_r rows_s moved ∷ ms) more = refl

-- the pairs of the earlier ones and those since are all pairs
pub since_joins : (joiners : ℕ) (earlier lists : CollectorLists)
    → ((j : ℕ) → j < joiners → IsPrefix (earlier.from_joiner j) (lists.from_joiner j))
    → SameBag (pairs_taken joiners earlier ++ pairs_since joiners earlier lists) (pairs_taken joiners lists)
since_joins joiners earlier lists on = record {
  sums = λ f.
      let before : ℕ → List Pair = λ j. found_before_fin (earlier.from_joiner j) in
      let all : ℕ → List Pair = λ j. found_before_fin (lists.from_joiner j) in
      let since : ℕ → List Pair = λ j. drop (length (before j)) (all j) in
      sum_by-append f (gather joiners before) (gather joiners since)
      ∙ ap (λ n. n + sum_by f (gather joiners since)) (sum-gather f joiners before)
      ∙ ap (λ n. total joiners (λ j. sum_by f (before j)) + n) (sum-gather f joiners since)
      ∙ sym (total-add joiners (λ j. sum_by f (before j)) (λ j. sum_by f (since j)))
      ∙ total_same joiners (λ j. sum_by f (before j) + sum_by f (since j)) (λ j. sum_by f (all j))
      (λ j low. sym (sum_by-append f (before j) (since j)) ∙ ap (sum_by f) (goes_on j low))
      ∙ sym (sum-gather f joiners all);
}
  where
    goes_on : (j : ℕ) → j < joiners → found_before_fin (earlier.from_joiner j)
        ++ drop (length (found_before_fin (earlier.from_joiner j))) (found_before_fin (lists.from_joiner j))
        ≡ found_before_fin (lists.from_joiner j)
    goes_on j low =
        let front = on j low in
        subst (λ ms. found_before_fin (earlier.from_joiner j)
        ++ drop (length (found_before_fin (earlier.from_joiner j))) (found_before_fin ms) ≡ found_before_fin ms)
        front.joins (found_front (earlier.from_joiner j) front.rest)
