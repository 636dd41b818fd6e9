-- In a finished family the joiners have found each pair with a row of the wave once, and so the collector has taken it.
use Rattle.std.proofs.Common.{◌≡◌, ℕ, zero, suc, ◌+◌, ◌<◌, ◌≤◌, ◌^◌, inl, inr, refl, sym, ◌∙◌, ap, subst, arith, Bool}
use Rattle.std.proofs.Common.{false, ◌&&◌, List, [], ◌∷◌, ◌++◌, length}
use Rattle.std.specs.Prelude.{map, filter, sum_by, not, nat_le}
use Rattle.std.specs.List.{AllByRecursion}
use Rattle.std.proofs.lemmas.Bool.{cases_lt, leb-true, false_from_ne_true}
use Rattle.std.proofs.lemmas.Nat.{pow_pos}
use Rattle.std.proofs.lemmas.List.Sums.{sum_by-append}
use Rattle.row_cells.specs.Lists.{SameBag, gather}
use Rattle.row_cells.proofs.Bags.{only_if, sum-same, sum-filter, SameBag-trans, SameBag-sym, SameBag-refl}
use Rattle.row_cells.proofs.Bags.{SameBag-append}
use Rattle.row_cells.proofs.Within.{same-gather}
use Rattle.row_cells.proofs.Everywhere.{weaken, all-append, all-gather, both_hold}
use Rattle.row_cells.proofs.Totals.{sum_plus, greatest_above}
use Rattle.epoch_tags.specs.declared.tuple.Tuple.{Tuple}
use Rattle.epoch_tags.specs.declared.tuple.Pair.{Pair}
use Rattle.epoch_tags.specs.declared.message.ToCollector.{ToCollector}
use Rattle.epoch_tags.specs.declared.message.ToCollector.TheVariants.{Found, Fin}
use Rattle.epoch_tags.specs.Messages.{turns, order_epochs, found_before_fin, fins}
use Rattle.pair_collector.specs.Law.{pairs_taken}
use Rattle.reshuffler_core.proofs.Arrivals.{granted}
use Rattle.reshuffler_core.proofs.TakesAll.{answers_turns}
use Rattle.joiner_law.specs.Law.{JoinerStart, Taken, opened, store, arrived, found, pairs_by, is_greater_stamp}
use Rattle.trace_law.specs.declared.input.Input.{Input}
use Rattle.trace_law.specs.declared.setting.Setting.{Setting}
use Rattle.trace_law.specs.Join.{nested_loop}
use Rattle.trace_law.specs.Validity.{IsValid}
use Rattle.trace_law.specs.Family.{Rest, IsRestFor, Family, IsAgreeing, IsFinished, joiner_start, feeder_start}
use Rattle.trace_law.specs.Family.{old_rows, aged}
use Rattle.trace_law.specs.Stored.{is_stored}
use Rattle.trace_law.specs.Join.{has_new, wave_pairs}
use Rattle.trace_law.proofs.Aged.{old_stamps}
use Rattle.trace_law.proofs.FoundOnce.{finds, found_once, sum-pairs, IsStamped}
use Rattle.trace_law.proofs.NewPairs.{pairs-parts, pairs-aged, later_stamp, first_finds, same_pairs}
use Rattle.trace_law.proofs.Loop.{joins_of, weight, row_sum, rows_pair_up, old_pairs, either}
use Rattle.trace_law.proofs.Journals.{shift_in, rows_known, stores_what_it_holds}
use Rattle.trace_law.proofs.Sent.{sent_is}
use Rattle.trace_law.proofs.Again.{known_all, took_all, stamps_low}
use Rattle.trace_law.proofs.Found.{rows_since, rows_fit, shift_within, base_pairs, gather-both}

-- what the collector has before a `Fin` is all that was found
taken_whole : (founds : List (List Pair)) (last got more : List ToCollector) → got ++ more ≡ map Found founds ++ last
    → 0 < fins got → found_before_fin got ≡ found_before_fin (map Found founds ++ last)
taken_whole founds last got more is has = front got more has ∙ ap found_before_fin is
  where
    front : (xs ys : List ToCollector) → 0 < fins xs → found_before_fin xs ≡ found_before_fin (xs ++ ys)
    front [] ys has = absurd (omega arith)
    front (Found ps ∷ xs) ys has = ap (λ us. ps ++ us) (front xs ys has)
    front (Fin rows_r rows_s moved ∷ xs) ys has = refl

none_early : (k c e j : ℕ) (ts : List Tuple) → AllByRecursion (λ t. e < t.stamp) ts → filter (is_stored k c e j) ts ≡ []
none_early k c e j [] late = refl
none_early k c e j (t ∷ ts) (here, late) =
    let off : nat_le t.stamp e ≡ false =
    false_from_ne_true (nat_le t.stamp e)
    (λ is. let low = leb-true t.stamp e is in absurd (omega (arith, low, here))) in
    rw off (none_early k c e j ts late)

module _ (input : Input) (setting : Setting) (valid : IsValid input setting) (rest : Rest)
    (stands : IsRestFor input setting rest) (f : Family) (agrees : IsAgreeing input setting rest f)
    (finished : IsFinished input setting rest f agrees) where
  abbrev shift : ℕ → ℕ
  shift e = shift_in input setting rest f agrees e

  abbrev rows : List Tuple
  rows = rows_known input setting rest f agrees

  abbrev s_of : ℕ → JoinerStart
  s_of j = joiner_start input setting rest j

  abbrev t_of : ℕ → Taken
  t_of j = agrees.taken_by_joiner j

  abbrev e0 : ℕ
  e0 = rest.line.epoch

  abbrev old : Tuple → Tuple
  old t = aged rest.line t

  abbrev joins : Tuple → Tuple → Bool
  joins r q = joins_of input r q

  -- the pairs of epoch e that joiner j is to find
  abbrev pub finds_of : ℕ → ℕ → List Pair
  finds_of j e = finds joins setting.k shift rows j e

  -- the pairs within its base
  abbrev pub base : ℕ → List Pair
  base j = pairs_by joins (rest.stores j) (rest.stores j)

  since : AllByRecursion (λ t. e0 ≤ t.stamp) rows
  since = rows_since input setting valid rest stands f agrees

  -- nothing is found before the first epoch
  early : (j n : ℕ) → n ≤ e0 → gather n (finds_of j) ≡ []
  early j zero low = refl
  early j (suc n) low =
      let late : AllByRecursion (λ t. n < t.stamp) rows =
      weaken (λ (t : Tuple). e0 ≤ t.stamp) (λ t. n < t.stamp) (λ t is. omega (arith, is, low)) rows since in
      let none = none_early setting.k (shift n) n j rows late in
      let empty : finds_of j n ≡ [] = ap (λ ts. pairs_by (λ r q. joins r q && is_greater_stamp n r q) ts ts) none in
      ap (λ ps. ps ++ finds_of j n) (early j n (omega (arith, low))) ∙ empty

  -- each store of a finished joiner has all that it is to hold
  pub stored_all : (n j : ℕ) (h : j < 2 ^ setting.k) → n ≤ opened (s_of j) (t_of j)
      → SameBag (map old (store (s_of j) (t_of j) n)) (filter (is_stored setting.k (shift (e0 + n)) (e0 + n) j) rows)
  stored_all n j h low =
      let end = finished.joiners j h in
      stores_what_it_holds input setting rest f agrees stands valid.some valid.small n j h
      (λ m low'. end.0.1 m (omega (arith, low, low'))) (λ p h'. inr (end.0.0 p h'))

  -- what a joiner found, with the pairs of what it began with
  pub found_all : (n j : ℕ) (h : j < 2 ^ setting.k) → n ≤ opened (s_of j) (t_of j)
      → SameBag (found (s_of j) (t_of j) n ++ base j) (gather (suc (e0 + n)) (finds_of j))
  found_all zero j h low =
      let s = s_of j in let t = t_of j in
      let kept = filter (is_stored setting.k (shift e0) e0 j) rows in
      let same : e0 + 0 ≡ e0 = omega arith in
      let held : SameBag (map old (store s t 0)) kept =
      subst (λ e. SameBag (map old (store s t 0)) (filter (is_stored setting.k (shift e) e j) rows)) same
      (stored_all 0 j h low) in
      let all_pairs : SameBag (found s t 0 ++ base j) (pairs_by joins (store s t 0) (store s t 0)) =
      pairs-parts joins (rest.stores j) (arrived s t e0) in
      let aged_pairs = pairs-aged rest.line joins joins (λ r q. refl) (store s t 0) (store s t 0) in
      let here : SameBag (found s t 0 ++ base j) (finds_of j e0) =
      SameBag-trans (SameBag-trans all_pairs aged_pairs)
      (SameBag-trans (same_pairs joins held held) (first_finds joins setting.k j (shift e0) e0 rows since)) in
      let whole : gather (suc e0) (finds_of j) ≡ finds_of j e0 =
      ap (λ ps. ps ++ finds_of j e0) (early j e0 (omega arith)) in
      subst (λ e. SameBag (found s t 0 ++ base j) (gather (suc e) (finds_of j))) (sym same)
      (subst (λ ps. SameBag (found s t 0 ++ base j) ps) (sym whole) here)
  found_all (suc n) j h low =
      let s = s_of j in let t = t_of j in
      let e = e0 + n + 1 in
      let same : e0 + suc n ≡ e = omega arith in
      let test : Tuple → Tuple → Bool = λ r q. joins r q && is_greater_stamp e r q in
      let held : SameBag (map old (store s t (suc n))) (filter (is_stored setting.k (shift e) e j) rows) =
      subst (λ v. SameBag (map old (store s t (suc n))) (filter (is_stored setting.k (shift v) v j) rows)) same
      (stored_all (suc n) j h low) in
      let new : SameBag (pairs_by test (store s t (suc n)) (store s t (suc n))) (finds_of j e) =
      SameBag-trans
      (pairs-aged rest.line test test (λ r q. ap (λ c. joins r q && c) (later_stamp rest.line e (omega arith) r q))
      (store s t (suc n)) (store s t (suc n))) (same_pairs test held held) in
      let before = found_all n j h (omega (arith, low)) in
      let turned : SameBag (found s t (suc n) ++ base j)
      ((found s t n ++ base j) ++ pairs_by test (store s t (suc n)) (store s t (suc n))) =
      turn (found s t n) (pairs_by test (store s t (suc n)) (store s t (suc n))) (base j) in
      let one : suc (e0 + n) ≡ e0 + n + 1 = omega arith in
      let both : SameBag ((found s t n ++ base j) ++ pairs_by test (store s t (suc n)) (store s t (suc n)))
      (gather (suc (e0 + n)) (finds_of j) ++ finds_of j e) = SameBag-append before new in
      let both' : SameBag ((found s t n ++ base j) ++ pairs_by test (store s t (suc n)) (store s t (suc n)))
      (gather (suc e) (finds_of j)) =
      subst
      (λ m.
      SameBag ((found s t n ++ base j) ++ pairs_by test (store s t (suc n)) (store s t (suc n)))
      (gather m (finds_of j) ++ finds_of j e)) one both in
      subst (λ m. SameBag (found s t (suc n) ++ base j) (gather (suc m) (finds_of j))) (sym same)
      (SameBag-trans turned both')
    where
      turn : (xs ys zs : List Pair) → SameBag ((xs ++ ys) ++ zs) ((xs ++ zs) ++ ys)
      turn xs ys zs = record {
        sums = λ g.
            let a = sum_by-append g (xs ++ ys) zs in
            let c = sum_by-append g xs ys in
            let d = sum_by-append g (xs ++ zs) ys in
            let e = sum_by-append g xs zs in
            omega arith;
      }

  -- how many orders feeder p took
  abbrev pub orders_of : ℕ → ℕ
  orders_of p = length (order_epochs (agrees.taken_by_feeder p))

  -- as many steps has each joiner opened
  pub opened_is : (j p : ℕ) → j < 2 ^ setting.k → p < setting.feeders → opened (s_of j) (t_of j) ≡ orders_of p
  opened_is j p h h' =
      let t = t_of j in
      let turned : turns (t.from_feeder p) ≡ orders_of p =
      ap turns (took_all input setting valid rest stands f agrees finished j p h h')
      ∙ answers_turns setting.k j e0 rest.line.shift (feeder_start input setting rest p).batches
      (agrees.taken_by_feeder p) in
      let above = greatest_above setting.feeders (λ i. turns (t.from_feeder i)) p h' in
      let end = finished.joiners j h in
      let below : opened (s_of j) t ≤ turns (t.from_feeder p) =
      elim (cases_lt (turns (t.from_feeder p)) (opened (s_of j) t)) [
        | inl more ↦ let step = end.0.1 (turns (t.from_feeder p)) more in
            let all = step.0 p h' in absurd (omega (arith, all))
        | inr fine ↦ fine
      ] in
      omega (arith, turned, above, below)

  -- the number of steps
  abbrev pub E : ℕ
  E = orders_of 0

  -- it is the same for each feeder
  pub same_orders : (p : ℕ) → p < setting.feeders → orders_of p ≡ E
  same_orders p h = let some : 0 < 2 ^ setting.k = pow_pos setting.k in
      sym (opened_is 0 p some h) ∙ opened_is 0 0 some valid.some

  young : AllByRecursion (λ t. t.stamp ≤ e0 + E) rows
  young =
      all-append (λ t. t.stamp ≤ e0 + E) (old_rows input rest.line)
      (gather setting.feeders
      (λ p. granted e0 (feeder_start input setting rest p).batches (agrees.taken_by_feeder p)))
      (weaken (λ (t : Tuple). t.stamp ≡ e0) (λ t. t.stamp ≤ e0 + E) (λ t is. omega (arith, is))
      (old_rows input rest.line) (old_stamps input rest.line))
      (all-gather (λ t. t.stamp ≤ e0 + E) setting.feeders
      (λ p. granted e0 (feeder_start input setting rest p).batches (agrees.taken_by_feeder p))
      (λ p h. let same = same_orders p h in
      stamps_low e0 (e0 + E) (feeder_start input setting rest p).batches (agrees.taken_by_feeder p)
      (agrees.feeders p h).orders (omega (arith, same))))

  -- the known rows have stamps up to the last epoch, and tickets that are bytes
  pub rows_stamped : AllByRecursion (IsStamped (e0 + E)) rows
  rows_stamped =
      both_hold (λ t. t.stamp ≤ e0 + E) (λ t. t.ticket < 2 ^ 8) rows young
      (rows_fit input setting valid rest stands f agrees)

  -- all rows are known, so all pairs
  pairs_all : SameBag (pairs_by joins rows rows) (nested_loop input)
  pairs_all = record {
    sums = λ g.
        sum-pairs g joins rows rows
        ∙ sum-same (λ r. sum_by (weight input g r) rows) (λ r. row_sum input (weight input g r))
        (λ r. known_all input setting valid rest stands f agrees finished (weight input g r) (λ e t. refl)) rows
        ∙ known_all input setting valid rest stands f agrees finished (λ r. row_sum input (weight input g r))
        (λ e t. refl)
        ∙ rows_pair_up input g;
  }

  -- the pairs that joiner j found
  abbrev pub its : ℕ → List Pair
  its j = found (s_of j) (t_of j) (opened (s_of j) (t_of j))

  with_old : SameBag
      (gather (2 ^ setting.k) its ++ pairs_by joins (old_rows input rest.line) (old_rows input rest.line))
      (nested_loop input)
  with_old =
      let k = setting.k in
      let each : (j : ℕ) → j < 2 ^ k → SameBag (its j ++ base j) (gather (suc (e0 + E)) (finds_of j)) = λ j h.
      subst (λ n. SameBag (its j ++ base j) (gather (suc (e0 + n)) (finds_of j))) (opened_is j 0 h valid.some)
      (found_all (opened (s_of j) (t_of j)) j h (omega arith)) in
      let once =
      found_once joins k (e0 + E) shift rows valid.small
      (λ e. shift_within input setting valid rest stands f agrees e) rows_stamped in
      SameBag-trans
      (SameBag-append (SameBag-refl (gather (2 ^ k) its))
      (SameBag-sym (base_pairs input setting valid rest stands f agrees)))
      (SameBag-trans (gather-both (2 ^ k) its base)
      (SameBag-trans (same-gather (2 ^ k) (λ j. its j ++ base j) (λ j. gather (suc (e0 + E)) (finds_of j)) each)
      (SameBag-trans once pairs_all)))

  -- what all joiners found are the wave's pairs
  pub finds_the_wave : SameBag (gather (2 ^ setting.k) (λ j. found (s_of j) (t_of j) (opened (s_of j) (t_of j))))
      (wave_pairs input rest.line)
  finds_the_wave = record {
    sums = λ g.
        let line = rest.line in
        let a = with_old.sums g in
        let c =
        sum_by-append g (gather (2 ^ setting.k) its) (pairs_by joins (old_rows input line) (old_rows input line)) in
        let d = (old_pairs input line).sums g in
        let e = sum-filter g (λ pair. not (has_new line pair)) (nested_loop input) in
        let n = sum-filter g (has_new line) (nested_loop input) in
        let h =
        sum_plus (λ pair. only_if (has_new line pair) (g pair)) (λ pair. only_if (not (has_new line pair)) (g pair))
        (nested_loop input) in
        let k =
        sum-same (λ pair. only_if (has_new line pair) (g pair) + only_if (not (has_new line pair)) (g pair)) g
        (λ pair. either (has_new line pair) (g pair)) (nested_loop input) in
        omega arith;
  }

  -- what the collector took of one joiner is what it found
  pub taken_of : (j : ℕ) (h : j < 2 ^ setting.k) → SameBag (found_before_fin (f.collector.from_joiner j)) (its j)
  taken_of j h =
      let law = agrees.joiners j h in
      let link = agrees.joiner_collector j h in
      let whole : found_before_fin (f.collector.from_joiner j) ≡ found_before_fin (f.joiner j).to_collector =
      taken_whole law.founds law.fins (f.collector.from_joiner j) link.rest (link.joins ∙ law.to_collector)
      (finished.collector j h) ∙ ap found_before_fin (sym law.to_collector) in
      subst (λ ps. SameBag ps (its j)) (sym whole) (sent_is input setting valid rest stands f agrees j h)

  -- the collector has the wave's pairs
  pub takes_all_pairs : SameBag (pairs_taken (2 ^ setting.k) f.collector) (wave_pairs input rest.line)
  takes_all_pairs =
      SameBag-trans (same-gather (2 ^ setting.k) (λ j. found_before_fin (f.collector.from_joiner j)) its taken_of)
      finds_the_wave
