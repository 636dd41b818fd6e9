-- At every moment: what all joiners found, with the pairs of the older rows, are pairs of the rows that came, each
-- once.
use Rattle.std.proofs.Common.{◌≡◌, ℕ, zero, suc, ◌+◌, ◌<◌, ◌≤◌, ◌^◌, refl, sym, ap, subst, arith, Bool, ◌&&◌, List, []}
use Rattle.std.proofs.Common.{◌∷◌, ◌++◌}
use Rattle.std.specs.Prelude.{map, filter, sum_by}
use Rattle.std.specs.List.{AllByRecursion}
use Rattle.std.proofs.lemmas.List.Sums.{sum_by-append}
use Rattle.std.proofs.lemmas.List.Elements.{recursion_from_All}
use Rattle.row_cells.specs.declared.table.Side.{Side}
use Rattle.row_cells.specs.Lists.{SameBag, IsWithinBag, gather, total}
use Rattle.row_cells.proofs.Bags.{SameBag-trans, SameBag-sym, SameBag-refl, SameBag-append}
use Rattle.row_cells.proofs.Within.{IsWithinBag-trans, within_same, within-gather, within-append, gather_more}
use Rattle.row_cells.proofs.Within.{same-gather}
use Rattle.row_cells.proofs.Everywhere.{weaken, all-append, all-gather, all-map, both_hold, all_at}
use Rattle.row_cells.proofs.Totals.{sum-gather, total-add, total_same, total_part, each_below, sum_by-le}
use Rattle.epoch_tags.specs.declared.tuple.Tuple.{Tuple}
use Rattle.epoch_tags.specs.declared.tuple.Pair.{Pair}
use Rattle.epoch_tags.specs.declared.message.ToFeeder.{ToFeeder}
use Rattle.epoch_tags.specs.declared.message.ToFeeder.TheVariants.{Order, Grant, Stop}
use Rattle.migration_plan.specs.Steps.{holds}
use Rattle.reshuffler_core.specs.Law.{stamped}
use Rattle.reshuffler_core.proofs.Arrivals.{granted}
use Rattle.joiner_law.specs.Law.{JoinerStart, Taken, opened, store, arrived, found, pairs_by, is_greater_stamp}
use Rattle.load_controller.specs.Journal.{begun}
use Rattle.load_controller.proofs.Bound.{shifts_within}
use Rattle.load_controller.proofs.Shifts.{shift_at_within}
use Rattle.trace_law.specs.declared.input.Input.{Input}
use Rattle.trace_law.specs.declared.setting.Setting.{Setting}
use Rattle.trace_law.specs.Join.{ticket_of, tickets_of, matches_of}
use Rattle.trace_law.specs.Validity.{IsValid}
use Rattle.row_tickets.specs.declared.place.Place.{Place}
use Rattle.trace_law.specs.Family.{rules_of, Rest, IsRestFor, Family, IsAgreeing, feeder_start, batches, tuple_of}
use Rattle.trace_law.specs.Family.{is_old, all_places, old_rows, aged}
use Rattle.trace_law.specs.Stored.{is_stored}
use Rattle.trace_law.proofs.Begun.{fits_begun}
use Rattle.trace_law.proofs.Aged.{everywhere, old_stamps}
use Rattle.trace_law.proofs.FoundOnce.{finds, found_once, sum-pairs}
use Rattle.trace_law.proofs.NewPairs.{pairs-parts, pairs-aged, later_stamp, first_finds, same_pairs, held_once}
use Rattle.trace_law.proofs.NewPairs.{weight_of}
use Rattle.trace_law.proofs.Arrivals.{granted_since}
use Rattle.trace_law.proofs.Journals.{feeders_go, begins}
use Rattle.trace_law.proofs.AtMost.{b, all, start_of, took, new_rows, stores_at_most}

-- what holds of every tuple of the batches, whatever its stamp, holds of what was granted
granted_each : (P : Tuple → Type 0) → ((e : ℕ) (t : Tuple) → P t → P (stamped e t))
    → (e : ℕ) (bs : List (List Tuple)) (ms : List ToFeeder) → AllByRecursion (λ ts. AllByRecursion P ts) bs
    → AllByRecursion P (granted e bs ms)
granted_each P keeps e bs [] each = tt
granted_each P keeps e bs (Order epoch shift ∷ ms) each = granted_each P keeps epoch bs ms each
granted_each P keeps e [] (Grant ∷ ms) each = granted_each P keeps e [] ms each
granted_each P keeps e (batch ∷ bs) (Grant ∷ ms) (here, more) =
    all-append P (map (stamped e) batch) (granted e bs ms)
    (all-map P (stamped e) batch (weaken P (λ t. P (stamped e t)) (λ t is. keeps e t is) batch here))
    (granted_each P keeps e bs ms more)
granted_each P keeps e bs (Stop ∷ ms) each = granted_each P keeps e bs ms each

within_pairs : {rs rs' : List Tuple} (test : Tuple → Tuple → Bool) → IsWithinBag rs rs'
    → IsWithinBag (pairs_by test rs rs) (pairs_by test rs' rs')
within_pairs {rs = rs} {rs' = rs'} test left = record {
  sums = λ f.
      let w = weight_of test f in
      let a = sum-pairs f test rs rs in
      let c = sum-pairs f test rs' rs' in
      let inner = sum_by-le (λ r. sum_by (w r) rs) (λ r. sum_by (w r) rs') (λ r. left.sums (w r)) rs in
      let outer = left.sums (λ r. sum_by (w r) rs') in
      omega arith;
}

-- two parts gathered one by one, or together
pub gather-both : {X : Type 0} (n : ℕ) (g h : ℕ → List X)
    → SameBag (gather n g ++ gather n h) (gather n (λ i. g i ++ h i))
gather-both n g h = record {
  sums = λ f.
      let a = sum_by-append f (gather n g) (gather n h) in
      let c = sum-gather f n g in
      let d = sum-gather f n h in
      let both = total-add n (λ i. sum_by f (g i)) (λ i. sum_by f (h i)) in
      let each =
      total_same n (λ i. sum_by f (g i ++ h i)) (λ i. sum_by f (g i) + sum_by f (h i))
      (λ i low. sum_by-append f (g i) (h i)) in
      let e = sum-gather f n (λ i. g i ++ h i) in
      omega arith;
}

module _ (input : Input) (setting : Setting) (valid : IsValid input setting) (rest : Rest)
    (stands : IsRestFor input setting rest) (f : Family) (agrees : IsAgreeing input setting rest f) where
  -- the shift of an epoch by the journal
  abbrev pub shift : ℕ → ℕ
  shift e = b input setting valid rest stands f agrees e

  -- the rows that are known: the older ones, and those that feeders granted
  abbrev pub rows : List Tuple
  rows = all input setting valid rest stands f agrees

  abbrev granted_rows : List Tuple
  granted_rows = new_rows input setting valid rest stands f agrees

  -- how joiner j begins
  abbrev pub s_of : ℕ → JoinerStart
  s_of j = start_of input setting valid rest stands f agrees j

  -- what it took
  abbrev pub t_of : ℕ → Taken
  t_of j = took input setting valid rest stands f agrees j

  abbrev e0 : ℕ
  e0 = rest.line.epoch

  abbrev old : Tuple → Tuple
  old t = aged rest.line t

  abbrev joins : Tuple → Tuple → Bool
  joins r q = matches_of input r.cells q.cells

  -- the pairs of epoch e that joiner j is to find
  abbrev pub finds_of : ℕ → ℕ → List Pair
  finds_of j e = finds joins setting.k shift rows j e

  -- the known rows have stamps from the wave's first epoch on
  pub rows_since : AllByRecursion (λ t. e0 ≤ t.stamp) rows
  rows_since =
      all-append (λ t. e0 ≤ t.stamp) (old_rows input rest.line) granted_rows
      (weaken (λ (t : Tuple). t.stamp ≡ e0) (λ t. e0 ≤ t.stamp) (λ t is. omega (arith, is)) (old_rows input rest.line)
      (old_stamps input rest.line))
      (granted_since input setting rest f agrees shift (feeders_go input setting rest f agrees)
      (begins input setting rest f agrees))

  -- what a joiner found, with the pairs of what it began with
  pub found_within : (n j : ℕ) (h : j < 2 ^ setting.k) → n ≤ opened (s_of j) (t_of j)
      → IsWithinBag (found (s_of j) (t_of j) n ++ pairs_by joins (rest.stores j) (rest.stores j))
      (gather (suc (e0 + n)) (finds_of j))
  found_within zero j h low =
      let s = s_of j in let t = t_of j in
      let kept = filter (is_stored setting.k (shift e0) e0 j) rows in
      let same : e0 + 0 ≡ e0 = omega arith in
      let held : IsWithinBag (map old (store s t 0)) kept =
      subst (λ e. IsWithinBag (map old (store s t 0)) (filter (is_stored setting.k (shift e) e j) rows)) same
      (stores_at_most input setting valid rest stands f agrees 0 j h low) in
      let all_pairs : SameBag (found s t 0 ++ pairs_by joins (rest.stores j) (rest.stores j))
      (pairs_by joins (store s t 0) (store s t 0)) = pairs-parts joins (rest.stores j) (arrived s t e0) in
      let aged_pairs = pairs-aged rest.line joins joins (λ r q. refl) (store s t 0) (store s t 0) in
      let here : IsWithinBag (found s t 0 ++ pairs_by joins (rest.stores j) (rest.stores j)) (finds_of j e0) =
      IsWithinBag-trans (within_same (SameBag-trans all_pairs aged_pairs))
      (IsWithinBag-trans (within_pairs joins held)
      (within_same (first_finds joins setting.k j (shift e0) e0 rows rows_since))) in
      subst
      (λ e.
      IsWithinBag (found s t 0 ++ pairs_by joins (rest.stores j) (rest.stores j)) (gather (suc e) (finds_of j)))
      (sym same)
      (IsWithinBag-trans here (within-back (gather e0 (finds_of j)) (finds_of j e0)))
    where
      within-back : (xs ys : List Pair) → IsWithinBag ys (xs ++ ys)
      within-back xs ys = record { sums = λ g. let a = sum_by-append g xs ys in omega arith }
  found_within (suc n) j h low =
      let s = s_of j in let t = t_of j in
      let base = pairs_by joins (rest.stores j) (rest.stores j) in
      let e = e0 + n + 1 in
      let same : e0 + suc n ≡ e = omega arith in
      let test : Tuple → Tuple → Bool = λ r q. joins r q && is_greater_stamp e r q in
      let held : IsWithinBag (map old (store s t (suc n))) (filter (is_stored setting.k (shift e) e j) rows) =
      subst (λ v. IsWithinBag (map old (store s t (suc n))) (filter (is_stored setting.k (shift v) v j) rows)) same
      (stores_at_most input setting valid rest stands f agrees (suc n) j h low) in
      let new : IsWithinBag (pairs_by test (store s t (suc n)) (store s t (suc n))) (finds_of j e) =
      IsWithinBag-trans
      (within_same
      (pairs-aged rest.line test test (λ r q. ap (λ c. joins r q && c) (later_stamp rest.line e (omega arith) r q))
      (store s t (suc n)) (store s t (suc n)))) (within_pairs test held) in
      let before = found_within n j h (omega arith) in
      let turned : SameBag (found s t (suc n) ++ base)
      ((found s t n ++ base) ++ pairs_by test (store s t (suc n)) (store s t (suc n))) =
      turn (found s t n) (pairs_by test (store s t (suc n)) (store s t (suc n))) base in
      let one : suc (e0 + n) ≡ e0 + n + 1 = omega arith in
      let both : IsWithinBag ((found s t n ++ base) ++ pairs_by test (store s t (suc n)) (store s t (suc n)))
      (gather (suc (e0 + n)) (finds_of j) ++ finds_of j e) = within-append before new in
      let both' : IsWithinBag ((found s t n ++ base) ++ pairs_by test (store s t (suc n)) (store s t (suc n)))
      (gather (suc e) (finds_of j)) =
      subst
      (λ m.
      IsWithinBag ((found s t n ++ base) ++ pairs_by test (store s t (suc n)) (store s t (suc n)))
      (gather m (finds_of j) ++ finds_of j e)) one both in
      subst (λ m. IsWithinBag (found s t (suc n) ++ base) (gather (suc m) (finds_of j))) (sym same)
      (IsWithinBag-trans (within_same turned) both')
    where
      turn : (xs ys zs : List Pair) → SameBag ((xs ++ ys) ++ zs) ((xs ++ zs) ++ ys)
      turn xs ys zs = record {
        sums = λ g.
            let a = sum_by-append g (xs ++ ys) zs in
            let c = sum_by-append g xs ys in
            let d = sum_by-append g (xs ++ zs) ys in
            let e = sum_by-append g xs zs in
            omega arith;
      }

  -- ---- tickets

  ticket_fits : (side : Side) (i : ℕ) → ticket_of input side i < 2 ^ 8
  ticket_fits side i =
      let is_byte : ℕ → Type 0 = λ n. n < 2 ^ 8 in
      all_at is_byte (tickets_of input side) i
      (recursion_from_All is_byte (tickets_of input side) (valid.of_input.bytes side)) (omega arith)

  old_fit : AllByRecursion (λ t. t.ticket < 2 ^ 8) (old_rows input rest.line)
  old_fit =
      all-map (λ (t : Tuple). t.ticket < 2 ^ 8) (tuple_of input rest.line.epoch)
      (filter (is_old rest.line) (all_places input))
      (everywhere (λ (place : Place). ticket_of input place.side place.index < 2 ^ 8)
      (λ place. ticket_fits place.side place.index) (filter (is_old rest.line) (all_places input)))

  -- their tickets are bytes
  pub rows_fit : AllByRecursion (λ t. t.ticket < 2 ^ 8) rows
  rows_fit =
      all-append (λ t. t.ticket < 2 ^ 8) (old_rows input rest.line) granted_rows old_fit
      (all-gather (λ t. t.ticket < 2 ^ 8) setting.feeders
      (λ p. granted e0 (feeder_start input setting rest p).batches (agrees.taken_by_feeder p))
      (λ p h.
      granted_each (λ t. t.ticket < 2 ^ 8) (λ e t is. is) e0 (feeder_start input setting rest p).batches
      (agrees.taken_by_feeder p)
      (all-map (λ (ts : List Tuple). AllByRecursion (λ t. t.ticket < 2 ^ 8) ts) (λ batch. map (tuple_of input 0) batch)
      (batches input setting rest.line p)
      (everywhere (λ (batch : List Place). AllByRecursion (λ t. t.ticket < 2 ^ 8) (map (tuple_of input 0) batch))
      (λ batch.
      all-map (λ (t : Tuple). t.ticket < 2 ^ 8) (tuple_of input 0) batch
      (everywhere (λ (place : Place). ticket_of input place.side place.index < 2 ^ 8)
      (λ place. ticket_fits place.side place.index) batch))
      (batches input setting rest.line p)))))

  -- the shifts of the journal are within the grid
  pub shift_within : (e : ℕ) → shift e ≤ setting.k
  shift_within e =
      let fits = stands.line.fits in
      shift_at_within setting.k rest.line.shift e (agrees.controller.line ∷ agrees.controller.past) fits.within
      (shifts_within (rules_of setting) (begun rest.line) agrees.controller.line agrees.controller.past
      (fits_begun (rules_of setting) rest.line fits) agrees.controller.follows)

  -- the pairs of all that joiners began with are those of the older rows
  pub base_pairs : SameBag (gather (2 ^ setting.k) (λ j. pairs_by joins (rest.stores j) (rest.stores j)))
      (pairs_by joins (old_rows input rest.line) (old_rows input rest.line))
  base_pairs =
      let held : ℕ → List Tuple = λ j. filter (holds setting.k rest.line.shift j) (old_rows input rest.line) in
      SameBag-trans
      (same-gather (2 ^ setting.k) (λ j. pairs_by joins (rest.stores j) (rest.stores j))
      (λ j. pairs_by joins (held j) (held j))
      (λ j h.
      SameBag-trans (pairs-aged rest.line joins joins (λ r q. refl) (rest.stores j) (rest.stores j))
      (same_pairs joins (stands.stored j h) (stands.stored j h))))
      (held_once setting.k rest.line.shift valid.small stands.line.fits.within joins (old_rows input rest.line) old_fit)

  -- at every moment
  pub found_each_once : IsWithinBag
      (gather (2 ^ setting.k) (λ j. found (s_of j) (t_of j) (opened (s_of j) (t_of j)))
      ++ pairs_by joins (old_rows input rest.line) (old_rows input rest.line)) (pairs_by joins rows rows)
  found_each_once =
      let k = setting.k in
      let last = sum_by (λ (t : Tuple). t.stamp) rows in
      let steps = total (2 ^ k) (λ j. opened (s_of j) (t_of j)) in
      let E = last + e0 + steps in
      let its : ℕ → List Pair = λ j. found (s_of j) (t_of j) (opened (s_of j) (t_of j)) in
      let base : ℕ → List Pair = λ j. pairs_by joins (rest.stores j) (rest.stores j) in
      let young =
      weaken (λ (t : Tuple). t.stamp ≤ last) (λ t. t.stamp ≤ E) (λ t low. omega arith) rows
      (each_below (λ t. t.stamp) rows) in
      let once =
      found_once joins k E shift rows valid.small shift_within
      (both_hold (λ t. t.stamp ≤ E) (λ t. t.ticket < 2 ^ 8) rows young rows_fit) in
      let each : (j : ℕ) → j < 2 ^ k → IsWithinBag (its j ++ base j) (gather (suc E) (finds_of j)) = λ j h.
      let part = total_part (2 ^ k) j (λ i. opened (s_of i) (t_of i)) h in
      IsWithinBag-trans (found_within (opened (s_of j) (t_of j)) j h (omega arith))
      (gather_more (suc (e0 + opened (s_of j) (t_of j))) (suc E) (finds_of j) (omega arith)) in
      let parts : SameBag (gather (2 ^ k) its ++ pairs_by joins (old_rows input rest.line) (old_rows input rest.line))
      (gather (2 ^ k) (λ j. its j ++ base j)) =
      SameBag-trans (SameBag-append (SameBag-refl (gather (2 ^ k) its)) (SameBag-sym base_pairs))
      (gather-both (2 ^ k) its base) in
      IsWithinBag-trans (within_same parts)
      (IsWithinBag-trans (within-gather (2 ^ k) (λ j. its j ++ base j) (λ j. gather (suc E) (finds_of j)) each)
      (within_same once))
