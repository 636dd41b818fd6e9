-- In the end: what joiners store are all rows that they hold, as a rest has them.
use Rattle.std.proofs.Common.{◌≡◌, ℕ, ◌+◌, ◌<◌, ◌≤◌, ◌^◌, max, inr, refl, sym, ◌∙◌, ap, subst, arith, Bool, true, false}
use Rattle.std.proofs.Common.{cond, ◌&&◌, List, [], ◌∷◌, ◌++◌, length, append-nil}
use Rattle.std.specs.Prelude.{map, filter, sum_by, not}
use Rattle.std.specs.List.{AllByRecursion}
use Rattle.std.proofs.lemmas.Bool.{lt-ltb, ltb-true, le-leb}
use Rattle.std.proofs.lemmas.List.Sums.{sum_by-append}
use Rattle.row_cells.specs.declared.table.Side.{Side}
use Rattle.row_cells.specs.declared.table.Side.TheVariants.{R, S}
use Rattle.row_cells.specs.Lists.{SameBag, gather, counting_from, total}
use Rattle.row_cells.proofs.Bags.{only_if, sum-same, sum-filter, sum_of_map}
use Rattle.row_cells.proofs.Within.{none_fails}
use Rattle.row_cells.proofs.Everywhere.{weaken, all-append, all-gather, both_hold}
use Rattle.row_cells.proofs.Totals.{total_same, total-zero, total-add, sum-gather, sum_same_on, greatest_above}
use Rattle.epoch_tags.specs.declared.tuple.Tuple.{Tuple}
use Rattle.epoch_tags.specs.declared.message.ToJoiner.{ToJoiner}
use Rattle.epoch_tags.specs.declared.message.ToJoiner.TheVariants.{Tup, Turn, End, Moved, MovedEnd}
use Rattle.epoch_tags.specs.declared.message.ToFeeder.{ToFeeder}
use Rattle.epoch_tags.specs.declared.message.ToFeeder.TheVariants.{Order, Grant, Stop}
use Rattle.epoch_tags.specs.declared.message.ToController.{ToController}
use Rattle.epoch_tags.specs.declared.message.ToController.TheVariants.{Drained}
use Rattle.epoch_tags.specs.Messages.{asks, draineds, turns, ends, order_epochs}
use Rattle.epoch_tags.specs.Orders.{CountsUp}
use Rattle.migration_plan.specs.Steps.{holds}
use Rattle.reshuffler_core.specs.Law.{ask_for, answers, stamped}
use Rattle.reshuffler_core.proofs.Arrivals.{granted, answers_count_up}
use Rattle.reshuffler_core.proofs.TakesAll.{answers_turns}
use Rattle.joiner_law.specs.Law.{opened, store}
use Rattle.load_controller.specs.declared.line.TurnLine.{TurnLine}
use Rattle.row_tickets.specs.Share.{place_at}
use Rattle.trace_law.specs.declared.input.Input.{Input}
use Rattle.trace_law.specs.declared.setting.Setting.{Setting}
use Rattle.trace_law.specs.Join.{row_count}
use Rattle.trace_law.specs.Validity.{IsValid}
use Rattle.trace_law.specs.Family.{Rest, IsRestFor, Family, IsAgreeing, IsFinished, joiner_start, feeder_start, is_old}
use Rattle.trace_law.specs.Family.{old_rows, aged, tuple_of}
use Rattle.trace_law.specs.Join.{is_before}
use Rattle.trace_law.specs.Stored.{is_stored}
use Rattle.trace_law.proofs.Aged.{old_stamps}
use Rattle.trace_law.proofs.Stamps.{grant_epochs, granted_is, grants_are, IsBlind, all_of_batches}
use Rattle.trace_law.proofs.RowSums.{shares_sum}
use Rattle.trace_law.proofs.Loop.{row_sum, rows_at, new_weight, old_weight, batches_sum, old_sum, either}
use Rattle.trace_law.proofs.Arrivals.{front_of, all_granted}
use Rattle.trace_law.proofs.Journals.{shift_in, feeders_go, begins, rows_known, stores_what_it_holds}

-- the line has counted all rows of the input, and is of the epoch after n steps, at its shift
pub record IsLast (input : Input) (rest : Rest) (b : ℕ → ℕ) (n : ℕ) (line : TurnLine) : Type 0 where
  pub all_r : line.rows_r ≡ row_count input R
  pub all_s : line.rows_s ≡ row_count input S
  pub before_r : rest.line.rows_r ≤ line.rows_r
  pub before_s : rest.line.rows_s ≤ line.rows_s
  pub epoch : line.epoch ≡ rest.line.epoch + n
  pub shift : line.shift ≡ b (rest.line.epoch + n)

-- ---- a feeder that has drained was granted all

all_asked : (batches : List (List Tuple)) (sent rest : List ToController)
    → sent ++ rest ≡ map ask_for batches ++ Drained ∷ [] → 0 < draineds sent → asks sent ≡ length batches
all_asked batches [] rest is some = absurd (omega arith)
all_asked [] (m ∷ sent) rest is some =
    let first : m ≡ Drained = cc in
    let none : sent ++ rest ≡ [] = cc in
    rw (first, empty_front sent rest none) refl
  where
    empty_front : (xs ys : List ToController) → xs ++ ys ≡ [] → xs ≡ []
    empty_front [] ys none = refl
    empty_front (x ∷ xs) ys none = cc
all_asked (batch ∷ batches) (m ∷ sent) rest is some =
    let first : m ≡ ask_for batch = cc in
    let more : sent ++ rest ≡ map ask_for batches ++ Drained ∷ [] = cc in
    let some' : 0 < draineds sent = subst (λ n. 0 < draineds (n ∷ sent)) first some in
    let old = all_asked batches sent rest more some' in
    rw first (omega arith)

-- behind an end nothing follows
pub ends_whole : (e : ℕ) (xs ys : List ToJoiner) → CountsUp e (xs ++ ys) → 0 < ends xs → ys ≡ []
ends_whole e [] ys up has = absurd (omega arith)
ends_whole e (Tup x ∷ xs) ys (is, up) has = ends_whole e xs ys up has
ends_whole e (Turn epoch shift ∷ xs) ys (is, up) has = ends_whole (e + 1) xs ys up has
ends_whole e (End ∷ xs) ys up has = empty_back xs ys up
  where
    empty_back : (us vs : List ToJoiner) → us ++ vs ≡ [] → vs ≡ []
    empty_back [] vs none = none
    empty_back (u ∷ us) vs none = cc
ends_whole e (Moved epoch x ∷ xs) ys up has = absurd up
ends_whole e (MovedEnd epoch ∷ xs) ys up has = absurd up

stamps_now : (e : ℕ) (batch : List Tuple) (E : ℕ) → e ≤ E → AllByRecursion (λ t. t.stamp ≤ E) (map (stamped e) batch)
stamps_now e [] E low = tt
stamps_now e (t ∷ batch) E low = (low, stamps_now e batch E low)

-- a feeder grants no row a stamp above the last epoch that it was told
pub stamps_low : (e E : ℕ) (batches : List (List Tuple)) (ms : List ToFeeder)
    → order_epochs ms ≡ counting_from (e + 1) (length (order_epochs ms)) → e + length (order_epochs ms) ≤ E
    → AllByRecursion (λ t. t.stamp ≤ E) (granted e batches ms)
stamps_low e E batches [] orders low = tt
stamps_low e E batches (Order epoch shift ∷ ms) orders low =
    let is : epoch ≡ e + 1 = cc in
    let rest : order_epochs ms ≡ counting_from ((e + 1) + 1) (length (order_epochs ms)) = cc in
    subst (λ c. AllByRecursion (λ t. t.stamp ≤ E) (granted c batches ms)) (sym is)
    (stamps_low (e + 1) E batches ms rest (omega arith))
stamps_low e E [] (Grant ∷ ms) orders low = stamps_low e E [] ms orders low
stamps_low e E (batch ∷ batches) (Grant ∷ ms) orders low =
    all-append (λ t. t.stamp ≤ E) (map (stamped e) batch) (granted e batches ms) (stamps_now e batch E (omega arith))
    (stamps_low e E batches ms orders low)
stamps_low e E batches (Stop ∷ ms) orders low = stamps_low e E batches ms orders low

-- ---- stamps of the last epoch in place of older ones

aged_twice : (first last : TurnLine) → first.epoch ≤ last.epoch → first.rows_r ≤ last.rows_r
    → first.rows_s ≤ last.rows_s → (t : Tuple) → aged last (aged first t) ≡ aged last t
aged_twice first last late more_r more_s t =
    ap (λ s. record t {
      stamp = s;
    }) (at (is_before first t.side t.index) (is_before last t.side t.index) (older t.side t.index) t.stamp)
  where
    older : (side : Side) (i : ℕ) → is_before first side i ≡ true → is_before last side i ≡ true
    older R i is = let low = ltb-true i first.rows_r is in lt-ltb i last.rows_r (omega arith)
    older S i is = let low = ltb-true i first.rows_s is in lt-ltb i last.rows_s (omega arith)

    at : (c d : Bool) → (c ≡ true → d ≡ true) → (s : ℕ)
        → cond d (max last.epoch (cond c (max first.epoch s) s)) (cond c (max first.epoch s) s)
        ≡ cond d (max last.epoch s) s
    at true true goes s = omega arith
    at true false goes s = absurd (let is = goes refl in cc)
    at false d goes s = refl

-- an old row of a stamp up to the last epoch has it
aged_old : (last : TurnLine) (t : Tuple) → is_before last t.side t.index ≡ true → t.stamp ≤ last.epoch
    → aged last t ≡ stamped last.epoch t
aged_old last t is low =
    ap (λ s. record t { stamp = s }) (ap (λ c. cond c (max last.epoch t.stamp) t.stamp) is ∙ greater)
  where
    greater : max last.epoch t.stamp ≡ last.epoch
    greater = omega arith

-- ---- of a finished family

module _ (input : Input) (setting : Setting) (valid : IsValid input setting) (rest : Rest)
    (stands : IsRestFor input setting rest) (f : Family) (agrees : IsAgreeing input setting rest f)
    (finished : IsFinished input setting rest f agrees) where
  abbrev e0 : ℕ
  e0 = rest.line.epoch

  abbrev rows : List Tuple
  rows = rows_known input setting rest f agrees

  abbrev granted_rows : List Tuple
  granted_rows =
      all_granted input setting rest f agrees (shift_in input setting rest f agrees)
      (feeders_go input setting rest f agrees) (begins input setting rest f agrees)

  enough : (p : ℕ) → p < setting.feeders
      → length (feeder_start input setting rest p).batches ≤ length (grant_epochs e0 (agrees.taken_by_feeder p))
  enough p h =
      let law = agrees.feeders p h in
      let drained = law.stops_drained (finished.feeders p h) in
      let asked =
      all_asked (feeder_start input setting rest p).batches
      (f.feeder p).to_controller law.asked.rest law.asked.joins drained in
      let same = law.drained drained in
      let c = grants_are e0 (agrees.taken_by_feeder p) in
      omega arith

  -- all rows are known
  pub known_all : (g : Tuple → ℕ) → IsBlind g → sum_by g rows ≡ row_sum input g
  known_all g blind =
      let to_p : ℕ → List Tuple =
      λ p. granted e0 (feeder_start input setting rest p).batches (agrees.taken_by_feeder p) in
      let sums = sum-gather g setting.feeders to_p in
      let each =
      total_same setting.feeders (λ p. sum_by g (to_p p))
      (λ p. sum_by (new_weight input rest.line g) (rows_at input setting p))
      (λ p low.
      ap (sum_by g) (granted_is e0 (feeder_start input setting rest p).batches (agrees.taken_by_feeder p))
      ∙ all_of_batches g blind (grant_epochs e0 (agrees.taken_by_feeder p)) (feeder_start input setting rest p).batches
      (enough p low)
      ∙ batches_sum input setting rest g p valid.batch) in
      let shares =
      shares_sum setting.feed setting.feeders valid.some (new_weight input rest.line g) (row_count input R)
      (row_count input S) in
      let older = old_sum input rest.line g blind in
      let whole = sum_by-append g (old_rows input rest.line) (gather setting.feeders to_p) in
      let both : (side : Side) (n : ℕ)
      → total n (λ i. old_weight input rest.line g (place_at side i))
      + total n (λ i. new_weight input rest.line g (place_at side i))
      ≡ total n (λ i. g (tuple_of input 0 (place_at side i))) = λ side n.
      sym (total-add n (λ i. old_weight input rest.line g (place_at side i))
      (λ i. new_weight input rest.line g (place_at side i)))
      ∙ total_same n
      (λ i. old_weight input rest.line g (place_at side i) + new_weight input rest.line g (place_at side i))
      (λ i. g (tuple_of input 0 (place_at side i)))
      (λ i low. either (is_old rest.line (place_at side i)) (g (tuple_of input 0 (place_at side i)))) in
      let both_r = both R (row_count input R) in
      let both_s = both S (row_count input S) in
      omega arith

  -- each joiner took all that the feeders answered, so no feeder took more orders than it opened steps
  pub took_all : (j p : ℕ) → j < 2 ^ setting.k → p < setting.feeders
      → (agrees.taken_by_joiner j).from_feeder p
      ≡ answers setting.k j e0 rest.line.shift (feeder_start input setting rest p).batches
      (agrees.taken_by_feeder p)
  took_all j p h h' =
      let t = agrees.taken_by_joiner j in
      let law = agrees.feeders p h' in
      let front =
      front_of input setting rest f agrees (shift_in input setting rest f agrees)
      (feeders_go input setting rest f agrees) (begins input setting rest f agrees) j p h h' in
      let up =
      answers_count_up setting.k j e0 rest.line.shift (feeder_start input setting rest p).batches
      (agrees.taken_by_feeder p) law.orders law.stops_last in
      let end = finished.joiners j h in
      let none =
      ends_whole e0 (t.from_feeder p) front.0 (subst (λ ms. CountsUp e0 ms) (sym front.1) up) (end.0.0 p h') in
      sym (append-nil (t.from_feeder p)) ∙ ap (λ ms. t.from_feeder p ++ ms) (sym none) ∙ front.1

  -- a feeder took no more orders than joiners have opened steps
  pub few_orders : (j p : ℕ) → j < 2 ^ setting.k → p < setting.feeders
      → length (order_epochs (agrees.taken_by_feeder p))
      ≤ opened (joiner_start input setting rest j) (agrees.taken_by_joiner j)
  few_orders j p h h' =
      let t = agrees.taken_by_joiner j in
      let turned =
      ap turns (took_all j p h h')
      ∙ answers_turns setting.k j e0 rest.line.shift (feeder_start input setting rest p).batches
      (agrees.taken_by_feeder p) in
      let above = greatest_above setting.feeders (λ i. turns (t.from_feeder i)) p h' in
      omega arith

  module _ (n : ℕ) (line : TurnLine) (last : IsLast input rest (λ e. shift_in input setting rest f agrees e) n line)
      (j : ℕ) (h : j < 2 ^ setting.k)
      (opens : opened (joiner_start input setting rest j) (agrees.taken_by_joiner j) ≡ n) where
    late : rest.line.epoch ≤ line.epoch
    late = omega (arith, last.epoch)

    rows_stamped : AllByRecursion (λ t. t.stamp ≤ line.epoch) rows
    rows_stamped =
        all-append (λ t. t.stamp ≤ line.epoch) (old_rows input rest.line) granted_rows
        (weaken (λ (t : Tuple). t.stamp ≡ e0) (λ t. t.stamp ≤ line.epoch) (λ t is. omega (arith, is, late))
        (old_rows input rest.line) (old_stamps input rest.line))
        (all-gather (λ t. t.stamp ≤ line.epoch) setting.feeders
        (λ p. granted e0 (feeder_start input setting rest p).batches (agrees.taken_by_feeder p))
        (λ p h'.
        stamps_low e0 line.epoch (feeder_start input setting rest p).batches (agrees.taken_by_feeder p)
        (agrees.feeders p h').orders (omega (arith, few_orders j p h h', last.epoch, opens))))

    -- every row is an older one now
    rows_old : AllByRecursion (λ t. is_before line t.side t.index ≡ true) rows
    rows_old =
        let bad : Tuple → ℕ = λ t. only_if (not (is_before line t.side t.index)) 1 in
        let of_side : (side : Side) → total (row_count input side) (λ i. bad (tuple_of input 0 (place_at side i))) ≡ 0 =
        λ side.
        total_same (row_count input side) (λ i. bad (tuple_of input 0 (place_at side i))) (λ i. 0)
        (λ i low. ap (λ c. only_if (not c) 1) (is_there side i low)) ∙ total-zero (row_count input side) in
        let of_r = of_side R in
        let of_s = of_side S in
        let all = known_all bad (λ e t. refl) in
        none_fails (λ t. is_before line t.side t.index) rows (omega arith)
      where
        is_there : (side : Side) (i : ℕ) → i < row_count input side → is_before line side i ≡ true
        is_there R i low = lt-ltb i line.rows_r (omega (arith, last.all_r))
        is_there S i low = lt-ltb i line.rows_s (omega (arith, last.all_s))

    stored : SameBag (map (aged rest.line) (store (joiner_start input setting rest j) (agrees.taken_by_joiner j) n))
        (filter (is_stored setting.k line.shift line.epoch j) rows)
    stored =
        let end = finished.joiners j h in
        let its =
        stores_what_it_holds input setting rest f agrees stands valid.some valid.small n j h
        (λ m low. end.0.1 m (omega (arith, opens))) (λ p h'. inr (end.0.0 p h')) in
        let same : shift_in input setting rest f agrees (e0 + n) ≡ line.shift = sym last.shift in
        subst
        (λ e.
        SameBag (map (aged rest.line) (store (joiner_start input setting rest j) (agrees.taken_by_joiner j) n))
        (filter (is_stored setting.k line.shift e j) rows)) (sym last.epoch)
        (subst
        (λ c.
        SameBag (map (aged rest.line) (store (joiner_start input setting rest j) (agrees.taken_by_joiner j) n))
        (filter (is_stored setting.k c (e0 + n) j) rows)) same its)

    -- the store after the last step has the rows counted by the last line that the joiner holds at its shift
    pub stand_again : SameBag (map (aged line) (store (joiner_start input setting rest j) (agrees.taken_by_joiner j) n))
        (filter (holds setting.k line.shift j) (old_rows input line))
    stand_again = record {
      sums = λ g.
          let k = setting.k in
          let its = store (joiner_start input setting rest j) (agrees.taken_by_joiner j) n in
          let keep = is_stored k line.shift line.epoch j in
          let w : Tuple → ℕ = λ t. only_if (holds k line.shift j t) (g (stamped line.epoch t)) in
          let one = sum_of_map g (aged line) its in
          let two =
          sum-same (λ t. g (aged line t)) (λ t. g (aged line (aged rest.line t)))
          (λ t. ap g (sym (aged_twice rest.line line late last.before_r last.before_s t))) its in
          let three = sum_of_map (λ t. g (aged line t)) (aged rest.line) its in
          let four = stored.sums (λ t. g (aged line t)) in
          let five = sum-filter (λ t. g (aged line t)) keep rows in
          let six =
          sum_same_on (λ t. (t.stamp ≤ line.epoch) × (is_before line t.side t.index ≡ true))
          (λ t. only_if (keep t) (g (aged line t))) w
          (λ t is. ap (λ c. only_if (c && holds k line.shift j t) (g (aged line t))) (le-leb t.stamp line.epoch is.0)
          ∙ ap (λ x. only_if (holds k line.shift j t) (g x)) (aged_old line t is.1 is.0))
          rows
          (both_hold (λ t. t.stamp ≤ line.epoch) (λ t. is_before line t.side t.index ≡ true)
          rows rows_stamped rows_old) in
          let seven = known_all w (λ e t. refl) in
          let right = sum-filter g (holds k line.shift j) (old_rows input line) in
          let right' = sum_same_on (λ t. t.stamp ≡ line.epoch) (λ t. only_if (holds k line.shift j t) (g t)) w
          (λ t is. ap (λ s. only_if (holds k line.shift j t) (g (record t {
            stamp = s;
          }))) is) (old_rows input line) (old_stamps input line) in
          let all_old = old_sum input line w (λ e t. refl) in
          let of_side : (side : Side)
          → total (row_count input side) (λ i. old_weight input line w (place_at side i))
          ≡ total (row_count input side) (λ i. w (tuple_of input 0 (place_at side i))) = λ side.
          total_same (row_count input side) (λ i. old_weight input line w (place_at side i))
          (λ i. w (tuple_of input 0 (place_at side i)))
          (λ i low. ap (λ c. only_if c (w (tuple_of input 0 (place_at side i)))) (is_there side i low)) in
          let of_r = of_side R in
          let of_s = of_side S in
          omega arith;
    }
      where
        is_there : (side : Side) (i : ℕ) → i < row_count input side → is_before line side i ≡ true
        is_there R i low = lt-ltb i line.rows_r (omega (arith, last.all_r))
        is_there S i low = lt-ltb i line.rows_s (omega (arith, last.all_s))
