-- What joiners hold in the end, and how much they moved.
use Rattle.std.proofs.Common.{◌≡◌, ℕ, ◌+◌, ◌-◌, ◌*◌, ◌<◌, ◌≤◌, ◌^◌, min, inl, inr, refl, sym, ◌∙◌, ap, subst, arith}
use Rattle.std.proofs.Common.{Bool, true, false, cond, ◌&&◌, List, [], ◌∷◌, ◌++◌, length}
use Rattle.std.specs.Prelude.{map, filter, sum_by, sum, count_by, ◌==◌, nat_le, nat_lt, slice_index}
use Rattle.std.specs.List.{AllByRecursion, range_with_len}
use Rattle.std.proofs.lemmas.Bool.{cases_eq, le-leb, eq-eqb, ne_eqb}
use Rattle.std.proofs.lemmas.Bool.Decides.{nat_tests}
use Rattle.std.proofs.lemmas.Nat.{div-mul-add, mod-mul-add, mod_below, pow_pos, pow-add}
use Rattle.std.proofs.lemmas.List.Sums.{sum_by-cons, sum-map}
use Rattle.row_cells.specs.declared.table.Side.{Side}
use Rattle.row_cells.specs.declared.table.Side.TheVariants.{R, S}
use Rattle.row_cells.specs.Lists.{SameBag, gather, counting_from, total}
use Rattle.row_cells.proofs.Bags.{only_if, sum-filter, sum_of_map}
use Rattle.epoch_tags.specs.declared.tuple.Tuple.{Tuple}
use Rattle.epoch_tags.specs.declared.tuple.Pair.{Pair}
use Rattle.epoch_tags.specs.declared.message.ToJoiner.TheVariants.{Tup}
use Rattle.epoch_tags.specs.declared.message.ToFeeder.{ToFeeder}
use Rattle.epoch_tags.specs.declared.message.ToFeeder.TheVariants.{Order, Grant, Stop}
use Rattle.epoch_tags.specs.declared.message.ToCollector.{ToCollector}
use Rattle.epoch_tags.specs.declared.message.ToCollector.TheVariants.{Found, Fin}
use Rattle.epoch_tags.specs.Messages.{tups, moved_of, fins, fins_of}
use Rattle.grid_map.specs.Grid.{row_of, column_of, joiner_row, joiner_column, holds_r, holds_s}
use Rattle.grid_map.proofs.Halves.{high_row, partner_below}
use Rattle.migration_plan.specs.Steps.{holds, holds_ticket, is_of, exchanged_side}
use Rattle.reshuffler_core.specs.Law.{answers, stamped, copies_for}
use Rattle.reshuffler_core.proofs.Arrivals.{granted}
use Rattle.joiner_law.specs.Law.{opened, store, shift_after, partner_of}
use Rattle.load_controller.specs.Journal.{last_epoch}
use Rattle.trace_law.specs.declared.input.Input.{Input}
use Rattle.trace_law.specs.Join.{row_count, ticket_of, tickets_of, held, holders, moved}
use Rattle.trace_law.specs.declared.setting.Setting.{Setting}
use Rattle.trace_law.specs.Validity.{IsValid}
use Rattle.trace_law.specs.Family.{Rest, IsRestFor, Family, IsAgreeing, IsFinished, AnswersTheJoin, HasItsStamp}
use Rattle.trace_law.specs.Family.{moved_by, feeder_start, shift_of, stamp_in, aged, migrations}
use Rattle.trace_law.proofs.Stores.{is_stored}
use Rattle.trace_law.proofs.Membership.{low_within}
use Rattle.trace_law.proofs.FoundOnce.{IsStamped, never, turn_round}
use Rattle.trace_law.proofs.Loop.{row_sum}
use Rattle.trace_law.proofs.AtMost.{shift_is, shift_next}
use Rattle.trace_law.proofs.Sent.{shift, rows, s_of, t_of}
use Rattle.trace_law.proofs.Found.{shift_within}
use Rattle.trace_law.proofs.Again.{known_all}
use Rattle.trace_law.proofs.Steps.{steps, epoch_is}
use Rattle.trace_law.proofs.Complete.{all_received}
use Rattle.trace_law.proofs.Rests.{stands_again, goes_on_next}
use Rattle.trace_law.proofs.Finished.{E, rows_stamped, opened_is, stored_all, takes_all_pairs}
use Rattle.trace_law.proofs.Ends.{lawful, last_orders, last_line}
use Rattle.trace_law.proofs.StampOf.{granted_stamps}
use Rattle.trace_law.proofs.Made.{shift_same, σ, stamped_sum, stamped_rows, none_of, length_is, makes}
use Rattle.row_cells.proofs.Everywhere.{weaken, all-front, all-back, all-append}
use Rattle.row_cells.proofs.Totals.{total_same, total-zero, sum-gather, exchange, one_index, sum_same_on, total_front}
use Rattle.row_cells.proofs.Totals.{range_sum, total_grid, pulled, total-const}
use Rattle.epoch_tags.proofs.Appends.{tups-append}

-- ---- small facts

list_sum : (h : ℕ → ℕ) (xs : List ℕ) → sum_by h xs ≡ total (length xs) (λ i. h (slice_index xs i))
list_sum h [] = refl
list_sum h (x ∷ xs) =
    sum_by-cons h x xs ∙ ap (λ n. h x + n) (list_sum h xs)
    ∙ sym (total_front (length xs) (λ i. h (slice_index (x ∷ xs) i)))

-- ---- the stamps of what a joiner received

some_copies : (P : Tuple → Type 0) (e : ℕ) (keep : Tuple → Bool) (ts : List Tuple)
    → AllByRecursion P (map (stamped e) ts) → AllByRecursion P (tups (map (λ t. Tup (stamped e t)) (filter keep ts)))
some_copies P e keep [] each = tt
some_copies P e keep (t ∷ ts) (here, more) = by_test (keep t) (some_copies P e keep ts more)
  where
    by_test : (c : Bool) → AllByRecursion P (tups (map (λ x. Tup (stamped e x)) (filter keep ts)))
        → AllByRecursion P (tups (map (λ x. Tup (stamped e x)) (cond c (t ∷ filter keep ts) (filter keep ts))))
    by_test true more = (here, more)
    by_test false more = more

all_sent : (P : Tuple → Type 0) (k j e b : ℕ) (batches : List (List Tuple)) (ms : List ToFeeder)
    → AllByRecursion P (granted e batches ms) → AllByRecursion P (tups (answers k j e b batches ms))
all_sent P k j e b batches [] each = tt
all_sent P k j e b batches (Order epoch shift ∷ ms) each = all_sent P k j epoch shift batches ms each
all_sent P k j e b [] (Grant ∷ ms) each = all_sent P k j e b [] ms each
all_sent P k j e b (batch ∷ batches) (Grant ∷ ms) each =
    subst (AllByRecursion P) (sym (tups-append (copies_for k j e b batch) (answers k j e b batches ms)))
    (all-append P (tups (copies_for k j e b batch)) (tups (answers k j e b batches ms))
    (some_copies P e (holds k b j) batch (all-front P (map (stamped e) batch) (granted e batches ms) each))
    (all_sent P k j e b batches ms (all-back P (map (stamped e) batch) (granted e batches ms) each)))
all_sent P k j e b batches (Stop ∷ ms) each = all_sent P k j e b batches ms each

module _ (input : Input) (setting : Setting) (valid : IsValid input setting) (rest : Rest)
    (stands : IsRestFor input setting rest) (f : Family) (agrees : IsAgreeing input setting rest f) where
  -- each tuple that came of a feeder bears its row's stamp
  pub received_stamps : (p j : ℕ) → p < setting.feeders → j < 2 ^ setting.k
      → AllByRecursion (HasItsStamp input setting rest f) (tups ((f.joiner j).from_feeder p))
  received_stamps p j h h' =
      let P = HasItsStamp input setting rest f in
      let link = agrees.feeder_joiner p j h h' in
      let is =
      ap tups (sym ((agrees.feeders p h).answered j h') ∙ sym link.joins)
      ∙ tups-append ((f.joiner j).from_feeder p) link.rest in
      let its =
      all_sent P setting.k j rest.line.epoch rest.line.shift (feeder_start input setting rest p).batches
      (agrees.taken_by_feeder p) (granted_stamps input setting valid rest stands f agrees p h) in
      all-front P (tups ((f.joiner j).from_feeder p)) (tups link.rest) (subst (AllByRecursion P) is its)

-- ---- how many joiners hold a ticket

split_pow : (k b : ℕ) → b ≤ k → 2 ^ k ≡ 2 ^ (k - b) * 2 ^ b
split_pow k b low = let is : k ≡ (k - b) + b = omega arith in ap (λ n. 2 ^ n) is ∙ pow-add 2 (k - b) b

holders_are : (k b : ℕ) (side : Side) (ticket : ℕ) → b ≤ k → k ≤ 8 → ticket < 2 ^ 8
    → total (2 ^ k) (λ j. only_if (holds_ticket k b j side ticket) 1) ≡ holders k b side
holders_are k b R ticket low small fits =
    let row = row_of k b ticket in
    ap (λ n. total n (λ j. only_if (joiner_row b j == row) 1)) (split_pow k b low)
    ∙ total_grid (2 ^ (k - b)) (2 ^ b) (λ j. only_if (joiner_row b j == row) 1)
    ∙ total_same (2 ^ (k - b)) (λ a. total (2 ^ b) (λ c. only_if (joiner_row b (a * 2 ^ b + c) == row) 1))
    (λ a. only_if (row == a) (2 ^ b))
    (λ a low'. total_same (2 ^ b) (λ c. only_if (joiner_row b (a * 2 ^ b + c) == row) 1) (λ c. only_if (row == a) 1)
    (λ c low''. ap (λ r. only_if (r == row) 1) (div-mul-add a (2 ^ b) c low'')
    ∙ ap (λ t. only_if t 1) (turn_round a row))
    ∙ total-const (2 ^ b) (only_if (row == a) 1) ∙ times (2 ^ b) (row == a))
    ∙ one_index (2 ^ (k - b)) row (λ a. 2 ^ b) (high_row k b ticket low small fits)
  where
    times : (n : ℕ) (t : Bool) → n * only_if t 1 ≡ only_if t n
    times n true = omega arith
    times n false = omega arith
holders_are k b S ticket low small fits =
    let column = column_of b ticket in
    ap (λ n. total n (λ j. only_if (joiner_column b j == column) 1)) (split_pow k b low)
    ∙ total_grid (2 ^ (k - b)) (2 ^ b) (λ j. only_if (joiner_column b j == column) 1)
    ∙ total_same (2 ^ (k - b)) (λ a. total (2 ^ b) (λ c. only_if (joiner_column b (a * 2 ^ b + c) == column) 1))
    (λ a. 1)
    (λ a low'.
    total_same (2 ^ b) (λ c. only_if (joiner_column b (a * 2 ^ b + c) == column) 1) (λ c. only_if (column == c) 1)
    (λ c low''. ap (λ r. only_if (r == column) 1) (mod-mul-add a (2 ^ b) c low'')
    ∙ ap (λ t. only_if t 1) (turn_round c column))
    ∙ one_index (2 ^ b) column (λ c. 1) (mod_below ticket (2 ^ b) (pow_pos b)))
    ∙ total-const (2 ^ (k - b)) 1 ∙ omega arith

-- ---- the last message

fins_whole : (founds : List (List Pair)) (a c : ℕ) (ms : List ℕ) (got more : List ToCollector)
    → got ++ more ≡ map Found founds ++ Fin a c ms ∷ [] → 0 < fins got → fins_of got ≡ Fin a c ms ∷ []
fins_whole founds a c ms [] more is has = absurd (omega arith)
fins_whole [] a c ms (g ∷ got) more is has =
    let first : g ≡ Fin a c ms = cc in
    let none : got ++ more ≡ [] = cc in
    rw (first, empty_front got more none) refl
  where
    empty_front : (xs ys : List ToCollector) → xs ++ ys ≡ [] → xs ≡ []
    empty_front [] ys none = refl
    empty_front (x ∷ xs) ys none = cc
fins_whole (ps ∷ founds) a c ms (g ∷ got) more is has =
    let first : g ≡ Found ps = cc in
    let tail_is : got ++ more ≡ map Found founds ++ Fin a c ms ∷ [] = cc in
    let has' : 0 < fins got = subst (λ m. 0 < fins (m ∷ got)) first has in
    rw first (fins_whole founds a c ms got more tail_is has')

next : (stamp n : ℕ) → nat_le stamp n ≡ nat_lt stamp (n + 1)
next stamp n = grind (arith, nat_tests)

times : (t : Bool) (c : ℕ) → only_if t c ≡ only_if t 1 * c
times true c = omega arith
times false c = omega arith

-- ---- of a finished family

module _ (input : Input) (setting : Setting) (valid : IsValid input setting) (rest : Rest)
    (stands : IsRestFor input setting rest) (f : Family) (agrees : IsAgreeing input setting rest f)
    (finished : IsFinished input setting rest f agrees) where
  abbrev e0 : ℕ
  e0 = rest.line.epoch

  -- how many steps there were, and the last epoch
  abbrev last : ℕ
  last = migrations rest.line f.controller.journal

  abbrev end : ℕ
  end = last_epoch f.controller.journal

  abbrev b : ℕ → ℕ
  b e = shift input setting valid rest stands f agrees e

  abbrev all : List Tuple
  all = rows input setting valid rest stands f agrees

  abbrev old : Tuple → Tuple
  old t = aged rest.line t

  abbrev stored_by : ℕ → ℕ → List Tuple
  stored_by j n =
      store (s_of input setting valid rest stands f agrees j) (t_of input setting valid rest stands f agrees j) n

  last_is_steps : last ≡ steps input setting rest f agrees
  last_is_steps = ap (λ e. e - e0) (last_line input setting valid rest stands f agrees finished)

  last_is_E : last ≡ E input setting valid rest stands f agrees finished
  last_is_E = last_is_steps ∙ last_orders input setting valid rest stands f agrees finished

  end_is : e0 + last ≡ end
  end_is =
      ap (λ n. e0 + n) last_is_steps ∙ sym (epoch_is input setting rest f agrees)
      ∙ sym (last_line input setting valid rest stands f agrees finished)

  opened_last : (j : ℕ) → j < 2 ^ setting.k
      → opened (s_of input setting valid rest stands f agrees j) (t_of input setting valid rest stands f agrees j)
      ≡ last
  opened_last j h = opened_is input setting valid rest stands f agrees finished j 0 h valid.some ∙ sym last_is_E

  old_enough : AllByRecursion (λ t. t.stamp ≤ e0 + last) all
  old_enough =
      weaken (IsStamped (e0 + E input setting valid rest stands f agrees finished)) (λ t. t.stamp ≤ e0 + last)
      (λ t is. let same = last_is_E in omega (arith, is.0)) all
      (rows_stamped input setting valid rest stands f agrees finished)

  -- how many of a side a joiner holds in the end
  holds_all : (j : ℕ) (h : j < 2 ^ setting.k) (side : Side)
      → count_by (is_of side) (stored_by j last) ≡ held input setting.k (b (e0 + last)) side j
  holds_all j h side =
      let k = setting.k in
      let e = e0 + last in
      let its : Tuple → ℕ = λ x. only_if (is_of side x) 1 in
      let g : Tuple → ℕ = λ x. only_if (holds k (b e) j x) (its x) in
      let stored =
      stored_all input setting valid rest stands f agrees finished last j h
      (let is = opened_last j h in omega arith) in
      sym (sum_of_map its old (stored_by j last))
      ∙ stored.sums its
      ∙ sum-filter its (is_stored k (b e) e j) all
      ∙ sum_same_on (λ x. x.stamp ≤ e) (λ x. only_if (is_stored k (b e) e j x) (its x)) g
      (λ x young. ap (λ t. only_if (t && holds k (b e) j x) (its x)) (le-leb x.stamp e young)) all old_enough
      ∙ known_all input setting valid rest stands f agrees finished g (λ e t. refl)
      ∙ of_side side
      ∙ sym (list_sum (λ n. only_if (holds_ticket k (b e) j side n) 1) (tickets_of input side))
    where
      of_side : (side : Side)
          → row_sum input (λ x. only_if (holds setting.k (b (e0 + last)) j x) (only_if (is_of side x) 1))
          ≡ total (length (tickets_of input side))
          (λ i. only_if (holds_ticket setting.k (b (e0 + last)) j side (slice_index (tickets_of input side) i)) 1)
      of_side R =
          let c = b (e0 + last) in
          let none =
          none_of input setting valid rest stands f agrees (row_count input S)
          (λ i. only_if (holds_s c j (ticket_of input S i)) 0) (λ i. never (holds_s c j (ticket_of input S i))) in
          ap (λ n. total (row_count input R) (λ i. only_if (holds_r setting.k c j (ticket_of input R i)) 1) + n) none
          ∙ omega arith
          ∙ ap (λ n. total n (λ i. only_if (holds_r setting.k c j (ticket_of input R i)) 1))
          (sym ((valid.of_input.sides R).each))
      of_side S =
          let c = b (e0 + last) in
          let none =
          none_of input setting valid rest stands f agrees (row_count input R)
          (λ i. only_if (holds_r setting.k c j (ticket_of input R i)) 0)
          (λ i. never (holds_r setting.k c j (ticket_of input R i))) in
          ap (λ n. n + total (row_count input S) (λ i. only_if (holds_s c j (ticket_of input S i)) 1)) none
          ∙ omega arith
          ∙ ap (λ n. total n (λ i. only_if (holds_s c j (ticket_of input S i)) 1)) (sym ((valid.of_input.sides S).each))

  end_shift : b (e0 + last) ≡ shift_of rest f end
  end_shift = ap (λ e. b e) end_is ∙ sym (shift_same input setting valid rest stands f agrees end)

  fin_is : (j : ℕ) (h : j < 2 ^ setting.k) → fins_of (f.collector.from_joiner j)
      ≡ Fin (held input setting.k (shift_of rest f end) R j) (held input setting.k (shift_of rest f end) S j)
      (map (λ n. moved_by setting f (e0 + n + 1) j) (counting_from 0 last)) ∷ []
  fin_is j h =
      let s = s_of input setting valid rest stands f agrees j in
      let t = t_of input setting valid rest stands f agrees j in
      let law = agrees.joiners j h in
      let link = agrees.joiner_collector j h in
      let ends = law.finished (finished.joiners j h) in
      let size : Side → ℕ = λ side. count_by (is_of side) (store s t (opened s t)) in
      let counts : ℕ → List ℕ = λ n. map (λ i. moved_by setting f (e0 + i + 1) j) (counting_from 0 n) in
      let whole : f.collector.from_joiner j ++ link.rest ≡ map Found law.founds
      ++ Fin (size R) (size S) (counts (opened s t)) ∷ [] =
      link.joins ∙ law.to_collector ∙ ap (λ ms. map Found law.founds ++ ms) ends in
      let is = opened_last j h in
      let size_is : (side : Side) → size side ≡ held input setting.k (shift_of rest f end) side j = λ side.
      ap (λ n. count_by (is_of side) (store s t n)) is ∙ holds_all j h side
      ∙ ap (λ c. held input setting.k c side j) end_shift in
      fins_whole law.founds (size R) (size S) (counts (opened s t)) (f.collector.from_joiner j) link.rest whole
      (finished.collector j h)
      ∙ ap (λ n. Fin n (size S) (counts (opened s t)) ∷ []) (size_is R)
      ∙ ap (λ n. Fin (held input setting.k (shift_of rest f end) R j) n (counts (opened s t)) ∷ []) (size_is S)
      ∙ ap
      (λ n.
      Fin (held input setting.k (shift_of rest f end) R j) (held input setting.k (shift_of rest f end) S j)
      (counts n) ∷ []) is

  -- ---- what was moved in a step

  moves : (n j : ℕ) (h : j < 2 ^ setting.k) → n < last → let e = e0 + n in
      moved_by setting f (e + 1) j
      ≡ sum_by
      (λ x. only_if (is_stored setting.k (b e) e j x) (only_if (is_of (exchanged_side (b e) (b (e + 1))) x) 1)) all
  moves n j h below =
      let k = setting.k in
      let e = e0 + n in
      let s = s_of input setting valid rest stands f agrees j in
      let t = t_of input setting valid rest stands f agrees j in
      let law = agrees.joiners j h in
      let is = opened_last j h in
      let is_open : n < opened s t = omega arith in
      let here = shift_is input setting valid rest stands f agrees j h n (omega arith) in
      let next = shift_next input setting valid rest stands f agrees j h n is_open in
      let low = min (shift_after s t n) (shift_after s t (n + 1)) in
      let low_k : low < k =
      low_within k (shift_after s t n) (shift_after s t (n + 1)) (law.by_one n is_open) (law.within n (omega arith))
      (law.within (n + 1) (omega arith)) in
      let q = partner_of s t n in
      let h' : q < 2 ^ k = partner_below k low j low_k h in
      let sent : ℕ → List Tuple = λ i. moved_of (e + 1) ((f.joiner j).to_joiner i) in
      let only_q : (i : ℕ) → i < 2 ^ k → sum_by (λ x. 1) (sent i) ≡ only_if (q == i) (sum_by (λ x. 1) (sent i)) =
      λ i low'.
      elim (cases_eq q i) [
        | inl same_i ↦ sym (ap (λ c. only_if c (sum_by (λ x. 1) (sent i))) (eq-eqb q i same_i))
        | inr differ ↦
            let none : length (sent i) ≡ 0 = elim (cases_eq (length (sent i)) 0) [
              | inl none ↦ none
              | inr some ↦
                  let only = law.moved_only i (e + 1) (omega arith) in
                  let same_n : only.0 ≡ n = omega (arith, only.1) in
                  let to_i : i ≡ q = subst (λ m. i ≡ partner_of s t m) same_n only.3 in
                  absurd (differ (sym to_i))
            ] in
            sym (length_is input setting valid rest stands f agrees (sent i)) ∙ none
            ∙ sym (ap (λ c. only_if c (sum_by (λ x. 1) (sent i))) (ne_eqb q i differ))
      ] in
      let moved_is : SameBag (sent q)
      (filter (is_of (exchanged_side (shift_after s t n) (shift_after s t (n + 1)))) (store s t n)) =
      law.moved n is_open in
      let side_is : exchanged_side (shift_after s t n) (shift_after s t (n + 1)) ≡ exchanged_side (b e) (b (e + 1)) =
      ap (λ c. exchanged_side c (shift_after s t (n + 1))) here ∙ ap (λ c. exchanged_side (b e) c) next in
      let x = exchanged_side (b e) (b (e + 1)) in
      let stored = stored_all input setting valid rest stands f agrees finished n j h (omega arith) in
      length_is input setting valid rest stands f agrees (gather (2 ^ k) sent)
      ∙ sum-gather (λ y. 1) (2 ^ k) sent
      ∙ total_same (2 ^ k) (λ i. sum_by (λ y. 1) (sent i)) (λ i. only_if (q == i) (sum_by (λ y. 1) (sent i))) only_q
      ∙ one_index (2 ^ k) q (λ i. sum_by (λ y. 1) (sent i)) h'
      ∙ moved_is.sums (λ y. 1)
      ∙ ap (λ d. sum_by (λ y. 1) (filter (is_of d) (store s t n))) side_is
      ∙ sum-filter (λ y. 1) (is_of x) (store s t n)
      ∙ sym (sum_of_map (λ y. only_if (is_of x y) 1) old (store s t n))
      ∙ stored.sums (λ y. only_if (is_of x y) 1)
      ∙ sum-filter (λ y. only_if (is_of x y) 1) (is_stored k (b e) e j) all

  abbrev side_sum : Side → ℕ → (Side → ℕ) → ℕ
  side_sum side n H =
      count_by (λ i. nat_lt (stamp_in input setting rest f side i) (n + 1)) (range_with_len 0 (row_count input side))
      * H side

  by_tests : (k : ℕ) (old its : Bool) (h : ℕ → Bool) (H : ℕ) → total (2 ^ k) (λ j. only_if (h j) 1) ≡ H
      → total (2 ^ k) (λ j. only_if (old && h j) (only_if its 1)) ≡ only_if old (only_if its H)
  by_tests k true true h H is = is
  by_tests k true false h H is =
      total_same (2 ^ k) (λ j. only_if (h j) 0) (λ j. 0) (λ j low. never (h j)) ∙ total-zero (2 ^ k)
  by_tests k false its h H is = total-zero (2 ^ k)

  one_side : (side : Side) (n c : ℕ)
      → total (row_count input side) (λ i. only_if (nat_le (σ input setting valid rest stands f agrees side i) n) c)
      ≡ count_by (λ i. nat_lt (stamp_in input setting rest f side i) (n + 1)) (range_with_len 0 (row_count input side))
      * c
  one_side side n c =
      total_same (row_count input side) (λ i. only_if (nat_le (σ input setting valid rest stands f agrees side i) n) c)
      (λ i. only_if (nat_lt (stamp_in input setting rest f side (0 + i)) (n + 1)) 1 * c)
      (λ i low. let same : 0 + i ≡ i = omega arith in
      ap (λ m. only_if (nat_le (stamp_in input setting rest f side m) n) c) (sym same)
      ∙ ap (λ t. only_if t c) (next (stamp_in input setting rest f side (0 + i)) n)
      ∙ times (nat_lt (stamp_in input setting rest f side (0 + i)) (n + 1)) c)
      ∙ pulled (row_count input side) (λ i. only_if (nat_lt (stamp_in input setting rest f side (0 + i)) (n + 1)) 1) c
      ∙ ap (λ m. m * c)
      (sym
      (range_sum (λ i. only_if (nat_lt (stamp_in input setting rest f side i) (n + 1)) 1) 0 (row_count input side)))

  of_side : (x : Side) (n : ℕ) (H : Side → ℕ)
      → stamped_sum input setting valid rest stands f agrees
      (λ t. only_if (nat_le t.stamp n) (only_if (is_of x t) (H t.side))) ≡ side_sum x n H
  of_side R n H =
      let none =
      none_of input setting valid rest stands f agrees (row_count input S)
      (λ i. only_if (nat_le (σ input setting valid rest stands f agrees S i) n) 0)
      (λ i. never (nat_le (σ input setting valid rest stands f agrees S i) n)) in
      ap (λ m.
      total (row_count input R) (λ i. only_if (nat_le (σ input setting valid rest stands f agrees R i) n) (H R))
      + m) none ∙ omega arith ∙ one_side R n (H R)
  of_side S n H =
      let none =
      none_of input setting valid rest stands f agrees (row_count input R)
      (λ i. only_if (nat_le (σ input setting valid rest stands f agrees R i) n) 0)
      (λ i. never (nat_le (σ input setting valid rest stands f agrees R i) n)) in
      ap (λ m. m
      + total (row_count input S) (λ i. only_if (nat_le (σ input setting valid rest stands f agrees S i) n) (H S)))
      none ∙ omega arith ∙ one_side S n (H S)

  moves_all : (n : ℕ) → n < last
      → sum (map (moved_by setting f (e0 + n + 1)) (range_with_len 0 (2 ^ setting.k)))
      ≡ moved input setting.k (stamp_in input setting rest f) (shift_of rest f) (e0 + n + 1)
  moves_all n below =
      let k = setting.k in
      let e = e0 + n in
      let x = exchanged_side (b e) (b (e + 1)) in
      let H = holders k (b e) in
      let g : ℕ → Tuple → ℕ = λ j t. only_if (is_stored k (b e) e j t) (only_if (is_of x t) 1) in
      let each : Tuple → ℕ = λ t. only_if (nat_le t.stamp e) (only_if (is_of x t) (H t.side)) in
      let last_stamp = e0 + E input setting valid rest stands f agrees finished in
      let at : (t : Tuple) → IsStamped last_stamp t → total (2 ^ k) (λ j. g j t) ≡ each t = λ t is.
      by_tests k (nat_le t.stamp e) (is_of x t) (λ j. holds k (b e) j t) (H t.side)
      (holders_are k (b e) t.side t.ticket (shift_within input setting valid rest stands f agrees e)
      valid.small is.1) in
      let before : (e + 1) - 1 ≡ e = omega arith in
      let formula : side_sum x e H ≡ moved input k (stamp_in input setting rest f) (λ v. b v) (e + 1) =
      ap (λ m. let side = exchanged_side (b m) (b (e + 1)) in
      count_by (λ i. nat_lt (stamp_in input setting rest f side i) (e + 1))
      (range_with_len 0 (row_count input side)) * holders k (b m) side) (sym before) in
      let formula' : moved input k (stamp_in input setting rest f) (λ v. b v) (e + 1)
      ≡ moved input k (stamp_in input setting rest f) (shift_of rest f) (e + 1) =
      ap (λ c. let side = exchanged_side c (b (e + 1)) in
      count_by (λ i. nat_lt (stamp_in input setting rest f side i) (e + 1))
      (range_with_len 0 (row_count input side)) * holders k c side)
      (sym (shift_same input setting valid rest stands f agrees ((e + 1) - 1)))
      ∙ ap
      (λ c. let side = exchanged_side (shift_of rest f ((e + 1) - 1)) c in
      count_by (λ i. nat_lt (stamp_in input setting rest f side i) (e + 1))
      (range_with_len 0 (row_count input side)) * holders k (shift_of rest f ((e + 1) - 1)) side)
      (sym (shift_same input setting valid rest stands f agrees (e + 1))) in
      sum-map (moved_by setting f (e + 1)) (range_with_len 0 (2 ^ k))
      ∙ range_sum (moved_by setting f (e + 1)) 0 (2 ^ k)
      ∙ total_same (2 ^ k) (λ j. moved_by setting f (e + 1) (0 + j)) (λ j. sum_by (g j) all)
      (λ j h. let same : 0 + j ≡ j = omega arith in ap (moved_by setting f (e + 1)) same ∙ moves n j h below)
      ∙ exchange (2 ^ k) g all
      ∙ sum_same_on (IsStamped last_stamp) (λ t. total (2 ^ k) (λ j. g j t)) each at all
      (rows_stamped input setting valid rest stands f agrees finished)
      ∙ stamped_rows input setting valid rest stands f agrees finished each
      ∙ of_side x e H
      ∙ formula ∙ formula'

  -- a finished family answers the join
  pub answers_the_join : AnswersTheJoin input setting rest f agrees
  answers_the_join = record {
    journal = lawful input setting valid rest stands f agrees finished;
    stamps = λ p j h h'. received_stamps input setting valid rest stands f agrees p j h h';
    pairs = takes_all_pairs input setting valid rest stands f agrees finished;
    made = λ j h. makes input setting valid rest stands f agrees finished j h;
    held = λ j h. fin_is j h;
    moved = λ n below. moves_all n below;
    received = all_received input setting rest f valid stands agrees finished.collector;
    again = stands_again input setting valid rest stands f agrees finished;
    next = goes_on_next input setting valid rest stands f agrees finished;
  }
