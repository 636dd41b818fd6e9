-- A joiner stores what it holds of the rows that were counted.
use Rattle.std.proofs.Common.{◌≡◌, ℕ, ◌+◌, ◌<◌, ◌≤◌, ◌^◌, ◌⊎◌, inl, inr, refl, sym, ◌∙◌, ap, subst, arith, Bool, true}
use Rattle.std.proofs.Common.{false, cond, not, ◌&&◌, List, [], ◌∷◌, ◌++◌, length, append_assoc, drop}
use Rattle.std.specs.Prelude.{map, filter, not, filter_map, option_map, sum_by, ◌==◌, Option, Some, None}
use Rattle.std.specs.List.{AllByRecursion, cons_option}
use Rattle.std.proofs.lemmas.Bool.{lt-leb}
use Rattle.std.proofs.lemmas.List.Sums.{sum_by-cons, sum_by-append}
use Rattle.row_cells.specs.declared.table.Side.{Side}
use Rattle.row_cells.specs.declared.table.Side.TheVariants.{R, S}
use Rattle.row_cells.specs.Lists.{SameBag, IsWithinBag, gather, counting_from, total}
use Rattle.row_cells.proofs.Bags.{only_if, sum-filter, sum-same, sum_of_map, SameBag-trans}
use Rattle.epoch_tags.specs.declared.tuple.Tuple.{Tuple}
use Rattle.epoch_tags.specs.declared.message.ToFeeder.{ToFeeder}
use Rattle.epoch_tags.specs.declared.message.ToFeeder.TheVariants.{Order, Grant, Stop}
use Rattle.epoch_tags.specs.Messages.{turns, ends, order_epochs}
use Rattle.migration_plan.specs.Steps.{holds}
use Rattle.reshuffler_core.specs.Law.{stamped}
use Rattle.reshuffler_core.proofs.Arrivals.{granted}
use Rattle.joiner_law.specs.Law.{IsSettled, opened, store}
use Rattle.load_controller.specs.declared.line.TurnLine.{TurnLine}
use Rattle.load_controller.specs.Journal.{Rules, begun, Follows, count_epochs, is_count_of}
use Rattle.load_controller.specs.Law.{sent_by, sent_for, is_over}
use Rattle.load_controller.proofs.Shifts.{stays_or_begins}
use Rattle.trace_law.specs.declared.input.Input.{Input}
use Rattle.trace_law.specs.Join.{row_count}
use Rattle.row_tickets.specs.declared.place.Place.{Place}
use Rattle.row_tickets.specs.Share.{place_at}
use Rattle.trace_law.specs.declared.setting.Setting.{Setting}
use Rattle.trace_law.specs.Validity.{IsValid}
use Rattle.trace_law.specs.Family.{Rest, IsRestFor, Family, IsAgreeing, all_places, old_rows, is_old, own_rows, aged}
use Rattle.trace_law.specs.Family.{tuple_of, feeder_start, joiner_start, rules_of, shift_of, stamp_at}
use Rattle.trace_law.specs.Stored.{counted_rows, is_stored, HasAllOf, rows_held, StoresItsRows}
use Rattle.trace_law.proofs.Arrivals.{front_of}
use Rattle.trace_law.proofs.Journals.{stores_what_it_holds, feeders_go, begins}
use Rattle.trace_law.proofs.Begun.{no_count}
use Rattle.trace_law.proofs.Shares.{own_total}
use Rattle.trace_law.proofs.Stamps.{with_stamps, grant_epochs, epoch_now, granted_is, epochs-append, epochs_sent}
use Rattle.trace_law.proofs.Loop.{either, places_sum}
use Rattle.trace_law.proofs.AtMost.{stores_at_most}
use Rattle.trace_law.proofs.Sent.{shift, rows}
use Rattle.trace_law.proofs.Lawful.{journal_is}
use Rattle.trace_law.proofs.Ends.{sent_last}
use Rattle.trace_law.proofs.StampOf.{weigh, counted_weigh, old_stamp}
use Rattle.trace_law.proofs.Made.{shift_same}
use Rattle.row_cells.proofs.Within.{IsWithinBag-trans, within-filter, within-gather, within-more, within_same}
use Rattle.row_cells.proofs.Within.{within-append, within-refl}
use Rattle.row_cells.proofs.Everywhere.{all-append}
use Rattle.row_cells.proofs.Totals.{total_same, total-add, sum-gather}
use Rattle.epoch_tags.proofs.Appends.{nothing_left, turns-append, ends-append}
use Rattle.epoch_tags.specs.Orders.{StopsLast}
use Rattle.reshuffler_core.proofs.TakesAll.{answers_turns, answers_ends}

-- ---- the batches with their stamps

stamps-append : (es more : List ℕ) (batches : List (List Tuple))
    → with_stamps (es ++ more) batches ≡ with_stamps es batches ++ with_stamps more (drop (length es) batches)
stamps-append [] more batches = refl
stamps-append (e ∷ es) [] [] = refl
stamps-append (e ∷ es) (r ∷ more) [] = refl
stamps-append (e ∷ es) more (batch ∷ batches) =
    ap (λ ts. map (stamped e) batch ++ ts) (stamps-append es more batches)
    ∙ sym
    (append_assoc (map (stamped e) batch) (with_stamps es batches) (with_stamps more (drop (length es) batches)))

stamped_from : (c e : ℕ) (batch : List Tuple) → c ≤ e → AllByRecursion (λ t. c ≤ t.stamp) (map (stamped e) batch)
stamped_from c e [] low = tt
stamped_from c e (t ∷ batch) low = (low, stamped_from c e batch low)

stamps_from : (c : ℕ) (es : List ℕ) (batches : List (List Tuple)) → AllByRecursion (λ e. c ≤ e) es
    → AllByRecursion (λ t. c ≤ t.stamp) (with_stamps es batches)
stamps_from c [] batches each = tt
stamps_from c (e ∷ es) [] each = tt
stamps_from c (e ∷ es) (batch ∷ batches) (here, more) =
    all-append (λ t. c ≤ t.stamp) (map (stamped e) batch) (with_stamps es batches) (stamped_from c e batch here)
    (stamps_from c es batches more)

-- later rows are not stored
none_stored : (k b n j : ℕ) (ts : List Tuple) → AllByRecursion (λ t. n + 1 ≤ t.stamp) ts → (f : Tuple → ℕ)
    → sum_by (λ t. only_if (is_stored k b n j t) (f t)) ts ≡ 0
none_stored k b n j [] each f = refl
none_stored k b n j (t ∷ ts) (here, more) f =
    let old = none_stored k b n j ts more f in
    let none : only_if (is_stored k b n j t) (f t) ≡ 0 =
    ap (λ c. only_if (c && holds k b j t) (f t)) (lt-leb t.stamp n (omega arith)) in
    sum_by-cons (λ x. only_if (is_stored k b n j x) (f x)) t ts ∙ omega arith

-- ---- epochs rise on a feeder's link

abbrev Rises : ℕ → List ToFeeder → Type 0
Rises e [] = Unit {0}
Rises e (Order epoch shift ∷ ms) = (e ≤ epoch) × Rises epoch ms
Rises e (Grant ∷ ms) = Rises e ms
Rises e (Stop ∷ ms) = Rises e ms

rises-append : (e : ℕ) (xs ys : List ToFeeder) → Rises e xs → Rises (epoch_now e xs) ys → Rises e (xs ++ ys)
rises-append e [] ys go go' = go'
rises-append e (Order epoch shift ∷ xs) ys (low, go) go' = (low, rises-append epoch xs ys go go')
rises-append e (Grant ∷ xs) ys go go' = rises-append e xs ys go go'
rises-append e (Stop ∷ xs) ys go go' = rises-append e xs ys go go'

rises-back : (e : ℕ) (xs ys : List ToFeeder) → Rises e (xs ++ ys) → Rises (epoch_now e xs) ys
rises-back e [] ys go = go
rises-back e (Order epoch shift ∷ xs) ys (low, go) = rises-back epoch xs ys go
rises-back e (Grant ∷ xs) ys go = rises-back e xs ys go
rises-back e (Stop ∷ xs) ys go = rises-back e xs ys go

late_grants : (c e : ℕ) (ms : List ToFeeder) → c ≤ e → Rises e ms → AllByRecursion (λ x. c ≤ x) (grant_epochs e ms)
late_grants c e [] low go = tt
late_grants c e (Order epoch shift ∷ ms) low (more, go) = late_grants c epoch ms (omega arith) go
late_grants c e (Grant ∷ ms) low go = (low, late_grants c e ms low go)
late_grants c e (Stop ∷ ms) low go = late_grants c e ms low go

line_rises : (same counts over : Bool) (e epoch shift : ℕ) → e ≤ epoch
    → Rises e (cond same [] (Order epoch shift ∷ []) ++ cond counts (Grant ∷ []) [] ++ cond over (Stop ∷ []) [])
line_rises true true true e epoch shift low = tt
line_rises true true false e epoch shift low = tt
line_rises true false true e epoch shift low = tt
line_rises true false false e epoch shift low = tt
line_rises false true true e epoch shift low = (low, tt)
line_rises false true false e epoch shift low = (low, tt)
line_rises false false true e epoch shift low = (low, tt)
line_rises false false false e epoch shift low = (low, tt)

sent_rises : (rules : Rules) (first : TurnLine) (p : ℕ) → is_count_of p first.cause ≡ false
    → (line : TurnLine) (past : List TurnLine) → Follows rules first (line ∷ past)
    → Rises first.epoch (sent_by rules p (line ∷ past))
sent_rises rules first p none line [] is = tt
sent_rises rules first p none line (before ∷ past) (made, allowed, more) =
    let now = (epochs_sent rules first p none before past more).1 in
    let either : ((line.epoch ≡ before.epoch) × (line.shift ≡ before.shift)) ⊎ (line.epoch ≡ before.epoch + 1) =
    subst
    (λ (next : TurnLine). ((next.epoch ≡ before.epoch) × (next.shift ≡ before.shift))
    ⊎ (next.epoch ≡ before.epoch + 1)) (sym made) (stays_or_begins rules before past line.cause) in
    let low : before.epoch ≤ line.epoch =
    elim either [ inl stays ↦ omega (arith, stays.0) | inr begins ↦ omega arith ] in
    rises-append first.epoch (sent_by rules p (before ∷ past)) (sent_for rules p line before past)
    (sent_rises rules first p none before past more)
    (subst (λ e. Rises e (sent_for rules p line before past)) (sym now)
    (line_rises (line.epoch == before.epoch) (is_count_of p line.cause)
    (not (is_over rules.feeders (before ∷ past)) && is_over rules.feeders (line ∷ before ∷ past))
    before.epoch line.epoch line.shift low))

now_is : (e : ℕ) (ms : List ToFeeder) → order_epochs ms ≡ counting_from (e + 1) (length (order_epochs ms))
    → epoch_now e ms ≡ e + length (order_epochs ms)
now_is e [] orders = omega arith
now_is e (Order epoch shift ∷ ms) orders =
    let is : epoch ≡ e + 1 = cc in
    let more : order_epochs ms ≡ counting_from ((e + 1) + 1) (length (order_epochs ms)) = cc in
    let old = now_is (e + 1) ms more in
    ap (λ c. epoch_now c ms) is ∙ old ∙ omega arith
now_is e (Grant ∷ ms) orders = now_is e ms orders
now_is e (Stop ∷ ms) orders = now_is e ms orders

weighed : (input : Input) (g : Tuple → ℕ) (σ : Place → Option ℕ) (cs : List Place)
    → sum_by g (filter_map (λ c. option_map (λ e. tuple_of input e c) (σ c)) cs)
    ≡ sum_by (λ c. weigh input g (σ c) c) cs
weighed input g σ [] = refl
weighed input g σ (c ∷ cs) =
    by_option (σ c) ∙ ap (λ n. weigh input g (σ c) c + n) (weighed input g σ cs)
    ∙ sym (sum_by-cons (λ d. weigh input g (σ d) d) c cs)
  where
    more : List Tuple
    more = filter_map (λ d. option_map (λ e. tuple_of input e d) (σ d)) cs

    by_option : (o : Option ℕ)
        → sum_by g (cons_option (option_map (λ e. tuple_of input e c) o) more) ≡ weigh input g o c + sum_by g more
    by_option None = omega arith
    by_option (Some e) = sum_by-cons g (tuple_of input e c) more

-- ---- in every agreeing family

module _ (input : Input) (setting : Setting) (valid : IsValid input setting) (rest : Rest)
    (stands : IsRestFor input setting rest) (f : Family) (agrees : IsAgreeing input setting rest f) where
  abbrev counted_of : ℕ → List Tuple
  counted_of p = with_stamps (count_epochs p f.controller.journal) (feeder_start input setting rest p).batches

  abbrev granted_of : ℕ → List Tuple
  granted_of p = granted rest.line.epoch (feeder_start input setting rest p).batches (agrees.taken_by_feeder p)

  -- the older rows, and what was counted of all feeders' batches, are the counted rows
  counted_are : SameBag (old_rows input rest.line ++ gather setting.feeders counted_of)
      (counted_rows input setting rest.line f.controller.journal)
  counted_are = record {
    sums = λ g.
        let line = rest.line in
        let σ : Place → Option ℕ = stamp_at input setting line f.controller.journal in
        let v : Place → ℕ = λ c. weigh input g (σ c) c in
        let w : Place → ℕ = λ c. weigh input g (σ (place_at c.side c.index)) c in
        let old : Place → ℕ = λ c. only_if (is_old line c) (v c) in
        let new : Place → ℕ = λ c. only_if (not (is_old line c)) (w c) in
        let parts = sum_by-append g (old_rows input line) (gather setting.feeders counted_of) in
        let sums = sum-gather g setting.feeders counted_of in
        let each =
        total_same setting.feeders (λ p. sum_by g (counted_of p)) (λ p. sum_by w (own_rows input setting line p))
        (λ p low. counted_weigh input setting valid rest f p low g) in
        let rows = own_total input setting valid.some valid.batch rest w in
        let older : sum_by g (old_rows input line) ≡ sum_by old (all_places input) =
        sum_of_map g (tuple_of input line.epoch) (filter (is_old line) (all_places input))
        ∙ sum-filter (λ c. g (tuple_of input line.epoch c)) (is_old line) (all_places input)
        ∙ sum-same (λ c. only_if (is_old line c) (g (tuple_of input line.epoch c))) old
        (λ c. of_old g c (is_old line c) refl) (all_places input) in
        let older' = places_sum input old in
        let whole = weighed input g σ (all_places input) in
        let places = places_sum input v in
        let both : (side : Side) (n : ℕ)
        → total n (λ i. old (place_at side i)) + total n (λ i. new (place_at side i))
        ≡ total n (λ i. v (place_at side i)) = λ side n.
        sym (total-add n (λ i. old (place_at side i)) (λ i. new (place_at side i)))
        ∙ total_same n (λ i. old (place_at side i) + new (place_at side i)) (λ i. v (place_at side i))
        (λ i low. either (is_old line (place_at side i)) (v (place_at side i))) in
        let r = both R (row_count input R) in
        let s = both S (row_count input S) in
        omega arith;
  }
    where
      of_old : (g : Tuple → ℕ) (c : Place) (t : Bool) → is_old rest.line c ≡ t
          → only_if t (g (tuple_of input rest.line.epoch c))
          ≡ only_if t (weigh input g (stamp_at input setting rest.line f.controller.journal c) c)
      of_old g c true is =
          ap (λ o. weigh input g o c) (sym (old_stamp input setting rest.line f.controller.journal c is))
      of_old g c false is = refl

  -- all that was counted: what was granted, and more
  sent_rest : (p : ℕ) → p < setting.feeders
      → (left : List ToFeeder)
      ×
      (agrees.taken_by_feeder p
      ++ left ≡ sent_by (rules_of setting) p (agrees.controller.line ∷ agrees.controller.past))
  sent_rest p h =
      let law = agrees.feeders p h in
      let link = agrees.controller_feeder p h in (
        law.held ++ link.rest,
        sym (append_assoc (agrees.taken_by_feeder p) law.held link.rest) ∙ ap (λ ms. ms ++ link.rest) law.splits
            ∙ link.joins ∙ agrees.controller.sends p h,
      )

  more_epochs : (p : ℕ) (h : p < setting.feeders)
      → count_epochs p f.controller.journal ≡ grant_epochs rest.line.epoch (agrees.taken_by_feeder p)
      ++ grant_epochs (epoch_now rest.line.epoch (agrees.taken_by_feeder p)) (sent_rest p h).0
  more_epochs p h =
      ap (count_epochs p) (journal_is input setting valid rest stands f agrees)
      ∙ sym
      (epochs_sent (rules_of setting) (begun rest.line) p (no_count p rest.line.cause)
      agrees.controller.line agrees.controller.past agrees.controller.follows).0
      ∙ ap (grant_epochs rest.line.epoch) (sym (sent_rest p h).1)
      ∙ epochs-append rest.line.epoch (agrees.taken_by_feeder p) (sent_rest p h).0

  more_of : (p : ℕ) → p < setting.feeders → List Tuple
  more_of p h =
      with_stamps (grant_epochs (epoch_now rest.line.epoch (agrees.taken_by_feeder p)) (sent_rest p h).0)
      (drop (length (grant_epochs rest.line.epoch (agrees.taken_by_feeder p)))
      (feeder_start input setting rest p).batches)

  counted_is : (p : ℕ) (h : p < setting.feeders) → counted_of p ≡ granted_of p ++ more_of p h
  unfolding more_of
  counted_is p h =
      let bs = (feeder_start input setting rest p).batches in
      let es = grant_epochs rest.line.epoch (agrees.taken_by_feeder p) in
      let more = grant_epochs (epoch_now rest.line.epoch (agrees.taken_by_feeder p)) (sent_rest p h).0 in
      ap (λ xs. with_stamps xs bs) (more_epochs p h) ∙ stamps-append es more bs
      ∙ ap (λ ts. ts ++ with_stamps more (drop (length es) bs))
      (sym (granted_is rest.line.epoch bs (agrees.taken_by_feeder p)))

  -- of one epoch or older, after n steps, by the family's journal
  abbrev keep : ℕ → ℕ → Tuple → Bool
  keep n j = is_stored setting.k (shift_of rest f (rest.line.epoch + n)) (rest.line.epoch + n) j

  abbrev its : ℕ → ℕ → List Tuple
  its n j = map (aged rest.line) (store (joiner_start input setting rest j) (agrees.taken_by_joiner j) n)

  stores_few : (n j : ℕ) → j < 2 ^ setting.k → n ≤ opened (joiner_start input setting rest j) (agrees.taken_by_joiner j)
      → IsWithinBag (its n j) (rows_held input setting rest f n j)
  stores_few n j h low =
      let e = rest.line.epoch + n in
      let within =
      within-gather setting.feeders granted_of counted_of
      (λ p h'.
      subst (λ ts. IsWithinBag (granted_of p) ts) (sym (counted_is p h'))
      (within-more (granted_of p) (more_of p h'))) in
      IsWithinBag-trans
      (subst
      (λ c.
      IsWithinBag (its n j) (filter (is_stored setting.k c e j) (rows input setting valid rest stands f agrees)))
      (sym (shift_same input setting valid rest stands f agrees e))
      (stores_at_most input setting valid rest stands f agrees n j h low))
      (within-filter (keep n j)
      (IsWithinBag-trans (within-append (within-refl (old_rows input rest.line)) within) (within_same counted_are)))

  -- where a joiner has all of an epoch from a feeder, more that was counted is later
  more_later : (n j p : ℕ) (h : j < 2 ^ setting.k) (h' : p < setting.feeders)
      → (n < turns ((agrees.taken_by_joiner j).from_feeder p)) ⊎ (0 < ends ((agrees.taken_by_joiner j).from_feeder p))
      → AllByRecursion (λ t. rest.line.epoch + n + 1 ≤ t.stamp) (more_of p h')
  unfolding more_of
  more_later n j p h h' (inl past) =
      let law = agrees.feeders p h' in
      let taken = agrees.taken_by_feeder p in
      let front =
      front_of input setting rest f agrees (shift input setting valid rest stands f agrees)
      (feeders_go input setting rest f agrees) (begins input setting rest f agrees) j p h h' in
      let all_turns =
      ap turns front.1
      ∙ answers_turns setting.k j rest.line.epoch rest.line.shift
      (feeder_start input setting rest p).batches taken in
      let parts = turns-append ((agrees.taken_by_joiner j).from_feeder p) front.0 in
      let now = now_is rest.line.epoch taken law.orders in
      let go =
      rises-back rest.line.epoch taken (sent_rest p h').0
      (subst (Rises rest.line.epoch) (sym (sent_rest p h').1)
      (sent_rises (rules_of setting) (begun rest.line) p (no_count p rest.line.cause)
      agrees.controller.line agrees.controller.past agrees.controller.follows)) in
      stamps_from (rest.line.epoch + n + 1) (grant_epochs (epoch_now rest.line.epoch taken) (sent_rest p h').0)
      (drop (length (grant_epochs rest.line.epoch taken)) (feeder_start input setting rest p).batches)
      (late_grants (rest.line.epoch + n + 1) (epoch_now rest.line.epoch taken) (sent_rest p h').0 (omega arith) go)
  more_later n j p h h' (inr ended) =
      let taken = agrees.taken_by_feeder p in
      let front =
      front_of input setting rest f agrees (shift input setting valid rest stands f agrees)
      (feeders_go input setting rest f agrees) (begins input setting rest f agrees) j p h h' in
      let all_ends =
      ap ends front.1
      ∙ answers_ends setting.k j rest.line.epoch rest.line.shift
      (feeder_start input setting rest p).batches taken in
      let parts = ends-append ((agrees.taken_by_joiner j).from_feeder p) front.0 in
      let last = sent_last input setting rest f agrees p in
      let none = nothing_left taken (sent_rest p h').0 (subst StopsLast (sym (sent_rest p h').1) last) (omega arith) in
      subst
      (λ ms.
      AllByRecursion (λ t. rest.line.epoch + n + 1 ≤ t.stamp)
      (with_stamps (grant_epochs (epoch_now rest.line.epoch taken) ms)
      (drop (length (grant_epochs rest.line.epoch taken)) (feeder_start input setting rest p).batches))) (sym none)
      tt

  stores_all_of : (n j : ℕ) → j < 2 ^ setting.k
      → ((m : ℕ) → m < n → IsSettled (joiner_start input setting rest j) (agrees.taken_by_joiner j) m)
      → HasAllOf setting.feeders (agrees.taken_by_joiner j) n
      → SameBag (its n j) (rows_held input setting rest f n j)
  stores_all_of n j h settled has =
      let k = setting.k in
      let e = rest.line.epoch + n in
      let b = shift_of rest f e in
      let older = old_rows input rest.line in
      let old =
      subst (λ c. SameBag (its n j) (filter (is_stored k c e j) (rows input setting valid rest stands f agrees)))
      (sym (shift_same input setting valid rest stands f agrees e))
      (stores_what_it_holds input setting rest f agrees stands valid.some valid.small n j h settled has) in
      let more : SameBag (filter (keep n j) (older ++ gather setting.feeders granted_of))
      (filter (keep n j) (older ++ gather setting.feeders counted_of)) = record {
        sums = λ g.
            let w : Tuple → ℕ = λ t. only_if (keep n j t) (g t) in
            let left = sum-filter g (keep n j) (older ++ gather setting.feeders granted_of) in
            let left' = sum_by-append w older (gather setting.feeders granted_of) in
            let right = sum-filter g (keep n j) (older ++ gather setting.feeders counted_of) in
            let right' = sum_by-append w older (gather setting.feeders counted_of) in
            let a = sum-gather w setting.feeders granted_of in
            let c = sum-gather w setting.feeders counted_of in
            let same = total_same setting.feeders (λ p. sum_by w (granted_of p)) (λ p. sum_by w (counted_of p))
            (λ p h'.
            let is = ap (sum_by w) (counted_is p h') ∙ sum_by-append w (granted_of p) (more_of p h') in
            let none = none_stored k b e j (more_of p h') (more_later n j p h h' (has p h')) g in
            omega arith) in
            omega arith;
      } in
      let all : SameBag (filter (keep n j) (older ++ gather setting.feeders counted_of))
      (filter (keep n j) (counted_rows input setting rest.line f.controller.journal)) = record {
        sums = λ g.
            sum-filter g (keep n j) (older ++ gather setting.feeders counted_of)
            ∙ counted_are.sums (λ t. only_if (keep n j t) (g t))
            ∙ sym (sum-filter g (keep n j) (counted_rows input setting rest.line f.controller.journal));
      } in
      SameBag-trans old (SameBag-trans more all)

  -- each joiner stores its rows
  pub stores_its_rows : StoresItsRows input setting rest f agrees
  stores_its_rows = record { at_most = stores_few; all_of = stores_all_of }
