-- In an agreeing family a joiner goes by the journal's shifts, and gets of the feeders what it holds of the granted
-- rows.
use Rattle.std.proofs.Common.{◌≡◌, ℕ, zero, suc, ◌+◌, ◌^◌, ◌<◌, ◌≤◌, ◌⊎◌, inl, inr, refl, sym, ◌∙◌, ap, subst, arith}
use Rattle.std.proofs.Common.{Bool, ◌&&◌, List, [], ◌∷◌, ◌++◌, append_assoc, length}
use Rattle.std.specs.Prelude.{map, filter, ◌==◌}
use Rattle.std.proofs.lemmas.List.{map-append}
use Rattle.std.specs.List.{AllByRecursion}
use Rattle.std.proofs.lemmas.Bool.{cases_lt, cases_eq, eq-eqb, ne_eqb}
use Rattle.row_cells.specs.Lists.{SameBag, gather, greatest, counting_from}
use Rattle.row_cells.proofs.Bags.{SameBag-refl, SameBag-trans, SameBag-map}
use Rattle.row_cells.proofs.Everywhere.{all-append, all-gather}
use Rattle.epoch_tags.specs.declared.message.ToFeeder.{ToFeeder}
use Rattle.epoch_tags.specs.declared.message.ToFeeder.TheVariants.{Order, Grant, Stop}
use Rattle.epoch_tags.specs.declared.tuple.Tuple.{Tuple}
use Rattle.epoch_tags.specs.declared.message.ToJoiner.{ToJoiner}
use Rattle.epoch_tags.specs.declared.message.ToJoiner.TheVariants.{Tup, Turn, End, Moved, MovedEnd}
use Rattle.epoch_tags.specs.Messages.{tups_of, turns, turn_shifts, ends, order_epochs}
use Rattle.epoch_tags.specs.Orders.{CountsUp, GoesBy, TurnsGoBy}
use Rattle.migration_plan.specs.Steps.{holds}
use Rattle.reshuffler_core.specs.Law.{answers, stamped}
use Rattle.reshuffler_core.proofs.Arrivals.{granted, of_feeder, answers_count_up, answers_go}
use Rattle.joiner_law.specs.Law.{opened, shift_after, arrived, store, IsSettled}
use Rattle.joiner_law.proofs.Moved.{whole_epoch}
use Rattle.trace_law.specs.declared.input.Input.{Input}
use Rattle.trace_law.specs.declared.setting.Setting.{Setting}
use Rattle.trace_law.specs.Family.{Rest, Family, IsAgreeing, IsRestFor, joiner_start, feeder_start, old_rows, aged}
use Rattle.trace_law.proofs.Stores.{is_stored}
use Rattle.trace_law.proofs.Aged.{aged_in, old_stamps, later_alone, first_same}
use Rattle.trace_law.proofs.Membership.{HasAllOf, complete}
use Rattle.row_cells.proofs.Totals.{gather_same, gather-filter}
use Rattle.epoch_tags.proofs.EpochShifts.{front_goes}
use Rattle.joiner_law.proofs.StepStores.{shifts-are}

-- ---- shifts

-- a list that has turned to epoch v shows its shift
has_shift : (e v : ℕ) (ms : List ToJoiner) → CountsUp e ms → e < v → v ≤ e + turns ms → 0 < length (turn_shifts v ms)
has_shift e v [] up above low = absurd (omega arith)
has_shift e v (Tup x ∷ ms) (is, up) above low = has_shift e v ms up above low
has_shift e v (Turn epoch shift ∷ ms) (is, up) above low = elim (cases_eq epoch v) [
  | inl same ↦ rw (eq-eqb epoch v same) (omega arith)
  | inr differ ↦ rw (ne_eqb epoch v differ) (has_shift (e + 1) v ms up (omega arith) (omega arith))
]
has_shift e v (End ∷ ms) up above low = let none : turns ms ≡ 0 = rw up refl in absurd (omega arith)
has_shift e v (Moved epoch x ∷ ms) up above low = absurd up
has_shift e v (MovedEnd epoch ∷ ms) up above low = absurd up

-- where some index has the number, one of them shows
attained : (n : ℕ) (g : ℕ → ℕ) (v : ℕ) → 0 < v → v ≤ greatest n g → (i : ℕ) × (i < n) × (v ≤ g i)
attained zero g v pos low = absurd (omega arith)
attained (suc n) g v pos low = elim (cases_lt (g n) v) [
  | inl less ↦ let rest = attained n g v pos (omega arith) in (rest.0, omega (arith, rest.1), rest.2)
  | inr here ↦ (n, omega arith, here)
]

one_value : (xs : List ℕ) (u v : ℕ) → AllByRecursion (λ x. x ≡ u) xs → AllByRecursion (λ x. x ≡ v) xs → 0 < length xs
    → u ≡ v
one_value [] u v us vs some = absurd (omega arith)
one_value (x ∷ xs) u v (here, us) (here', vs) some = sym here ∙ here'

-- what was granted from epoch e on has no older stamp
stamps_kept : (c e : ℕ) (batch : List Tuple) → c ≤ e → AllByRecursion (λ t. c ≤ t.stamp) (map (stamped e) batch)
stamps_kept c e [] low = tt
stamps_kept c e (t ∷ batch) low = (low, stamps_kept c e batch low)

-- a feeder grants no row a stamp below the epoch in which it began
pub stamps_high : (c e : ℕ) (batches : List (List Tuple)) (ms : List ToFeeder) → c ≤ e
    → order_epochs ms ≡ counting_from (e + 1) (length (order_epochs ms))
    → AllByRecursion (λ t. c ≤ t.stamp) (granted e batches ms)
stamps_high c e batches [] low orders = tt
stamps_high c e batches (Order epoch shift ∷ ms) low orders =
    let is : epoch ≡ e + 1 = cc in
    let rest : order_epochs ms ≡ counting_from ((e + 1) + 1) (length (order_epochs ms)) = cc in
    subst (λ v. AllByRecursion (λ t. c ≤ t.stamp) (granted v batches ms)) (sym is)
    (stamps_high c (e + 1) batches ms (omega arith) rest)
stamps_high c e [] (Grant ∷ ms) low orders = stamps_high c e [] ms low orders
stamps_high c e (batch ∷ batches) (Grant ∷ ms) low orders =
    all-append (λ t. c ≤ t.stamp) (map (stamped e) batch) (granted e batches ms) (stamps_kept c e batch low)
    (stamps_high c e batches ms low orders)
stamps_high c e batches (Stop ∷ ms) low orders = stamps_high c e batches ms low orders

-- ---- of a family, where feeders go by b

module _ (input : Input) (setting : Setting) (rest : Rest) (f : Family) (agrees : IsAgreeing input setting rest f)
    (b : ℕ → ℕ)
    (goes : (p : ℕ) → p < setting.feeders → GoesBy b (agrees.taken_by_feeder p))
    (start : rest.line.shift ≡ b rest.line.epoch) where
  -- all tuples that feeders were granted, with their stamps
  abbrev pub all_granted : List Tuple
  all_granted =
      gather setting.feeders
      (λ p. granted rest.line.epoch (feeder_start input setting rest p).batches (agrees.taken_by_feeder p))

  -- what a joiner took of a feeder is the front of its answers
  pub front_of : (j p : ℕ) → j < 2 ^ setting.k → p < setting.feeders
      → (more : List ToJoiner)
      ×
      ((agrees.taken_by_joiner j).from_feeder p
      ++ more
      ≡ answers setting.k j rest.line.epoch rest.line.shift (feeder_start input setting rest p).batches
      (agrees.taken_by_feeder p))
  front_of j p h h' =
      let of_p = (agrees.joiners j h).of_feeders p h' in
      let link = agrees.feeder_joiner p j h' h in (
        of_p.held ++ link.rest,
        sym (append_assoc ((agrees.taken_by_joiner j).from_feeder p) of_p.held link.rest)
            ∙ ap (λ ms. ms ++ link.rest) of_p.splits ∙ link.joins ∙ (agrees.feeders p h').answered j h,
      )

  -- these have stamps of the wave
  pub granted_since : AllByRecursion (λ t. rest.line.epoch ≤ t.stamp) all_granted
  granted_since =
      all-gather (λ t. rest.line.epoch ≤ t.stamp) setting.feeders
      (λ p. granted rest.line.epoch (feeder_start input setting rest p).batches (agrees.taken_by_feeder p))
      (λ p h.
      stamps_high rest.line.epoch rest.line.epoch (feeder_start input setting rest p).batches
      (agrees.taken_by_feeder p) (omega arith) (agrees.feeders p h).orders)

  -- once all of an epoch has come, what arrived are the granted rows of that epoch that the joiner holds
  pub arrives : (j : ℕ) (h : j < 2 ^ setting.k) (n : ℕ) → HasAllOf setting.feeders (agrees.taken_by_joiner j) n
      → SameBag (arrived (joiner_start input setting rest j) (agrees.taken_by_joiner j) (rest.line.epoch + n))
      (filter (λ t. (t.stamp == rest.line.epoch + n) && holds setting.k (b (rest.line.epoch + n)) j t) all_granted)
  arrives j h n has =
      let k = setting.k in
      let e0 = rest.line.epoch in
      let v = e0 + n in
      let keep : Tuple → Bool = λ t. (t.stamp == v) && holds k (b v) j t in
      let each : (p : ℕ) → p < setting.feeders
      → tups_of v ((agrees.taken_by_joiner j).from_feeder p)
      ≡ filter keep (granted e0 (feeder_start input setting rest p).batches (agrees.taken_by_feeder p)) =
      λ p h'.
      let front = front_of j p h h' in
      let law = agrees.feeders p h' in
      let up =
      answers_count_up k j e0 rest.line.shift (feeder_start input setting rest p).batches (agrees.taken_by_feeder p)
      law.orders law.stops_last in
      let up' : CountsUp e0 ((agrees.taken_by_joiner j).from_feeder p ++ front.0) =
      subst (λ ms. CountsUp e0 ms) (sym front.1) up in
      let over : (v < e0 + turns ((agrees.taken_by_joiner j).from_feeder p))
      ⊎ (0 < ends ((agrees.taken_by_joiner j).from_feeder p)) =
      elim (has p h') [ inl past ↦ inl (omega arith) | inr ended ↦ inr ended ] in
      whole_epoch v e0 ((agrees.taken_by_joiner j).from_feeder p) front.0 up' over
      ∙ ap (λ ms. tups_of v ms) front.1
      ∙ ap (λ c. tups_of v (answers k j e0 c (feeder_start input setting rest p).batches (agrees.taken_by_feeder p)))
      start
      ∙ of_feeder k j e0 v b (feeder_start input setting rest p).batches (agrees.taken_by_feeder p) (goes p h') in
      subst (λ ts. SameBag (arrived (joiner_start input setting rest j) (agrees.taken_by_joiner j) v) ts)
      (gather_same setting.feeders (λ p. tups_of v ((agrees.taken_by_joiner j).from_feeder p))
      (λ p. filter keep (granted e0 (feeder_start input setting rest p).batches (agrees.taken_by_feeder p))) each
      ∙ gather-filter keep setting.feeders
      (λ p. granted e0 (feeder_start input setting rest p).batches (agrees.taken_by_feeder p)))
      (SameBag-refl (arrived (joiner_start input setting rest j) (agrees.taken_by_joiner j) v))

  -- the shift after n steps is that of the journal
  pub goes_by : (j : ℕ) (h : j < 2 ^ setting.k) (n : ℕ)
      → n ≤ opened (joiner_start input setting rest j) (agrees.taken_by_joiner j)
      → shift_after (joiner_start input setting rest j) (agrees.taken_by_joiner j) n ≡ b (rest.line.epoch + n)
  goes_by j h n low =
      let s = joiner_start input setting rest j in
      let t = agrees.taken_by_joiner j in
      let law = agrees.joiners j h in
      let e0 = rest.line.epoch in
      elim (cases_eq n 0) [
        | inl none ↦ let same : e0 ≡ e0 + n = omega arith in
            ap (λ m. shift_after s t m) none ∙ law.first_shift ∙ start ∙ ap b same
        | inr more ↦
            let at = attained setting.feeders (λ p. turns (t.from_feeder p)) n (omega arith) low in
            let here =
            has_shift e0 (e0 + n) (t.from_feeder at.0) (law.counts_up at.0 at.1) (omega arith) (omega (arith, at.2))
            in
            let front = front_of j at.0 h at.1 in
            let all_go =
            answers_go setting.k j e0 rest.line.shift b (feeder_start input setting rest at.0).batches
            (agrees.taken_by_feeder at.0) (goes at.0 at.1) in
            let go =
            shifts-are b (e0 + n) (t.from_feeder at.0)
            (front_goes b (t.from_feeder at.0) front.0 (subst (λ ms. TurnsGoBy b ms) (sym front.1) all_go)) in
            one_value (turn_shifts (e0 + n) (t.from_feeder at.0)) (shift_after s t n) (b (e0 + n))
            (law.same_shifts at.0 n at.1) go here
      ]

  -- the older rows and those that feeders were granted
  abbrev pub all_rows : List Tuple
  all_rows = old_rows input rest.line ++ all_granted

  begins_with : IsRestFor input setting rest → (j : ℕ) (h : j < 2 ^ setting.k)
      → HasAllOf setting.feeders (agrees.taken_by_joiner j) 0
      → SameBag (map (aged rest.line) (store (joiner_start input setting rest j) (agrees.taken_by_joiner j) 0))
      (filter (is_stored setting.k (b rest.line.epoch) rest.line.epoch j) all_rows)
  begins_with stands j h has =
      let k = setting.k in
      let e0 = rest.line.epoch in
      let new = arrived (joiner_start input setting rest j) (agrees.taken_by_joiner j) e0 in
      let same : e0 + 0 ≡ e0 = omega arith in
      let keep : Tuple → Bool = λ t. (t.stamp == e0) && holds k (b e0) j t in
      let came : SameBag new (filter keep all_granted) =
      subst
      (λ v.
      SameBag (arrived (joiner_start input setting rest j) (agrees.taken_by_joiner j) v)
      (filter (λ t. (t.stamp == v) && holds k (b v) j t) all_granted)) same (arrives j h 0 has) in
      let came' : SameBag (map (aged rest.line) new) (filter keep all_granted) =
      subst (λ ts. SameBag (map (aged rest.line) new) ts)
      (aged_in rest.line e0 (holds k (b e0) j) (omega arith) all_granted) (SameBag-map (aged rest.line) came) in
      let mine : SameBag (map (aged rest.line) (rest.stores j)) (filter (holds k (b e0) j) (old_rows input rest.line)) =
      subst (λ c. SameBag (map (aged rest.line) (rest.stores j)) (filter (holds k c j) (old_rows input rest.line)))
      start (stands.stored j h) in
      subst (λ ts. SameBag ts (filter (is_stored k (b e0) e0 j) all_rows))
      (sym (map-append (aged rest.line) (rest.stores j) new))
      (first_same k (b e0) e0 j (map (aged rest.line) (rest.stores j)) (map (aged rest.line) new)
      (old_rows input rest.line) all_granted (old_stamps input rest.line) granted_since mine came')

  goes_on_with : (j : ℕ) (h : j < 2 ^ setting.k) (n : ℕ) → HasAllOf setting.feeders (agrees.taken_by_joiner j) (n + 1)
      → SameBag
      (map (aged rest.line)
      (arrived (joiner_start input setting rest j) (agrees.taken_by_joiner j) (rest.line.epoch + n + 1)))
      (filter (λ t. (t.stamp == rest.line.epoch + n + 1) && holds setting.k (b (rest.line.epoch + n + 1)) j t)
      all_rows)
  goes_on_with j h n has =
      let k = setting.k in
      let e0 = rest.line.epoch in
      let v = e0 + n + 1 in
      let new = arrived (joiner_start input setting rest j) (agrees.taken_by_joiner j) v in
      let same : e0 + (n + 1) ≡ e0 + n + 1 = omega arith in
      let keep : Tuple → Bool = λ t. (t.stamp == v) && holds k (b v) j t in
      let came : SameBag new (filter keep all_granted) =
      subst
      (λ u.
      SameBag (arrived (joiner_start input setting rest j) (agrees.taken_by_joiner j) u)
      (filter (λ t. (t.stamp == u) && holds k (b u) j t) all_granted)) same (arrives j h (n + 1) has) in
      let came' : SameBag (map (aged rest.line) new) (filter keep all_granted) =
      subst (λ ts. SameBag (map (aged rest.line) new) ts)
      (aged_in rest.line v (holds k (b v) j) (omega arith) all_granted) (SameBag-map (aged rest.line) came) in
      SameBag-trans came'
      (later_alone e0 v (holds k (b v) j) (old_rows input rest.line) all_granted (old_stamps input rest.line)
      (omega arith))

  -- a joiner to which all of an epoch has come has stored just what it holds of the older rows and of those granted up
  -- to that epoch
  pub stores_all : IsRestFor input setting rest → 0 < setting.feeders → setting.k ≤ 8 → (n j : ℕ) → j < 2 ^ setting.k
      → ((m : ℕ) → m < n → IsSettled (joiner_start input setting rest j) (agrees.taken_by_joiner j) m)
      → HasAllOf setting.feeders (agrees.taken_by_joiner j) n
      → SameBag (map (aged rest.line) (store (joiner_start input setting rest j) (agrees.taken_by_joiner j) n))
      (filter (is_stored setting.k (b (rest.line.epoch + n)) (rest.line.epoch + n) j) all_rows)
  stores_all stands some small n j h settled has =
      complete input setting rest f agrees all_rows b some small goes_by (begins_with stands)
      goes_on_with n j h settled has
