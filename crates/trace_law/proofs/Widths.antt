-- No message of an agreeing family carries a row of a foreign width.
use Rattle.std.proofs.Common.{◌≡◌, ℕ, ◌+◌, ◌<◌, ◌^◌, inl, inr, refl, sym, ◌∙◌, ap, subst, arith, Bool, true, false}
use Rattle.std.proofs.Common.{cond, not, List, [], ◌∷◌, length}
use Rattle.std.specs.Prelude.{filter, map, sum_by, ◌==◌}
use Rattle.std.specs.List.{AllByRecursion}
use Rattle.std.proofs.lemmas.Bool.{cases_lt, eqb-true, eq-eqb}
use Rattle.row_cells.specs.declared.table.Side.{Side}
use Rattle.row_cells.specs.declared.table.Side.TheVariants.{R, S}
use Rattle.row_cells.specs.Lists.{IsWithinBag, gather, total}
use Rattle.row_cells.proofs.Bags.{only_if}
use Rattle.row_cells.proofs.Everywhere.{weaken, all-front, all-back, all-append, all-part}
use Rattle.row_cells.proofs.Totals.{total_same, total-zero}
use Rattle.row_cells.proofs.Within.{IsWithinBag-trans, within_same, within-refl, filtered_within, none_fails}
use Rattle.row_tickets.specs.Share.{place_at}
use Rattle.theta_pred.specs.Formula.{Meaning}
use Rattle.theta_pred.specs.Truth.{width_of}
use Rattle.epoch_tags.specs.declared.tuple.Tuple.{Tuple}
use Rattle.epoch_tags.specs.declared.message.ToJoiner.{ToJoiner}
use Rattle.epoch_tags.specs.declared.message.ToJoiner.TheVariants.{Tup, Turn, End, Moved, MovedEnd}
use Rattle.epoch_tags.specs.declared.message.ToFeeder.{ToFeeder}
use Rattle.epoch_tags.specs.declared.message.ToFeeder.TheVariants.{Order, Grant, Stop}
use Rattle.epoch_tags.specs.Messages.{moved_of}
use Rattle.epoch_tags.specs.Orders.{NeverFalls}
use Rattle.migration_plan.specs.Steps.{holds, is_of}
use Rattle.reshuffler_core.specs.Law.{answers, stamped, copies_for}
use Rattle.reshuffler_core.proofs.Arrivals.{granted}
use Rattle.joiner_law.specs.Law.{store, partner_of, exchanged}
use Rattle.trace_law.specs.declared.input.Input.{Input}
use Rattle.trace_law.specs.declared.setting.Setting.{Setting}
use Rattle.trace_law.specs.Join.{row_count}
use Rattle.trace_law.specs.Validity.{IsValid}
use Rattle.trace_law.specs.Family.{aged, old_rows, Rest, IsRestFor, Family, IsAgreeing, tuple_of, cells_of}
use Rattle.trace_law.specs.Family.{feeder_start}
use Rattle.trace_law.specs.Widths.{IsRow, HasRow}
use Rattle.trace_law.proofs.Stores.{is_stored}
use Rattle.trace_law.proofs.Loop.{known_within}
use Rattle.trace_law.proofs.Aged.{within-map}
use Rattle.trace_law.proofs.AtMost.{stores_at_most}
use Rattle.trace_law.proofs.Sent.{unmapped, shift, rows, s_of, t_of}

-- ---- what a feeder sends

copies_wide : (theta : Meaning) (e : ℕ) (keep : Tuple → Bool) (ts : List Tuple)
    → AllByRecursion (IsRow theta) (map (stamped e) ts)
    → AllByRecursion (HasRow theta) (map (λ t. Tup (stamped e t)) (filter keep ts))
copies_wide theta e keep [] each = tt
copies_wide theta e keep (t ∷ ts) (here, more) = by_test (keep t) (copies_wide theta e keep ts more)
  where
    by_test : (c : Bool) → AllByRecursion (HasRow theta) (map (λ x. Tup (stamped e x)) (filter keep ts))
        → AllByRecursion (HasRow theta) (map (λ x. Tup (stamped e x)) (cond c (t ∷ filter keep ts) (filter keep ts)))
    by_test true more = (here, more)
    by_test false more = more

answers_wide : (theta : Meaning) (k j e b : ℕ) (batches : List (List Tuple)) (ms : List ToFeeder)
    → AllByRecursion (IsRow theta) (granted e batches ms)
    → AllByRecursion (HasRow theta) (answers k j e b batches ms)
answers_wide theta k j e b batches [] each = tt
answers_wide theta k j e b batches (Order epoch shift ∷ ms) each =
    (tt, answers_wide theta k j epoch shift batches ms each)
answers_wide theta k j e b [] (Grant ∷ ms) each = answers_wide theta k j e b [] ms each
answers_wide theta k j e b (batch ∷ batches) (Grant ∷ ms) each =
    all-append (HasRow theta) (copies_for k j e b batch) (answers k j e b batches ms)
    (copies_wide theta e (holds k b j) batch
    (all-front (IsRow theta) (map (stamped e) batch) (granted e batches ms) each))
    (answers_wide theta k j e b batches ms (all-back (IsRow theta) (map (stamped e) batch) (granted e batches ms) each))
answers_wide theta k j e b batches (Stop ∷ ms) each = (tt, answers_wide theta k j e b batches ms each)

-- ---- what a joiner sends

head_moved : (theta : Meaning) (epoch : ℕ) (x : Tuple) (ms : List ToJoiner)
    → AllByRecursion (IsRow theta) (moved_of epoch (Moved epoch x ∷ ms)) → IsRow theta x
head_moved theta epoch x ms each = by_test (epoch == epoch) (eq-eqb epoch epoch (omega arith)) each
  where
    by_test : (t : Bool) → t ≡ true → AllByRecursion (IsRow theta) (cond t (x ∷ moved_of epoch ms) (moved_of epoch ms))
        → IsRow theta x
    by_test true is (here, more) = here
    by_test false is each' = absurd (cc)

rest_moved : (theta : Meaning) (e epoch : ℕ) (x : Tuple) (ms : List ToJoiner)
    → AllByRecursion (IsRow theta) (moved_of e (Moved epoch x ∷ ms)) → AllByRecursion (IsRow theta) (moved_of e ms)
rest_moved theta e epoch x ms each = by_test (epoch == e) each
  where
    by_test : (t : Bool) → AllByRecursion (IsRow theta) (cond t (x ∷ moved_of e ms) (moved_of e ms))
        → AllByRecursion (IsRow theta) (moved_of e ms)
    by_test true (here, more) = more
    by_test false each' = each'

moved_wide : (theta : Meaning) (e : ℕ) (ms : List ToJoiner) → NeverFalls e ms
    → ((epoch : ℕ) → AllByRecursion (IsRow theta) (moved_of epoch ms)) → AllByRecursion (HasRow theta) ms
moved_wide theta e [] never each = tt
moved_wide theta e (Tup x ∷ ms) never each = absurd never
moved_wide theta e (Turn epoch shift ∷ ms) never each = absurd never
moved_wide theta e (End ∷ ms) never each = absurd never
moved_wide theta e (Moved epoch x ∷ ms) never each = (
  head_moved theta epoch x ms (each epoch),
  moved_wide theta epoch ms never.1 (λ n. rest_moved theta n epoch x ms (each n)),
)
moved_wide theta e (MovedEnd epoch ∷ ms) never each = (tt, moved_wide theta (epoch + 1) ms never.1 each)

no_length : {X : Type 0} (P : X → Type 0) (xs : List X) → length xs ≡ 0 → AllByRecursion P xs
no_length P [] none = tt
no_length P (x ∷ xs) none = absurd (omega arith)

-- ---- of a family

module _ (input : Input) (setting : Setting) (valid : IsValid input setting) (rest : Rest)
    (stands : IsRestFor input setting rest) (f : Family) (agrees : IsAgreeing input setting rest f) where
  abbrev theta : Meaning
  theta = input.theta

  abbrev fits : Tuple → Bool
  fits t = length t.cells == width_of theta t.side

  abbrev bad : Tuple → ℕ
  bad t = only_if (not (fits t)) 1

  none_bad : sum_by bad (rows input setting valid rest stands f agrees) ≡ 0
  none_bad =
      let wide : (side : Side) (i : ℕ) → i < row_count input side
      → length (cells_of input side i) ≡ width_of theta side =
      λ side i low. (valid.of_input.sides side).rows i [] low in
      let none : (side : Side) → total (row_count input side) (λ i. bad (tuple_of input 0 (place_at side i))) ≡ 0 =
      λ side.
      total_same (row_count input side) (λ i. bad (tuple_of input 0 (place_at side i))) (λ i. 0)
      (λ i low.
      ap (λ c. only_if (not c) 1) (eq-eqb (length (cells_of input side i)) (width_of theta side) (wide side i low)))
      ∙ total-zero (row_count input side) in
      let of_r = none R in
      let of_s = none S in
      let below = known_within input setting valid rest agrees.taken_by_feeder bad (λ e t. refl) in
      omega arith

  -- what is within the rows that feeders were granted has its widths
  within_wide : (ts : List Tuple) → IsWithinBag ts (rows input setting valid rest stands f agrees)
      → AllByRecursion (IsRow theta) ts
  within_wide ts within =
      let few = within.sums bad in
      let none = none_bad in
      weaken (λ t. fits t ≡ true) (IsRow theta) (λ t is. eqb-true (length t.cells) (width_of theta t.side) is) ts
      (none_fails fits ts (omega arith))

  -- each row that a feeder sent has its width
  pub feeders_wide : (p j : ℕ) → p < setting.feeders → j < 2 ^ setting.k
      → AllByRecursion (HasRow theta) ((f.feeder p).to_joiner j)
  feeders_wide p j h h' =
      let all = rows input setting valid rest stands f agrees in
      let of_p : ℕ → List Tuple =
      λ q. granted rest.line.epoch (feeder_start input setting rest q).batches (agrees.taken_by_feeder q) in
      let its =
      all-part (IsRow theta) setting.feeders of_p p h
      (all-back (IsRow theta) (old_rows input rest.line) (gather setting.feeders of_p)
      (within_wide all (within-refl all))) in
      subst (AllByRecursion (HasRow theta)) (sym ((agrees.feeders p h).answered j h'))
      (answers_wide theta setting.k j rest.line.epoch rest.line.shift (feeder_start input setting rest p).batches
      (agrees.taken_by_feeder p) its)

  -- in each step
  step_wide : (i j e : ℕ) → i < 2 ^ setting.k → AllByRecursion (IsRow theta) (moved_of e ((f.joiner i).to_joiner j))
  step_wide i j e h =
      let law = agrees.joiners i h in
      let s = s_of input setting valid rest stands f agrees i in
      let t = t_of input setting valid rest stands f agrees i in
      let ms : ℕ → ℕ → List Tuple = λ q n. moved_of n ((f.joiner i).to_joiner q) in
      elim (cases_lt 0 (length (ms j e))) [
        | inl some ↦
            let is = law.moved_only j e some in
            let n = is.0 in
            let e' = rest.line.epoch + n in
            let its = ms (partner_of s t n) (e' + 1) in
            let held : Tuple → Bool = is_stored setting.k (shift input setting valid rest stands f agrees e') e' i in
            let kept = within-map (aged rest.line) (filtered_within (is_of (exchanged s t n)) (store s t n)) in
            let stored =
            stores_at_most input setting valid rest stands f agrees n i h (let low = is.2 in omega arith) in
            let all = filtered_within held (rows input setting valid rest stands f agrees) in
            let wide : AllByRecursion (IsRow theta) its =
            unmapped (IsRow theta) (aged rest.line) its (within_wide (map (aged rest.line) its)
            (IsWithinBag-trans (within-map (aged rest.line) (within_same (law.moved n is.2)))
            (IsWithinBag-trans kept (IsWithinBag-trans stored all)))) in
            subst (λ q. AllByRecursion (IsRow theta) (ms q e)) (sym is.3)
            (subst (λ m. AllByRecursion (IsRow theta) (ms (partner_of s t n) m)) (sym is.1) wide)
        | inr none ↦ no_length (IsRow theta) (ms j e) (omega arith)
      ]

  -- so has each that a joiner moved
  pub joiners_wide : (i j : ℕ) → i < 2 ^ setting.k → AllByRecursion (HasRow theta) ((f.joiner i).to_joiner j)
  joiners_wide i j h =
      moved_wide theta rest.line.epoch ((f.joiner i).to_joiner j) ((agrees.joiners i h).never_falls j)
      (λ e. step_wide i j e h)
