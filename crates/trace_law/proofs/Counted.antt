-- A lawful journal has counted each row.
use Rattle.std.proofs.Common.{◌≡◌, ℕ, suc, ◌+◌, ◌-◌, ◌*◌, ◌/◌, ◌%◌, ◌<◌, ◌≤◌, inl, inr, refl, sym, ◌∙◌, ap, subst}
use Rattle.std.proofs.Common.{arith, Bool, true, false, cond, ◌||◌, List, [], ◌∷◌, length, take, drop}
use Rattle.std.specs.Prelude.{map, filter, not, sum_by, count_by, ◌==◌, Option, Some, IsSome, is_some}
use Rattle.std.specs.List.{AllByRecursion, position_or_len}
use Rattle.std.proofs.lemmas.Bool.{cases_eq, cases_Bool, eq-eqb, ne_eqb, eqb-true, and_parts}
use Rattle.std.proofs.lemmas.Nat.{div_below, mod_below, div-add-mod'}
use Rattle.std.proofs.lemmas.Option.{slice_get-get_or}
use Rattle.std.proofs.lemmas.List.FromFn.{length-map-range_with_len}
use Rattle.std.proofs.lemmas.List.Sums.{sum_by-cons}
use Rattle.row_cells.specs.declared.table.Side.{Side}
use Rattle.row_cells.specs.declared.table.Side.TheVariants.{R, S}
use Rattle.row_cells.specs.Lists.{total}
use Rattle.row_cells.proofs.Bags.{only_if}
use Rattle.row_cells.proofs.Totals.{total_same, one_index, zeros}
use Rattle.row_tickets.specs.declared.place.Place.{Place}
use Rattle.row_tickets.specs.Share.{place_at}
use Rattle.migration_plan.specs.Steps.{same_side}
use Rattle.load_controller.specs.declared.line.Cause.{Cause}
use Rattle.load_controller.specs.declared.line.Cause.TheVariants.{Count}
use Rattle.load_controller.specs.declared.line.TurnLine.{TurnLine}
use Rattle.load_controller.specs.Journal.{begun, IsLawful, is_count_of, is_drain_of, causes_of, all_causes}
use Rattle.load_controller.specs.Journal.{count_epochs}
use Rattle.trace_law.specs.declared.input.Input.{Input}
use Rattle.trace_law.specs.declared.setting.Setting.{Setting}
use Rattle.trace_law.specs.Join.{row_count, is_before}
use Rattle.trace_law.specs.Batches.{same_place, size_of, stamp_of}
use Rattle.trace_law.specs.Validity.{IsValid}
use Rattle.trace_law.specs.Family.{Rest, is_old, own_rows, rules_of, batches, stamp_at}
use Rattle.trace_law.proofs.FoundOnce.{never}
use Rattle.trace_law.proofs.Shares.{own_total}
use Rattle.trace_law.proofs.StampOf.{own_is_own}

-- ---- as many counts as batches

one_more : (p : ℕ) (c : Cause) (cs : List Cause) → is_count_of p c ≡ true
    → count_by (is_count_of p) (c ∷ cs) ≡ 1 + count_by (is_count_of p) cs
one_more p c cs is =
    sum_by-cons (λ x. cond (is_count_of p x) 1 0) c cs ∙ ap (λ (b : Bool). cond b 1 0 + count_by (is_count_of p) cs) is

no_more : (p : ℕ) (c : Cause) (cs : List Cause) → is_count_of p c ≡ false
    → count_by (is_count_of p) (c ∷ cs) ≡ 0 + count_by (is_count_of p) cs
no_more p c cs is =
    sum_by-cons (λ x. cond (is_count_of p x) 1 0) c cs ∙ ap (λ (b : Bool). cond b 1 0 + count_by (is_count_of p) cs) is

counts_of : (p : ℕ) (journal : List TurnLine)
    → length (count_epochs p journal) ≡ count_by (is_count_of p) (causes_of p journal)
counts_of p [] = refl
counts_of p (line ∷ journal) = by_tests (is_count_of p line.cause) (is_drain_of p line.cause) refl (counts_of p journal)
  where
    epochs : List TurnLine → List ℕ
    epochs ls = map (λ (l : TurnLine). l.epoch) ls

    kept : List TurnLine
    kept = filter (λ l. is_count_of p l.cause) journal

    causes : List Cause
    causes = filter (λ c. is_count_of p c || is_drain_of p c) (map (λ (l : TurnLine). l.cause) journal)

    by_tests : (c d : Bool) → is_count_of p line.cause ≡ c → length (epochs kept) ≡ count_by (is_count_of p) causes
        → length (epochs (cond c (line ∷ kept) kept))
        ≡ count_by (is_count_of p) (cond (c || d) (line.cause ∷ causes) causes)
    by_tests true d is more = ap (λ n. suc n) more ∙ omega arith ∙ sym (one_more p line.cause causes is)
    by_tests false true is more = more ∙ omega arith ∙ sym (no_more p line.cause causes is)
    by_tests false false is more = more

counts_in_all : (p : ℕ) (sizes : List (ℕ × ℕ)) → count_by (is_count_of p) (all_causes p sizes) ≡ length sizes
counts_in_all p [] = refl
counts_in_all p (size ∷ sizes) =
    one_more p (Count p size.0 size.1) (all_causes p sizes) (eq-eqb p p refl) ∙ ap (λ n. 1 + n) (counts_in_all p sizes)
    ∙ omega arith

mapped_length : {X Y : Type 0} (g : X → Y) (xs : List X) → length (map g xs) ≡ length xs
mapped_length g [] = refl
mapped_length g (x ∷ xs) = let more = mapped_length g xs in omega arith

-- ---- each row is in a share

position_below : {X : Type 0} (test : X → Bool) (xs : List X) → 0 < sum_by (λ c. only_if (test c) 1) xs
    → position_or_len test xs < length xs
position_below test [] some = absurd (omega arith)
position_below test (x ∷ xs) some = elim (cases_Bool (test x)) [
  | inl is ↦ rw is (omega arith)
  | inr other ↦
      let all = sum_by-cons (λ c. only_if (test c) 1) x xs in
      let none : only_if (test x) 1 ≡ 0 = ap (λ t. only_if t 1) other in
      let more = position_below test xs (omega arith) in
      rw other (omega arith)
]

elsewhere : (a : Place) (xs : List Place) (feeders q : ℕ) → AllByRecursion (λ c. c.index % feeders ≡ q) xs
    → (a.index % feeders ≡ q → ⊥) → sum_by (λ c. only_if (same_place a c) 1) xs ≡ 0
elsewhere a [] feeders q each differ = refl
elsewhere a (c ∷ xs) feeders q (here, more) differ =
    let all = sum_by-cons (λ d. only_if (same_place a d) 1) c xs in
    let more = elsewhere a xs feeders q more differ in
    elim (cases_Bool (same_place a c)) [
      | inl same ↦
          absurd
          (differ
          (ap (λ i. i % feeders)
          (eqb-true a.index c.index (and_parts (same_side a.side c.side) (a.index == c.index) same).1) ∙ here))
      | inr other ↦ let none : only_if (same_place a c) 1 ≡ 0 = ap (λ t. only_if t 1) other in omega arith
    ]

swap : (c t : Bool) → only_if c (only_if t 1) ≡ only_if t (only_if c 1)
swap true true = refl
swap true false = refl
swap false true = refl
swap false false = refl

one_of : (line : TurnLine) (side : Side) (n i : ℕ) → i < n → is_before line side i ≡ false
    → total n (λ m. only_if (not (is_before line side m)) (only_if (i == m) 1)) ≡ 1
one_of line side n i low new =
    total_same n (λ m. only_if (not (is_before line side m)) (only_if (i == m) 1))
    (λ m. only_if (i == m) (only_if (not (is_before line side m)) 1))
    (λ m below. swap (not (is_before line side m)) (i == m))
    ∙ one_index n i (λ m. only_if (not (is_before line side m)) 1) low
    ∙ ap (λ c. only_if (not c) 1) new

one_in_all : (line : TurnLine) (rows_r rows_s : ℕ) (side : Side) (i : ℕ) → is_before line side i ≡ false
    → (side ≡ R → i < rows_r) → (side ≡ S → i < rows_s)
    → total rows_r
    (λ n. only_if (not (is_old line (place_at R n))) (only_if (same_place (place_at side i) (place_at R n)) 1))
    + total rows_s
    (λ n. only_if (not (is_old line (place_at S n))) (only_if (same_place (place_at side i) (place_at S n)) 1)) ≡ 1
one_in_all line rows_r rows_s R i new low low' =
    let here = one_of line R rows_r i (low refl) new in
    let none = zeros rows_s (λ n. only_if (not (is_before line S n)) 0) (λ n. never (not (is_before line S n))) in
    omega arith
one_in_all line rows_r rows_s S i new low low' =
    let here = one_of line S rows_s i (low' refl) new in
    let none = zeros rows_r (λ n. only_if (not (is_before line R n)) 0) (λ n. never (not (is_before line R n))) in
    omega arith

module _ (input : Input) (setting : Setting) (valid : IsValid input setting) (rest : Rest) (journal : List TurnLine)
    (law : IsLawful (rules_of setting) (begun rest.line) (λ p. map size_of (batches input setting rest.line p)) journal)
  where
    abbrev own : ℕ → List Place
    own p = own_rows input setting rest.line p

    abbrev count_in : Place → ℕ → ℕ
    count_in a q = sum_by (λ c. only_if (same_place a c) 1) (own q)

    in_own : (side : Side) (i : ℕ) → i < row_count input side → is_before rest.line side i ≡ false
        → 0 < count_in (place_at side i) (i % setting.feeders)
    in_own side i low new =
        let p = i % setting.feeders in
        let all =
        own_total input setting valid.some valid.batch rest (λ c. only_if (same_place (place_at side i) c) 1) in
        let one =
        one_in_all rest.line (row_count input R) (row_count input S) side i new
        (λ is. subst (λ x. i < row_count input x) is low) (λ is. subst (λ x. i < row_count input x) is low) in
        let only : total setting.feeders (count_in (place_at side i))
        ≡ total setting.feeders (λ q. only_if (p == q) (count_in (place_at side i) q)) =
        total_same setting.feeders (count_in (place_at side i)) (λ q. only_if (p == q) (count_in (place_at side i) q))
        (λ q h. elim (cases_eq p q) [
          | inl same ↦ sym (ap (λ t. only_if t (count_in (place_at side i) q)) (eq-eqb p q same))
          | inr differ ↦
              elsewhere (place_at side i) (own q) setting.feeders q (own_is_own input setting rest.line q)
              (λ is. differ (of_index side ∙ is))
              ∙ sym (ap (λ t. only_if t (count_in (place_at side i) q)) (ne_eqb p q differ))
        ]) in
        let here = one_index setting.feeders p (count_in (place_at side i)) (mod_below i setting.feeders valid.some) in
        omega arith
      where
        of_index : (side : Side) → i % setting.feeders ≡ (place_at side i).index % setting.feeders
        of_index side = refl

    as_many : (p : ℕ) → p < setting.feeders
        → length (count_epochs p journal) ≡ (length (own p) + setting.batch - 1) / setting.batch
    as_many p h =
        counts_of p journal ∙ ap (count_by (is_count_of p)) (law.counted p h)
        ∙ counts_in_all p (map size_of (batches input setting rest.line p))
        ∙ mapped_length size_of (batches input setting rest.line p)
        ∙ length-map-range_with_len (λ i. take setting.batch (drop (i * setting.batch) (own p))) 0
        ((length (own p) + setting.batch - 1) / setting.batch)

    new_counted : (side : Side) (i : ℕ) → i < row_count input side → is_before rest.line side i ≡ false
        → IsSome (stamp_of setting.feeders setting.batch own journal (place_at side i))
    new_counted side i low new =
        let p = i % setting.feeders in
        let size = setting.batch in
        let n = (length (own p) + size - 1) / size in
        let h = mod_below i setting.feeders valid.some in
        let at = position_below (same_place (place_at side i)) (own p) (in_own side i low new) in
        let place = position_or_len (same_place (place_at side i)) (own p) in
        let more = mod_below (length (own p) + size - 1) size valid.batch in
        let split = div-add-mod' (length (own p) + size - 1) size in
        let enough : length (own p) ≤ n * size = let some = valid.batch in omega arith in
        let number : place / size < length (count_epochs p journal) =
        subst (λ m. place / size < m) (sym (as_many p h)) (div_below place size n valid.batch (omega arith)) in
        ap is_some (slice_get-get_or (count_epochs p journal) (place / size) 0 number)

    -- each row has a stamp
    pub each_counted : (side : Side) (i : ℕ) → i < row_count input side
        → IsSome (stamp_at input setting rest.line journal (place_at side i))
    each_counted side i low =
        let counted : Option ℕ = stamp_of setting.feeders setting.batch own journal (place_at side i) in
        elim (cases_Bool (is_before rest.line side i)) [
          | inl old ↦ ap is_some (ap (λ t. cond t (Some rest.line.epoch) counted) old)
          | inr new ↦ ap is_some (ap (λ t. cond t (Some rest.line.epoch) counted) new) ∙ new_counted side i low new
        ]
