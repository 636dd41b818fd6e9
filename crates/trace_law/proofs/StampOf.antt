-- The rows that feeders were granted bear the stamps that the journal gives them.
use Rattle.std.proofs.Common.{◌≡◌, ℕ, zero, suc, ◌+◌, ◌-◌, ◌*◌, ◌/◌, ◌%◌, ◌<◌, ◌≤◌, inl, inr, refl, sym, ◌∙◌, ap, subst}
use Rattle.std.proofs.Common.{arith, Bool, true, false, cond, List, [], ◌∷◌, ◌++◌, length, length-append, append_assoc}
use Rattle.std.proofs.Common.{take, drop, get_or-drop, length-take, take-append-drop, drop-drop, length-drop, get_or}
use Rattle.std.specs.Prelude.{map, filter, not, sum_by, ◌==◌, nat_lt, flat_map, slice_get, max, Option, Some, None}
use Rattle.std.specs.List.{AllByRecursion, range_with_len, position_or_len}
use Rattle.std.proofs.lemmas.Bool.{cases_lt, cases_Bool, not-true, eqb-true, eq-eqb, ne_eqb}
use Rattle.std.proofs.lemmas.List.{drop_all, take_all}
use Rattle.std.proofs.lemmas.Nat.{div-mul-add}
use Rattle.std.proofs.lemmas.Option.{slice_get_past, slice_get-get_or}
use Rattle.std.proofs.lemmas.List.Sums.{sum_by-cons, sum_by-append}
use Rattle.row_cells.specs.declared.table.Side.{Side}
use Rattle.row_cells.specs.declared.table.Side.TheVariants.{R, S}
use Rattle.row_cells.proofs.Bags.{only_if}
use Rattle.epoch_tags.specs.declared.tuple.Tuple.{Tuple}
use Rattle.reshuffler_core.specs.Law.{stamped}
use Rattle.reshuffler_core.proofs.Arrivals.{granted}
use Rattle.load_controller.specs.declared.line.TurnLine.{TurnLine}
use Rattle.load_controller.specs.Journal.{count_epochs}
use Rattle.trace_law.specs.declared.input.Input.{Input}
use Rattle.trace_law.specs.Join.{row_count}
use Rattle.row_tickets.specs.declared.place.Feed.{Feed}
use Rattle.row_tickets.specs.declared.place.Place.{Place}
use Rattle.row_tickets.specs.Share.{share, share_of, indices, both_at, place_at}
use Rattle.trace_law.specs.Batches.{same_place, stamp_of}
use Rattle.row_tickets.specs.declared.place.Feed.TheVariants.{Alternate, RFirst, SFirst}
use Rattle.trace_law.specs.declared.setting.Setting.{Setting}
use Rattle.trace_law.specs.Validity.{IsValid}
use Rattle.trace_law.specs.Family.{Rest, IsRestFor, Family, IsAgreeing, HasItsStamp, tuple_of, is_old, all_places}
use Rattle.trace_law.specs.Family.{old_rows, own_rows, feeder_start, stamp_at}
use Rattle.trace_law.proofs.Cuts.{joined_again}
use Rattle.trace_law.proofs.RowSums.{shares_sum}
use Rattle.trace_law.proofs.Stamps.{grant_epochs, with_stamps, granted_is, epochs_taken}
use Rattle.trace_law.proofs.Sent.{rows}
use Rattle.trace_law.proofs.Lawful.{journal_is}
use Rattle.row_cells.specs.Lists.{total, gather}
use Rattle.row_cells.proofs.Within.{within-refl, filtered_within, all_pass}
use Rattle.row_cells.proofs.Everywhere.{weaken, all-back, all-append, all-gather, all-map, all-flat_map}
use Rattle.row_cells.proofs.Totals.{total_same, total-zero, one_index, total_part}

-- ---- a feeder's rows are its own

indices_of : (feeders p n : ℕ) → AllByRecursion (λ i. i % feeders ≡ p) (indices feeders p n)
indices_of feeders p n =
    weaken (λ i. (i % feeders == p) ≡ true) (λ i. i % feeders ≡ p) (λ i is. eqb-true (i % feeders) p is)
    (indices feeders p n)
    (all_pass (λ i. i % feeders == p) (indices feeders p n) (range_with_len 0 n) (within-refl (indices feeders p n)))

side_of : (feeders p : ℕ) (side : Side) (n : ℕ)
    → AllByRecursion (λ a. a.index % feeders ≡ p) (share_of feeders p side n)
side_of feeders p side n =
    all-map (λ (a : Place). a.index % feeders ≡ p) (place_at side) (indices feeders p n) (indices_of feeders p n)

both_of : (feeders p rows_r rows_s i : ℕ) → i % feeders ≡ p
    → AllByRecursion (λ a. a.index % feeders ≡ p) (both_at rows_r rows_s i)
both_of feeders p rows_r rows_s i is = by_tests (nat_lt i rows_r) (nat_lt i rows_s)
  where
    by_tests : (c d : Bool)
        → AllByRecursion (λ (a : Place). a.index % feeders ≡ p)
        (cond c ((place_at R i) ∷ []) [] ++ cond d ((place_at S i) ∷ []) [])
    by_tests true true = (is, (is, tt))
    by_tests true false = (is, tt)
    by_tests false true = (is, tt)
    by_tests false false = tt

-- the rows of a feeder's share are its own
pub share_is_own : (feed : Feed) (feeders p rows_r rows_s : ℕ)
    → AllByRecursion (λ a. a.index % feeders ≡ p) (share feed feeders p rows_r rows_s)
share_is_own Alternate feeders p rows_r rows_s =
    all-flat_map (λ (a : Place). a.index % feeders ≡ p) (both_at rows_r rows_s) (indices feeders p (max rows_r rows_s))
    (weaken (λ i. i % feeders ≡ p)
    (λ i. AllByRecursion (λ (a : Place). a.index % feeders ≡ p) (both_at rows_r rows_s i))
    (λ i is. both_of feeders p rows_r rows_s i is) (indices feeders p (max rows_r rows_s))
    (indices_of feeders p (max rows_r rows_s)))
share_is_own RFirst feeders p rows_r rows_s =
    all-append (λ (a : Place). a.index % feeders ≡ p) (share_of feeders p R rows_r) (share_of feeders p S rows_s)
    (side_of feeders p R rows_r) (side_of feeders p S rows_s)
share_is_own SFirst feeders p rows_r rows_s =
    all-append (λ (a : Place). a.index % feeders ≡ p) (share_of feeders p S rows_s) (share_of feeders p R rows_r)
    (side_of feeders p S rows_s) (side_of feeders p R rows_r)

-- ---- each once

one_at_most : (n m : ℕ) → total n (λ i. only_if (m == i) 1) ≤ 1
one_at_most n m = elim (cases_lt m n) [
  | inl low ↦ let is = one_index n m (λ i. 1) low in omega arith
  | inr high ↦
      let none : total n (λ i. only_if (m == i) 1) ≡ 0 =
      total_same n (λ i. only_if (m == i) 1) (λ i. 0) (λ i low. ap (λ t. only_if t 1) (ne_eqb m i (omega arith)))
      ∙ total-zero n in
      omega arith
]

at_most_one : (feed : Feed) (feeders p rows_r rows_s : ℕ) → 0 < feeders → p < feeders → (side : Side) (i : ℕ)
    → sum_by (λ c. only_if (same_place (place_at side i) c) 1) (share feed feeders p rows_r rows_s) ≤ 1
at_most_one feed feeders p rows_r rows_s some h R i =
    let part =
    total_part feeders p
    (λ q. sum_by (λ c. only_if (same_place (place_at R i) c) 1) (share feed feeders q rows_r rows_s)) h in
    let all = shares_sum feed feeders some (λ c. only_if (same_place (place_at R i) c) 1) rows_r rows_s in
    let here = one_at_most rows_r i in
    let none = total-zero rows_s in
    omega arith
at_most_one feed feeders p rows_r rows_s some h S i =
    let part =
    total_part feeders p
    (λ q. sum_by (λ c. only_if (same_place (place_at S i) c) 1) (share feed feeders q rows_r rows_s)) h in
    let all = shares_sum feed feeders some (λ c. only_if (same_place (place_at S i) c) 1) rows_r rows_s in
    let here = one_at_most rows_s i in
    let none = total-zero rows_r in
    omega arith

once_at_most : (feed : Feed) (feeders p rows_r rows_s : ℕ) → 0 < feeders → p < feeders → (a : Place)
    → sum_by (λ c. only_if (same_place a c) 1) (share feed feeders p rows_r rows_s) ≤ 1
once_at_most feed feeders p rows_r rows_s some h a = at_most_one feed feeders p rows_r rows_s some h a.side a.index

itself_at : (side : Side) (i : ℕ) → same_place (place_at side i) (place_at side i) ≡ true
itself_at R i = eq-eqb i i refl
itself_at S i = eq-eqb i i refl

itself : (a : Place) → same_place a a ≡ true
itself a = itself_at a.side a.index

-- what stands once stands at its place
position_at : {X : Type 0} (test : X → Bool) (xs : List X) (a : X) (ys : List X) → test a ≡ true
    → sum_by (λ c. only_if (test c) 1) (xs ++ a ∷ ys) ≤ 1 → position_or_len test (xs ++ a ∷ ys) ≡ length xs
position_at test [] a ys is once = rw is refl
position_at test (x ∷ xs) a ys is once =
    let all = sum_by-cons (λ c. only_if (test c) 1) x (xs ++ a ∷ ys) in
    elim (cases_Bool (test x)) [
      | inl also ↦
          let parts = sum_by-append (λ c. only_if (test c) 1) xs (a ∷ ys) in
          let parts' = sum_by-cons (λ c. only_if (test c) 1) a ys in
          let one : only_if (test a) 1 ≡ 1 = ap (λ t. only_if t 1) is in
          let two : only_if (test x) 1 ≡ 1 = ap (λ t. only_if t 1) also in
          absurd (omega arith)
      | inr other ↦
          let more = position_at test xs a ys is (omega arith) in
          rw other (ap (λ n. 1 + n) more ∙ omega arith)
    ]

-- ---- batch by batch

-- a tuple's row
abbrev pub row_place : Tuple → Place
row_place t = place_at t.side t.index

stamped_as : (input : Input) (σ : Place → Option ℕ) (e : ℕ) (batch : List Place)
    → AllByRecursion (λ c. σ (place_at c.side c.index) ≡ Some e) batch
    → AllByRecursion (λ t. σ (row_place t) ≡ Some t.stamp) (map (stamped e) (map (tuple_of input 0) batch))
stamped_as input σ e [] each = tt
stamped_as input σ e (c ∷ batch) (here, more) = (here, stamped_as input σ e batch more)

-- what a place counts for where it has a stamp
abbrev pub weigh : Input → (Tuple → ℕ) → Option ℕ → Place → ℕ
weigh input g None c = 0
weigh input g (Some e) c = g (tuple_of input e c)

stamped_sum : (input : Input) (g : Tuple → ℕ) (σ : Place → Option ℕ) (e : ℕ) (batch : List Place)
    → AllByRecursion (λ c. σ (place_at c.side c.index) ≡ Some e) batch
    → sum_by g (map (stamped e) (map (tuple_of input 0) batch))
    ≡ sum_by (λ c. weigh input g (σ (place_at c.side c.index)) c) batch
stamped_sum input g σ e [] each = refl
stamped_sum input g σ e (c ∷ batch) (here, more) =
    sum_by-cons g (tuple_of input e c) (map (stamped e) (map (tuple_of input 0) batch))
    ∙ ap (λ n. g (tuple_of input e c) + n) (stamped_sum input g σ e batch more)
    ∙ ap (λ o. weigh input g o c + sum_by (λ d. weigh input g (σ (place_at d.side d.index)) d) batch) (sym here)
    ∙ sym (sum_by-cons (λ d. weigh input g (σ (place_at d.side d.index)) d) c batch)

unstamped_sum : (input : Input) (g : Tuple → ℕ) (σ : Place → Option ℕ) (batch : List Place)
    → AllByRecursion (λ c. σ (place_at c.side c.index) ≡ None) batch
    → sum_by (λ c. weigh input g (σ (place_at c.side c.index)) c) batch ≡ 0
unstamped_sum input g σ [] each = refl
unstamped_sum input g σ (c ∷ batch) (here, more) =
    sum_by-cons (λ d. weigh input g (σ (place_at d.side d.index)) d) c batch
    ∙ ap (λ o. weigh input g o c + sum_by (λ d. weigh input g (σ (place_at d.side d.index)) d) batch) here
    ∙ omega (arith, unstamped_sum input g σ batch more)

module _ (input : Input) (size : ℕ) (own : List Place) (full : List ℕ) (σ : Place → Option ℕ)
    (places : (xs : List Place) (c : Place) (ys : List Place) → own ≡ xs ++ c ∷ ys
    → σ (place_at c.side c.index) ≡ slice_get full (length xs / size)) where
  abbrev piece : ℕ → List Place
  piece a = take size (drop (a * size) own)

  in_batch : (a : ℕ) (front todo post : List Place) (r : ℕ) → own ≡ front ++ todo ++ post → length front ≡ a * size + r
      → r + length todo ≤ size
      → AllByRecursion (λ c. σ (place_at c.side c.index) ≡ slice_get full a) todo
  in_batch a front [] post r joins at fits = tt
  in_batch a front (c ∷ todo) post r joins at fits =
      let low : r < size = omega arith in
      let next : own ≡ (front ++ c ∷ []) ++ todo ++ post =
      joins ∙ append_assoc front (c ∷ todo) post ∙ sym (append_assoc front (c ∷ []) (todo ++ post))
      ∙ sym (append_assoc (front ++ c ∷ []) todo post) in
      let more : length (front ++ c ∷ []) ≡ a * size + (r + 1) = length-append front (c ∷ []) ∙ omega arith in (
        places front c (todo ++ post) (joins ∙ append_assoc front (c ∷ todo) post)
            ∙ ap (λ n. slice_get full (n / size)) at ∙ ap (slice_get full) (div-mul-add a size r low),
        in_batch a (front ++ c ∷ []) todo post (r + 1) next more (omega arith),
      )

  -- the rows of batch a have the stamp of the count of that number, if there is one
  of_piece : (a : ℕ) → AllByRecursion (λ c. σ (place_at c.side c.index) ≡ slice_get full a) (piece a)
  of_piece a = elim (cases_lt (length own) (a * size)) [
    | inl past ↦
        let none : piece a ≡ [] =
        ap (take size) (drop_all (a * size) own (omega arith)) ∙ take_all size [] (omega arith) in
        subst (AllByRecursion (λ c. σ (place_at c.side c.index) ≡ slice_get full a)) (sym none) tt
    | inr within ↦
        let joins : own ≡ take (a * size) own ++ piece a ++ drop size (drop (a * size) own) =
        sym (take-append-drop (a * size) own)
        ∙ ap (λ xs. take (a * size) own ++ xs) (sym (take-append-drop size (drop (a * size) own)))
        ∙ sym (append_assoc (take (a * size) own) (piece a) (drop size (drop (a * size) own))) in
        let at = length-take (a * size) own in
        let few = length-take size (drop (a * size) own) in
        in_batch a (take (a * size) own) (piece a) (drop size (drop (a * size) own)) 0 joins (omega arith) (omega arith)
  ]

  abbrev pieces_from : ℕ → ℕ → List (List Tuple)
  pieces_from a m = map (λ batch. map (tuple_of input 0) batch) (map piece (range_with_len a m))

  first_is : (a e : ℕ) (es : List ℕ) → drop a full ≡ e ∷ es → slice_get full a ≡ Some e
  first_is a e es is =
      let first : a + 0 ≡ a = omega arith in
      let some : a < length full = omega (arith, length-drop a full, ap length is) in
      slice_get-get_or full a 0 some
      ∙ ap (λ x. Some x)
      (ap (λ n. get_or full n 0) (sym first) ∙ sym (get_or-drop a full 0 0) ∙ ap (λ xs. get_or xs 0 0) is)

  next_is : (a e : ℕ) (es : List ℕ) → drop a full ≡ e ∷ es → drop (a + 1) full ≡ es
  next_is a e es is = sym (drop-drop 1 a full) ∙ ap (drop 1) is

  of_first : (a e : ℕ) (es : List ℕ) → drop a full ≡ e ∷ es
      → AllByRecursion (λ c. σ (place_at c.side c.index) ≡ Some e) (piece a)
  of_first a e es is =
      weaken (λ c. σ (place_at c.side c.index) ≡ slice_get full a) (λ c. σ (place_at c.side c.index) ≡ Some e)
      (λ c known. known ∙ first_is a e es is) (piece a) (of_piece a)

  each_batch : (a m : ℕ) (es more : List ℕ) → drop a full ≡ es ++ more
      → AllByRecursion (λ t. σ (row_place t) ≡ Some t.stamp) (with_stamps es (pieces_from a m))
  each_batch a m [] more is = tt
  each_batch a zero (e ∷ es) more is = tt
  each_batch a (suc m) (e ∷ es) more is =
      all-append (λ t. σ (row_place t) ≡ Some t.stamp) (map (stamped e) (map (tuple_of input 0) (piece a)))
      (with_stamps es (pieces_from (a + 1) m))
      (stamped_as input σ e (piece a) (of_first a e (es ++ more) is))
      (each_batch (a + 1) m es more (next_is a e (es ++ more) is))

  abbrev its : (Tuple → ℕ) → Place → ℕ
  its g c = weigh input g (σ (place_at c.side c.index)) c

  -- what is stamped counts as the places that have a stamp
  batches_weigh : (g : Tuple → ℕ) (a m : ℕ) (es : List ℕ) → drop a full ≡ es
      → sum_by g (with_stamps es (pieces_from a m))
      ≡ sum_by (its g) (flat_map (λ ys. ys) (map piece (range_with_len a m)))
  batches_weigh g a zero [] is = refl
  batches_weigh g a zero (e ∷ es) is = refl
  batches_weigh g a (suc m) [] is =
      let past : slice_get full a ≡ None = slice_get_past full a (omega (arith, length-drop a full, ap length is)) in
      let none = unstamped_sum input g σ (piece a)
      (weaken (λ c. σ (place_at c.side c.index) ≡ slice_get full a) (λ c. σ (place_at c.side c.index) ≡ None)
      (λ c known. known ∙ past) (piece a) (of_piece a)) in
      let more = batches_weigh g (a + 1) m [] (sym (drop-drop 1 a full) ∙ ap (drop 1) is) in
      let parts = sum_by-append (its g) (piece a) (flat_map (λ ys. ys) (map piece (range_with_len (a + 1) m))) in
      let zero_left = no_stamps g (pieces_from (a + 1) m) in
      omega arith
    where
      no_stamps : (g : Tuple → ℕ) (bs : List (List Tuple)) → sum_by g (with_stamps [] bs) ≡ 0
      no_stamps g bs = refl
  batches_weigh g a (suc m) (e ∷ es) is =
      let here = stamped_sum input g σ e (piece a) (of_first a e es is) in
      let more = batches_weigh g (a + 1) m es (next_is a e es is) in
      let parts = sum_by-append (its g) (piece a) (flat_map (λ ys. ys) (map piece (range_with_len (a + 1) m))) in
      let parts' =
      sum_by-append g (map (stamped e) (map (tuple_of input 0) (piece a))) (with_stamps es (pieces_from (a + 1) m))
      in
      omega arith

-- ---- in every agreeing family

-- what holds of each element holds of those that a filter keeps
pub filtered : {X : Type 0} (P : X → Type 0) (keep : X → Bool) (xs : List X) → AllByRecursion P xs
    → AllByRecursion P (filter keep xs)
filtered P keep [] each = tt
filtered {X = X} P keep (x ∷ xs) (here, more) = by_test (keep x) (filtered P keep xs more)
  where
    by_test : (c : Bool) → AllByRecursion P (filter keep xs)
        → AllByRecursion P (cond c (x ∷ filter keep xs) (filter keep xs))
    by_test true more = (here, more)
    by_test false more = more

-- a feeder's rows of the wave are its own, none is from before the wave, and each stands there once
pub own_is_own : (input : Input) (setting : Setting) (line : TurnLine) (p : ℕ)
    → AllByRecursion (λ a. a.index % setting.feeders ≡ p) (own_rows input setting line p)
own_is_own input setting line p =
    let dealt = share setting.feed setting.feeders p (row_count input R) (row_count input S) in
    filtered (λ (a : Place). a.index % setting.feeders ≡ p) (λ a. not (is_old line a)) dealt
    (share_is_own setting.feed setting.feeders p (row_count input R) (row_count input S))

own_is_new : (input : Input) (setting : Setting) (line : TurnLine) (p : ℕ)
    → AllByRecursion (λ a. not (is_old line a) ≡ true) (own_rows input setting line p)
own_is_new input setting line p =
    let dealt = share setting.feed setting.feeders p (row_count input R) (row_count input S) in
    all_pass (λ a. not (is_old line a)) (own_rows input setting line p) dealt
    (within-refl (own_rows input setting line p))

own_once : (input : Input) (setting : Setting) (line : TurnLine) (p : ℕ) → 0 < setting.feeders → p < setting.feeders
    → (a : Place) → sum_by (λ c. only_if (same_place a c) 1) (own_rows input setting line p) ≤ 1
own_once input setting line p some h a =
    let dealt = share setting.feed setting.feeders p (row_count input R) (row_count input S) in
    let fewer = (filtered_within (λ c. not (is_old line c)) dealt).sums (λ c. only_if (same_place a c) 1) in
    let once = once_at_most setting.feed setting.feeders p (row_count input R) (row_count input S) some h a in
    omega arith

-- the stamps of feeder p's rows
module _ (input : Input) (setting : Setting) (valid : IsValid input setting) (rest : Rest) (f : Family) (p : ℕ)
    (h : p < setting.feeders) where
  abbrev own : List Place
  own = own_rows input setting rest.line p

  abbrev full_epochs : List ℕ
  full_epochs = count_epochs p f.controller.journal

  abbrev stamp : Place → Option ℕ
  stamp c = stamp_at input setting rest.line f.controller.journal c

  places_are : (xs : List Place) (c : Place) (ys : List Place) → own ≡ xs ++ c ∷ ys
      → stamp (place_at c.side c.index) ≡ slice_get full_epochs (length xs / setting.batch)
  places_are xs c ys joins =
      let each =
      subst (AllByRecursion (λ (a : Place). a.index % setting.feeders ≡ p)) joins
      (own_is_own input setting rest.line p) in
      let its = (all-back (λ (a : Place). a.index % setting.feeders ≡ p) xs (c ∷ ys) each).0 in
      let fresh =
      subst (AllByRecursion (λ (a : Place). not (is_old rest.line a) ≡ true)) joins
      (own_is_new input setting rest.line p) in
      let new : is_old rest.line c ≡ false =
      not-true (is_old rest.line c)
      (all-back (λ (a : Place). not (is_old rest.line a) ≡ true) xs (c ∷ ys) fresh).0 in
      let once =
      subst (λ cs. sum_by (λ d. only_if (same_place c d) 1) cs ≤ 1) joins
      (own_once input setting rest.line p valid.some h c) in
      let counted : Option ℕ =
      stamp_of setting.feeders setting.batch (own_rows input setting rest.line) f.controller.journal c in
      ap (λ t. cond t (Some rest.line.epoch) counted) new
      ∙ ap
      (λ q.
      slice_get (count_epochs q f.controller.journal)
      (position_or_len (same_place c) (own_rows input setting rest.line q) / setting.batch)) its
      ∙ ap (λ n. slice_get full_epochs (n / setting.batch))
      (ap (position_or_len (same_place c)) joins ∙ position_at (same_place c) xs c ys (itself c) once)

  -- of batches that are stamped by the first of a feeder's counts
  pub stamps_at : (es more : List ℕ) → count_epochs p f.controller.journal ≡ es ++ more
      → AllByRecursion (HasItsStamp input setting rest f) (with_stamps es (feeder_start input setting rest p).batches)
  stamps_at es more is =
      each_batch input setting.batch own full_epochs stamp places_are 0
      ((length own + setting.batch - 1) / setting.batch) es more is

  -- what was counted of its rows
  pub counted_weigh : (g : Tuple → ℕ)
      → sum_by g (with_stamps full_epochs (feeder_start input setting rest p).batches)
      ≡ sum_by (λ c. weigh input g (stamp (place_at c.side c.index)) c) own
  counted_weigh g =
      batches_weigh input setting.batch own full_epochs stamp places_are g 0
      ((length own + setting.batch - 1) / setting.batch) full_epochs refl
      ∙ ap (sum_by (λ c. weigh input g (stamp (place_at c.side c.index)) c))
      (joined_again setting.batch own valid.batch)

-- a row from before the wave has the first epoch
pub old_stamp : (input : Input) (setting : Setting) (line : TurnLine) (journal : List TurnLine) (a : Place)
    → is_old line a ≡ true → stamp_at input setting line journal a ≡ Some line.epoch
old_stamp input setting line journal a old =
    let counted : Option ℕ = stamp_of setting.feeders setting.batch (own_rows input setting line) journal a in
    ap (λ t. cond t (Some line.epoch) counted) old

-- each row that a feeder granted has its stamp by the journal
pub granted_stamps : (input : Input) (setting : Setting) (valid : IsValid input setting) (rest : Rest)
    (stands : IsRestFor input setting rest) (f : Family) (agrees : IsAgreeing input setting rest f) (p : ℕ)
    → p < setting.feeders
    → AllByRecursion (HasItsStamp input setting rest f)
    (granted rest.line.epoch (feeder_start input setting rest p).batches (agrees.taken_by_feeder p))
granted_stamps input setting valid rest stands f agrees p h =
    let e0 = rest.line.epoch in
    let front = epochs_taken input setting rest f agrees p h in
    let is : count_epochs p f.controller.journal ≡ grant_epochs e0 (agrees.taken_by_feeder p) ++ front.rest =
    ap (count_epochs p) (journal_is input setting valid rest stands f agrees) ∙ sym front.joins in
    subst (AllByRecursion (HasItsStamp input setting rest f))
    (sym (granted_is e0 (feeder_start input setting rest p).batches (agrees.taken_by_feeder p)))
    (stamps_at input setting valid rest f p h (grant_epochs e0 (agrees.taken_by_feeder p)) front.rest is)

-- so has each row that is known
pub stamps_are : (input : Input) (setting : Setting) (valid : IsValid input setting) (rest : Rest)
    (stands : IsRestFor input setting rest) (f : Family) (agrees : IsAgreeing input setting rest f)
    → AllByRecursion (HasItsStamp input setting rest f) (rows input setting valid rest stands f agrees)
stamps_are input setting valid rest stands f agrees =
    let P = HasItsStamp input setting rest f in
    let line = rest.line in
    let older = filter (is_old line) (all_places input) in
    all-append P (old_rows input line)
    (gather setting.feeders
    (λ p. granted line.epoch (feeder_start input setting rest p).batches (agrees.taken_by_feeder p)))
    (all-map P (tuple_of input line.epoch) older
    (weaken (λ a. is_old line a ≡ true) (λ a. P (tuple_of input line.epoch a))
    (λ a old. old_stamp input setting line f.controller.journal (place_at a.side a.index) old) older
    (all_pass (is_old line) older (all_places input) (within-refl older))))
    (all-gather P setting.feeders
    (λ p. granted line.epoch (feeder_start input setting rest p).batches (agrees.taken_by_feeder p))
    (granted_stamps input setting valid rest stands f agrees))
