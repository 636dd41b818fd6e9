-- How many pairs each joiner makes.
use Rattle.std.proofs.Common.{◌≡◌, ℕ, suc, subst, ◌+◌, ◌<◌, ◌≤◌, ◌^◌, max, refl, sym, ◌∙◌, ap, arith, Bool, true, false}
use Rattle.std.proofs.Common.{cond, ◌&&◌, ◌||◌, List, [], ◌∷◌, ◌++◌, length, reverse}
use Rattle.std.specs.Prelude.{filter, not, sum_by, unwrap_or, ◌==◌, nat_le}
use Rattle.std.specs.List.{AllByRecursion, list_any}
use Rattle.std.proofs.lemmas.Bool.{eqb-true}
use mathlib.Core.List.{reverse-cons}
use Rattle.std.proofs.lemmas.List.Sums.{sum_by-cons, sum_by-append}
use Rattle.row_tickets.specs.declared.place.Place.{Place}
use Rattle.row_tickets.specs.Share.{place_at}
use Rattle.row_cells.specs.declared.table.Side.{Side}
use Rattle.row_cells.specs.declared.table.Side.TheVariants.{R, S}
use Rattle.row_cells.specs.Lists.{SameBag, gather, total}
use Rattle.row_cells.proofs.Bags.{only_if, sum-same, sum-filter, SameBag-trans}
use Rattle.epoch_tags.specs.declared.tuple.Tuple.{Tuple}
use Rattle.epoch_tags.specs.declared.tuple.Pair.{Pair}
use Rattle.epoch_tags.specs.Messages.{found_before_fin}
use Rattle.grid_map.specs.Grid.{meet, holds_r, holds_s}
use Rattle.grid_map.proofs.Halves.{meets}
use Rattle.migration_plan.specs.Steps.{holds, holds_ticket, is_of, same_side}
use Rattle.joiner_law.specs.Law.{opened, pairs_by, pair_of, is_greater_stamp}
use Rattle.load_controller.specs.declared.line.TurnLine.{TurnLine}
use Rattle.load_controller.specs.Journal.{begun, shift_at}
use Rattle.load_controller.proofs.Shifts.{each_shift}
use Rattle.trace_law.specs.declared.input.Input.{Input}
use Rattle.trace_law.specs.Join.{is_before, has_new, nested_loop, row_count, ticket_of, meets_in, made, matches_of}
use Rattle.trace_law.specs.declared.setting.Setting.{Setting}
use Rattle.trace_law.specs.Validity.{IsValid}
use Rattle.trace_law.specs.Family.{Rest, IsRestFor, Family, IsAgreeing, IsFinished, tuple_of, cells_of, rules_of}
use Rattle.trace_law.specs.Family.{HasItsStamp, shift_of, stamp_in, is_old, all_places, old_rows}
use Rattle.trace_law.proofs.Stores.{is_stored}
use Rattle.trace_law.proofs.FoundOnce.{sum-pairs, sum-pairs_by, finds, IsStamped, at_epoch, never, turn_round}
use Rattle.trace_law.proofs.Loop.{joins_of, loop_pair, loop_sum, old_pairs, either}
use Rattle.trace_law.proofs.Sent.{shift, rows, s_of, t_of}
use Rattle.trace_law.proofs.Finished.{E, base, its, finds_of, opened_is, found_all, rows_stamped, taken_of}
use Rattle.trace_law.proofs.Again.{known_all}
use Rattle.trace_law.proofs.Aged.{everywhere}
use Rattle.trace_law.proofs.NewPairs.{pairs-aged, same_pairs}
use Rattle.trace_law.proofs.Journals.{begins}
use Rattle.trace_law.proofs.Lawful.{journal_is}
use Rattle.trace_law.proofs.StampOf.{stamps_are, old_stamp}
use Rattle.row_cells.proofs.Everywhere.{all-map, all-reverse}
use Rattle.row_cells.proofs.Totals.{sum_plus, total_same, total-zero, sum-gather, exchange, one_index, sum_same_on}

-- ---- at one pair of tuples

swap : (a c : Bool) (n : ℕ) → only_if a (only_if c n) ≡ only_if c (only_if a n)
swap true c n = refl
swap false true n = refl
swap false false n = refl

module _ (k E : ℕ) (b : ℕ → ℕ) (j : ℕ) where
  none_at : (g : ℕ → ℕ) → ((e : ℕ) → g e ≡ 0) → total (suc E) g ≡ 0
  none_at g each = total_same (suc E) g (λ e. 0) (λ e low. each e) ∙ total-zero (suc E)

  -- it is found here where the two meet here, at the greater stamp
  in_joiner : (side_r side_q : Side) (tr tq sr sq n : ℕ) (m : Bool) → sr ≤ E → sq ≤ E
      → total (suc E)
      (λ e.
      only_if (nat_le sr e && holds_ticket k (b e) j side_r tr)
      (only_if (same_side R side_r)
      (only_if (nat_le sq e && holds_ticket k (b e) j side_q tq)
      (only_if (same_side S side_q && (m && (max sr sq == e))) n))))
      ≡ only_if (same_side R side_r) (only_if (same_side S side_q && m) (only_if (meet k (b (max sr sq)) tr tq == j) n))
  in_joiner R S tr tq sr sq n m old_r old_q =
      total_same (suc E)
      (λ e.
      only_if (nat_le sr e && holds_r k (b e) j tr)
      (only_if (nat_le sq e && holds_s (b e) j tq) (only_if (m && (max sr sq == e)) n)))
      (λ e. only_if (max sr sq == e) (only_if (holds_r k (b e) j tr && holds_s (b e) j tq) (only_if m n)))
      (λ e low. at_epoch sr sq e n (holds_r k (b e) j tr) (holds_s (b e) j tq) m)
      ∙ one_index (suc E) (max sr sq) (λ e. only_if (holds_r k (b e) j tr && holds_s (b e) j tq) (only_if m n))
      (omega arith)
      ∙ ap (λ t. only_if t (only_if m n))
      (meets k (b (max sr sq)) j tr tq ∙ turn_round j (meet k (b (max sr sq)) tr tq))
      ∙ swap (meet k (b (max sr sq)) tr tq == j) m n
  in_joiner R R tr tq sr sq n m old_r old_q =
      none_at (λ e. only_if (nat_le sr e && holds_r k (b e) j tr) (only_if (nat_le sq e && holds_r k (b e) j tq) 0))
      (λ e. ap (λ x. only_if (nat_le sr e && holds_r k (b e) j tr) x) (never (nat_le sq e && holds_r k (b e) j tq))
      ∙ never (nat_le sr e && holds_r k (b e) j tr))
  in_joiner S side_q tr tq sr sq n m old_r old_q =
      none_at (λ e. only_if (nat_le sr e && holds_s (b e) j tr) 0) (λ e. never (nat_le sr e && holds_s (b e) j tr))

-- what one pair weighs in joiner j
abbrev pub weight_in : (Tuple → Tuple → Bool) → ℕ → (ℕ → ℕ) → ℕ → (Pair → ℕ) → Tuple → Tuple → ℕ
weight_in matches k b j f r q =
    only_if (is_of R r)
    (only_if (is_of S q && matches r q)
    (only_if (meet k (b (max r.stamp q.stamp)) r.ticket q.ticket == j) (f (pair_of r q))))

joiner_sum : (matches : Tuple → Tuple → Bool) (k E : ℕ) (b : ℕ → ℕ) (all : List Tuple) (j : ℕ)
    → AllByRecursion (IsStamped E) all → (f : Pair → ℕ)
    → sum_by f (gather (suc E) (finds matches k b all j)) ≡ sum_by (λ r. sum_by (weight_in matches k b j f r) all) all
joiner_sum matches k E b all j stamped f =
    let weight : ℕ → Tuple → Tuple → ℕ =
    λ e r q.
    only_if (is_stored k (b e) e j r)
    (only_if (is_of R r)
    (only_if (is_stored k (b e) e j q)
    (only_if (is_of S q && (matches r q && is_greater_stamp e r q)) (f (pair_of r q))))) in
    sum-gather f (suc E) (finds matches k b all j)
    ∙ total_same (suc E) (λ e. sum_by f (finds matches k b all j e)) (λ e. sum_by (λ r. sum_by (weight e r) all) all)
    (λ e low. sum-pairs_by f (λ r q. matches r q && is_greater_stamp e r q) (is_stored k (b e) e j) all)
    ∙ exchange (suc E) (λ e r. sum_by (weight e r) all) all
    ∙ sum_same_on (IsStamped E) (λ r. total (suc E) (λ e. sum_by (weight e r) all))
    (λ r. sum_by (weight_in matches k b j f r) all)
    (λ r old_r. exchange (suc E) (λ e. weight e r) all
    ∙ sum_same_on (IsStamped E) (λ q. total (suc E) (λ e. weight e r q)) (weight_in matches k b j f r)
    (λ q old_q.
    in_joiner k E b j r.side q.side r.ticket q.ticket r.stamp q.stamp (f (pair_of r q)) (matches r q)
    old_r.0 old_q.0) all stamped) all stamped

-- ---- of the pairs that a joiner began with

-- two tuples are held by the one joiner in which they meet
in_base : (k b j : ℕ) (side_r side_q : Side) (tr tq n : ℕ) (m : Bool)
    → only_if (holds_ticket k b j side_r tr)
    (only_if (same_side R side_r) (only_if (holds_ticket k b j side_q tq) (only_if (same_side S side_q && m) n)))
    ≡ only_if (same_side R side_r) (only_if (same_side S side_q && m) (only_if (meet k b tr tq == j) n))
in_base k b j R S tr tq n m =
    both (holds_r k b j tr) (holds_s b j tq) m
    ∙ ap (λ t. only_if m (only_if t n)) (meets k b j tr tq ∙ turn_round j (meet k b tr tq))
  where
    both : (a c m : Bool) → only_if a (only_if c (only_if m n)) ≡ only_if m (only_if (a && c) n)
    both true true true = refl
    both true true false = refl
    both true false true = refl
    both true false false = refl
    both false c true = refl
    both false c false = refl
in_base k b j R R tr tq n m = ap (only_if (holds_r k b j tr)) (never (holds_r k b j tq)) ∙ never (holds_r k b j tr)
in_base k b j S side_q tr tq n m = never (holds_s b j tr)

-- ---- the journal in either order

any-append : (test : TurnLine → Bool) (xs ys : List TurnLine)
    → list_any test (xs ++ ys) ≡ (list_any test xs || list_any test ys)
any-append test [] ys = refl
any-append test (x ∷ xs) ys =
    ap (λ t. test x || t) (any-append test xs ys) ∙ regroup (test x) (list_any test xs) (list_any test ys)
  where
    regroup : (a c d : Bool) → (a || (c || d)) ≡ ((a || c) || d)
    regroup true c d = refl
    regroup false c d = refl

any-reverse : (test : TurnLine → Bool) (xs : List TurnLine) → list_any test (reverse xs) ≡ list_any test xs
any-reverse test [] = refl
any-reverse test (x ∷ xs) =
    ap (list_any test) (reverse-cons x xs) ∙ any-append test (reverse xs) (x ∷ [])
    ∙ ap (λ t. t || (test x || false)) (any-reverse test xs) ∙ turned (list_any test xs) (test x)
  where
    turned : (a c : Bool) → (a || (c || false)) ≡ (c || a)
    turned true true = refl
    turned true false = refl
    turned false true = refl
    turned false false = refl

shift_found : (g : ℕ → ℕ) (fallback e : ℕ) (xs : List TurnLine) → AllByRecursion (λ l. l.shift ≡ g l.epoch) xs
    → shift_at fallback e xs ≡ cond (list_any (λ l. l.epoch == e) xs) (g e) fallback
shift_found g fallback e [] each = refl
shift_found g fallback e (line ∷ xs) (here, more) =
    by_test (line.epoch == e) (λ is. here ∙ ap g (eqb-true line.epoch e is)) (shift_found g fallback e xs more)
  where
    by_test : (t : Bool) → (t ≡ true → line.shift ≡ g e)
        → shift_at fallback e xs ≡ cond (list_any (λ (l : TurnLine). l.epoch == e) xs) (g e) fallback
        → cond t line.shift (shift_at fallback e xs)
        ≡ cond (t || list_any (λ (l : TurnLine). l.epoch == e) xs) (g e) fallback
    by_test true is more = is refl
    by_test false is more = more

-- ---- of a family

module _ (input : Input) (setting : Setting) (valid : IsValid input setting) (rest : Rest)
    (stands : IsRestFor input setting rest) (f : Family) (agrees : IsAgreeing input setting rest f) where
  -- the shift of an epoch is the same in the journal read forwards and backwards
  pub shift_same : (e : ℕ) → shift_of rest f e ≡ shift input setting valid rest stands f agrees e
  shift_same e =
      let b = rest.line.shift in
      let past = agrees.controller.line ∷ agrees.controller.past in
      let each =
      each_shift (rules_of setting) (begun rest.line)
      agrees.controller.line agrees.controller.past b agrees.controller.follows in
      ap (shift_at b e) (journal_is input setting valid rest stands f agrees)
      ∙ shift_found (λ n. shift_at b n past) b e (reverse past)
      (all-reverse (λ l. l.shift ≡ shift_at b l.epoch past) past each)
      ∙ ap (λ t. cond t (shift_at b e past) b) (any-reverse (λ l. l.epoch == e) past)
      ∙ sym (shift_found (λ n. shift_at b n past) b e past each)

  -- the stamp of a row
  abbrev pub σ : Side → ℕ → ℕ
  σ side i = stamp_in input setting rest f side i

  -- the row's tuple, with its stamp
  abbrev pub row_tuple : Side → ℕ → Tuple
  row_tuple side i = tuple_of input (σ side i) (place_at side i)

  -- a sum over all rows, each with its stamp
  abbrev pub stamped_sum : (Tuple → ℕ) → ℕ
  stamped_sum g =
      total (row_count input R) (λ i. g (row_tuple R i)) + total (row_count input S) (λ i. g (row_tuple S i))

  -- the known rows of a finished family are all rows, each with its stamp
  pub stamped_rows : IsFinished input setting rest f agrees → (g : Tuple → ℕ)
      → sum_by g (rows input setting valid rest stands f agrees) ≡ stamped_sum g
  stamped_rows finished g =
      let g' : Tuple → ℕ = λ t. g (record t { stamp = σ t.side t.index }) in
      sum_same_on (HasItsStamp input setting rest f) g g' (λ t is. ap (λ o. g (record t {
        stamp = unwrap_or o 0;
      })) (sym is)) (rows input setting valid rest stands f agrees)
      (stamps_are input setting valid rest stands f agrees)
      ∙ known_all input setting valid rest stands f agrees finished g' (λ e t. refl)

  -- a sum of zeros
  pub none_of : (n : ℕ) (g : ℕ → ℕ) → ((i : ℕ) → g i ≡ 0) → total n g ≡ 0
  none_of n g each = total_same n g (λ i. 0) (λ i low. each i) ∙ total-zero n

  -- a length is a sum of ones
  pub length_is : {X : Type 0} (xs : List X) → length xs ≡ sum_by (λ x. 1) xs
  length_is [] = refl
  length_is (x ∷ xs) = let more = length_is xs in let is = sum_by-cons (λ y. 1) x xs in omega arith

  -- ---- what a joiner began with

  abbrev line : TurnLine
  line = rest.line

  -- in joiner j, at the shift of an epoch
  abbrev meets_at : ℕ → ℕ → Pair → ℕ
  meets_at j b p = only_if (meet setting.k b (ticket_of input R p.i) (ticket_of input S p.j) == j) 1

  abbrev here : ℕ → Pair → ℕ
  here j p = meets_at j (shift input setting valid rest stands f agrees (max (σ R p.i) (σ S p.j))) p

  known_ticket : AllByRecursion (λ t. t.ticket ≡ ticket_of input t.side t.index) (old_rows input line)
  known_ticket =
      all-map (λ (t : Tuple). t.ticket ≡ ticket_of input t.side t.index) (tuple_of input line.epoch)
      (filter (is_old line) (all_places input))
      (everywhere (λ (place : Place). ticket_of input place.side place.index ≡ ticket_of input place.side place.index)
      (λ place. refl) (filter (is_old line) (all_places input)))

  as_rows : (j b i i' : ℕ) (side_r side_q : Side) (m : Bool)
      → only_if (same_side R side_r)
      (only_if (same_side S side_q && m)
      (only_if (meet setting.k b (ticket_of input side_r i) (ticket_of input side_q i') == j) 1))
      ≡ only_if (same_side R side_r) (only_if (same_side S side_q && m) (meets_at j b (loop_pair i i')))
  as_rows j b i i' R S m = refl
  as_rows j b i i' R R m = refl
  as_rows j b i i' S side_q m = refl

  old_has : (side : Side) (i : ℕ) → is_before line side i ≡ true → σ side i ≡ line.epoch
  old_has side i is = ap (λ o. unwrap_or o 0) (old_stamp input setting line f.controller.journal (place_at side i) is)

  old_here : (j : ℕ) (p : Pair)
      → only_if (not (has_new line p)) (meets_at j line.shift p) ≡ only_if (not (has_new line p)) (here j p)
  old_here j p = at (is_before line R p.i) (is_before line S p.j) refl refl
    where
      at : (a c : Bool) → is_before line R p.i ≡ a → is_before line S p.j ≡ c
          → only_if (not (not (a && c))) (meets_at j line.shift p) ≡ only_if (not (not (a && c))) (here j p)
      at true true r s =
          let first : line.epoch ≡ max (σ R p.i) (σ S p.j) = let is_r = old_has R p.i r in
          let is_s = old_has S p.j s in omega arith in
          ap (λ b. meets_at j b p)
          (begins input setting rest f agrees ∙ ap (λ e. shift input setting valid rest stands f agrees e) first)
      at true false r s = refl
      at false c r s = refl

  base_sum : (j : ℕ) → j < 2 ^ setting.k
      → sum_by (λ p. 1) (pairs_by (joins_of input) (rest.stores j) (rest.stores j))
      ≡ sum_by (λ p. only_if (not (has_new line p)) (here j p)) (nested_loop input)
  base_sum j h =
      let k = setting.k in
      let b = line.shift in
      let joins : Tuple → Tuple → Bool = λ r q. joins_of input r q in
      let old = old_rows input line in
      let one : Pair → ℕ = λ p. 1 in
      let g : Pair → ℕ = meets_at j b in
      let w : Tuple → Tuple → ℕ =
      λ r q.
      only_if (holds k b j r) (only_if (is_of R r) (only_if (holds k b j q) (only_if (is_of S q && joins r q) 1)))
      in
      let v : Tuple → Tuple → ℕ = λ r q. only_if (is_of R r) (only_if (is_of S q && joins r q) (g (pair_of r q))) in
      let Known : Tuple → Type 0 = λ t. t.ticket ≡ ticket_of input t.side t.index in
      let held : SameBag (pairs_by joins (rest.stores j) (rest.stores j))
      (pairs_by joins (filter (holds k b j) old) (filter (holds k b j) old)) =
      SameBag-trans (pairs-aged line joins joins (λ r q. refl) (rest.stores j) (rest.stores j))
      (same_pairs joins (stands.stored j h) (stands.stored j h)) in
      held.sums one
      ∙ sum-pairs_by one joins (holds k b j) old
      ∙ sum_same_on Known (λ r. sum_by (w r) old) (λ r. sum_by (v r) old)
      (λ r known_r. sum_same_on Known (w r) (v r)
      (λ q known_q.
      in_base k b j r.side q.side r.ticket q.ticket 1 (joins r q)
      ∙ ap (λ t. only_if (is_of R r) (only_if (is_of S q && joins r q) (only_if (meet k b t q.ticket == j) 1))) known_r
      ∙ ap
      (λ t.
      only_if (is_of R r)
      (only_if (is_of S q && joins r q) (only_if (meet k b (ticket_of input r.side r.index) t == j) 1))) known_q
      ∙ as_rows j b r.index q.index r.side q.side (joins r q)) old known_ticket) old known_ticket
      ∙ sym (sum-pairs g joins old old)
      ∙ (old_pairs input line).sums g
      ∙ sum-filter g (λ p. not (has_new line p)) (nested_loop input)
      ∙ sum-same (λ p. only_if (not (has_new line p)) (g p)) (λ p. only_if (not (has_new line p)) (here j p))
      (λ p. old_here j p) (nested_loop input)

  -- ---- what it made

  all_sum : (finished : IsFinished input setting rest f agrees) (j : ℕ)
      → sum_by (λ p. 1)
      (gather (suc (rest.line.epoch + E input setting valid rest stands f agrees finished))
      (finds_of input setting valid rest stands f agrees finished j)) ≡ sum_by (here j) (nested_loop input)
  all_sum finished j =
      let k = setting.k in
      let b' : ℕ → ℕ = λ e. shift input setting valid rest stands f agrees e in
      let all = rows input setting valid rest stands f agrees in
      let last = rest.line.epoch + E input setting valid rest stands f agrees finished in
      let one : Pair → ℕ = λ p. 1 in
      let W = weight_in (joins_of input) k b' j one in
      let loop : ℕ → ℕ → ℕ =
      λ i i'. only_if (matches_of input (cells_of input R i) (cells_of input S i')) (here j (loop_pair i i')) in
      let of_r : (i : ℕ) → stamped_sum (W (row_tuple R i)) ≡ total (row_count input S) (loop i) = λ i.
      let none = none_of (row_count input R) (λ i'. W (row_tuple R i) (row_tuple R i')) (λ i'. refl) in
      ap (λ n. n + total (row_count input S) (loop i)) none ∙ omega arith in
      let of_s : (i : ℕ) → stamped_sum (W (row_tuple S i)) ≡ 0 = λ i.
      let a = none_of (row_count input R) (λ i'. W (row_tuple S i) (row_tuple R i')) (λ i'. refl) in
      let c = none_of (row_count input S) (λ i'. W (row_tuple S i) (row_tuple S i')) (λ i'. refl) in
      omega arith in
      let none_s = none_of (row_count input S) (λ i. stamped_sum (W (row_tuple S i))) of_s in
      let all_r =
      total_same (row_count input R) (λ i. stamped_sum (W (row_tuple R i)))
      (λ i. total (row_count input S) (loop i)) (λ i low. of_r i) in
      let pairs_up : stamped_sum (λ r. stamped_sum (W r)) ≡ sum_by (here j) (nested_loop input) =
      ap (λ n. total (row_count input R) (λ i. stamped_sum (W (row_tuple R i))) + n) none_s ∙ ap (λ n. n + 0) all_r
      ∙ omega arith ∙ sym (loop_sum input (here j)) in
      joiner_sum (joins_of input) k last b' all j (rows_stamped input setting valid rest stands f agrees finished) one
      ∙ sum-same (λ r. sum_by (W r) all) (λ r. stamped_sum (W r)) (λ r. stamped_rows finished (W r)) all
      ∙ stamped_rows finished (λ r. stamped_sum (W r))
      ∙ pairs_up

  found_sum : (finished : IsFinished input setting rest f agrees) (j : ℕ) → j < 2 ^ setting.k
      → sum_by (λ p. 1) (its input setting valid rest stands f agrees finished j)
      ≡ sum_by (λ p. only_if (has_new line p) (here j p)) (nested_loop input)
  found_sum finished j h =
      let found_j = its input setting valid rest stands f agrees finished j in
      let base_j = base input setting valid rest stands f agrees finished j in
      let opens = opened_is input setting valid rest stands f agrees finished j 0 h valid.some in
      let both =
      subst
      (λ n.
      SameBag (found_j ++ base_j)
      (gather (suc (rest.line.epoch + n)) (finds_of input setting valid rest stands f agrees finished j))) opens
      (found_all input setting valid rest stands f agrees finished
      (opened (s_of input setting valid rest stands f agrees j) (t_of input setting valid rest stands f agrees j))
      j h (omega arith)) in
      let a = both.sums (λ p. 1) in
      let c = sum_by-append (λ (p : Pair). 1) found_j base_j in
      let d = base_sum j h in
      let e = all_sum finished j in
      let parts =
      sum_plus (λ p. only_if (has_new line p) (here j p)) (λ p. only_if (not (has_new line p)) (here j p))
      (nested_loop input) in
      let whole =
      sum-same (λ p. only_if (has_new line p) (here j p) + only_if (not (has_new line p)) (here j p)) (here j)
      (λ p. either (has_new line p) (here j p)) (nested_loop input) in
      omega arith

  -- each joiner found as many pairs as the formula says
  pub makes : IsFinished input setting rest f agrees → (j : ℕ) → j < 2 ^ setting.k
      → length (found_before_fin (f.collector.from_joiner j)) ≡ made input rest.line setting.k σ (shift_of rest f) j
  makes finished j h =
      let k = setting.k in
      let b = shift_of rest f in
      let one : Pair → ℕ = λ p. 1 in
      let count : Pair → ℕ = λ p. cond (meets_in input k σ b j p) 1 0 in
      length_is (found_before_fin (f.collector.from_joiner j))
      ∙ (taken_of input setting valid rest stands f agrees finished j h).sums one
      ∙ found_sum finished j h
      ∙ sum-same (λ p. only_if (has_new line p) (here j p)) (λ p. only_if (has_new line p) (count p))
      (λ p. ap (λ c. only_if (has_new line p) (meets_at j c p)) (sym (shift_same (max (σ R p.i) (σ S p.j)))))
      (nested_loop input)
      ∙ sym (sum-filter count (has_new line) (nested_loop input))
