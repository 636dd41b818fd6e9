-- What the stores of a grid hold together, and what of it the joiners of a grown grid hold.
use Rattle.std.proofs.Common.{◌≡◌, ℕ, ◌+◌, ◌-◌, ◌*◌, ◌/◌, ◌%◌, ◌^◌, ◌<◌, ◌≤◌, inl, inr, refl, sym, ◌∙◌, ap}
use Rattle.std.proofs.Common.{ap₂, subst, arith, Bool, true, false, lt-ltb, List}
use Rattle.std.specs.Prelude.{map, filter, sum_by, nat_lt, ◌==◌}
use Rattle.std.proofs.Math.Nat.{mod-eq_of_lt}
use Rattle.std.proofs.lemmas.Bool.{cases_lt, le-ltb, ne_eqb, eqb-true}
use Rattle.std.proofs.lemmas.Nat.{shl-shr, shr_split, shr_below, mod_below, pow_pos, pow-add, mul-add-lt}
use Rattle.std.proofs.lemmas.List.Sums.{sum_by-append}
use Rattle.row_cells.specs.declared.table.Side.{Side}
use Rattle.row_cells.specs.declared.table.Side.TheVariants.{R, S}
use Rattle.row_cells.specs.Lists.{SameBag, gather, total}
use Rattle.row_cells.proofs.Bags.{only_if, sum-same, sum-filter, sum_of_map}
use Rattle.row_cells.proofs.Totals.{total_same, total-zero, one_index, exchange, sum_plus, sum-gather, zeros}
use Rattle.epoch_tags.specs.declared.tuple.Tuple.{Tuple}
use Rattle.grid_map.specs.Grid.{row_of}
use Rattle.grid_map.proofs.Halves.{high_row}
use Rattle.migration_plan.specs.Steps.{holds, holds_ticket, is_of, same_side}
use Rattle.store_parts.specs.Stored.{Stored}
use Rattle.load_controller.specs.declared.line.TurnLine.{TurnLine}
use Rattle.trace_law.specs.declared.input.Input.{Input}
use Rattle.trace_law.specs.Family.{aged, old_rows}
use Rattle.trace_law.proofs.FoundOnce.{never, turn_round}
use Rattle.actor_core.specs.Rests.{tuples_at}
use Rattle.elastic_grow.specs.Stores.{all_of, side_at}

-- ---- one of so many

-- one index of so many counts, if it is among them
one_of : (n m c : ℕ) → total n (λ i. only_if (i == m) c) ≡ only_if (nat_lt m n) c
one_of n m c = elim (cases_lt m n) [
  | inl low ↦
      total_same n (λ i. only_if (i == m) c) (λ i. only_if (m == i) c)
      (λ i below. ap (λ t. only_if t c) (turn_round i m))
      ∙ one_index n m (λ i. c) low
      ∙ ap (λ t. only_if t c) (sym (lt-ltb m n low))
  | inr high ↦
      total_same n (λ i. only_if (i == m) c) (λ i. 0)
      (λ i below. ap (λ t. only_if t c) (ne_eqb i m (λ same. absurd (omega arith))))
      ∙ total-zero n
      ∙ ap (λ t. only_if t c) (sym (le-ltb m n high))
]

-- the row of a ticket of R is one of the grid's
abbrev pub is_there : ℕ → ℕ → Side → ℕ → Bool
is_there k b R ticket = nat_lt (row_of k b ticket) (2 ^ (k - b))
is_there k b S ticket = true

-- of the joiners of the first column one holds a row of R, if its row is one of the grid's
column_holds : (k b : ℕ) (side : Side) (ticket c : ℕ)
    → total (2 ^ (k - b)) (λ q. only_if (holds_ticket k b (q * 2 ^ b) side ticket) (only_if (same_side R side) c))
    ≡ only_if (nat_lt (row_of k b ticket) (2 ^ (k - b))) (only_if (same_side R side) c)
column_holds k b R ticket c =
    total_same (2 ^ (k - b)) (λ q. only_if (holds_ticket k b (q * 2 ^ b) R ticket) c)
    (λ q. only_if (q == row_of k b ticket) c)
    (λ q low. ap (λ p. only_if (p == row_of k b ticket) c) (shl-shr q b))
    ∙ one_of (2 ^ (k - b)) (row_of k b ticket) c
column_holds k b S ticket c =
    zeros (2 ^ (k - b)) (λ q. only_if (holds_ticket k b (q * 2 ^ b) S ticket) 0)
    (λ q. never (holds_ticket k b (q * 2 ^ b) S ticket))
    ∙ sym (never (nat_lt (row_of k b ticket) (2 ^ (k - b))))

-- of the joiners of the first row one holds a row of S
row_holds : (k b : ℕ) (side : Side) (ticket c : ℕ)
    → total (2 ^ b) (λ q. only_if (holds_ticket k b (q * 1) side ticket) (only_if (same_side S side) c))
    ≡ only_if (same_side S side) c
row_holds k b R ticket c =
    zeros (2 ^ b) (λ q. only_if (holds_ticket k b (q * 1) R ticket) 0) (λ q. never (holds_ticket k b (q * 1) R ticket))
row_holds k b S ticket c =
    total_same (2 ^ b) (λ q. only_if (holds_ticket k b (q * 1) S ticket) c)
    (λ q. only_if (q == ticket % 2 ^ b) c)
    (λ q low. ap (λ p. only_if (p == ticket % 2 ^ b) c) (own q low))
    ∙ one_of (2 ^ b) (ticket % 2 ^ b) c
    ∙ ap (λ t. only_if t c) (lt-ltb (ticket % 2 ^ b) (2 ^ b) (mod_below ticket (2 ^ b) (pow_pos b)))
  where
    own : (q : ℕ) → q < 2 ^ b → (q * 1) % 2 ^ b ≡ q
    own q low = let one : q * 1 ≡ q = omega arith in ap (λ z. z % 2 ^ b) one ∙ mod-eq_of_lt low

-- a row counts by its side
by_side : (k b : ℕ) (side : Side) (ticket c : ℕ)
    → only_if (nat_lt (row_of k b ticket) (2 ^ (k - b))) (only_if (same_side R side) c) + only_if (same_side S side) c
    ≡ only_if (is_there k b side ticket) c
by_side k b R ticket c = omega arith
by_side k b S ticket c =
    ap (λ n. n + c) (never (nat_lt (row_of k b ticket) (2 ^ (k - b)))) ∙ omega arith

module _ (k b k' b' j : ℕ) (within : b ≤ k) (small : k ≤ 8) (within' : b' ≤ k') (small' : k' ≤ 8)
    (low : j < 2 ^ k') where
  -- what a joiner of the grown grid holds has a row of the old one
  pub there_if_held : (side : Side) (ticket : ℕ) → holds_ticket k' b' j side ticket ≡ true
      → is_there k b side ticket ≡ true
  there_if_held R ticket held =
      let x = 8 - (k' - b') in
      let same : j / 2 ^ b' ≡ ticket / 2 ^ x = eqb-true (j / 2 ^ b') (row_of k' b' ticket) held in
      let exponent : (k' - b') + b' ≡ k' = omega arith in
      let row : j / 2 ^ b' < 2 ^ (k' - b') = shr_below j (k' - b') b' (rw exponent low) in
      let high : ticket / 2 ^ x < 2 ^ (k' - b') = subst (λ n. n < 2 ^ (k' - b')) same row in
      let below = mul-add-lt (ticket / 2 ^ x) (2 ^ x) (ticket % 2 ^ x) (2 ^ (k' - b')) high
      (mod_below ticket (2 ^ x) (pow_pos x)) in
      let eight : x + (k' - b') ≡ 8 = omega arith in
      let all : 2 ^ x * 2 ^ (k' - b') ≡ 2 ^ 8 = sym (pow-add 2 x (k' - b')) ∙ ap (λ n. 2 ^ n) eight in
      let byte : ticket < 2 ^ 8 = subst (λ n. n < 2 ^ 8) (shr_split ticket x) (rw all at below) in
      lt-ltb (row_of k b ticket) (2 ^ (k - b)) (high_row k b ticket within small byte)
  there_if_held S ticket held = refl

-- ---- the stores of a grid

-- a part by tickets of tuples that are some rows, by a test that passes all of the part
pub part_is : (line : TurnLine) (m : Tuple → Bool) (k b j : ℕ) (ts old : List Tuple)
    → SameBag (map (aged line) ts) (filter m old) → ((t : Tuple) → holds k b j t ≡ true → m t ≡ true)
    → SameBag (map (aged line) (filter (holds k b j) ts)) (filter (holds k b j) old)
part_is line m k b j ts old same passes = record {
  sums = λ f.
      let w : Tuple → ℕ = λ t. only_if (holds k b j t) (f t) in
      sum_of_map f (aged line) (filter (holds k b j) ts)
      ∙ sum-filter (λ t. f (aged line t)) (holds k b j) ts
      ∙ sym (sum_of_map w (aged line) ts)
      ∙ same.sums w
      ∙ sum-filter w m old
      ∙ sum-same (λ t. only_if (m t) (w t)) w (λ t. inside (m t) (holds k b j t) (f t) (passes t)) old
      ∙ sym (sum-filter f (holds k b j) old);
}
  where
    inside : (a c : Bool) (n : ℕ) → (c ≡ true → a ≡ true) → only_if a (only_if c n) ≡ only_if c n
    inside a true n is = ap (λ x. only_if x n) (is refl)
    inside a false n is = never a

module _ (input : Input) (line : TurnLine) (k : ℕ) (within : line.shift ≤ k) (stores : List Stored)
    (stored : (j : ℕ) → j < 2 ^ k
    → SameBag (map (aged line) (tuples_at stores j)) (filter (holds k line.shift j) (old_rows input line))) where
  abbrev b : ℕ
  b = line.shift

  abbrev old : List Tuple
  old = old_rows input line

  -- the tuples of one side in one store
  side_sum : (side : Side) (i : ℕ) → i < 2 ^ k → (f : Tuple → ℕ)
      → sum_by (λ t. f (aged line t)) (side_at stores side i)
      ≡ sum_by (λ t. only_if (holds k b i t) (only_if (is_of side t) (f t))) old
  side_sum side i low f =
      sum-filter (λ t. f (aged line t)) (is_of side) (tuples_at stores i)
      ∙ sym (sum_of_map (λ t. only_if (is_of side t) (f t)) (aged line) (tuples_at stores i))
      ∙ (stored i low).sums (λ t. only_if (is_of side t) (f t))
      ∙ sum-filter (λ t. only_if (is_of side t) (f t)) (holds k b i) old

  power : 2 ^ b * 2 ^ (k - b) ≡ 2 ^ k
  power =
      let is : b + (k - b) ≡ k = omega arith in
      sym (pow-add 2 b (k - b)) ∙ ap (λ n. 2 ^ n) is

  in_column : (q : ℕ) → q < 2 ^ (k - b) → q * 2 ^ b < 2 ^ k
  in_column q low =
      let all = mul-add-lt q (2 ^ b) 0 (2 ^ (k - b)) low (pow_pos b) in
      let whole = power in
      omega (arith, all, whole)

  in_row : (q : ℕ) → q < 2 ^ b → q * 1 < 2 ^ k
  in_row q low =
      let all = mul-add-lt 0 (2 ^ b) q (2 ^ (k - b)) (pow_pos (k - b)) low in
      let whole = power in
      omega (arith, all, whole)

  sum_r : (f : Tuple → ℕ)
      → sum_by (λ t. f (aged line t)) (gather (2 ^ (k - b)) (λ q. side_at stores R (q * 2 ^ b)))
      ≡ sum_by (λ t. only_if (nat_lt (row_of k b t.ticket) (2 ^ (k - b))) (only_if (is_of R t) (f t))) old
  sum_r f =
      let g : ℕ → Tuple → ℕ = λ q t. only_if (holds k b (q * 2 ^ b) t) (only_if (is_of R t) (f t)) in
      sum-gather (λ t. f (aged line t)) (2 ^ (k - b)) (λ q. side_at stores R (q * 2 ^ b))
      ∙ total_same (2 ^ (k - b)) (λ q. sum_by (λ t. f (aged line t)) (side_at stores R (q * 2 ^ b)))
      (λ q. sum_by (g q) old) (λ q low. side_sum R (q * 2 ^ b) (in_column q low) f)
      ∙ exchange (2 ^ (k - b)) g old
      ∙ sum-same (λ t. total (2 ^ (k - b)) (λ q. g q t))
      (λ t. only_if (nat_lt (row_of k b t.ticket) (2 ^ (k - b))) (only_if (is_of R t) (f t)))
      (λ t. column_holds k b t.side t.ticket (f t)) old

  sum_s : (f : Tuple → ℕ)
      → sum_by (λ t. f (aged line t)) (gather (2 ^ b) (λ q. side_at stores S (q * 1)))
      ≡ sum_by (λ t. only_if (is_of S t) (f t)) old
  sum_s f =
      let g : ℕ → Tuple → ℕ = λ q t. only_if (holds k b (q * 1) t) (only_if (is_of S t) (f t)) in
      sum-gather (λ t. f (aged line t)) (2 ^ b) (λ q. side_at stores S (q * 1))
      ∙ total_same (2 ^ b) (λ q. sum_by (λ t. f (aged line t)) (side_at stores S (q * 1)))
      (λ q. sum_by (g q) old) (λ q low. side_sum S (q * 1) (in_row q low) f)
      ∙ exchange (2 ^ b) g old
      ∙ sum-same (λ t. total (2 ^ b) (λ q. g q t)) (λ t. only_if (is_of S t) (f t))
      (λ t. row_holds k b t.side t.ticket (f t)) old

  -- the first column's rows of R and the first row's of S are all rows
  pub all_rows : (ts : List Tuple) → SameBag ts (all_of k b stores)
      → SameBag (map (aged line) ts) (filter (λ t. is_there k b t.side t.ticket) old)
  all_rows ts same = record {
    sums = λ f.
        let g : Tuple → ℕ = λ t. f (aged line t) in
        let r : Tuple → ℕ = λ t. only_if (nat_lt (row_of k b t.ticket) (2 ^ (k - b))) (only_if (is_of R t) (f t)) in
        let s : Tuple → ℕ = λ t. only_if (is_of S t) (f t) in
        sum_of_map f (aged line) ts
        ∙ same.sums g
        ∙ sum_by-append g (gather (2 ^ (k - b)) (λ q. side_at stores R (q * 2 ^ b)))
        (gather (2 ^ b) (λ q. side_at stores S (q * 1)))
        ∙ ap₂ (λ x y. x + y) (sum_r f) (sum_s f)
        ∙ sum_plus r s old
        ∙ sum-same (λ t. r t + s t) (λ t. only_if (is_there k b t.side t.ticket) (f t))
        (λ t. by_side k b t.side t.ticket (f t)) old
        ∙ sym (sum-filter f (λ t. is_there k b t.side t.ticket) old);
  }
