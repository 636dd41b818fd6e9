-- One step of the stores: what is kept, what the partner moved and what arrived are together the next store.
use Rattle.std.proofs.Common.{◌≡◌, ℕ, ◌+◌, ◌<◌, ◌≤◌, refl, sym, ◌∙◌, arith, Bool, true, false, ◌&&◌, ◌||◌, List, ◌++◌}
use Rattle.std.specs.Prelude.{filter, ◌==◌, nat_le}
use Rattle.std.proofs.lemmas.Bool.{false≢true}
use Rattle.std.proofs.lemmas.Bool.Decides.{nat_tests}
use Rattle.row_cells.specs.declared.table.Side.{Side}
use Rattle.row_cells.specs.declared.table.Side.TheVariants.{R, S}
use Rattle.row_cells.specs.Lists.{SameBag}
use Rattle.std.proofs.lemmas.List.Sums.{sum_by-append}
use Rattle.row_cells.proofs.Bags.{only_if, sum-filter, sum_three}
use Rattle.epoch_tags.specs.declared.tuple.Tuple.{Tuple}
use Rattle.grid_map.specs.Grid.{holds_r, holds_s, partner}
use Rattle.grid_map.proofs.Halves.{rising_r, rising_r_apart, rising_s, falling_r, falling_s, falling_s_apart}
use Rattle.migration_plan.specs.Steps.{holds, holds_ticket, is_of, same_side}
pub use Rattle.trace_law.specs.Stored.{is_stored}

-- ---- at one tuple: h is what the joiner held, p what its partner held

exchanged_adds : (n : ℕ) (old new h p : Bool) → (h && p) ≡ false → (old && new) ≡ false
    → only_if (old && h) (only_if (h || p) n) + only_if (old && p) (only_if true n) + only_if (new && (h || p)) n
    ≡ only_if ((old || new) && (h || p)) n
exchanged_adds n true true h p one_holder one_age = absurd (false≢true (sym one_age))
exchanged_adds n old new true true one_holder one_age = absurd (false≢true (sym one_holder))
exchanged_adds n true false true false one_holder one_age = omega arith
exchanged_adds n true false false true one_holder one_age = omega arith
exchanged_adds n true false false false one_holder one_age = refl
exchanged_adds n false true true false one_holder one_age = omega arith
exchanged_adds n false true false true one_holder one_age = omega arith
exchanged_adds n false true false false one_holder one_age = refl
exchanged_adds n false false true false one_holder one_age = refl
exchanged_adds n false false false true one_holder one_age = refl
exchanged_adds n false false false false one_holder one_age = refl

kept_adds : (n : ℕ) (old new h h' any : Bool) → (h' ≡ true → h ≡ true) → (old && new) ≡ false
    → only_if (old && h) (only_if h' n) + only_if any (only_if false n) + only_if (new && h') n
    ≡ only_if ((old || new) && h') n
kept_adds n old new true h' any shrinks one_age = grind arith
kept_adds n old new false true any shrinks one_age = absurd (false≢true (shrinks refl))
kept_adds n old new false false any shrinks one_age = grind arith

one_age : (stamp e : ℕ) → (nat_le stamp e && (stamp == e + 1)) ≡ false
one_age stamp e = grind (arith, nat_tests)

next_age : (stamp e : ℕ) → nat_le stamp (e + 1) ≡ (nat_le stamp e || (stamp == e + 1))
next_age stamp e = grind (arith, nat_tests)

-- from shift b to b + 1, at one tuple: counted where the joiner had it and keeps it, where its partner had it and it is
-- of R, and where it is of epoch e + 1 and held at b + 1, it is counted once if it is of the next store, else never
pub at_rising : (k b e j : ℕ) → b < k → k ≤ 8 → (side : Side) (ticket stamp n : ℕ)
    → only_if (nat_le stamp e && holds_ticket k b j side ticket) (only_if (holds_ticket k (b + 1) j side ticket) n)
    + only_if (nat_le stamp e && holds_ticket k b (partner b j) side ticket) (only_if (same_side R side) n)
    + only_if ((stamp == e + 1) && holds_ticket k (b + 1) j side ticket) n
    ≡ only_if (nat_le stamp (e + 1) && holds_ticket k (b + 1) j side ticket) n
at_rising k b e j below small R ticket stamp n =
    rw (rising_r k b j ticket below small, next_age stamp e)
    (exchanged_adds n (nat_le stamp e) (stamp == e + 1) (holds_r k b j ticket) (holds_r k b (partner b j) ticket)
    (rising_r_apart k b j ticket) (one_age stamp e))
at_rising k b e j below small S ticket stamp n =
    rw (next_age stamp e)
    (kept_adds n (nat_le stamp e) (stamp == e + 1) (holds_s b j ticket) (holds_s (b + 1) j ticket)
    (nat_le stamp e && holds_s b (partner b j) ticket) (rising_s b j ticket) (one_age stamp e))

-- from shift b + 1 to b, at one tuple: the same, with S as the exchanged side
pub at_falling : (k b e j : ℕ) → b < k → k ≤ 8 → (side : Side) (ticket stamp n : ℕ)
    → only_if (nat_le stamp e && holds_ticket k (b + 1) j side ticket) (only_if (holds_ticket k b j side ticket) n)
    + only_if (nat_le stamp e && holds_ticket k (b + 1) (partner b j) side ticket) (only_if (same_side S side) n)
    + only_if ((stamp == e + 1) && holds_ticket k b j side ticket) n
    ≡ only_if (nat_le stamp (e + 1) && holds_ticket k b j side ticket) n
at_falling k b e j below small S ticket stamp n =
    rw (falling_s b j ticket, next_age stamp e)
    (exchanged_adds n (nat_le stamp e) (stamp == e + 1) (holds_s (b + 1) j ticket)
    (holds_s (b + 1) (partner b j) ticket) (falling_s_apart b j ticket) (one_age stamp e))
at_falling k b e j below small R ticket stamp n =
    rw (next_age stamp e)
    (kept_adds n (nat_le stamp e) (stamp == e + 1) (holds_r k (b + 1) j ticket) (holds_r k b j ticket)
    (nat_le stamp e && holds_r k (b + 1) (partner b j) ticket) (falling_r k b j ticket below small)
    (one_age stamp e))

-- ---- the step, from shift b to b' with the exchanged side x

module _ (all A B M N : List Tuple) (k b b' e j q : ℕ) (x : Side)
    (mine : SameBag A (filter (is_stored k b e j) all))
    (its : SameBag B (filter (is_stored k b e q) all))
    (moved : SameBag M (filter (is_of x) B))
    (arrived : SameBag N (filter (λ t. (t.stamp == e + 1) && holds k b' j t) all)) where
  step_sums : ((t : Tuple) (n : ℕ) → only_if (is_stored k b e j t) (only_if (holds k b' j t) n)
      + only_if (is_stored k b e q t) (only_if (is_of x t) n) + only_if ((t.stamp == e + 1) && holds k b' j t) n
      ≡ only_if (is_stored k b' (e + 1) j t) n)
      → SameBag (filter (holds k b' j) A ++ M ++ N) (filter (is_stored k b' (e + 1) j) all)
  step_sums each = record {
    sums = λ f.
        let kept = sum-filter f (holds k b' j) A ∙ mine.sums (λ t. only_if (holds k b' j t) (f t))
        ∙ sum-filter (λ t. only_if (holds k b' j t) (f t)) (is_stored k b e j) all in
        let came = moved.sums f ∙ sum-filter f (is_of x) B ∙ its.sums (λ t. only_if (is_of x t) (f t))
        ∙ sum-filter (λ t. only_if (is_of x t) (f t)) (is_stored k b e q) all in
        let new = arrived.sums f ∙ sum-filter f (λ t. (t.stamp == e + 1) && holds k b' j t) all in
        let three = sum_three (λ t. only_if (is_stored k b e j t) (only_if (holds k b' j t) (f t)))
        (λ t. only_if (is_stored k b e q t) (only_if (is_of x t) (f t)))
        (λ t. only_if ((t.stamp == e + 1) && holds k b' j t) (f t))
        (λ t. only_if (is_stored k b' (e + 1) j t) (f t)) (λ t. each t (f t)) all in
        let parts = sum_by-append f (filter (holds k b' j) A ++ M) N in
        let parts' = sum_by-append f (filter (holds k b' j) A) M in
        let whole = sum-filter f (is_stored k b' (e + 1) j) all in
        rw (parts, parts', kept, came, new, whole) three;
  }

module _ (all A B M N : List Tuple) (k b e j : ℕ) where
  -- where the joiner and its partner each have stored all that they hold at b, and all that the partner had moved
  -- and all that feeders sent has come, the joiner has stored all that it holds at the next shift
  pub rising_step : b < k → k ≤ 8
      → SameBag A (filter (is_stored k b e j) all) → SameBag B (filter (is_stored k b e (partner b j)) all)
      → SameBag M (filter (is_of R) B) → SameBag N (filter (λ t. (t.stamp == e + 1) && holds k (b + 1) j t) all)
      → SameBag (filter (holds k (b + 1) j) A ++ M ++ N) (filter (is_stored k (b + 1) (e + 1) j) all)
  rising_step below small mine its moved arrived =
      step_sums all A B M N k b (b + 1) e j (partner b j) R mine its moved arrived
      (λ t n. at_rising k b e j below small t.side t.ticket t.stamp n)

  -- so it is from shift b + 1 to b, where the partner had moved its tuples of S
  pub falling_step : b < k → k ≤ 8
      → SameBag A (filter (is_stored k (b + 1) e j) all) → SameBag B (filter (is_stored k (b + 1) e (partner b j)) all)
      → SameBag M (filter (is_of S) B) → SameBag N (filter (λ t. (t.stamp == e + 1) && holds k b j t) all)
      → SameBag (filter (holds k b j) A ++ M ++ N) (filter (is_stored k b (e + 1) j) all)
  falling_step below small mine its moved arrived =
      step_sums all A B M N k (b + 1) b e j (partner b j) S mine its moved arrived
      (λ t n. at_falling k b e j below small t.side t.ticket t.stamp n)
