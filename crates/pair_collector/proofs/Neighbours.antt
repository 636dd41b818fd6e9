-- Neighbours in order make a list in order.
use Rattle.std.proofs.Common.{◌≡◌, ◌<◌, ◌+◌, ℕ, suc, inl, inr, arith, List, [], ◌∷◌, length, get_or, ◌≢◌, true, false}
use Rattle.std.proofs.Common.{sym, is_lt, nat_cmp}
use Rattle.std.specs.Prelude.{◌==◌, nat_lt}
use Rattle.std.specs.Ordering.{ordering_then}
use Rattle.std.proofs.lemmas.Bool.{cases_Bool, eqb-true, eqb-false, ltb-false}
use Rattle.row_cells.proofs.Everywhere.{weaken}
use Rattle.epoch_tags.specs.declared.tuple.Pair.{Pair}
use Rattle.pair_collector.specs.Order.{IsBefore, InOrder}

before_all : (p q r : Pair) → IsBefore p q → IsBefore q r → IsBefore p r
before_all p q r (inl less) (inl less') = inl (omega arith)
before_all p q r (inl less) (inr (same, low)) = inl (omega arith)
before_all p q r (inr (same, low)) (inl less) = inl (omega arith)
before_all p q r (inr (same, low)) (inr (same', low')) = inr (omega arith, omega arith)

-- pairs are in order if each comes before the next
pub in_order : (ps : List Pair) → ((k : ℕ) (d : Pair) → k + 1 < length ps
    → IsBefore (get_or ps k d) (get_or ps (k + 1) d)) → InOrder ps
in_order [] each = tt
in_order (p ∷ []) each = (tt, tt)
in_order (p ∷ q ∷ ps) each =
    let next : IsBefore p q = each 0 p (omega arith) in
    let rest : InOrder (q ∷ ps) = in_order (q ∷ ps) (λ k d low. let one : suc k + 1 ≡ suc (k + 1) = omega arith in
    rw one at (each (suc k) d (omega arith))) in
    ((next, weaken (IsBefore q) (IsBefore p) (λ r is. before_all p q r next is) ps rest.0), rest)

-- of two pairs of numbers, the later one is not less
pub not_less : (p q : Pair) → is_lt (ordering_then (nat_cmp q.i p.i) (nat_cmp q.j p.j)) ≡ false → IsBefore p q
not_less p q is = elim (cases_Bool (nat_lt q.i p.i)) [
  | inl less ↦ let wrong : true ≡ false = rw less at is in absurd cc
  | inr more ↦ elim (cases_Bool (q.i == p.i)) [
    | inl same ↦ elim (cases_Bool (nat_lt q.j p.j)) [
      | inl less ↦ let wrong : true ≡ false = rw (more, same, less) at is in absurd cc
      | inr low ↦ inr (sym (eqb-true q.i p.i same), ltb-false q.j p.j low)
    ]
    | inr other ↦ let differs : q.i ≢ p.i = eqb-false q.i p.i other in let low = ltb-false q.i p.i more in
        inl (omega arith)
  ]
]
