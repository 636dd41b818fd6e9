-- Lists of pairs that are one bag are rearrangements of each other.
use Rattle.std.proofs.Common.{◌≡◌, ℕ, ◌==◌, ◌<◌, refl, sym, ap, subst, Bool, true, false, cond, List, [], ◌∷◌, ◌++◌}
use Rattle.std.proofs.Common.{arith}
use Rattle.std.specs.Prelude.{◌&&◌, sum_by}
use Rattle.std.specs.List.Sorted.{IsPermutation}
use Rattle.std.proofs.lemmas.Bool.{and_parts, eqb-true, eq-eqb}
use Rattle.std.proofs.lemmas.List.Sums.{sum_by-append, sum_by-cons}
use Rattle.std.proofs.lemmas.List.Sorted.{IsPermutation-cons, IsPermutation-middle, IsPermutation-refl}
use Rattle.std.proofs.lemmas.List.Sorted.{IsPermutation-sym, IsPermutation-trans}
use Rattle.row_cells.specs.Lists.{SameBag}
use Rattle.epoch_tags.specs.declared.tuple.Pair.{Pair}

abbrev same_pair : Pair → Pair → Bool
same_pair p q = (p.i == q.i) && (p.j == q.j)

same_is : (p q : Pair) → same_pair p q ≡ true → p ≡ q
same_is p q same =
    let parts = and_parts (p.i == q.i) (p.j == q.j) same in
    let of_r = eqb-true p.i q.i parts.0 in
    let of_s = eqb-true p.j q.j parts.1 in
    λ k. record { i = of_r k; j = of_s k }

same_self : (p : Pair) → same_pair p p ≡ true
same_self p = rw (eq-eqb p.i p.i refl, eq-eqb p.j p.j refl) refl

-- 1 for this pair, 0 for others
abbrev counts : Pair → Pair → ℕ
counts p q = cond (same_pair p q) 1 0

-- a pair that is counted stands somewhere
record Stands (p : Pair) (qs : List Pair) : Type 0 where
  before : List Pair
  after : List Pair
  is : qs ≡ before ++ p ∷ after

stands : (p : Pair) (qs : List Pair) → 0 < sum_by (counts p) qs → Stands p qs
stands p [] some = absurd (omega (arith, some))
stands p (q ∷ qs) some = go (stands p qs) (same_pair p q) refl
  where
    go : (0 < sum_by (counts p) qs → Stands p qs) → (b : Bool) → same_pair p q ≡ b → Stands p (q ∷ qs)
    go next true e = record { before = []; after = qs; is = ap (λ z. z ∷ qs) (sym (same_is p q e)) }
    go next false e =
        let none : counts p q ≡ 0 = ap (λ (b : Bool). cond b 1 0) e in
        let whole = sum_by-cons (counts p) q qs in
        let rest = next (omega (arith, some, none, whole)) in
        record { before = q ∷ rest.before; after = rest.after; is = ap (λ zs. q ∷ zs) rest.is }

-- without it
less_one : (p : Pair) (ps qs : List Pair) → SameBag (p ∷ ps) qs → (s : Stands p qs) → SameBag ps (s.before ++ s.after)
less_one p ps qs same s = record {
  sums = λ f.
      let one = sum_by-cons f p ps in
      let two = same.sums f in
      let three = ap (sum_by f) s.is in
      let four = sum_by-append f s.before (p ∷ s.after) in
      let five = sum_by-cons f p s.after in
      let six = sum_by-append f s.before s.after in
      omega (arith, one, two, three, four, five, six);
}

none_left : (qs : List Pair) → SameBag [] qs → qs ≡ []
none_left [] same = refl
none_left (q ∷ qs) same =
    let none = same.sums (λ r. 1) in
    let some = sum_by-cons (λ (r : Pair). 1) q qs in
    absurd (omega (arith, none, some))

-- lists of pairs that are the same as bags are rearrangements of each other
pub rearranged : (ps qs : List Pair) → SameBag ps qs → IsPermutation ps qs
rearranged [] qs same = subst (IsPermutation []) (sym (none_left qs same)) (IsPermutation-refl [])
rearranged (p ∷ ps) qs same =
    let here : counts p p ≡ 1 = ap (λ (b : Bool). cond b 1 0) (same_self p) in
    let one = sum_by-cons (counts p) p ps in
    let two = same.sums (counts p) in
    let s = stands p qs (omega (arith, here, one, two)) in
    let front = IsPermutation-cons p ps (s.before ++ s.after)
    (rearranged ps (s.before ++ s.after) (less_one p ps qs same s)) in
    let back = IsPermutation-sym (s.before ++ p ∷ s.after) (p ∷ (s.before ++ s.after))
    (IsPermutation-middle s.before p s.after) in
    subst (IsPermutation (p ∷ ps)) (sym s.is) (IsPermutation-trans (p ∷ ps) (p ∷ (s.before ++ s.after))
    (s.before ++ p ∷ s.after) front back)
