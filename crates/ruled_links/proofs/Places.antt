-- What stands at a place of a list of passes that changes.
use Rattle.std.proofs.Common.{◌≡◌, ◌≢◌, ℕ, zero, suc, List, [], ◌∷◌, ◌++◌, length, set, sym, refl, ap, ◌∙◌, subst, inl}
use Rattle.std.proofs.Common.{inr, ◌⊎◌, ⊎_elim}
use mathlib.Core.Option.{some, some-injective, some-ne-none}
use native.Mathlib.Decide.{ℕ_discrete}
use lib.ListN.{get_elem?}
use Rattle.crossbeam_queue.proofs.Lists.{at_set, set_else}
use Rattle.ruled_links.specs.Order.{Stands}

-- a place that is set has what was set there
pub at_here : {V : Type 0} → (l : List V) (i : ℕ) (v a : V) → get_elem? l i ≡ some v → get_elem? (set l i a) i ≡ some a
at_here [] i v a e = absurd (some-ne-none v (sym e))
at_here (x ∷ xs) zero v a e = refl
at_here (x ∷ xs) (suc i) v a e = at_here xs i v a e

-- a longer list keeps its places
pub at_front : {V : Type 0} → (l : List V) (i : ℕ) (v a : V) → get_elem? l i ≡ some v
    → get_elem? (l ++ a ∷ []) i ≡ some v
at_front [] i v a e = absurd (some-ne-none v (sym e))
at_front (x ∷ xs) zero v a e = e
at_front (x ∷ xs) (suc i) v a e = at_front xs i v a e

-- a place that is new stands at the end
pub at_end : {V : Type 0} → (l : List V) (a b : V) (j : ℕ) → get_elem? l j ≢ some b → get_elem? (l ++ a ∷ []) j ≡ some b
    → j ≡ length l
at_end [] a b zero n e = refl
at_end [] a b (suc j) n e = absurd (some-ne-none b (sym e))
at_end (x ∷ xs) a b zero n e = absurd (n e)
at_end (x ∷ xs) a b (suc j) n e = ap suc (at_end xs a b j n e)

-- a place of a longer list is an old one or the end
pub at_more : {V : Type 0} → (l : List V) (a b : V) (j : ℕ) → get_elem? (l ++ a ∷ []) j ≡ some b
    → (get_elem? l j ≡ some b) ⊎ ((j ≡ length l) × (a ≡ b))
at_more [] a b zero e = inr (refl, some-injective a b e)
at_more [] a b (suc j) e = absurd (some-ne-none b (sym e))
at_more (x ∷ xs) a b zero e = inl e
at_more (x ∷ xs) a b (suc j) e = ⊎_elim (λ t. inl t) (λ t. inr (ap suc t.0, t.1)) (at_more xs a b j e)

-- each pass that stands there fits
abbrev pub Each : {V : Type 0} → (ℕ → V → Type 0) → List V → Type 0
Each {V} F hands = (pass : ℕ) (v : V) → get_elem? hands pass ≡ some v → F pass v

-- where one pass changes, each fits, if that one does as it then is and the others did
pub Each-set : {V : Type 0} → (F : ℕ → V → Type 0) (hands : List V) (pass : ℕ) (w : V) → F pass w
    → ((j : ℕ) (u : V) → j ≢ pass → get_elem? hands j ≡ some u → F j u) → Each F (set hands pass w)
Each-set {V} F hands pass w mine others j u e = ⊎_elim (λ (x : (j ≡ pass) × (w ≡ u)). subst (λ (y : ℕ × V). F y.0 y.1)
    (λ i. (sym x.0 i, x.1 i)) mine)
    (λ (x : (j ≢ pass) × (get_elem? hands j ≡ some u)). others j u x.0 x.1) (at_set hands pass j w u e)

-- what a pass may do it may still do, where one pass changes that may do the same as before
pub Stands-set : {V : Type 0} → (May : V → Type 0) (hands : List V) (pass who : ℕ) (v w : V)
    → get_elem? hands pass ≡ some v → (May v → May w) → Stands May hands who → Stands May (set hands pass w) who
Stands-set {V} May hands pass who v w at same p = elim (ℕ_discrete who pass) [
  | yes e ↦ (
    w,
    subst (λ (j : ℕ). get_elem? (set hands pass w) j ≡ some w) (sym e) (at_here hands pass v w at),
    same (subst May (some-injective p.0 v (sym p.1 ∙ (ap (λ (j : ℕ). get_elem? hands j) e ∙ at))) p.2),
  )
  | no n ↦ (p.0, set_else hands pass who w n ∙ p.1, p.2)
]
