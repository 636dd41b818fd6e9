-- The longest sum of some predicates.
use Rattle.std.proofs.Common.{◌≡◌, ℕ, ◌≤◌, max, List, [], ◌∷◌, ◌++◌, map, ap, sym, subst, ◌∙◌, arith}
use Rattle.std.proofs.lemmas.List.{map-append}
use Rattle.theta_tree.specs.declared.tree.Pred.{Pred}
use Rattle.theta_tree.specs.Sizes.{longest, longest_sum}

-- the greater of two numbers is within a bound that both are within
pub max-le : (a b n : ℕ) → a ≤ n → b ≤ n → max a b ≤ n
max-le a b n h h' = grind arith

longest-append : (ns : List ℕ) (n limit : ℕ) → longest ns ≤ limit → n ≤ limit → longest (ns ++ n ∷ []) ≤ limit
longest-append [] n limit h h' = max-le n 0 limit h' h
longest-append (m ∷ ms) n limit h h' =
    let head : m ≤ limit = grind arith in
    let tail : longest ms ≤ limit = grind arith in
    max-le m (longest (ms ++ n ∷ [])) limit head (longest-append ms n limit tail h')

-- where the sums of some members and of one more have at most 16 terms, those of all together do
pub longest-push : (all members : List Pred) (member : Pred) → all ≡ members ++ member ∷ []
    → longest (map longest_sum members) ≤ 16 → longest_sum member ≤ 16
    → longest (map longest_sum all) ≤ 16
longest-push all members member e h h' =
    let seen : map longest_sum all ≡ map longest_sum members ++ longest_sum member ∷ [] =
    ap (map longest_sum) e ∙ map-append longest_sum members (member ∷ []) in
    subst (λ ns. longest ns ≤ 16) (sym seen) (longest-append (map longest_sum members) (longest_sum member) 16 h h')
