-- A rising list of numbers is what its own test picks from all numbers.
use Rattle.std.proofs.Common.{◌≡◌, ◌≢◌, ◌<◌, ◌≤◌, ◌+◌, ◌⊎◌, inl, inr, ℕ, zero, suc, Bool, true, false, true≢false, List}
use Rattle.std.proofs.Common.{[], ◌∷◌, length, All, refl, sym, ◌∙◌, subst, filter, arith}
use Rattle.std.specs.Prelude.{◌==◌, ◌||◌}
use Rattle.std.specs.List.{AllPairs, Contains, list_any, range_with_len, slice_index_or}
use Rattle.std.proofs.lemmas.Bool.{cases_eq, eq-eqb, eqb-true}
use Rattle.std.proofs.lemmas.List.Elements.{All-contains}
use Rattle.std.proofs.lemmas.List.Kept.{AllPairs-from_increasing}
use Rattle.row_cells.specs.declared.table.Side.{Side}
use Rattle.theta_pred.specs.Formula.{Meaning}
use Rattle.theta_pred.specs.Numeric.{AreNumeric, sum_places}
use Rattle.theta_pred.specs.Truth.{width_of}
use Rattle.join_plan.specs.Numbers.{summed_columns}

contains-first : (x : ℕ) (xs : List ℕ) → Contains (x ∷ xs) x
contains-first x xs = (0, omega arith, refl)

contains-later : (x y : ℕ) (xs : List ℕ) → Contains xs y → Contains (x ∷ xs) y
contains-later x y xs at = let within = at.1 in (suc at.0, omega (arith, within), at.2)

contains-none : (y : ℕ) → Contains [] y → ⊥
contains-none y at = let within = at.1 in absurd (omega (arith, within))

contains-cases : (x y : ℕ) (xs : List ℕ) → Contains (x ∷ xs) y → (x ≡ y) ⊎ Contains xs y
contains-cases x y xs at = by at.0 at.1 at.2
  where
    by : (k : ℕ) → k < length (x ∷ xs) → slice_index_or (x ∷ xs) k y ≡ y → (x ≡ y) ⊎ Contains xs y
    by zero within is = inl is
    by (suc k) within is = inr (k, omega (arith, within), is)

-- an element that passes is one that is equal
any-contains : (xs : List ℕ) (y : ℕ) → list_any (λ x. x == y) xs ≡ true → Contains xs y
any-contains [] y passes = absurd (true≢false (sym passes))
any-contains (x ∷ xs) y passes = by (any-contains xs y) (x == y) refl
  where
    by : (list_any (λ z. z == y) xs ≡ true → Contains xs y) → (b : Bool) → (x == y) ≡ b → Contains (x ∷ xs) y
    by rest true is = subst (Contains (x ∷ xs)) (eqb-true x y is) (contains-first x xs)
    by rest false is = contains-later x y xs (rest (subst (λ b. (b || list_any (λ z. z == y) xs) ≡ true) is passes))

contains-any : (xs : List ℕ) (y : ℕ) → Contains xs y → list_any (λ x. x == y) xs ≡ true
contains-any [] y at = absurd (contains-none y at)
contains-any (x ∷ xs) y at = by (contains-any xs y) (x == y) refl
  where
    later : (Contains xs y → list_any (λ z. z == y) xs ≡ true) → (x == y) ≡ false → (x ≡ y) ⊎ Contains xs y
        → list_any (λ z. z == y) xs ≡ true
    later rest is (inl same) = absurd (true≢false (sym (eq-eqb x y same) ∙ is))
    later rest is (inr there) = rest there

    by : (Contains xs y → list_any (λ z. z == y) xs ≡ true) → (b : Bool) → (x == y) ≡ b
        → ((x == y) || list_any (λ z. z == y) xs) ≡ true
    by rest true is = rw is refl
    by rest false is = rw is (later rest is (contains-cases x y xs at))

module _ (test : ℕ → Bool) where
  -- the test passes the numbers of xs from a on, and no other
  record Picks (a : ℕ) (xs : List ℕ) : Type 0 where
    passes : (x : ℕ) → a ≤ x → Contains xs x → test x ≡ true
    only : (x : ℕ) → a ≤ x → test x ≡ true → Contains xs x

  -- n numbers from a on hold those that a rising list has there
  abbrev ArePicked : ℕ → ℕ → Type 0
  ArePicked n a = (xs : List ℕ) → AllPairs (λ x y. x < y) xs → All (λ x. a ≤ x) xs → All (λ x. x < a + n) xs
      → Picks a xs
      → filter test (range_with_len a n) ≡ xs

  picked-none : (n a : ℕ) → ArePicked n (a + 1) → Picks a [] → filter test (range_with_len a (suc n)) ≡ []
  picked-none n a rest picks = by (test a) refl
    where
      later : filter test (range_with_len (a + 1) n) ≡ []
      later = rest [] (λ i j d lower within. absurd (omega (arith, within)))
          (λ k d within. absurd (omega (arith, within))) (λ k d within. absurd (omega (arith, within)))
          (record {
            passes = λ x least at. absurd (contains-none x at);
            only = λ x least is. picks.only x (omega (arith, least)) is;
          })

      by : (b : Bool) → test a ≡ b → filter test (range_with_len a (suc n)) ≡ []
      by true is = absurd (contains-none a (picks.only a (omega arith) is))
      by false is = rw is later

  module _ (n a x : ℕ) (xs : List ℕ) (rest : ArePicked n (a + 1)) (rising : AllPairs (λ y z. y < z) (x ∷ xs))
      (above : All (λ y. a ≤ y) (x ∷ xs))
      (below : All (λ y. y < a + suc n) (x ∷ xs)) (picks : Picks a (x ∷ xs)) where
    past : (k d : ℕ) → k < length xs → x < slice_index_or xs k d
    past k d within = rising 0 (suc k) d (omega arith) (omega (arith, within))

    other : (y : ℕ) → x < y → (x ≡ y) ⊎ Contains xs y → Contains xs y
    other y lower (inl same) = absurd (omega (arith, lower, same))
    other y lower (inr there) = there

    picked-here : x ≡ a → filter test (range_with_len a (suc n)) ≡ x ∷ xs
    picked-here same =
        let is : test a ≡ true = picks.passes a (omega arith) (subst (Contains (x ∷ xs)) same (contains-first x xs)) in
        let later : filter test (range_with_len (a + 1) n) ≡ xs = rest xs
        (λ i j d lower within. rising (suc i) (suc j) d (omega (arith, lower)) (omega (arith, within)))
        (λ k d within. let p = past k d within in omega (arith, p, same))
        (λ k d within. let most = below (suc k) d (omega (arith, within)) in omega (arith, most))
        (record {
          passes = λ y least at. picks.passes y (omega (arith, least)) (contains-later x y xs at);
          only = λ y least passes. other y (omega (arith, least, same))
              (contains-cases x y xs (picks.only y (omega (arith, least)) passes));
        }) in
        rw (is, later, same) refl

    past_a : x ≢ a → (k d : ℕ) → k < length (x ∷ xs) → a + 1 ≤ slice_index_or (x ∷ xs) k d
    past_a apart zero d within = let least : a ≤ x = above 0 x (omega arith) in omega (arith, apart, least)
    past_a apart (suc k) d within = let p = past k d (omega (arith, within)) in
        let least : a ≤ x = above 0 x (omega arith) in omega (arith, p, least)

    picked-later : x ≢ a → filter test (range_with_len a (suc n)) ≡ x ∷ xs
    picked-later apart = by (test a) refl
      where
        by : (b : Bool) → test a ≡ b → filter test (range_with_len a (suc n)) ≡ x ∷ xs
        by true is = let p : a + 1 ≤ a = All-contains (λ y. a + 1 ≤ y) (x ∷ xs) a (past_a apart)
            (picks.only a (omega arith) is) in absurd (omega (arith, p))
        by false is = rw is (rest (x ∷ xs) rising (past_a apart)
            (λ k d within. let most = below k d within in omega (arith, most))
            (record {
              passes = λ y least at. picks.passes y (omega (arith, least)) at;
              only = λ y least passes. picks.only y (omega (arith, least)) passes;
            }))

    picked-some : filter test (range_with_len a (suc n)) ≡ x ∷ xs
    picked-some = elim (cases_eq x a) [ inl same ↦ picked-here same | inr apart ↦ picked-later apart ]

  picked : (n a : ℕ) → ArePicked n a
  picked zero a [] rising above below picks = refl
  picked zero a (x ∷ xs) rising above below picks =
      let least : a ≤ x = above 0 x (omega arith) in
      let most : x < a + 0 = below 0 x (omega arith) in
      absurd (omega (arith, least, most))
  picked (suc n) a [] rising above below picks = picked-none n a (picked n (a + 1)) picks
  picked (suc n) a (x ∷ xs) rising above below picks = picked-some n a x xs (picked n (a + 1)) rising above below picks

-- the numeric columns that a predicate keeps of a side are those that stand in a sum, from the left
pub summed_columns-places : (theta : Meaning) (side : Side) (places : List ℕ)
    → AreNumeric theta.formula side (width_of theta side) places
    → summed_columns theta side ≡ places
summed_columns-places theta side places numeric =
    picked (λ column. list_any (λ place. place == column) (sum_places side theta.formula)) (width_of theta side)
    0 places
    (AllPairs-from_increasing places numeric.rising) (λ k d within. omega arith)
    (λ k d within. let below = numeric.within k d within in omega (arith, below))
    (record {
      passes = λ place least at. contains-any (sum_places side theta.formula) place ((numeric.standing place).0 at);
      only = λ place least passes. (numeric.standing place).1
          (any-contains (sum_places side theta.formula) place passes);
    })
