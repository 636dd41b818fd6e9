-- What holds of each element of a list.
use Rattle.std.proofs.Common.{ℕ, zero, suc, ◌<◌, inl, inr, sym, arith, List, [], ◌∷◌, ◌++◌, subst, reverse}
use Rattle.std.specs.Prelude.{map, flat_map, slice_index}
use Rattle.std.specs.List.{AllByRecursion}
use Rattle.std.proofs.lemmas.Bool.{cases_eq}
use Rattle.row_cells.specs.Lists.{gather}
use mathlib.Core.List.{reverse-cons}

-- what holds of each element may be exchanged for what follows from it
pub weaken : {X : Type 0} (P Q : X → Type 0) → ((x : X) → P x → Q x) → (xs : List X) → AllByRecursion P xs
    → AllByRecursion Q xs
weaken P Q gives [] known = tt
weaken P Q gives (x ∷ xs) (here, rest) = (gives x here, weaken P Q gives xs rest)

-- what holds of each element of two lists end to end holds of each of the first
pub all-front : {X : Type 0} (P : X → Type 0) (xs ys : List X) → AllByRecursion P (xs ++ ys) → AllByRecursion P xs
all-front P [] ys each = tt
all-front P (x ∷ xs) ys (here, rest) = (here, all-front P xs ys rest)

-- and of each of the second
pub all-back : {X : Type 0} (P : X → Type 0) (xs ys : List X) → AllByRecursion P (xs ++ ys) → AllByRecursion P ys
all-back P [] ys each = each
all-back P (x ∷ xs) ys (here, rest) = all-back P xs ys rest

-- what holds of each element of two lists holds of each of the two end to end
pub all-append : {X : Type 0} (P : X → Type 0) (xs ys : List X) → AllByRecursion P xs → AllByRecursion P ys
    → AllByRecursion P (xs ++ ys)
all-append P [] ys ps qs = qs
all-append P (x ∷ xs) ys (p, ps) qs = (p, all-append P xs ys ps qs)

-- and of each of the lists of all indices below n, end to end
pub all-gather : {X : Type 0} (P : X → Type 0) (n : ℕ) (g : ℕ → List X) → ((i : ℕ) → i < n → AllByRecursion P (g i))
    → AllByRecursion P (gather n g)
all-gather P zero g each = tt
all-gather P (suc n) g each = all-append P (gather n g) (g n) (all-gather P n g (λ i low. each i (omega arith)))
    (each n (omega arith))

-- it holds of each element of a mapped list, if it does of what each element is mapped to
pub all-map : {X Y : Type 0} (P : Y → Type 0) (g : X → Y) (xs : List X) → AllByRecursion (λ x. P (g x)) xs
    → AllByRecursion P (map g xs)
all-map P g [] each = tt
all-map P g (x ∷ xs) (here, rest) = (here, all-map P g xs rest)

-- and of the lists that elements are mapped to, end to end, if it does of each element of each
pub all-flat_map : {X Y : Type 0} (P : Y → Type 0) (g : X → List Y) (xs : List X)
    → AllByRecursion (λ x. AllByRecursion P (g x)) xs → AllByRecursion P (flat_map g xs)
all-flat_map P g [] each = tt
all-flat_map P g (x ∷ xs) (here, rest) = all-append P (g x) (flat_map g xs) here (all-flat_map P g xs rest)

-- what holds of each element of a list does in the reverse order
pub all-reverse : {X : Type 0} (P : X → Type 0) (xs : List X) → AllByRecursion P xs → AllByRecursion P (reverse xs)
all-reverse P [] each = tt
all-reverse P (x ∷ xs) (here, rest) = subst (AllByRecursion P) (sym (reverse-cons x xs))
    (all-append P (reverse xs) (x ∷ []) (all-reverse P xs rest) (here, tt))

-- what holds of each element of lists end to end holds of each of any one of them
pub all-part : {X : Type 0} (P : X → Type 0) (n : ℕ) (g : ℕ → List X) (i : ℕ) → i < n → AllByRecursion P (gather n g)
    → AllByRecursion P (g i)
all-part P zero g i low each = absurd (omega arith)
all-part P (suc n) g i low each = elim (cases_eq i n) [
  | inl is ↦ subst (λ m. AllByRecursion P (g m)) (sym is) (all-back P (gather n g) (g n) each)
  | inr differ ↦ all-part P n g i (omega arith) (all-front P (gather n g) (g n) each)
]

-- of each element two things hold together, where each of the two holds of all
pub both_hold : {X : Type 0} (P Q : X → Type 0) (xs : List X) → AllByRecursion P xs → AllByRecursion Q xs
    → AllByRecursion (λ x. P x × Q x) xs
both_hold P Q [] ps qs = tt
both_hold P Q (x ∷ xs) (p, ps) (q, qs) = ((p, q), both_hold P Q xs ps qs)

-- what holds of each number of a list, and of 0, holds of what is read at any place, be it past the end
pub all_at : (P : ℕ → Type 0) (xs : List ℕ) (i : ℕ) → AllByRecursion P xs → P 0 → P (slice_index xs i)
all_at P [] i each none = none
all_at P (x ∷ xs) zero (here, rest) none = here
all_at P (x ∷ xs) (suc i) (here, rest) none = all_at P xs i rest none
