-- A load that isn't empty is its first batch and the batches of what is left.
use Rattle.std.proofs.Common.{◌≡◌, ℕ, zero, suc, ◌+◌, ◌-◌, ◌*◌, ◌/◌, ◌<◌, ◌≤◌, inl, inr, refl, sym, ◌∙◌, ap, arith}
use Rattle.std.proofs.Common.{List, [], ◌∷◌, take, drop, length, min, add-one}
use Rattle.std.specs.Prelude.{map}
use Rattle.std.specs.List.{range_with_len}
use Rattle.std.proofs.lemmas.Bool.{cases_lt}
use Rattle.std.proofs.lemmas.List.{drop-drop, length-drop, length-take, take_all, drop_all}
use Rattle.std.proofs.lemmas.List.FromFn.{length-map-range_with_len}
use Rattle.std.proofs.Math.Nat.{div-eq_of_lt, add-div_right}
use Rattle.reshuffler_core.specs.Batches.{cut}
use Rattle.reshuffler_core.specs.Standing.{first_batch}

pieces_later : {X : Type 0} (size : ℕ) (xs : List X) (a m : ℕ)
    → map (λ i. take size (drop (i * size) xs)) (range_with_len (a + 1) m)
    ≡ map (λ i. take size (drop (i * size) (drop size xs))) (range_with_len a m)
pieces_later size xs a zero = refl
pieces_later size xs a (suc m) =
    let far : (a + 1) * size ≡ size + a * size = omega arith in
    let same : drop ((a + 1) * size) xs ≡ drop (a * size) (drop size xs) =
    ap (λ n. drop n xs) far ∙ sym (drop-drop (a * size) size xs) in
    let rest = pieces_later size xs (a + 1) m in
    rw same (ap (λ pieces. take size (drop (a * size) (drop size xs)) ∷ pieces) rest)

how_many : (n size : ℕ) → 0 < size → 0 < n → (n + size - 1) / size ≡ suc ((n - size + size - 1) / size)
how_many n size some more = elim (cases_lt n size) [
  | inl below ↦
      let none : (n - size + size - 1) / size ≡ 0 = div-eq_of_lt (omega arith) in
      let part : (n - 1) / size ≡ 0 = div-eq_of_lt (omega arith) in
      let one : (n - 1 + size) / size ≡ suc ((n - 1) / size) = add-div_right (n - 1) some ∙ add-one ((n - 1) / size) in
      let at : n + size - 1 ≡ n - 1 + size = omega arith in
      ap (λ a. a / size) at ∙ one ∙ ap suc (part ∙ sym none)
  | inr whole ↦
      let at : n + size - 1 ≡ n - 1 + size = omega arith in
      let left : n - size + size - 1 ≡ n - 1 = omega arith in
      let one : (n - 1 + size) / size ≡ suc ((n - 1) / size) = add-div_right (n - 1) some ∙ add-one ((n - 1) / size) in
      ap (λ a. a / size) at ∙ one ∙ ap (λ a. suc (a / size)) (sym left)
]

-- a load that isn't empty is cut into its front of the size of a batch and the batches of what is left
pub cut_first : {X : Type 0} (size : ℕ) (xs : List X) → 0 < size → 0 < length xs
    → cut size xs ≡ take size xs ∷ cut size (drop size xs)
cut_first size xs some more =
    let count : (length xs + size - 1) / size ≡ suc ((length (drop size xs) + size - 1) / size) =
    rw (length-drop size xs) (how_many (length xs) size some more) in
    let none : 0 * size ≡ 0 = omega arith in
    rw (count, none) (ap (λ pieces. take size xs ∷ pieces) (pieces_later size xs 0
    ((length (drop size xs) + size - 1) / size)))

-- an empty load has no batch
pub cut_none : {X : Type 0} (size : ℕ) (xs : List X) → 0 < size → length xs ≡ 0 → cut size xs ≡ []
cut_none size xs some none =
    let count : (length xs + size - 1) / size ≡ 0 = div-eq_of_lt (omega arith) in
    rw count refl

-- how many batches are left of a load
pub some_left : {X : Type 0} (size sent : ℕ) (xs : List X) → 0 < size → 0 < length xs - sent
    → (length xs - sent - 1) / size + 1 ≡ length (cut size (drop sent xs))
some_left size sent xs some more =
    let left = length xs - sent in
    let one : (left - 1 + size) / size ≡ (left - 1) / size + 1 = add-div_right (left - 1) some in
    let at : left - 1 + size ≡ left + size - 1 = omega arith in
    let count = ap (λ n. (n + size - 1) / size) (length-drop sent xs) in
    sym one ∙ ap (λ n. n / size) at ∙ sym count ∙ sym (length-map-range_with_len
    (λ i. take size (drop (i * size) (drop sent xs))) 0 ((length (drop sent xs) + size - 1) / size))

-- of a load that was sent whole no batch is left
pub none_left : {X : Type 0} (size sent : ℕ) (xs : List X) → 0 < size → length xs - sent ≡ 0
    → 0 ≡ length (cut size (drop sent xs))
none_left size sent xs some none = sym (ap length (cut_none size (drop sent xs) some (length-drop sent xs ∙ none)))

-- the first batch is the front of the load, and the others are those of the rest

-- the front of a load, of the size of a batch or all of it where that is less, is the first batch
pub first_cut : {X : Type 0} (size n : ℕ) (xs : List X) → 0 < size → n ≡ min (length xs) size
    → take n xs ≡ first_batch (cut size xs)
first_cut size n [] some is = take_all n [] (omega arith) ∙ ap first_batch (sym (cut_none size [] some refl))
first_cut size n (x ∷ xs) some is = elim (cases_lt (length (x ∷ xs)) size) [
  | inl below ↦ take_all n (x ∷ xs) (omega arith) ∙ sym (take_all size (x ∷ xs) (omega arith))
      ∙ ap first_batch (sym (cut_first size (x ∷ xs) some (omega arith)))
  | inr whole ↦ let here : n ≡ size = omega arith in ap (λ i. take i (x ∷ xs)) here
      ∙ ap first_batch (sym (cut_first size (x ∷ xs) some (omega arith)))
]

-- the other batches are those of the load without that front
pub rest_cut : {X : Type 0} (size n : ℕ) (xs : List X) → 0 < size → n ≡ min (length xs) size
    → drop 1 (cut size xs) ≡ cut size (drop n xs)
rest_cut size n [] some is = rw (cut_none size [] some refl)
    (sym (cut_none size (drop n []) some (ap length (drop_all n [] (omega arith)))))
rest_cut size n (x ∷ xs) some is = elim (cases_lt (length (x ∷ xs)) size) [
  | inl below ↦
      let all : drop size (x ∷ xs) ≡ drop n (x ∷ xs) = drop_all size (x ∷ xs) (omega arith)
      ∙ sym (drop_all n (x ∷ xs) (omega arith)) in
      ap (drop 1) (cut_first size (x ∷ xs) some (omega arith)) ∙ ap (cut size) all
  | inr whole ↦
      let here : n ≡ size = omega arith in
      ap (drop 1) (cut_first size (x ∷ xs) some (omega arith)) ∙ ap (λ i. cut size (drop i (x ∷ xs))) (sym here)
]

-- a batch of a load of which so much was sent

module _ {X : Type 0} (size sent : ℕ) (xs batch : List X) (some : 0 < size) (within : sent ≤ length xs)
    (is : batch ≡ first_batch (cut size (drop sent xs))) where
  how_long : length batch ≡ min (length (drop sent xs)) size
  how_long =
      let n = min (length (drop sent xs)) size in
      let front = ap length (is ∙ sym (first_cut size n (drop sent xs) some refl)) in
      let taken = length-take n (drop sent xs) in
      omega arith

  -- what was sent and the batch are no more than the load
  pub stays_within : sent + length batch ≤ length xs
  stays_within = let long = how_long in let left = length-drop sent xs in omega arith

  -- the batches of what is left behind it are those behind the first
  pub rest_of_load : cut size (drop (sent + length batch) xs) ≡ drop 1 (cut size (drop sent xs))
  rest_of_load = sym (rest_cut size (length batch) (drop sent xs) some how_long
      ∙ ap (cut size) (drop-drop (length batch) sent xs))
