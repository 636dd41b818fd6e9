-- The texts of numbered things, one after the other.
use Rattle.std.proofs.Common.{◌≡◌, ◌+◌, ℕ, zero, suc, sym, ◌∙◌, ap, arith, List, [], ◌∷◌, ◌++◌, take, append_assoc}
use Rattle.std.proofs.Common.{Some}
use Rattle.std.specs.Prelude.{flat_map, slice_get}
use Rattle.std.specs.List.{enumerate_from}
use Rattle.std.proofs.lemmas.List.{append-nil}

-- the lines of things that are numbered from n
abbrev pub lines_from : {X : Type 0} → (ℕ → X → List ℕ) → ℕ → List X → List ℕ
lines_from line n xs = flat_map (λ numbered. line numbered.0 numbered.1) (enumerate_from n xs)

one_more : {X : Type 0} (line : ℕ → X → List ℕ) (n id : ℕ) (xs : List X) (x : X) → slice_get xs id ≡ Some x
    → lines_from line n (take (suc id) xs) ≡ lines_from line n (take id xs) ++ line (n + id) x
one_more line n id [] x at = absurd (cc)
one_more line n zero (y ∷ xs) x at =
    let same : y ≡ x = cc in
    let here : n ≡ n + 0 = omega arith in
    append-nil (line n y) ∙ ap (line n) same ∙ ap (λ m. line m x) here
one_more line n (suc id) (y ∷ xs) x at =
    let there : n + 1 + id ≡ n + suc id = omega arith in
    ap (λ lines. line n y ++ lines) (one_more line (n + 1) id xs x at)
    ∙ sym (append_assoc (line n y) (lines_from line (n + 1) (take id xs)) (line (n + 1 + id) x))
    ∙ ap (λ m. (line n y ++ lines_from line (n + 1) (take id xs)) ++ line m x) there

-- one line more behind a text
pub lines_more_from : {X : Type 0} (line : ℕ → X → List ℕ) (n : ℕ) (before text text' : List ℕ) (id : ℕ) (xs : List X)
    (x : X)
    → slice_get xs id ≡ Some x
    → text ≡ before ++ lines_from line n (take id xs) → text' ≡ text ++ line (n + id) x
    → text' ≡ before ++ lines_from line n (take (id + 1) xs)
lines_more_from line n before text text' id xs x at so_far more =
    let next : id + 1 ≡ suc id = omega arith in
    let lines = lines_from line n (take id xs) in
    more ∙ ap (λ t. t ++ line (n + id) x) so_far
    ∙ append_assoc before lines (line (n + id) x)
    ∙ ap (λ all. before ++ all) (sym (one_more line n id xs x at))
    ∙ ap (λ m. before ++ lines_from line n (take m xs)) (sym next)

-- the same of things that are numbered from 0
pub lines_more : {X : Type 0} (line : ℕ → X → List ℕ) (before text text' : List ℕ) (id : ℕ) (xs : List X) (x : X)
    → slice_get xs id ≡ Some x
    → text ≡ before ++ lines_from line 0 (take id xs) → text' ≡ text ++ line id x
    → text' ≡ before ++ lines_from line 0 (take (id + 1) xs)
lines_more line before text text' id xs x at so_far more =
    let here : id ≡ 0 + id = omega arith in
    lines_more_from line 0 before text text' id xs x at so_far (more ∙ ap (λ m. text ++ line m x) here)
