-- Pieces put one after the other are the whole.
use Rattle.std.proofs.Common.{◌≡◌, ◌≤◌, ◌+◌, ◌-◌, min, ℕ, zero, suc, refl, ◌∙◌, ap, subst, arith, List, [], ◌∷◌, ◌++◌}
use Rattle.std.proofs.Common.{length, take, drop, length-take, length-drop, append_assoc, Option, Some, None}
use Rattle.std.specs.Io.KnownBytes.{append_known}
use Rattle.std.proofs.lemmas.List.{append-nil}
use Rattle.join_rows.specs.Sinks.{AppendsFront, PutsFront}

-- two pieces appended one after the other, where the bytes are told or not, are their concatenation appended
pub known-append : (known : Option (List ℕ)) (xs ys : List ℕ)
    → append_known (append_known known xs) ys ≡ append_known known (xs ++ ys)
known-append None xs ys = refl
known-append (Some bytes) xs ys = ap Some (append_assoc bytes xs ys)

-- nothing appended changes nothing, whether the bytes are told or not
pub known-none : (known : Option (List ℕ)) → append_known known [] ≡ known
known-none None = refl
known-none (Some bytes) = ap Some (append-nil bytes)

-- a front, and some bytes behind it
joined : (p n : ℕ) (xs : List ℕ) → take p xs ++ take n (drop p xs) ≡ take (p + n) xs
joined zero n xs = let same : 0 + n ≡ n = omega arith in rw same refl
joined (suc p) zero [] = let same : suc p + 0 ≡ suc p = omega arith in rw same refl
joined (suc p) (suc n) [] = let same : suc p + suc n ≡ suc (p + suc n) = omega arith in rw same refl
joined (suc p) n (x ∷ xs) = let same : suc p + n ≡ suc (p + n) = omega arith in
    rw same (ap (λ ys. x ∷ ys) (joined p n xs))

twice : (m n : ℕ) (xs : List ℕ) → take m (take n xs) ≡ take (min m n) xs
twice zero n xs = let none : min 0 n ≡ 0 = omega arith in rw none refl
twice (suc m) zero xs = let none : min (suc m) 0 ≡ 0 = omega arith in rw none refl
twice (suc m) (suc n) [] = let less : min (suc m) (suc n) ≡ suc (min m n) = omega arith in rw less refl
twice (suc m) (suc n) (x ∷ xs) = let less : min (suc m) (suc n) ≡ suc (min m n) = omega arith in
    rw less (ap (λ ys. x ∷ ys) (twice m n xs))

-- where the first p bytes of a text were appended and then those from p up to e, the first e were
pub piece_put : (known before after : Option (List ℕ)) (xs : List ℕ) (p e : ℕ) → p ≤ e
    → before ≡ append_known known (take p xs)
    → after ≡ append_known before (take (e - p) (drop p xs)) → after ≡ append_known known (take e xs)
piece_put known before after xs p e below front is =
    let whole : p + (e - p) ≡ e = omega arith in
    is ∙ ap (λ b. append_known b (take (e - p) (drop p xs))) front
    ∙ known-append known (take p xs) (take (e - p) (drop p xs))
    ∙ ap (append_known known) (joined p (e - p) xs) ∙ ap (λ n. append_known known (take n xs)) whole

-- where the first p bytes of a text were appended, and then a front of those from p up to e, a front of the whole text
-- was
pub piece_cut : (known before after : Option (List ℕ)) (xs : List ℕ) (p e : ℕ) → before ≡ append_known known (take p xs)
    → AppendsFront before after (take (e - p) (drop p xs)) → AppendsFront known after xs
piece_cut known before after xs p e front (n, is) = (
  p + min n (e - p),
  is ∙ ap (λ b. append_known b (take n (take (e - p) (drop p xs)))) front
      ∙ known-append known (take p xs) (take n (take (e - p) (drop p xs)))
      ∙ ap (λ ys. append_known known (take p xs ++ ys)) (twice n (e - p) (drop p xs))
      ∙ ap (append_known known) (joined p (min n (e - p)) xs),
)

-- a piece, and what comes behind it
pub piece_room : (xs : List ℕ) (p e more : ℕ) → p ≤ e → e ≤ length xs
    → p + (length (take (e - p) (drop p xs)) + more) ≡ e + more
piece_room xs p e more below within = omega (arith, below, within, length-take (e - p) (drop p xs), length-drop p xs)

-- a front of a piece is one of the whole, behind the pieces before it
pub piece_failed : (known before after : Option (List ℕ)) (takes takes' takes'' : ℕ → Type 0) (xs : List ℕ) (p e : ℕ)
    → p ≤ e → e ≤ length xs
    → before ≡ append_known known (take p xs) → ((more : ℕ) → takes (p + more) → takes' more)
    → PutsFront before after takes' takes'' (take (e - p) (drop p xs)) → PutsFront known after takes takes'' xs
unfolding piece_cut
piece_failed known before after takes takes' takes'' xs p e below within front behind put =
    let size : put.front ≤ e - p = omega (
      arith,
      put.within,
      below,
      within,
      length-take (e - p) (drop p xs),
      length-drop p xs,
    ) in
    let whole : min put.front (e - p) ≡ put.front = omega (arith, size) in
    record {
      front = p + put.front;
      within = omega (arith, below, within, size);
      written = subst (λ n. after ≡ append_known known (take (p + n) xs)) whole
          (piece_cut known before after xs p e front (put.front, put.written)).1;
      left = λ more has.
          let behind_both : p + put.front + more ≡ p + (put.front + more) = omega arith in
          put.left more (behind (put.front + more) (subst takes behind_both has));
    }
