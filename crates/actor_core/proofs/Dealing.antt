-- Two items that change places before the calls, and back behind them.
use Rattle.std.proofs.Common.{◌≡◌, ℕ, ◌<◌, inl, inr, sym, subst, List, get_or, length, arith}
use Rattle.std.specs.List.{SwappedAt}
use Rattle.std.proofs.lemmas.Bool.{cases_eq}

module _ {T : Type 0} (P : T → T → Type 0) (old swapped worked new : List T) (i j : ℕ)
    (long : length swapped ≡ length old) (low_i : i < length old) (low_j : j < length old)
    (there : SwappedAt old swapped i j) where
  -- what holds of each item then holds of each in its own place
  pub swapped_back : ((n : ℕ) (d : T) → n < length swapped → P (get_or swapped n d) (get_or worked n d))
      → SwappedAt worked new i j → (n : ℕ) (d : T) → n < length old → P (get_or old n d) (get_or new n d)
  swapped_back works back n d low =
      let moved =
      λ (a b : ℕ) (from : get_or swapped b d ≡ get_or old a d) (to : get_or new a d ≡ get_or worked b d)
      (within : b < length swapped).
      subst (λ u. P u (get_or new a d)) from (subst (P (get_or swapped b d)) (sym to) (works b d within)) in
      elim (cases_eq n i) [
        | inl is ↦
            subst (λ k. P (get_or old k d) (get_or new k d)) (sym is)
            (moved i j (there.1 d) (back.0 d) (omega (arith, long, low_j)))
        | inr other ↦ elim (cases_eq n j) [
          | inl is ↦
              subst (λ k. P (get_or old k d) (get_or new k d)) (sym is)
              (moved j i (there.0 d) (back.1 d) (omega (arith, long, low_i)))
          | inr neither ↦ moved n n (there.2 n d other neither) (back.2 n d other neither) (omega (arith, long, low))
        ]
      ]
