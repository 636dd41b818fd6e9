-- Worked rows: the triples of a chain.
use Rattle.std.proofs.Common.{◌≡◌, ℕ, ◌&&◌, List, [], ◌∷◌, refl}
use Rattle.std.specs.Prelude.{◌==◌}
use Rattle.chain_join.specs.declared.triples.Triple.{Triple}
use Rattle.chain_join.specs.Triples.{triple_loop}

-- rows `id,x` of R, `id,y` of S and `id,z` of Q
abbrev rows_r : List (ℕ × ℕ)
rows_r = (1, 10) ∷ (2, 20) ∷ (3, 30) ∷ []

abbrev rows_s : List (ℕ × ℕ)
rows_s = (1, 20) ∷ (2, 30) ∷ (3, 20) ∷ []

abbrev rows_q : List (ℕ × ℕ)
rows_q = (1, 1) ∷ (2, 3) ∷ []

abbrev triple : ℕ → ℕ → ℕ → Triple
triple i j l = record { i = i; j = j; l = l }

-- those where x is y, and the id of S is z
pub two_triples : triple_loop (λ r s q. (r.1 == s.1) && (s.0 == q.1)) rows_r rows_s rows_q
    ≡ triple 1 0 0 ∷ triple 1 2 1 ∷ []
two_triples = refl
