-- Those of some kinds, one kind after the other.
use Rattle.std.proofs.Common.{inl, inr, ℕ, suc, ◌+◌, ◌<◌, ◌≤◌, List, [], ◌∷◌, ◌++◌, length, drop, get_or, refl, sym}
use Rattle.std.proofs.Common.{subst, add-one, append-nil}
use Rattle.std.proofs.lemmas.List.{drop_all}
use Rattle.std.proofs.Math.Seq.{append_snoc, drop-cons}
use Rattle.predicate_hints.specs.declared.kinds.Expected.{Expected}
use Rattle.predicate_hints.specs.Listing.{AreThose}

-- whatever those of the rest are, with what is found they are those of all
abbrev pub Ahead : (Expected → Type 0) → List Expected → ℕ → List Expected → Type 0
Ahead Holds kinds i found =
    (rest : List Expected) → AreThose Holds (drop i kinds) rest → AreThose Holds kinds (found ++ rest)

-- a kind of which the fact holds is one of those
pub one_more : (Holds : Expected → Type 0) (kinds found : List Expected) (i : ℕ) (d : Expected) → i < length kinds
    → Ahead Holds kinds i found → Holds (get_or kinds i d) → Ahead Holds kinds (i + 1) (found ++ get_or kinds i d ∷ [])
one_more Holds kinds found i d lt ahead holds rest are =
    let kind = get_or kinds i d in
    let behind : AreThose Holds (drop (suc i) kinds) rest =
    subst (λ n. AreThose Holds (drop n kinds) rest) (add-one i) are in
    let these : AreThose Holds (kind ∷ drop (suc i) kinds) (kind ∷ rest) = inl (holds, (rest, refl, behind)) in
    let here : AreThose Holds (drop i kinds) (kind ∷ rest) =
    subst (λ ks. AreThose Holds ks (kind ∷ rest)) (sym (drop-cons kinds i d lt)) these in
    subst (AreThose Holds kinds) (sym (append_snoc found kind rest)) (ahead (kind ∷ rest) here)

-- and another isn't
pub none_more : (Holds : Expected → Type 0) (kinds found : List Expected) (i : ℕ) (d : Expected) → i < length kinds
    → Ahead Holds kinds i found → ¬ (Holds (get_or kinds i d)) → Ahead Holds kinds (i + 1) found
none_more Holds kinds found i d lt ahead not rest are =
    let behind : AreThose Holds (drop (suc i) kinds) rest =
    subst (λ n. AreThose Holds (drop n kinds) rest) (add-one i) are in
    let these : AreThose Holds (get_or kinds i d ∷ drop (suc i) kinds) rest = inr (not, behind) in
    ahead rest (subst (λ ks. AreThose Holds ks rest) (sym (drop-cons kinds i d lt)) these)

-- behind the last kind all are found
pub all_found : (Holds : Expected → Type 0) (kinds found : List Expected) (i : ℕ) → length kinds ≤ i
    → Ahead Holds kinds i found → AreThose Holds kinds found
all_found Holds kinds found i le ahead =
    let none : AreThose Holds (drop i kinds) [] =
    subst (λ ks. AreThose Holds ks []) (sym (drop_all i kinds le)) refl in
    subst (AreThose Holds kinds) (append-nil found) (ahead [] none)
