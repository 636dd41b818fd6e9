-- The places of one value, in a map that has each value once.
use Rattle.std.proofs.Common.{◌≡◌, ℕ, ℤ, Bool, true, false, cond, not, ◌&&◌, Option, Some, None, List, [], ◌∷◌, ◌++◌}
use Rattle.std.proofs.Common.{refl, sym, ap, ◌∙◌, append-nil}
use Rattle.std.specs.Prelude.{filter, flat_map, int_lt}
use Rattle.std.specs.declared.cmp.Ordering.TheVariants.{Less, Equal, Greater}
use Rattle.std.specs.Ordering.{int_eq, is_eq}
use Rattle.std.specs.Cmp.{int_eq_equiv}
use Rattle.std.specs.List.{IsDistinct}
use Rattle.std.specs.Map.{keys_of, lookup}
use Rattle.std.proofs.lemmas.Map.{lookup-none}
use Rattle.std.proofs.lemmas.Map.Entries.{none_past_head}
use Rattle.std.proofs.lemmas.Map.Keys.{IsDistinct-tail}
use Rattle.store_parts.specs.Places.{gathered, lies}
use Rattle.store_parts.proofs.Keys.{both}
use Rattle.store_parts.proofs.MapRanges.{int_le-not}

-- the places of an entry that was found
abbrev pub found_places : Option (List ℕ) → List ℕ
found_places None = []
found_places (Some places) = places

neither : (p q : Bool) → (not q && not p) ≡ is_eq (cond p Less (cond q Greater Equal))
neither true true = refl
neither true false = refl
neither false true = refl
neither false false = refl

lies_at : (v k : ℤ) → lies (Some v) (Some v) (Some k) ≡ int_eq v k
lies_at v k = both _ _ _ _ (int_le-not v k) (int_le-not k v) ∙ neither (int_lt v k) (int_lt k v)

one_at : (b : Bool) (v : ℤ) (e : ℤ × List ℕ) (es : List (ℤ × List ℕ)) → int_eq v e.0 ≡ b
    → IsDistinct int_eq (keys_of (e ∷ es))
    → gathered (Some v) (Some v) es ≡ found_places (lookup (int_eq v) es)
    → flat_map (λ e. e.1) (cond b (e ∷ filter (λ e. lies (Some v) (Some v) (Some e.0)) es)
    (filter (λ e. lies (Some v) (Some v) (Some e.0)) es))
    ≡ found_places (cond b (Some e.1) (lookup (int_eq v) es))
one_at true v e es hit distinct rest =
    let none = lookup-none (int_eq v) es (none_past_head int_eq_equiv v e es distinct hit) in
    ap (λ ps. e.1 ++ ps) (rest ∙ ap found_places none) ∙ append-nil e.1
one_at false v e es miss distinct rest = rest

gathered-one : (v : ℤ) (entries : List (ℤ × List ℕ)) → IsDistinct int_eq (keys_of entries)
    → gathered (Some v) (Some v) entries ≡ found_places (lookup (int_eq v) entries)
gathered-one v [] distinct = refl
gathered-one v (e ∷ es) distinct =
    let kept = filter (λ e. lies (Some v) (Some v) (Some e.0)) es in
    ap (λ b. flat_map (λ e. e.1) (cond b (e ∷ kept) kept)) (lies_at v e.0)
    ∙ one_at (int_eq v e.0) v e es refl distinct (gathered-one v es (IsDistinct-tail int_eq e.0 (keys_of es) distinct))

-- what a look-up found is what is gathered there
pub gathered-found : (v w : ℤ) (entries : List (ℤ × List ℕ)) (found : Option (List ℕ))
    → IsDistinct int_eq (keys_of entries)
    → w ≡ v → found ≡ lookup (int_eq w) entries → found_places found ≡ gathered (Some v) (Some v) entries
gathered-found v w entries found distinct same is =
    ap found_places is ∙ sym (gathered-one w entries distinct) ∙ ap (λ v. gathered (Some v) (Some v) entries) same
