-- The items of a list that indices name.
use Rattle.std.proofs.Common.{◌≡◌, ℕ, ◌+◌, ◌<◌, Some, ◌∙◌, ap, sym, List, [], ◌∷◌, ◌++◌, length, map, take, get_or}
use Rattle.std.specs.Prelude.{slice_get, slice_index_or}
use Rattle.std.proofs.lemmas.List.{map_more}
use Rattle.std.proofs.lemmas.Option.{get_or_from_slice_get}

module _ {X : Type 0} (items : List X) (d : X) (indices : List ℕ) where
  -- one index more, and its item
  pub chosen_more : (i : ℕ) (chosen new : List X) (item x : X)
      → i < length indices → chosen ≡ map (λ index. slice_index_or items index d) (take i indices)
      → slice_get items (get_or indices i 0) ≡ Some item → x ≡ item → new ≡ chosen ++ x ∷ []
      → new ≡ map (λ index. slice_index_or items index d) (take (i + 1) indices)
  chosen_more i chosen new item x low so_far there is added =
      added ∙ ap (λ xs. xs ++ x ∷ []) so_far
      ∙ ap (λ y. map (λ index. slice_index_or items index d) (take i indices) ++ y ∷ [])
      (is ∙ sym (get_or_from_slice_get items (get_or indices i 0) item d there))
      ∙ sym (map_more (λ index. slice_index_or items index d) indices i 0 low)
