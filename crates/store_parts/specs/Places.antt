-- An index of values: from each value to the places at which it stands.
use Rattle.std.specs.Prelude.{◌≡◌, ℕ, ◌+◌, ℤ, int_lt, Bool, true, false, ◌&&◌, Option, Some, None, List, [], ◌∷◌}
use Rattle.std.specs.Prelude.{sum_by}
use Rattle.std.specs.Prelude.{All, ◌||◌, filter, flat_map, if◌then◌else◌, ⊤}
use Rattle.std.specs.List.{list_any}
use Rattle.std.specs.declared.ops.Bound.{Bound}
use Rattle.std.specs.declared.ops.Bound.TheVariants.{Included, Unbounded}
use Rattle.theta_pred.specs.Keys.{is_from, is_up_to}
use Rattle.store_parts.specs.declared.index.Map.{Map}
use Rattle.store_parts.specs.declared.index.Map.TheVariants.{Ordered, Hashed}
use Rattle.store_parts.specs.declared.places.Window.{Window}

-- each value with its place, counted from n; what has no value is left out
abbrev pub entries_from : ℕ → List (Option ℤ) → List (ℤ × ℕ)
entries_from n [] = []
entries_from n (None ∷ values) = entries_from (n + 1) values
entries_from n (Some v ∷ values) = (v, n) ∷ entries_from (n + 1) values

-- the term of a value with all its places
abbrev pub at_each : (ℤ × ℕ → ℕ) → ℤ × List ℕ → ℕ
at_each f e = sum_by (λ p. f (e.0, p)) e.1

-- the map has these values with their places, each once, in some order
pub record IsMapOf (values : List (Option ℤ)) (entries : List (ℤ × List ℕ)) : Type 0 where
  pub sums : (f : ℤ × ℕ → ℕ) → sum_by (at_each f) entries ≡ sum_by f (entries_from 0 values)

-- whether there is a value, and it lies between two bounds
abbrev pub lies : Option ℤ → Option ℤ → Option ℤ → Bool
lies from to None = false
lies from to (Some v) = is_from from v && is_up_to to v

-- the places, counted from n, of the values that pass a test, rising
abbrev pub places_by : (Option ℤ → Bool) → ℕ → List (Option ℤ) → List ℕ
places_by test n [] = []
places_by test n (v ∷ values) =
    if test v then n ∷ places_by test (n + 1) values else places_by test (n + 1) values

-- the places of the entries whose values pass a test, entry by entry
abbrev pub gathered_by : (Option ℤ → Bool) → List (ℤ × List ℕ) → List ℕ
gathered_by test entries = flat_map (λ e. e.1) (filter (λ e. test (Some e.0)) entries)

-- the places, counted from n, of the values between two bounds, rising
abbrev pub places_between : Option ℤ → Option ℤ → ℕ → List (Option ℤ) → List ℕ
places_between from to n values = places_by (lies from to) n values

-- the places of the entries whose values lie between two bounds, entry by entry
abbrev pub gathered : Option ℤ → Option ℤ → List (ℤ × List ℕ) → List ℕ
gathered from to entries = gathered_by (lies from to) entries

-- whether there is a value, and it lies in the window
abbrev pub lies_at : Option ℤ → Window → Bool
lies_at v window = lies (Some window.from) (Some window.to) v

-- whether it lies in one of these windows
abbrev pub lies_in : List Window → Option ℤ → Bool
lies_in windows v = list_any (lies_at v) windows

-- no value lies in two of these windows
abbrev pub AreApart : List Window → Type 0
AreApart [] = ⊤
AreApart (window ∷ windows) =
    ((v : Option ℤ) → lies_at v window ≡ true → lies_in windows v ≡ false) × AreApart windows

-- all values lie in the window
abbrev pub AreWithin : Window → List (ℤ × List ℕ) → Type 0
AreWithin window entries = All (λ e. lies_at (Some e.0) window ≡ true) entries

-- whether a window ends before another begins, or begins where that has ended
abbrev pub are_clear : Window → Window → Bool
are_clear a b = int_lt a.to b.from || int_lt b.to a.from

-- the same, where there is another
abbrev pub is_beyond : Option Window → Window → Bool
is_beyond None window = false
is_beyond (Some ends) window = are_clear window ends

-- the places of the entries whose values lie in the window, entry by entry
abbrev pub gathered_at : Window → List (ℤ × List ℕ) → List ℕ
gathered_at window entries = gathered (Some window.from) (Some window.to) entries

-- the places of the entries whose values lie in these windows, window by window
abbrev pub gathered_in : List Window → List (ℤ × List ℕ) → List ℕ
gathered_in windows entries = flat_map (λ window. gathered_at window entries) windows

-- the entries of a map of either kind
abbrev pub entries_of : Map → List (ℤ × List ℕ)
entries_of (Ordered map) = map.entries
entries_of (Hashed map) = map.entries

-- the bound from which a map is read
abbrev pub start_of : Option ℤ → Bound ℤ
start_of None = Unbounded
start_of (Some v) = Included v

-- the bound up to which it is read
abbrev pub end_of : Option ℤ → Bound ℤ
end_of None = Unbounded
end_of (Some v) = Included v

-- the second bound is below the first
abbrev pub is_backward : Option ℤ → Option ℤ → Bool
is_backward None to = false
is_backward (Some from) None = false
is_backward (Some from) (Some to) = int_lt to from
