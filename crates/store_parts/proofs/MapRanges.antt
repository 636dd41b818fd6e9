-- What is gathered of a map from values to places, between two bounds.
use Rattle.std.proofs.Common.{◌≡◌, ℕ, ◌+◌, ◌≤◌, ℤ, pos, negsuc, Bool, true, false, cond, not, ◌&&◌, ◌||◌, Option, Some}
use Rattle.std.proofs.Common.{None}
use Rattle.std.proofs.Common.{List, [], ◌∷◌, ◌++◌, refl, sym, ap, ◌∙◌, arith, length, drop, get_or, append_assoc}
use Rattle.std.proofs.Common.{append-nil}
use Rattle.std.proofs.Common.{add-one}
use Rattle.std.proofs.Common.{◌<◌}
use Rattle.std.proofs.Math.Seq.{drop-cons}
use Rattle.std.specs.Prelude.{All, IfSome, filter, flat_map, sum_by, int_lt, int_le}
use Rattle.std.specs.Map.{keys_of}
use Rattle.std.specs.declared.cmp.Ordering.TheVariants.{Less, Equal, Greater}
use Rattle.std.specs.Ordering.{nat_cmp, int_cmp, is_gt, is_lt, is_le}
use Rattle.std.specs.List.Sorted.{IsPermutation, IsSorted}
use Rattle.std.specs.BTreeMap.Range.{range_contains, IsLeBy}
use Rattle.std.proofs.lemmas.Grind.{common_steps}
use Rattle.std.proofs.lemmas.List.Sums.{sum_by-cons, sum_by-append}
use Rattle.std.proofs.lemmas.List.Sorted.{sum_by-IsPermutation, IsNonDecreasingBy-from_sort}
use Rattle.std.proofs.lemmas.List.Elements.{All-cons, All-head, All-nil, All-tail, filter_agree}
use Rattle.std.proofs.lemmas.Bool.{false≢true}
use Rattle.std.proofs.lemmas.Bool.Decides.{nat_tests}
use Rattle.std.proofs.lemmas.Int.{ints}
use Rattle.store_parts.specs.Places.{entries_from, gathered, is_backward, lies, places_between}
use Rattle.store_parts.proofs.SortedLists.{Rises, same_rising, rises_from_sorted}
use Rattle.store_parts.specs.Places.{at_each, IsMapOf, start_of, end_of, places_by, lies_at, lies_in}
use Rattle.store_parts.specs.Places.{gathered_at, gathered_in}
use Rattle.store_parts.specs.Places.{are_clear, is_beyond, AreApart, AreWithin}
use Rattle.store_parts.specs.declared.places.Window.{Window}
use Rattle.store_parts.proofs.Keys.{both}
use Rattle.store_parts.proofs.KeyProbes.{filter_none}

-- ---- the test of a key

le_plain : (p q : Bool) → (p ≡ true → q ≡ false) → is_le (cond p Less (cond q Greater Equal)) ≡ not q
le_plain true q apart = ap not (sym (apart refl))
le_plain false true apart = refl
le_plain false false apart = refl

ge_plain : (p q : Bool) → not (is_lt (cond p Less (cond q Greater Equal))) ≡ not p
ge_plain true q = refl
ge_plain false true = refl
ge_plain false false = refl

-- a number is at most another just where the other isn't less
pub int_le-not : (x y : ℤ) → int_le x y ≡ not (int_lt y x)
int_le-not (pos a) (pos b) = grind (arith, nat_tests)
int_le-not (pos a) (negsuc b) = refl
int_le-not (negsuc a) (pos b) = refl
int_le-not (negsuc a) (negsuc b) = grind (arith, nat_tests)

int_lt-asym : (x y : ℤ) → int_lt x y ≡ true → int_lt y x ≡ false
int_lt-asym (pos a) (pos b) less = grind (arith, nat_tests)
int_lt-asym (pos a) (negsuc b) less = grind (arith, nat_tests)
int_lt-asym (negsuc a) (pos b) less = refl
int_lt-asym (negsuc a) (negsuc b) less = grind (arith, nat_tests)

low_is : (x v : ℤ) → is_le (int_cmp x v) ≡ int_le x v
low_is x v = le_plain (int_lt x v) (int_lt v x) (int_lt-asym x v) ∙ sym (int_le-not x v)

high_is : (y v : ℤ) → not (is_lt (int_cmp y v)) ≡ int_le v y
high_is y v = ge_plain (int_lt y v) (int_lt v y) ∙ sym (int_le-not v y)

in_range : (from to : Option ℤ) (v : ℤ) → range_contains int_cmp (start_of from) (end_of to) v ≡ lies from to (Some v)
in_range None None v = refl
in_range None (Some y) v = high_is y v
in_range (Some x) None v = ap (λ b. b && true) (low_is x v)
in_range (Some x) (Some y) v = both _ _ _ _ (low_is x v) (high_is y v)

-- ---- sums

-- f where the test passes, else 0
abbrev only : (ℤ → Bool) → (ℕ → ℕ) → ℤ × ℕ → ℕ
only test f e = cond (test e.0) (f e.1) 0

zeros : (ps : List ℕ) → sum_by (λ (_ : ℕ). 0) ps ≡ 0
zeros [] = refl
zeros (p ∷ ps) = omega (arith, sum_by-cons (λ _. 0) p ps, zeros ps)

each_only : (b : Bool) (f : ℕ → ℕ) (ps : List ℕ) → sum_by (λ p. cond b (f p) 0) ps ≡ cond b (sum_by f ps) 0
each_only true f ps = refl
each_only false f ps = zeros ps

sum_kept : (f : ℕ → ℕ) (b : Bool) (e : ℤ × List ℕ) (es : List (ℤ × List ℕ))
    → sum_by f (flat_map (λ e. e.1) (cond b (e ∷ es) es)) ≡ cond b (sum_by f e.1) 0
    + sum_by f (flat_map (λ e. e.1) es)
sum_kept f true e es = sum_by-append f e.1 (flat_map (λ e. e.1) es)
sum_kept f false e es = omega arith

sum_of_range : (test : ℤ → Bool) (f : ℕ → ℕ) (es : List (ℤ × List ℕ))
    → sum_by f (flat_map (λ e. e.1) (filter (λ e. test e.0) es)) ≡ sum_by (at_each (only test f)) es
sum_of_range test f [] = refl
sum_of_range test f (e ∷ es) =
    omega (
      arith,
      sum_kept f (test e.0) e (filter (λ e. test e.0) es),
      sum_of_range test f es,
      sum_by-cons (at_each (only test f)) e es,
      each_only (test e.0) f e.1,
    )

sum_cond : (f : ℕ → ℕ) (b : Bool) (n : ℕ) (ps : List ℕ) → sum_by f (cond b (n ∷ ps) ps) ≡ cond b (f n) 0 + sum_by f ps
sum_cond f true n ps = sum_by-cons f n ps
sum_cond f false n ps = omega arith

sum_of_places : (test : Option ℤ → Bool) → test None ≡ false → (f : ℕ → ℕ) (n : ℕ) (values : List (Option ℤ))
    → sum_by (only (λ v. test (Some v)) f) (entries_from n values) ≡ sum_by f (places_by test n values)
sum_of_places test none f n [] = refl
sum_of_places test none f n (None ∷ values) =
    let rest = places_by test (n + 1) values in
    sum_of_places test none f (n + 1) values ∙ sym (ap (λ b. sum_by f (cond b (n ∷ rest) rest)) none)
sum_of_places test none f n (Some v ∷ values) =
    let here : only (λ v. test (Some v)) f (v, n) ≡ cond (test (Some v)) (f n) 0 = refl in
    omega (
      arith,
      here,
      sum_by-cons (only (λ v. test (Some v)) f) (v, n) (entries_from (n + 1) values),
      sum_of_places test none f (n + 1) values,
      sum_cond f (test (Some v)) n (places_by test (n + 1) values),
    )

rises_take_in : (b : Bool) (low n : ℕ) (ps : List ℕ) → low ≤ n → Rises n ps → Rises low ps
    → Rises low (cond b (n ∷ ps) ps)
rises_take_in true low n ps le here skipped = (le, here)
rises_take_in false low n ps le here skipped = skipped

-- the places of the values that pass a test rise
pub places_rise : (test : Option ℤ → Bool) (low n : ℕ) (values : List (Option ℤ)) → low ≤ n
    → Rises low (places_by test n values)
places_rise test low n [] le = tt
places_rise test low n (v ∷ values) le =
    rises_take_in (test v) low n (places_by test (n + 1) values) le
    (places_rise test n (n + 1) values (omega arith)) (places_rise test low (n + 1) values (omega arith))

-- what was gathered with these sums, in order, is the places of what passes the test
sorted_by : (test : Option ℤ → Bool) → test None ≡ false → (values : List (Option ℤ)) (entries : List (ℤ × List ℕ))
    (found sorted : List ℕ) → IsMapOf values entries
    → ((f : ℕ → ℕ) → sum_by f found ≡ sum_by (at_each (only (λ v. test (Some v)) f)) entries)
    → IsPermutation found sorted → IsSorted nat_cmp sorted → sorted ≡ places_by test 0 values
sorted_by test none values entries found sorted indexed sums moved in_order =
    same_rising 0 0 sorted (places_by test 0 values)
    (rises_from_sorted sorted (IsNonDecreasingBy-from_sort (λ x. x) sorted in_order))
    (places_rise test 0 0 values (omega arith))
    (λ f. sum_by-IsPermutation f found sorted moved ∙ sums f
    ∙ indexed.sums (only (λ v. test (Some v)) f)
    ∙ sum_of_places test none f 0 values)

-- what was gathered, in order, is the places between the bounds
pub sorted_places : (from to : Option ℤ) (values : List (Option ℤ)) (entries : List (ℤ × List ℕ))
    (found sorted : List ℕ)
    → IsMapOf values entries → found ≡ gathered from to entries
    → IsPermutation found sorted → IsSorted nat_cmp sorted → sorted ≡ places_between from to 0 values
sorted_places from to values entries found sorted indexed is moved in_order =
    sorted_by (lies from to) refl values entries found sorted indexed
    (λ f. ap (sum_by f) is ∙ sum_of_range (λ v. lies from to (Some v)) f entries) moved in_order

-- ---- several windows

sum_of_none : (f : ℕ → ℕ) (es : List (ℤ × List ℕ)) → sum_by (at_each (only (λ _. false) f)) es ≡ 0
sum_of_none f [] = refl
sum_of_none f (e ∷ es) = omega (
  arith,
  sum_by-cons (at_each (only (λ _. false) f)) e es,
  each_only false f e.1,
  sum_of_none f es,
)

either : (a b : Bool) (n : ℕ) → (a ≡ true → b ≡ false) → cond a n 0 + cond b n 0 ≡ cond (a || b) n 0
either true b n apart = ap (λ c. n + cond c n 0) (apart refl) ∙ omega arith
either false b n apart = omega arith

sum_of_either : (p q : ℤ → Bool) → ((v : ℤ) → p v ≡ true → q v ≡ false) → (f : ℕ → ℕ) (es : List (ℤ × List ℕ))
    → sum_by (at_each (only p f)) es + sum_by (at_each (only q f)) es ≡ sum_by (at_each (only (λ v. p v || q v) f)) es
sum_of_either p q apart f [] = refl
sum_of_either p q apart f (e ∷ es) =
    omega (
      arith,
      sum_of_either p q apart f es,
      sum_by-cons (at_each (only p f)) e es,
      sum_by-cons (at_each (only q f)) e es,
      sum_by-cons (at_each (only (λ v. p v || q v) f)) e es,
      each_only (p e.0) f e.1,
      each_only (q e.0) f e.1,
      each_only (p e.0 || q e.0) f e.1,
      either (p e.0) (q e.0) (sum_by f e.1) (apart e.0),
    )

sum_of_windows : (windows : List Window) → AreApart windows → (f : ℕ → ℕ) (entries : List (ℤ × List ℕ))
    → sum_by f (gathered_in windows entries) ≡ sum_by (at_each (only (λ v. lies_in windows (Some v)) f)) entries
sum_of_windows [] apart f entries = sym (sum_of_none f entries)
sum_of_windows (window ∷ windows) apart f entries =
    let first = sum_of_range (λ v. lies_at (Some v) window) f entries in
    sum_by-append f (gathered (Some window.from) (Some window.to) entries) (gathered_in windows entries)
    ∙ ap (λ n. n + sum_by f (gathered_in windows entries)) first
    ∙ ap (λ n. sum_by (at_each (only (λ v. lies_at (Some v) window) f)) entries + n)
    (sum_of_windows windows apart.1 f entries)
    ∙ sum_of_either (λ v. lies_at (Some v) window) (λ v. lies_in windows (Some v)) (λ v. apart.0 (Some v)) f entries

none_lies_in : (windows : List Window) → lies_in windows None ≡ false
none_lies_in [] = refl
none_lies_in (window ∷ windows) = none_lies_in windows

-- what was gathered of windows that are apart, in order, is the places of what lies in them
pub sorted_windows : (windows : List Window) → AreApart windows → (values : List (Option ℤ))
    (entries : List (ℤ × List ℕ)) (found sorted : List ℕ)
    → IsMapOf values entries → found ≡ gathered_in windows entries
    → IsPermutation found sorted → IsSorted nat_cmp sorted → sorted ≡ places_by (lies_in windows) 0 values
sorted_windows windows apart values entries found sorted indexed is moved in_order =
    sorted_by (lies_in windows) (none_lies_in windows) values entries found sorted indexed
    (λ f. ap (sum_by f) is ∙ sum_of_windows windows apart f entries) moved in_order

-- ---- what a range of a tree gives

-- what a tree gives for its range between two bounds is what is gathered between them
pub gathered-range : (from to : Option ℤ) (entries : List (ℤ × List ℕ))
    → flat_map (λ e. e.1) (filter (λ e. range_contains int_cmp (start_of from) (end_of to) e.0) entries)
    ≡ gathered from to entries
gathered-range from to entries =
    ap (flat_map (λ e. e.1)) (filter_agree (λ e. range_contains int_cmp (start_of from) (end_of to) e.0)
    (λ e. lies from to (Some e.0)) (λ e. in_range from to e.0) entries)

-- once no entry is left, what was taken is all
pub all_taken : (left : List (ℤ × List ℕ)) (taken all : List ℕ) → left ≡ []
    → taken ++ flat_map (λ e. e.1) left ≡ all → taken ≡ all
all_taken left taken all none is = grind (arith, common_steps)

-- ---- bounds that run backwards

none_lies : (a b v : ℤ) → int_lt b a ≡ true → (int_le a v && int_le v b) ≡ false
none_lies a b v less = grind (arith, ints)

lies-backward : (from to : Option ℤ) (v : ℤ) → is_backward from to ≡ true → lies from to (Some v) ≡ false
lies-backward None to v back = absurd (false≢true back)
lies-backward (Some a) None v back = absurd (false≢true back)
lies-backward (Some a) (Some b) v back = none_lies a b v back

-- between bounds that run backwards nothing is gathered
pub gathered-backward : (from to : Option ℤ) (entries : List (ℤ × List ℕ)) → is_backward from to ≡ true
    → gathered from to entries ≡ []
gathered-backward from to entries back =
    ap (flat_map (λ e. e.1)) (filter_none (λ e. lies from to (Some e.0)) (λ e. lies-backward from to e.0 back)
    entries)

-- ---- a window beyond all values

gt_plain : (p q : Bool) → (p ≡ true → q ≡ false) → is_gt (cond p Less (cond q Greater Equal)) ≡ q
gt_plain true q apart = sym (apart refl)
gt_plain false true apart = refl
gt_plain false false apart = refl

from_first : (x v : ℤ) → is_gt (int_cmp x v) ≡ false → int_le x v ≡ true
from_first x v le =
    int_le-not x v ∙ ap not (sym (gt_plain (int_lt x v) (int_lt v x) (int_lt-asym x v)) ∙ le)

up_to_last : (y v : ℤ) → is_lt (int_cmp y v) ≡ false → int_le v y ≡ true
up_to_last y v le = sym (high_is y v) ∙ ap not le

-- an entry's value lies between these two
abbrev lies_between : ℤ → ℤ → ℤ × List ℕ → Type 0
lies_between first last e = lies_at (Some e.0) (record { from = first; to = last }) ≡ true

-- all values lie between two keys where none is below the one or above the other
pub within_ends : (first last : ℤ) (entries : List (ℤ × List ℕ)) → All (IsLeBy int_cmp first) (keys_of entries)
    → All (λ q. is_lt (int_cmp last q) ≡ false) (keys_of entries)
    → AreWithin (record { from = first; to = last }) entries
within_ends first last [] from to = All-nil (lies_between first last)
within_ends first last (e ∷ es) from to =
    let past : ℤ → Type 0 = λ q. is_lt (int_cmp last q) ≡ false in
    let here = both _ _ _ _ (from_first first e.0 (All-head (IsLeBy int_cmp first) e.0 (keys_of es) from))
    (up_to_last last e.0 (All-head past e.0 (keys_of es) to)) in
    All-cons (lies_between first last) e es here (within_ends first last es
    (All-tail (IsLeBy int_cmp first) e.0 (keys_of es) from) (All-tail past e.0 (keys_of es) to))

clear_at : (a b c d v : ℤ) → (int_le a v && int_le v b) ≡ true → (int_lt d a || int_lt b c) ≡ true
    → (int_le c v && int_le v d) ≡ false
clear_at a b c d v within clear = grind (arith, ints)

none_gathered : (ends window : Window) (entries : List (ℤ × List ℕ)) → AreWithin ends entries
    → are_clear window ends ≡ true → gathered_at window entries ≡ []
none_gathered ends window [] all clear = refl
none_gathered ends window (e ∷ es) all clear =
    let kept = filter (λ e. lies (Some window.from) (Some window.to) (Some e.0)) es in
    ap (λ b. flat_map (λ e. e.1) (cond b (e ∷ kept) kept))
    (clear_at ends.from ends.to window.from window.to e.0 (All-head (lies_between ends.from ends.to) e es all) clear)
    ∙ none_gathered ends window es (All-tail (lies_between ends.from ends.to) e es all) clear

-- a window beyond all values gives no places
pub gathered-beyond : (ends : Option Window) (window : Window) (entries : List (ℤ × List ℕ))
    → IfSome ends (λ ends. AreWithin ends entries) → is_beyond ends window ≡ true → gathered_at window entries ≡ []
gathered-beyond None window entries all beyond = absurd (false≢true beyond)
gathered-beyond (Some ends) window entries all beyond = none_gathered ends window entries all beyond

-- ---- windows one after another

module _ (windows : List Window) (i : ℕ) (d : Window) (entries : List (ℤ × List ℕ)) where
  -- one window more was gathered
  pub one_window_more : (found more new whole : List ℕ) → i < length windows
      → found ++ gathered_in (drop i windows) entries ≡ whole
      → more ≡ gathered_at (get_or windows i d) entries → new ≡ found ++ more
      → new ++ gathered_in (drop (i + 1) windows) entries ≡ whole
  one_window_more found more new whole less so_far is pushed =
      let rest = gathered_in (drop (i + 1) windows) entries in
      ap (λ xs. xs ++ rest) (pushed ∙ ap (λ xs. found ++ xs) is)
      ∙ append_assoc found (gathered_at (get_or windows i d) entries) rest
      ∙ ap (λ ws. found ++ gathered_in ws entries) (sym (drop-cons windows i d less
      ∙ ap (λ n. get_or windows i d ∷ drop n windows) (sym (add-one i))))
      ∙ so_far

-- a window was passed over that gives no places
pub no_window_more : (windows : List Window) (i : ℕ) (d : Window) (entries : List (ℤ × List ℕ))
    (found whole : List ℕ) → i < length windows → found ++ gathered_in (drop i windows) entries ≡ whole
    → gathered_at (get_or windows i d) entries ≡ []
    → found ++ gathered_in (drop (i + 1) windows) entries ≡ whole
no_window_more windows i d entries found whole less so_far none =
    one_window_more windows i d entries found [] found whole less so_far (sym none) (sym (append-nil found))
