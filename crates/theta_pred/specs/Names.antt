-- The names of a predicate, and where they stand in the headers.
use Rattle.std.specs.Prelude.{◌≡◌, ℕ, ◌+◌, List, [], ◌∷◌, ◌++◌, length, All, if◌then◌else◌}
use Rattle.std.specs.Str.{bytes_eq}
use Rattle.theta_tree.specs.declared.tree.Name.{Name}
use Rattle.theta_tree.specs.declared.tree.Signed.{Signed}
use Rattle.theta_tree.specs.declared.tree.Term.{Term}
use Rattle.theta_tree.specs.declared.tree.Term.TheVariants as terms
use Rattle.theta_tree.specs.declared.tree.TextSide.{TextSide}
use Rattle.theta_tree.specs.declared.tree.TextSide.TheVariants as sides
use Rattle.theta_tree.specs.declared.tree.Pred.{Pred, fold-Pred}
use Rattle.theta_tree.specs.declared.tree.Pred.TheOpen.{Pred-F}
use Rattle.theta_pred.specs.Sums.{of_side}

-- the places from this one on at which the word stands
abbrev pub places_from : ℕ → List ℕ → List (List ℕ) → List ℕ
places_from place word [] = []
places_from place word (name ∷ names) =
    (if bytes_eq name word then place ∷ [] else []) ++ places_from (place + 1) word names

-- the places in its header at which a name stands, counted from 0
abbrev pub places_of : List (List ℕ) → List (List ℕ) → Name → List ℕ
places_of names_r names_s name = places_from 0 name.word (of_side names_r names_s name.side)

-- the name of a term, where it is a column
abbrev pub term_names : Term → List Name
term_names (terms.Const value) = []
term_names (terms.Col name) = name ∷ []

-- the names of a sum
abbrev pub sum_names : List Signed → List Name
sum_names [] = []
sum_names (signed ∷ sum) = term_names signed.term ++ sum_names sum

-- the name of a side of a test on texts, where it is a column
abbrev pub side_names : TextSide → List Name
side_names (sides.Lit bytes) = []
side_names (sides.Col name) = name ∷ []

-- the names of all members
abbrev pub joined : List (List Name) → List Name
joined [] = []
joined (names ∷ others) = names ++ joined others

-- the names of a predicate, with those of its members in their places
abbrev pub names_step : Pred-F (List Name) → List Name
names_step (Pred-F.Or members) = joined members.items
names_step (Pred-F.And members) = joined members.items
names_step (Pred-F.Not member) = member.value
names_step (Pred-F.Num left op right) = sum_names left ++ sum_names right
names_step (Pred-F.Abs sum op bound) = sum_names sum
names_step (Pred-F.Txt left op right) = side_names left ++ side_names right

-- the names of a predicate, in the order of writing
abbrev pub names_in : Pred → List Name
names_in = fold-Pred (List Name) names_step

-- the name stands in its header just once
abbrev pub StandsOnce : List (List ℕ) → List (List ℕ) → Name → Type 0
StandsOnce names_r names_s name = length (places_of names_r names_s name) ≡ 1

-- the first of the names that doesn't stand in its header just once
pub record IsFirstWrong (names_r names_s : List (List ℕ)) (names : List Name) (name : Name) : Type 0 where
  pub before : List Name
  pub after : List Name
  pub splits : names ≡ before ++ (name ∷ after)
  pub once : All (StandsOnce names_r names_s) before
