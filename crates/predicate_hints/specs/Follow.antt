-- What may follow the front of a text.
use Rattle.std.specs.Prelude.{◌≡◌, ◌⊎◌, ℕ, Option, Some, None, List, [], ◌∷◌, ◌++◌, length, take}
use Rattle.std.specs.Str.{IsCharBoundary}
use Rattle.theta_tree.specs.Grammar.{Tree}
use Rattle.theta_tree.specs.Texts.{TextReads, IsFaultOf, limits}
use Rattle.theta_tree.specs.declared.fault.PredFault.{PredFault}
use Rattle.theta_tree.specs.declared.fault.PredFault.TheVariants.{Syntax}

-- the text reads as a predicate
abbrev pub IsPredicate : List ℕ → Type 0
IsPredicate text = (tree : Tree) × TextReads limits text tree

-- the text leaves the grammar just at its end: it begins a predicate and is none
abbrev pub IsUnfinished : List ℕ → Type 0
IsUnfinished text = IsFaultOf limits text (Syntax (length text))

-- the text is a predicate, or begins one
abbrev pub Stands : List ℕ → Type 0
Stands text = IsPredicate text ⊎ IsUnfinished text

-- the text is a predicate, or this is its one fault
abbrev pub IsReading : List ℕ → Option PredFault → Type 0
IsReading text None = IsPredicate text
IsReading text (Some fault) =
    ¬ (IsPredicate text) × IsFaultOf limits text fault
    × ((other : PredFault) → IsFaultOf limits text other → other ≡ fault)

-- what stands before the place, a blank, and the token
abbrev pub with_token : List ℕ → ℕ → List ℕ → List ℕ
with_token text place token = take place text ++ 32 ∷ [] ++ token

-- the token can follow what stands before the place
abbrev pub MayFollow : List ℕ → ℕ → List ℕ → Type 0
MayFollow text place token = IsCharBoundary text place × Stands (with_token text place token)

-- what stands before the place is a predicate
abbrev pub MayEnd : List ℕ → ℕ → Type 0
MayEnd text place = IsCharBoundary text place × IsPredicate (take place text)
