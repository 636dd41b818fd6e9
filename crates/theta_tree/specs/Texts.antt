-- What a text reads as, and where it is at fault.
use Rattle.std.specs.Prelude.{◌≡◌, ℕ, List, length}
use Rattle.theta_tree.specs.declared.token.Placed.{Placed}
use Rattle.theta_tree.specs.declared.tree.Pred.{Pred, fold-Pred}
use Rattle.theta_tree.specs.declared.tree.Pred.TheOpen.{Pred-F}
use Rattle.theta_tree.specs.declared.fault.PredFault.{PredFault}
use Rattle.theta_tree.specs.declared.fault.PredFault.TheVariants as faults
use Rattle.theta_tree.specs.Tokens.{AreTokens}
use Rattle.theta_tree.specs.Grammar.{Tree, any, every, negation, num, band, txt, trees, Limits, Reads}
use Rattle.theta_tree.specs.Faults.{words, IsSyntaxFault, IsDeepFault, IsWideFault, IsLiteralFault}

-- one step of tree_of, at a predicate whose parts have their trees
abbrev pub tree_step : Pred-F Tree → Tree
tree_step (Pred-F.Or v) = any (trees v.items)
tree_step (Pred-F.And v) = every (trees v.items)
tree_step (Pred-F.Not b) = negation b.value
tree_step (Pred-F.Num l o r) = num l o r
tree_step (Pred-F.Abs s o v) = band s o v
tree_step (Pred-F.Txt l o r) = txt l o r

-- a predicate without where it lies in memory
abbrev pub tree_of : Pred → Tree
tree_of = fold-Pred Tree tree_step

-- the limits of this crate: 32 units inside one another, 1 + 15 terms in a sum
unfoldable pub limits : Limits
limits = record { nesting = 32; more = 15; greatest = 9223372036854775807 }

-- the text's tokens are a predicate within the limits, and this is its tree
abbrev pub TextReads : Limits → List ℕ → Tree → Type 0
TextReads limits text t = (tokens : List Placed) × AreTokens text tokens × Reads limits (words tokens) t

-- whatever the limits, two trees of one text are the same
abbrev pub HasOneTree : Type 0
HasOneTree = (limits : Limits) (text : List ℕ) (t u : Tree) → TextReads limits text t → TextReads limits text u → t ≡ u

-- the text's tokens leave the grammar at the place
abbrev pub IsSyntaxAt : Limits → List ℕ → ℕ → Type 0
IsSyntaxAt limits text place =
    (tokens : List Placed) × AreTokens text tokens × IsSyntaxFault limits (length text) tokens place

-- the token at the place is a `not` or a `(` that would be one unit too deep
abbrev pub IsDeepAt : Limits → List ℕ → ℕ → Type 0
IsDeepAt limits text place = (tokens : List Placed) × AreTokens text tokens × IsDeepFault limits tokens place

-- the sign at the place would open one term too many
abbrev pub IsWideAt : Limits → List ℕ → ℕ → Type 0
IsWideAt limits text place = (tokens : List Placed) × AreTokens text tokens × IsWideFault limits tokens place

-- the number at the place is too great
abbrev pub IsLiteralAt : Limits → List ℕ → ℕ → Type 0
IsLiteralAt limits text place = (tokens : List Placed) × AreTokens text tokens × IsLiteralFault limits tokens place

-- this is the text's fault
abbrev pub IsFaultOf : Limits → List ℕ → PredFault → Type 0
IsFaultOf within text (faults.Syntax place) = IsSyntaxAt within text place
IsFaultOf within text (faults.Deep place) = IsDeepAt within text place
IsFaultOf within text (faults.Wide place) = IsWideAt within text place
IsFaultOf within text (faults.Literal place) = IsLiteralAt within text place
IsFaultOf within text faults.Memory = ⊥
