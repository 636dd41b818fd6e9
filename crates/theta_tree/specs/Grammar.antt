-- The grammar of a predicate, as a relation between tokens and a tree.
use Rattle.std.specs.Prelude.{◌≡◌, ℕ, zero, suc, ◌≤◌, List, [], ◌∷◌, ◌++◌, false, ℤ, pos}
use Rattle.std.specs.List.{AllByRecursion}
use Rattle.theta_tree.specs.declared.token.Token.{Token}
use Rattle.theta_tree.specs.declared.token.Token.TheVariants.{Word, Number, Literal, Quoted, Open, Close, Dot, Sign}
use Rattle.theta_tree.specs.declared.token.Token.TheVariants.{Compare}
use Rattle.theta_tree.specs.declared.token.Keyword.TheVariants.{And, Or, Not, Abs, Text, R, S}
use Rattle.theta_tree.specs.declared.tree.Op.{Op}
use Rattle.theta_tree.specs.declared.tree.Signed.{Signed}
use Rattle.theta_tree.specs.declared.tree.Term.{Term}
use Rattle.theta_tree.specs.declared.tree.Term.TheVariants.{Const, Col}
use Rattle.theta_tree.specs.declared.tree.TextSide.{TextSide}
use Rattle.theta_tree.specs.declared.tree.TextSide.TheVariants.{Lit}
use Rattle.theta_tree.specs.declared.tree.TextSide.TheVariants as texts
use Rattle.theta_tree.specs.declared.tree.Name.{Name}
use Rattle.row_cells.specs.declared.table.Side.TheVariants as sides
use Rattle.theta_tree.specs.Tokens.{Spells, number_of}

mutual
  -- a predicate's meaning, without where it lies in memory
  pub data Tree : Type 0 where
    any : Trees → Tree
    every : Trees → Tree
    negation : Tree → Tree
    num : List Signed → Op → List Signed → Tree
    band : List Signed → Op → ℤ → Tree
    txt : TextSide → Op → TextSide → Tree

  -- the members of a tree
  pub data Trees : Type 0 where
    no_trees : Trees
    tree : Tree → Trees → Trees

-- a list of trees as one of Tree's own
abbrev pub trees : List Tree → Trees
trees [] = no_trees
trees (t ∷ ts) = tree t (trees ts)

-- What a text may hold: units nest at most so deep, a sum has at most 1 + more terms, and no number is greater.
pub record Limits : Type 0 where
  pub nesting : ℕ
  pub more : ℕ
  pub greatest : ℕ

-- what stands from one place of the tokens to another, and the value that it spells
abbrev pub Part : Type 0 → Type 1
Part A = List Token → A → List Token → Type 0

-- further items, each behind its separator
abbrev pub Further : {A : Type 0} → (Token → Type 0) → Part A → List Token → List A → List Token → Type 0
Further IsSep Item before [] after = before ≡ after
Further IsSep Item before (x ∷ xs) after =
    (sep : Token) × (from : List Token) × (to : List Token)
    × IsSep sep × (before ≡ sep ∷ from) × Item from x to × Further IsSep Item to xs after

-- one item alone stands for itself
abbrev pub joined : (Trees → Tree) → Tree → List Tree → Tree
joined make first [] = first
joined make first (x ∷ xs) = make (trees (first ∷ x ∷ xs))

-- items with a separator between them
abbrev pub Chain : (Token → Type 0) → (Trees → Tree) → Part Tree → Part Tree
Chain IsSep make Item before t after =
    (first : Tree) × (others : List Tree) × (to : List Token)
    × (t ≡ joined make first others) × Item before first to × Further IsSep Item to others after

-- the word `and`
abbrev pub IsAnd : Token → Type 0
IsAnd t = (w : List ℕ) × (t ≡ Word And w)

-- the word `or`
abbrev pub IsOr : Token → Type 0
IsOr t = (w : List ℕ) × (t ≡ Word Or w)

-- conj = unit { "and" unit }
abbrev pub Conj : Part Tree → Part Tree
Conj Unit = Chain IsAnd every Unit

-- pred = conj { "or" conj }
abbrev pub Predicate : Part Tree → Part Tree
Predicate Unit = Chain IsOr any (Conj Unit)

-- any word, or a quoted name
abbrev pub FieldText : Part (List ℕ)
FieldText (Word k w ∷ ts) f after = (f ≡ w) × (ts ≡ after)
FieldText (Quoted w ∷ ts) f after = (f ≡ w) × (ts ≡ after)
FieldText _ f after = ⊥

-- a dot and a field
abbrev pub DotText : Part (List ℕ)
DotText (Dot ∷ ts) f after = FieldText ts f after
DotText _ f after = ⊥

-- name = ( "r" | "s" ) "." ( word | quoted name )
abbrev pub NameText : Part Name
NameText (Word R w ∷ ts) n after = (f : List ℕ) × (n ≡ record { side = sides.R; word = f }) × DotText ts f after
NameText (Word S w ∷ ts) n after = (f : List ℕ) × (n ≡ record { side = sides.S; word = f }) × DotText ts f after
NameText _ n after = ⊥

-- term = number | name
abbrev pub TermText : ℕ → Part Term
TermText greatest (Number digits ∷ ts) t after =
    (t ≡ Const (pos (number_of digits))) × (number_of digits ≤ greatest) × (ts ≡ after)
TermText greatest (Word k w ∷ ts) t after = (n : Name) × (t ≡ Col n) × NameText (Word k w ∷ ts) n after
TermText greatest _ t after = ⊥

-- further terms of a sum, at most so many: each a sign and a term
abbrev pub FurtherTerms : ℕ → ℕ → List Token → List Signed → List Token → Type 0
FurtherTerms greatest room before [] after = before ≡ after
FurtherTerms greatest zero before (x ∷ xs) after = ⊥
FurtherTerms greatest (suc room) before (x ∷ xs) after =
    (from : List Token) × (to : List Token)
    × (before ≡ Sign x.minus ∷ from) × TermText greatest from x.term to × FurtherTerms greatest room to xs after

-- the first term, which needs no sign
abbrev pub FirstText : ℕ → Part Signed
FirstText greatest (Sign m ∷ ts) x after = (x.minus ≡ m) × TermText greatest ts x.term after
FirstText greatest before x after = (x.minus ≡ false) × TermText greatest before x.term after

-- sum = [ "+" | "-" ] term { ( "+" | "-" ) term }
abbrev pub SumText : Limits → Part (List Signed)
SumText limits before [] after = ⊥
SumText limits before (x ∷ xs) after =
    (to : List Token) × FirstText limits.greatest before x to × FurtherTerms limits.greatest limits.more to xs after

-- a sign of comparison
abbrev pub OpText : Part Op
OpText (Compare o ∷ ts) p after = (p ≡ o) × (ts ≡ after)
OpText _ p after = ⊥

-- sum op sum
abbrev pub NumTest : Limits → Part Tree
NumTest limits before t after =
    (left : List Signed) × (op : Op) × (right : List Signed) × (m1 : List Token) × (m2 : List Token)
    × (t ≡ num left op right) × SumText limits before left m1 × OpText m1 op m2 × SumText limits m2 right after

-- a number
abbrev pub BoundText : ℕ → Part ℤ
BoundText greatest before v after =
    (digits : List ℕ) × (before ≡ Number digits ∷ after) × (v ≡ pos (number_of digits)) × (number_of digits ≤ greatest)

-- "(" sum ")" op number, behind "abs"
abbrev pub BandRest : Limits → Part Tree
BandRest limits before t after =
    (sum : List Signed) × (op : Op) × (v : ℤ) × (m1 : List Token) × (m2 : List Token) × (m3 : List Token)
    × (m4 : List Token)
    × (t ≡ band sum op v) × (before ≡ Open ∷ m1) × SumText limits m1 sum m2 × (m2 ≡ Close ∷ m3) × OpText m3 op m4
    × BoundText limits.greatest m4 v after

-- "(" name ")", behind "text"
abbrev pub ColumnText : Part TextSide
ColumnText before x after =
    (n : Name) × (m1 : List Token) × (m2 : List Token)
    × (x ≡ texts.Col n) × (before ≡ Open ∷ m1) × NameText m1 n m2 × (m2 ≡ Close ∷ after)

-- side = "text" "(" name ")" | literal
abbrev pub SideText : Part TextSide
SideText (Word Text w ∷ ts) x after = ColumnText ts x after
SideText (Literal w ∷ ts) x after = (x ≡ Lit w) × (ts ≡ after)
SideText _ x after = ⊥

-- side op side
abbrev pub TxtTest : Part Tree
TxtTest before t after =
    (left : TextSide) × (op : Op) × (right : TextSide) × (m1 : List Token) × (m2 : List Token)
    × (t ≡ txt left op right) × SideText before left m1 × OpText m1 op m2 × SideText m2 right after

-- unit = "not" unit | "(" pred ")" | test
abbrev pub UnitOver : Limits → Part Tree → Part Tree
UnitOver limits Inner (Word Not w ∷ ts) t after = (inner : Tree) × (t ≡ negation inner) × Inner ts inner after
UnitOver limits Inner (Open ∷ ts) t after = Predicate Inner ts t (Close ∷ after)
UnitOver limits Inner (Word Abs w ∷ ts) t after = BandRest limits ts t after
UnitOver limits Inner (Word Text w ∷ ts) t after = TxtTest (Word Text w ∷ ts) t after
UnitOver limits Inner (Literal w ∷ ts) t after = TxtTest (Literal w ∷ ts) t after
UnitOver limits Inner before t after = NumTest limits before t after

-- a unit in which others nest at most so deep
abbrev pub Unit' : Limits → ℕ → Part Tree
Unit' limits zero = UnitOver limits (λ before t after. ⊥)
Unit' limits (suc depth) = UnitOver limits (Unit' limits depth)

-- the tokens are a predicate within the limits, and this is its tree
abbrev pub Reads : Limits → List Token → Tree → Type 0
Reads limits tokens t = Predicate (Unit' limits limits.nesting) tokens t []

-- tokens that some bytes spell
abbrev pub AreSpelled : List Token → Type 0
AreSpelled tokens = AllByRecursion (λ t. (bytes : List ℕ) × Spells t bytes) tokens

-- some predicate within the limits begins so
abbrev pub IsOpen : Limits → List Token → Type 0
IsOpen limits front = (rest : List Token) × (t : Tree) × AreSpelled rest × Reads limits (front ++ rest) t
