-- What the texts of the predicates are, and the refusal where one is none.
use Rattle.std.specs.Prelude.{◌≡◌, ◌⊎◌, ◌≤◌, ℕ, List, ⊤, Option, None, Some, option_map, Result, Ok, Err}
use Rattle.std.specs.Prelude.{IfSome, MatchResult}
use Rattle.theta_tree.specs.Grammar.{Tree}
use Rattle.theta_tree.specs.Sizes.{longest_sum}
use Rattle.theta_tree.specs.Texts.{TextReads, IsFaultOf, limits, tree_of}
use Rattle.theta_tree.specs.declared.tree.Pred.{Pred}
use Rattle.theta_tree.specs.declared.fault.PredFault.{PredFault}
use Rattle.theta_tree.specs.declared.fault.PredFault.TheVariants as texts
use Rattle.text_readings.specs.Readings.{IsReading}
use Rattle.join_words.specs.Words.{Asked, AskedChain, chain_of}
use Rattle.join_plan.specs.declared.fault.TextFault.{TextFault}
use Rattle.join_plan.specs.declared.fault.TextFault.TheVariants.{Syntax, Deep, Wide, Literal}
use Rattle.join_plan.specs.declared.fault.Refusal.{Refusal}
use Rattle.join_plan.specs.declared.fault.Refusal.TheVariants.{Memory}
use Rattle.join_plan.specs.declared.predicate.Preds.{Preds}
use Rattle.join_plan.specs.declared.refusal_of_fault.Which.{Which}
use Rattle.join_plan.specs.declared.refusal_of_fault.Which.TheVariants.{On, Then}
use Rattle.join_plan.specs.Refusals.{text_refusal, then_of}

-- ---- one text

-- the tree, or the refusal of the text
abbrev pub tree_or_refused : Which → Result Tree PredFault → Result Tree Refusal
tree_or_refused which (Ok tree) = Ok tree
tree_or_refused which (Err fault) = Err (text_refusal which fault)

-- a fault that a text has for itself is the text's
abbrev pub IsTrueOf : List ℕ → TextFault → Type 0
IsTrueOf text (Syntax place) = IsFaultOf limits text (texts.Syntax place)
IsTrueOf text (Deep place) = IsFaultOf limits text (texts.Deep place)
IsTrueOf text (Wide place) = IsFaultOf limits text (texts.Wide place)
IsTrueOf text (Literal place) = IsFaultOf limits text (texts.Literal place)
IsTrueOf text _ = ⊤

-- the predicate has this tree, or it is refused so, or memory ran out
abbrev pub Reads : Which → Result Tree PredFault → Result Pred Refusal → Type 0
Reads which reading (Ok pred) = reading ≡ Ok (tree_of pred)
Reads which reading (Err refusal) = (refusal ≡ Memory) ⊎ (tree_or_refused which reading ≡ Err refusal)

-- a text with this fault is refused by it, or memory ran out
abbrev pub RefusesText : {T : Type 0} → Which → PredFault → Result T Refusal → Type 0
RefusesText which fault result =
    MatchResult result (λ value. ⊥) (λ refusal. (refusal ≡ Memory) ⊎ (refusal ≡ text_refusal which fault))

-- ---- both

-- what the text of the predicate reads as, and that of a second join's
pub record Readings : Type 0 where
  pub on : Result Tree PredFault
  pub further : Option (Result Tree PredFault)

-- the second text, where there is one, reads so
abbrev pub IsReadFurther : Option AskedChain → Option (Result Tree PredFault) → Type 0
IsReadFurther None None = ⊤
IsReadFurther (Some chain) (Some reading) = IsReading limits chain.on reading
IsReadFurther _ _ = ⊥

-- the texts that are asked for read so
pub record AreRead (asked : Asked) (readings : Readings) : Type 0 where
  pub on : IsReading limits asked.on readings.on
  pub further : IsReadFurther (chain_of asked.kind) readings.further

-- the tree of the predicate, and that of a second join's
pub record Trees : Type 0 where
  pub on : Tree
  pub further : Option Tree

-- the second text, where there is one, has this tree
abbrev pub HasFurther : Option AskedChain → Option Tree → Type 0
HasFurther None None = ⊤
HasFurther (Some chain) (Some tree) = TextReads limits chain.on tree
HasFurther _ _ = ⊥

-- the texts that are asked for have these trees
pub record HaveTrees (asked : Asked) (trees : Trees) : Type 0 where
  pub on : TextReads limits asked.on trees.on
  pub further : HasFurther (chain_of asked.kind) trees.further

-- the second tree, where there is one, or the refusal of its text
abbrev pub further_tree : Option (Result Tree PredFault) → Result (Option Tree) Refusal
further_tree None = Ok None
further_tree (Some reading) = then_of (tree_or_refused Then reading) (λ tree. Ok (Some tree))

-- both trees, or the refusal of the first text that has none
abbrev pub trees_of : Readings → Result Trees Refusal
trees_of readings =
    then_of (tree_or_refused On readings.on)
    (λ on. then_of (further_tree readings.further) (λ further. Ok (record { on = on; further = further })))

-- how texts with these trees read
abbrev pub read_so : Trees → Readings
read_so trees = record { on = Ok trees.on; further = option_map (λ tree. Ok tree) trees.further }

-- ---- what the code has of them

-- the trees of the code's predicates
abbrev pub trees_in : Preds → Trees
trees_in preds = record { on = tree_of preds.on; further = option_map tree_of preds.further }

-- no sum of them has more than 16 terms
pub record AreNarrow (preds : Preds) : Type 0 where
  pub on : longest_sum preds.on ≤ 16
  pub further : IfSome preds.further (λ pred. longest_sum pred ≤ 16)

-- the second predicate, where there is one, has this tree, or its text is refused so, or memory ran out
abbrev pub ReadsFurther : Option (Result Tree PredFault) → Result (Option Pred) Refusal → Type 0
ReadsFurther reading (Ok pred) = further_tree reading ≡ Ok (option_map tree_of pred)
ReadsFurther reading (Err refusal) = (refusal ≡ Memory) ⊎ (further_tree reading ≡ Err refusal)

-- the predicates have these trees, or the first text that has none is refused so, or memory ran out
abbrev pub ReadAll : Readings → Result Preds Refusal → Type 0
ReadAll readings (Ok preds) = trees_of readings ≡ Ok (trees_in preds)
ReadAll readings (Err refusal) = (refusal ≡ Memory) ⊎ (trees_of readings ≡ Err refusal)
