-- How a text reads: as a tree, or as a fault.
use Rattle.std.specs.Prelude.{◌≡◌, ℕ, List, Result, Ok, Err}
use Rattle.theta_tree.specs.Grammar.{Limits, Tree}
use Rattle.theta_tree.specs.Texts.{IsFaultOf, TextReads}
use Rattle.theta_tree.specs.declared.fault.PredFault.{PredFault}

-- the text's tree within the limits, or its fault
abbrev pub IsReading : Limits → List ℕ → Result Tree PredFault → Type 0
IsReading limits text (Ok tree) = TextReads limits text tree
IsReading limits text (Err fault) = IsFaultOf limits text fault

-- the text has one
pub record HasReading (limits : Limits) (text : List ℕ) : Type 0 where
  pub reading : Result Tree PredFault
  pub is : IsReading limits text reading

-- whatever the limits, each text reads in some way
abbrev pub EveryTextReads : Type 0
EveryTextReads = (limits : Limits) (text : List ℕ) → HasReading limits text

-- and in no two ways
abbrev pub TextsReadOneWay : Type 0
TextsReadOneWay = (limits : Limits) (text : List ℕ) (one other : Result Tree PredFault)
    → IsReading limits text one → IsReading limits text other → one ≡ other
