-- A predicate over names, as one over the places of the headers.
use Rattle.std.specs.Prelude.{◌≡◌, ℕ, ◌<◌, List, [], ◌∷◌, length, map, ⊤}
use Rattle.theta_tree.specs.declared.tree.Name.{Name}
use Rattle.theta_tree.specs.declared.tree.Signed.{Signed}
use Rattle.theta_tree.specs.declared.tree.Term.{Term}
use Rattle.theta_tree.specs.declared.tree.Term.TheVariants as terms
use Rattle.theta_tree.specs.declared.tree.TextSide.{TextSide}
use Rattle.theta_tree.specs.declared.tree.TextSide.TheVariants as sides
use Rattle.theta_tree.specs.declared.tree.Pred.{Pred, fold-Pred}
use Rattle.theta_tree.specs.declared.tree.Pred.TheOpen.{Pred-F}
use Rattle.theta_pred.specs.declared.tree.Column.{Column}
use Rattle.theta_pred.specs.declared.tree.SignedTerm.{SignedTerm}
use Rattle.theta_pred.specs.declared.tree.Number.{Number}
use Rattle.theta_pred.specs.declared.tree.Number.TheVariants as numbers
use Rattle.theta_pred.specs.declared.tree.Text.{Text}
use Rattle.theta_pred.specs.declared.tree.Text.TheVariants as texts
use Rattle.theta_pred.specs.declared.fault.ResolveFault.{ResolveFault}
use Rattle.theta_pred.specs.declared.fault.ResolveFault.TheVariants as faults
use Rattle.theta_pred.specs.Formula.{Formula, any, every, negation, num, band, txt, formulas}
use Rattle.theta_pred.specs.Names.{places_of, IsFirstWrong}

-- the first of the places, 0 where there is none
abbrev pub first_place : List ℕ → ℕ
first_place [] = 0
first_place (place ∷ places) = place

-- the column that a name stands for, where it stands in its header just once
abbrev pub column_of : List (List ℕ) → List (List ℕ) → Name → Column
column_of names_r names_s name = record { side = name.side; place = first_place (places_of names_r names_s name) }

-- a term with its name replaced by the column
abbrev pub resolved_term : List (List ℕ) → List (List ℕ) → Term → Number
resolved_term names_r names_s (terms.Const value) = numbers.Given value
resolved_term names_r names_s (terms.Col name) = numbers.Cell (column_of names_r names_s name)

-- and with its sign
abbrev pub resolved_signed : List (List ℕ) → List (List ℕ) → Signed → SignedTerm
resolved_signed names_r names_s signed = record {
  minus = signed.minus;
  number = resolved_term names_r names_s signed.term;
}

-- each term of a sum
abbrev pub resolved_sum : List (List ℕ) → List (List ℕ) → List Signed → List SignedTerm
resolved_sum names_r names_s sum = map (resolved_signed names_r names_s) sum

-- a side of a test on texts
abbrev pub resolved_side : List (List ℕ) → List (List ℕ) → TextSide → Text
resolved_side names_r names_s (sides.Lit bytes) = texts.Given bytes
resolved_side names_r names_s (sides.Col name) = texts.Cell (column_of names_r names_s name)

-- a predicate, with formulas in the places of its members
abbrev pub resolved_step : List (List ℕ) → List (List ℕ) → Pred-F Formula → Formula
resolved_step names_r names_s (Pred-F.Or members) = any (formulas members.items)
resolved_step names_r names_s (Pred-F.And members) = every (formulas members.items)
resolved_step names_r names_s (Pred-F.Not member) = negation member.value
resolved_step names_r names_s (Pred-F.Num left op right) =
    num (resolved_sum names_r names_s left) op (resolved_sum names_r names_s right)
resolved_step names_r names_s (Pred-F.Abs sum op bound) = band (resolved_sum names_r names_s sum) op bound
resolved_step names_r names_s (Pred-F.Txt left op right) =
    txt (resolved_side names_r names_s left) op (resolved_side names_r names_s right)

-- the same tree with each name replaced by its column
abbrev pub resolved : List (List ℕ) → List (List ℕ) → Pred → Formula
resolved names_r names_s = fold-Pred Formula (resolved_step names_r names_s)

-- the fault tells of the first of these names that is wrong, and how it is
abbrev pub Tells : List (List ℕ) → List (List ℕ) → List Name → ResolveFault → Type 0
Tells names_r names_s names (faults.NoColumn side word) =
    let name : Name = record { side = side; word = word } in
    IsFirstWrong names_r names_s names name × (places_of names_r names_s name ≡ [])
Tells names_r names_s names (faults.TwoColumns side word) =
    let name : Name = record { side = side; word = word } in
    IsFirstWrong names_r names_s names name × (1 < length (places_of names_r names_s name))
Tells names_r names_s names faults.Memory = ⊤
