-- What is told where nothing was carried out is so.
use Rattle.std.proofs.Common.{◌≡◌, ◌≤◌, inl, inr, ℕ, List, Option, None, Some, Result, Ok, Err, true, refl, sym, subst}
use Rattle.std.proofs.Common.{arith}
use Rattle.std.specs.Prelude.{IfErr, IsSomeAnd, is_some}
use Rattle.join_rows.specs.Shelves.{Spot, Told}
use Rattle.theta_tree.specs.Texts.{IsDeepAt, IsLiteralAt, IsSyntaxAt, IsWideAt, limits}
use Rattle.theta_tree.specs.declared.tree.Pred.{Pred}
use Rattle.theta_tree.specs.declared.fault.PredFault.{PredFault}
use Rattle.theta_tree.specs.declared.fault.PredFault.TheVariants as texts
use Rattle.theta_pred.specs.declared.fault.ResolveFault.{ResolveFault}
use Rattle.theta_pred.specs.declared.fault.ResolveFault.TheVariants as columns
use Rattle.join_words.specs.Words.{Asked, AskedChain, chain_of}
use Rattle.join_plan.specs.declared.fault.Refusal.{Refusal}
use Rattle.join_plan.specs.declared.fault.Refusal.TheVariants as refusals
use Rattle.join_plan.specs.declared.fault.LimitFault.TheVariants.{Between, TooLong, TooMany, Total}
use Rattle.join_plan.specs.declared.fault.TextFault.{TextFault}
use Rattle.join_plan.specs.declared.fault.TextFault.TheVariants.{Syntax, Deep, Wide, Literal, NoColumn, TwoColumns}
use Rattle.join_plan.specs.declared.refusal_of_fault.Which.{Which}
use Rattle.join_plan.specs.declared.refusal_of_fault.Which.TheVariants.{On, Then}
use Rattle.join_plan.specs.Causes.{HasText, IsTextOf, IsTrueFurther, LacksOne, Refuses}
use Rattle.join_plan.specs.Files.{sources}
use Rattle.join_plan.specs.Refusals.{column_refusal, text_refusal, told_by}
use Rattle.join_plan.specs.Texts.{IsTrueOf}

-- a fault of a text in place of its predicate
abbrev pub no_pred : PredFault → Result Pred PredFault
no_pred fault = Err fault

-- ---- of a text

-- a fault of a predicate's text, told as that predicate's
told_refuses : (which : Which) (text : List ℕ) (fault : TextFault) → IsTrueOf text fault
    → (old new : ℕ) (told : Told) (spot : Spot) (asked : Asked) → IsTextOf which text asked
    → Refuses old new told spot asked (told_by which fault)
told_refuses On text fault is old new told spot asked same = subst (λ t. IsTrueOf t fault) (sym same) is
told_refuses Then text fault is old new told spot asked same = by (chain_of asked.kind) same
  where
    by : (chain : Option AskedChain) → IsSomeAnd chain (λ chain. chain.on ≡ text) → IsTrueFurther chain fault
    by None same = absurd same
    by (Some chain) same = subst (λ t. IsTrueOf t fault) (sym same) is

-- what parsing tells
pub text_refuses : (which : Which) (text : List ℕ) (fault : PredFault)
    → ((place : ℕ) → no_pred fault ≡ Err (texts.Syntax place) → IsSyntaxAt limits text place)
    → ((place : ℕ) → no_pred fault ≡ Err (texts.Deep place) → IsDeepAt limits text place)
    → ((place : ℕ) → no_pred fault ≡ Err (texts.Wide place) → IsWideAt limits text place)
    → ((place : ℕ) → no_pred fault ≡ Err (texts.Literal place) → IsLiteralAt limits text place)
    → (old new : ℕ) (told : Told) (spot : Spot) (asked : Asked) → IsTextOf which text asked
    → Refuses old new told spot asked (text_refusal which fault)
text_refuses which text (texts.Syntax place) syntax deep wide literal =
    told_refuses which text (Syntax place) (syntax place refl)
text_refuses which text (texts.Deep place) syntax deep wide literal =
    told_refuses which text (Deep place) (deep place refl)
text_refuses which text (texts.Wide place) syntax deep wide literal =
    told_refuses which text (Wide place) (wide place refl)
text_refuses which text (texts.Literal place) syntax deep wide literal =
    told_refuses which text (Literal place) (literal place refl)
text_refuses which text texts.Memory syntax deep wide literal = λ old new told spot asked same. tt

-- ---- of the columns, whatever the shelf tells

-- a fault that no text has for itself
free_refuses : (which : Which) (fault : TextFault) → ((text : List ℕ) → IsTrueOf text fault)
    → (old new : ℕ) (told : Told) (spot : Spot) (asked : Asked) → HasText which asked
    → Refuses old new told spot asked (told_by which fault)
free_refuses On fault free old new told spot asked has = free asked.on
free_refuses Then fault free old new told spot asked has = by (chain_of asked.kind) has
  where
    by : (chain : Option AskedChain) → is_some chain ≡ true → IsTrueFurther chain fault
    by None has = absurd (cc has)
    by (Some chain) has = free chain.on

-- what resolving tells
pub columns_refuse : (which : Which) (fault : ResolveFault) (old new : ℕ) (told : Told) (spot : Spot) (asked : Asked)
    → HasText which asked → Refuses old new told spot asked (column_refusal which fault)
columns_refuse which (columns.NoColumn side name) = free_refuses which (NoColumn side name) (λ text. tt)
columns_refuse which (columns.TwoColumns side name) = free_refuses which (TwoColumns side name) (λ text. tt)
columns_refuse which columns.Memory = λ old new told spot asked has. tt

-- ---- of a file that is read after another

-- what is told of it is so, counted from before the other
pub later_refuses : (old middle new : ℕ) (told later : Told) (spot : Spot) (asked : Asked) (refusal : Refusal)
    → old ≤ middle → later ≡ told
    → Refuses middle new later spot asked refusal → Refuses old new told spot asked refusal
later_refuses old middle new told later spot asked (refusals.Predicate fault) rises same refuses = refuses
later_refuses old middle new told later spot asked (refusals.Then fault) rises same refuses = refuses
later_refuses old middle new told later spot asked (refusals.Input fault) rises same refuses = tt
later_refuses old middle new told later spot asked (refusals.Limit (TooLong side wave)) rises same refuses = refuses
later_refuses old middle new told later spot asked (refusals.Limit (TooMany side wave)) rises same refuses = tt
later_refuses old middle new told later spot asked (refusals.Limit (Total side wave rows)) rises same refuses = tt
later_refuses old middle new told later spot asked (refusals.Limit (Between pairs)) rises same refuses = refuses
later_refuses old middle new told later spot asked refusals.Read rises same refuses = (
  refuses.0,
  elim refuses.1 [
    | inl rose ↦ inl (omega (arith, rises, rose))
    | inr lacks ↦ inr (subst (λ t. LacksOne t (sources asked)) same lacks)
  ],
)
later_refuses old middle new told later spot asked refusals.Memory rises same refuses = tt

-- the same of an answer, where it is a refusal
pub later_refuses_if : {A : Type 0} (old middle new : ℕ) (told later : Told) (spot : Spot) (asked : Asked)
    (result : Result A Refusal) → old ≤ middle → later ≡ told
    → IfErr result (Refuses middle new later spot asked) → IfErr result (Refuses old new told spot asked)
later_refuses_if old middle new told later spot asked (Ok all) rises same refuses = tt
later_refuses_if old middle new told later spot asked (Err refusal) rises same refuses =
    later_refuses old middle new told later spot asked refusal rises same refuses
