-- Each fault as the refusal that tells it.
use Rattle.std.specs.Prelude.{ℕ, Result, Ok, Err}
use Rattle.row_cells.specs.declared.table.Side.{Side}
use Rattle.join_rows.specs.declared.fault.TableFault.{TableFault}
use Rattle.join_rows.specs.declared.fault.TableFault.TheVariants as files
use Rattle.theta_tree.specs.declared.fault.PredFault.{PredFault}
use Rattle.theta_tree.specs.declared.fault.PredFault.TheVariants as texts
use Rattle.theta_pred.specs.declared.fault.ResolveFault.{ResolveFault}
use Rattle.theta_pred.specs.declared.fault.ResolveFault.TheVariants as columns
use Rattle.join_plan.specs.declared.fault.Refusal.{Refusal}
use Rattle.join_plan.specs.declared.fault.Refusal.TheVariants as refusals
use Rattle.join_plan.specs.declared.fault.TextFault.{TextFault}
use Rattle.join_plan.specs.declared.fault.TextFault.TheVariants.{Syntax, Deep, Wide, Literal, NoColumn, TwoColumns}
use Rattle.join_plan.specs.declared.fault.InputFault.TheVariants.{NoHeader, Width}
use Rattle.join_plan.specs.declared.fault.LimitFault.TheVariants.{TooLong, TooMany}
use Rattle.join_plan.specs.declared.refusal_of_fault.Which.{Which}
use Rattle.join_plan.specs.declared.refusal_of_fault.Which.TheVariants.{On, Then}

-- one stage after another
abbrev pub then_of : {A B : Type 0} → Result A Refusal → (A → Result B Refusal) → Result B Refusal
then_of (Ok x) next = next x
then_of (Err refusal) next = Err refusal

-- of the one predicate, or of the other
abbrev pub told_by : Which → TextFault → Refusal
told_by On fault = refusals.Predicate fault
told_by Then fault = refusals.Then fault

-- of a text that is no predicate
abbrev pub text_refusal : Which → PredFault → Refusal
text_refusal which (texts.Syntax place) = told_by which (Syntax place)
text_refusal which (texts.Deep place) = told_by which (Deep place)
text_refusal which (texts.Wide place) = told_by which (Wide place)
text_refusal which (texts.Literal place) = told_by which (Literal place)
text_refusal which texts.Memory = refusals.Memory

-- of a side's file in a wave that is no table
abbrev pub file_refusal : Side → ℕ → TableFault → Refusal
file_refusal side wave files.Read = refusals.Read
file_refusal side wave files.TooLong = refusals.Limit (TooLong side wave)
file_refusal side wave files.NoHeader = refusals.Input (NoHeader side wave)
file_refusal side wave (files.Width row found) = refusals.Input (Width side wave row found)
file_refusal side wave files.TooMany = refusals.Limit (TooMany side wave)
file_refusal side wave files.Memory = refusals.Memory

-- of a predicate that doesn't fit the headers
abbrev pub column_refusal : Which → ResolveFault → Refusal
column_refusal which (columns.NoColumn side name) = told_by which (NoColumn side name)
column_refusal which (columns.TwoColumns side name) = told_by which (TwoColumns side name)
column_refusal which columns.Memory = refusals.Memory
