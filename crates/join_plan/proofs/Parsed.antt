-- What parsing a text answers, by what the text reads as.
use Rattle.std.proofs.Common.{◌≡◌, ◌⊎◌, inl, inr, ℕ, List, Result, Ok, Err, sym, ap}
use Rattle.theta_tree.specs.Grammar.{Tree}
use Rattle.theta_tree.specs.Texts.{TextReads, IsFaultOf, limits, tree_of}
use Rattle.theta_tree.specs.declared.tree.Pred.{Pred}
use Rattle.theta_tree.specs.declared.fault.PredFault.{PredFault}
use Rattle.theta_tree.specs.declared.fault.PredFault.TheVariants as texts
use Rattle.join_plan.specs.declared.fault.Refusal.TheVariants.{Memory}
use Rattle.join_plan.specs.Refusals.{text_refusal}
use Rattle.text_readings.specs.Readings.{IsReading}
use Rattle.join_plan.specs.declared.fault.Refusal.{Refusal}
use Rattle.join_plan.specs.declared.refusal_of_fault.Which.{Which}
use Rattle.join_plan.specs.declared.refusal_of_fault.Which.TheVariants.{On}
use Rattle.join_plan.specs.Texts.{tree_or_refused}

-- a text with a predicate reads as its tree
pub reads_ok : (text : List ℕ) (pred : Pred) (reading : Result Tree PredFault)
    → ((tree : Tree) → TextReads limits text tree → tree_of pred ≡ tree)
    → ((fault : PredFault) → IsFaultOf limits text fault → ⊥)
    → IsReading limits text reading → reading ≡ Ok (tree_of pred)
reads_ok text pred (Ok tree) only exact reads = ap Ok (sym (only tree reads))
reads_ok text pred (Err fault) only exact reads = absurd (exact fault reads)

-- a text that is no predicate is refused by its fault, or for want of memory
pub reads_err : (which : Which) (text : List ℕ) (found : PredFault) (reading : Result Tree PredFault)
    → ((tree : Tree) → TextReads limits text tree → found ≡ texts.Memory)
    → ((fault : PredFault) → IsFaultOf limits text fault → (found ≡ fault) ⊎ (found ≡ texts.Memory))
    → IsReading limits text reading
    → (text_refusal which found ≡ Memory) ⊎ (tree_or_refused which reading ≡ Err (text_refusal which found))
reads_err which text found (Ok tree) only exact reads = inl (ap (text_refusal which) (only tree reads))
reads_err which text found (Err fault) only exact reads = elim (exact fault reads) [
  | inl same ↦ inr (ap (λ f. Err (text_refusal which f)) (sym same))
  | inr memory ↦ inl (ap (text_refusal which) memory)
]

-- the fault that a text has is the one that is told
pub refused_early : (which : Which) (text : List ℕ) (found fault : PredFault)
    → ((other : PredFault) → IsFaultOf limits text other → (found ≡ other) ⊎ (found ≡ texts.Memory))
    → IsFaultOf limits text fault
    → (text_refusal which found ≡ Memory) ⊎ (text_refusal which found ≡ text_refusal which fault)
refused_early which text found fault exact is = elim (exact fault is) [
  | inl same ↦ inr (ap (text_refusal which) same)
  | inr memory ↦ inl (ap (text_refusal which) memory)
]

-- a text with a tree is refused for want of memory alone
pub only_memory : (tree : Tree) (refusal : Refusal) → (refusal ≡ Memory) ⊎ (tree_or_refused On (Ok tree) ≡ Err refusal)
    → refusal ≡ Memory
only_memory tree refusal (inl memory) = memory
only_memory tree refusal (inr e) = absurd (cc e)

-- ---- a second text behind the first
