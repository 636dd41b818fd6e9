-- What parsing a text shows of what may follow it.
use Rattle.std.proofs.Common.{◌≡◌, ◌≢◌, ◌↔◌, ◌⊎◌, inl, inr, ℕ, List, [], ◌∷◌, ◌++◌, length, take, Option, Some, Result}
use Rattle.std.proofs.Common.{Ok, Err, IfOk, MatchResult, Bool, IsTrue, refl, sym, ap, subst}
use Rattle.std.specs.Result.{result_err}
use Rattle.std.specs.Str.{IsCharBoundary}
use Rattle.std.specs.declared.alloc.AllocError.{AllocError}
use Rattle.theta_tree.specs.Grammar.{Tree}
use Rattle.theta_tree.specs.Texts.{TextReads, IsFaultOf, IsSyntaxAt, IsDeepAt, IsWideAt, IsLiteralAt, limits, tree_of}
use Rattle.theta_tree.specs.declared.tree.Pred.{Pred}
use Rattle.theta_tree.specs.declared.fault.PredFault.{PredFault}
use Rattle.theta_tree.specs.declared.fault.PredFault.TheVariants.{Syntax, Deep, Wide, Literal, Memory}
use Rattle.predicate_hints.specs.Follow.{IsReading, MayFollow, Stands}

-- a fault that is told, and not for want of memory, is the text's one fault
told : (text : List ℕ) (found : PredFault)
    → ((tree : Tree) → TextReads limits text tree → found ≡ Memory)
    → ((fault : PredFault) → IsFaultOf limits text fault → (found ≡ fault) ⊎ (found ≡ Memory))
    → found ≢ Memory → IsFaultOf limits text found → IsReading text (Some found)
told text found only exact not_memory is = (
  (λ (tree, reads). not_memory (only tree reads)),
  is,
  λ other is_other. elim (exact other is_other) [ inl same ↦ sym same | inr memory ↦ absurd (not_memory memory) ],
)

-- what parsing answers, but for want of memory, is the text's reading
pub reading_told : (text : List ℕ) (found : PredFault)
    → ((tree : Tree) → TextReads limits text tree → found ≡ Memory)
    → ((place : ℕ) → found ≡ Syntax place → IsSyntaxAt limits text place)
    → ((place : ℕ) → found ≡ Deep place → IsDeepAt limits text place)
    → ((place : ℕ) → found ≡ Wide place → IsWideAt limits text place)
    → ((place : ℕ) → found ≡ Literal place → IsLiteralAt limits text place)
    → ((fault : PredFault) → IsFaultOf limits text fault → (found ≡ fault) ⊎ (found ≡ Memory))
    → found ≢ Memory → IsReading text (Some found)
reading_told text (Syntax place) only syntax deep wide literal exact other =
    told text _ only exact other (syntax place refl)
reading_told text (Deep place) only syntax deep wide literal exact other =
    told text _ only exact other (deep place refl)
reading_told text (Wide place) only syntax deep wide literal exact other =
    told text _ only exact other (wide place refl)
reading_told text (Literal place) only syntax deep wide literal exact other =
    told text _ only exact other (literal place refl)
reading_told text Memory only syntax deep wide literal exact other = absurd (other refl)

-- the same of the whole answer
pub reading : (text : List ℕ) (answer : Result Pred PredFault)
    → IfOk answer (λ pred. TextReads limits text (tree_of pred))
    → ((tree : Tree) → TextReads limits text tree
    → MatchResult answer (λ pred. tree_of pred ≡ tree) (λ fault. fault ≡ Memory))
    → ((place : ℕ) → answer ≡ Err (Syntax place) → IsSyntaxAt limits text place)
    → ((place : ℕ) → answer ≡ Err (Deep place) → IsDeepAt limits text place)
    → ((place : ℕ) → answer ≡ Err (Wide place) → IsWideAt limits text place)
    → ((place : ℕ) → answer ≡ Err (Literal place) → IsLiteralAt limits text place)
    → ((fault : PredFault) → IsFaultOf limits text fault
    → MatchResult answer (λ pred. ⊥) (λ found. (found ≡ fault) ⊎ (found ≡ Memory)))
    → (found : Option PredFault) → found ≡ result_err answer → found ≢ Some Memory → IsReading text found
reading text (Ok pred) ok only syntax deep wide literal exact found is other =
    subst (IsReading text) (sym is) (tree_of pred, ok)
reading text (Err fault) ok only syntax deep wide literal exact found is other =
    subst (IsReading text) (sym is)
    (reading_told text fault only (λ place e. syntax place (ap Err e)) (λ place e. deep place (ap Err e))
    (λ place e. wide place (ap Err e)) (λ place e. literal place (ap Err e)) exact (λ e. other (cc)))

-- a text with a fault may go on if that is at its end
pub stands_at_end : (text : List ℕ) (fault : PredFault) (at_end : Bool) → IsReading text (Some fault)
    → IsTrue at_end ↔ (fault ≡ Syntax (length text)) → IsTrue at_end ↔ Stands text
stands_at_end text fault at_end (none, is, one) (to, from) = (
  (λ e. inr (subst (IsFaultOf limits text) (to e) is)),
  λ may. elim may [ inl reads ↦ absurd (none reads) | inr more ↦ from (sym (one (Syntax (length text)) more)) ],
)

-- what stands with the token is what stands before the place, a blank and the token
pub follows : (text token front both : List ℕ) (place : ℕ) (answer : Result Bool AllocError)
    → IsCharBoundary text place → front ≡ take place text → both ≡ front ++ 32 ∷ [] ++ token
    → IfOk answer (λ may. IsTrue may ↔ Stands both) → IfOk answer (λ may. IsTrue may ↔ MayFollow text place token)
follows text token front both place (Err e) there is_front is_both stands = tt
follows text token front both place (Ok may) there is_front is_both (to, from) =
    let same : both ≡ take place text ++ 32 ∷ [] ++ token = rw (← is_front) is_both in (
      (λ e. (there, subst Stands same (to e))),
      λ (_, may_stand). from (subst Stands (sym same) may_stand),
    )
