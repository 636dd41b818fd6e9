-- What the verdict on the whole text says of it.
use Rattle.std.proofs.Common.{◌≡◌, ℕ, List, [], ◌∷◌, refl, sym, ap, subst, ◌∙◌}
use Rattle.theta_tree.specs.declared.token.Token.{Token}
use Rattle.theta_tree.specs.declared.token.Placed.{Placed}
use Rattle.theta_tree.specs.declared.fault.PredFault.{PredFault}
use Rattle.theta_tree.specs.declared.fault.PredFault.TheVariants as faults
use Rattle.theta_tree.specs.Grammar.{Tree, Limits, Predicate, Unit', Reads}
use Rattle.theta_text.specs.Machine.{syntax, deep, wide, literal, unit, tail, start, Verdict, fine, wrong, verdict}
use Rattle.theta_tree.specs.Faults.{words, IsSyntaxFault, IsDeepFault, IsWideFault, IsLiteralFault}
use Rattle.theta_tree.specs.Texts.{limits}
use Rattle.theta_text.specs.Views.{IsFault}
use Rattle.theta_text.proofs.Runs.{reads_start}
use Rattle.theta_text.proofs.Limited.{reads_fine, syntax_fault, deep_fault, wide_fault, literal_fault}
use Rattle.theta_text.proofs.Turns.{nesting_is}

-- the verdict of the parser's call
pub at_start : (end d : ℕ) (tokens : List Placed) → d ≡ 32 → verdict limits end (start limits) tokens
    ≡ verdict limits end (unit d ∷ tail d ∷ []) tokens
at_start end d tokens e = ap (λ n. verdict limits end (unit n ∷ tail n ∷ []) tokens) (nesting_is ∙ sym e)

-- a predicate as deep as the limit allows, with no token behind it, is what the tokens read as
pub whole_read : (L : Limits) (d : ℕ) (before after : List Token) (t : Tree) → d ≡ L.nesting
    → Predicate (Unit' L d) before t after → after ≡ [] → Reads L before t
whole_read L d before after t e r end =
    subst (λ n. Predicate (Unit' L n) before t []) e (subst (λ x. Predicate (Unit' L d) before t x) end r)

-- where the tokens read as a predicate, a fault that agrees with the verdict is want of memory
pub fault_unread : (L : Limits) (end : ℕ) (tokens : List Placed) (fault : PredFault)
    → IsFault (verdict L end (start L) tokens) fault → (t : Tree) → Reads L (words tokens) t → fault ≡ faults.Memory
fault_unread L end tokens fault h t r = go (verdict L end (start L) tokens) (reads_fine L end tokens (start L) (
  tt,
  (tt, tt),
) (reads_start L (words tokens) t r)) fault h
  where
    go : (v : Verdict) → v ≡ fine → (fault : PredFault) → IsFault v fault → fault ≡ faults.Memory
    go v e (faults.Syntax place) h = let clash : fine ≡ wrong syntax place = sym e ∙ h in cc
    go v e (faults.Deep place) h = let clash : fine ≡ wrong deep place = sym e ∙ h in cc
    go v e (faults.Wide place) h = let clash : fine ≡ wrong wide place = sym e ∙ h in cc
    go v e (faults.Literal place) h = let clash : fine ≡ wrong literal place = sym e ∙ h in cc
    go v e faults.Memory h = refl

-- where such a fault is of syntax, the tokens leave the grammar at its place
pub syntax_of : (L : Limits) (end : ℕ) (tokens : List Placed) (fault : PredFault) (place : ℕ)
    → IsFault (verdict L end (start L) tokens) fault → fault ≡ faults.Syntax place → IsSyntaxFault L end tokens place
syntax_of L end tokens fault place h e = syntax_fault L end tokens place
    (subst (λ x. IsFault (verdict L end (start L) tokens) x) e h)

-- where it is of depth, the token at its place nests deeper than the limit
pub deep_of : (L : Limits) (end : ℕ) (tokens : List Placed) (fault : PredFault) (place : ℕ)
    → IsFault (verdict L end (start L) tokens) fault → fault ≡ faults.Deep place → IsDeepFault L tokens place
deep_of L end tokens fault place h e = deep_fault L end tokens place
    (subst (λ x. IsFault (verdict L end (start L) tokens) x) e h)

-- where it is of width, the sign at its place is of a term too many
pub wide_of : (L : Limits) (end : ℕ) (tokens : List Placed) (fault : PredFault) (place : ℕ)
    → IsFault (verdict L end (start L) tokens) fault → fault ≡ faults.Wide place → IsWideFault L tokens place
wide_of L end tokens fault place h e = wide_fault L end tokens place
    (subst (λ x. IsFault (verdict L end (start L) tokens) x) e h)

-- where it is of a number, the one at its place is greater than the limit
pub literal_of : (L : Limits) (end : ℕ) (tokens : List Placed) (fault : PredFault) (place : ℕ)
    → IsFault (verdict L end (start L) tokens) fault → fault ≡ faults.Literal place → IsLiteralFault L tokens place
literal_of L end tokens fault place h e = literal_fault L end tokens place
    (subst (λ x. IsFault (verdict L end (start L) tokens) x) e h)
