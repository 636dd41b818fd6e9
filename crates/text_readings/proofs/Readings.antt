-- A text reads in one way and no second.
use Rattle.std.proofs.Common.{◌≡◌, ℕ, List, length, Result, Ok, Err, refl, ap, subst}
use Rattle.theta_tree.specs.declared.token.Placed.{Placed}
use Rattle.theta_tree.specs.declared.fault.PredFault.{PredFault}
use Rattle.theta_tree.specs.declared.fault.PredFault.TheVariants as faults
use Rattle.theta_tree.specs.Faults.{words}
use Rattle.theta_tree.specs.Grammar.{Limits, Tree, Reads as IsTreeOf}
use Rattle.theta_text.specs.Machine.{syntax, deep, wide, literal, start, Verdict, fine, wrong, verdict}
use Rattle.theta_tree.specs.Tokens.{AreTokens}
use Rattle.theta_tree.specs.Texts.{IsFaultOf, TextReads}
use Rattle.theta_text.proofs.Limited.{syntax_fault, deep_fault, wide_fault, literal_fault}
use Rattle.theta_text.proofs.OneFault.{no_tree, one_fault}
use Rattle.theta_text.proofs.Places.{tokens_unique}
use Rattle.theta_text.proofs.Runs.{start_reads}
use Rattle.theta_text.proofs.Unique.{reads_unique}
use Rattle.text_readings.specs.Readings.{HasReading, IsReading}
use Rattle.text_readings.proofs.Tokens.{has_tokens}
use Rattle.text_readings.proofs.Verdicts.{fine_gives}

-- the verdict on its tokens is how a text reads
reads_so : (L : Limits) (text : List ℕ) (tokens : List Placed) → AreTokens text tokens → HasReading L text
reads_so L text tokens are = go (verdict L (length text) (start L) tokens) refl
  where
    fault : (f : PredFault) → IsFaultOf L text f → HasReading L text
    fault f is = record { reading = Err f; is = is }

    go : (v : Verdict) → verdict L (length text) (start L) tokens ≡ v → HasReading L text
    go fine e =
        let (tree, read) = start_reads L _ (fine_gives L (length text) tokens (start L) e) in
        record { reading = Ok tree; is = (tokens, are, read) }
    go (wrong syntax at) e = fault (faults.Syntax at) (tokens, are, syntax_fault L (length text) tokens at e)
    go (wrong deep at) e = fault (faults.Deep at) (tokens, are, deep_fault L (length text) tokens at e)
    go (wrong wide at) e = fault (faults.Wide at) (tokens, are, wide_fault L (length text) tokens at e)
    go (wrong literal at) e = fault (faults.Literal at) (tokens, are, literal_fault L (length text) tokens at e)

-- each text reads in some way
pub every_text : (L : Limits) (text : List ℕ) → HasReading L text
every_text L text = let (tokens, are) = has_tokens text in reads_so L text tokens are

-- two trees of a text are the same
one_tree : (L : Limits) (text : List ℕ) (t u : Tree) → TextReads L text t → TextReads L text u → t ≡ u
one_tree L text t u (ps, are, read) (qs, are', read') =
    let same : qs ≡ ps = tokens_unique text qs ps are' are in
    reads_unique L (words ps) t u read (subst (λ tokens. IsTreeOf L (words tokens) u) same read')

-- two readings of a text are the same
pub one_reading : (L : Limits) (text : List ℕ) (one other : Result Tree PredFault)
    → IsReading L text one → IsReading L text other → one ≡ other
one_reading L text (Ok t) (Ok u) is is' = ap (λ tree. Ok tree) (one_tree L text t u is is')
one_reading L text (Ok t) (Err g) is is' = absurd (no_tree L text g t is' is)
one_reading L text (Err f) (Ok u) is is' = absurd (no_tree L text f u is is')
one_reading L text (Err f) (Err g) is is' = ap (λ fault. Err fault) (one_fault L text f g is is')
