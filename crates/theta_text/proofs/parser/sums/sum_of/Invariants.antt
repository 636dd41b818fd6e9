use Rattle.std.proofs.Common.{◌≡◌, ◌+◌, ◌<◌, List, ◌∷◌, length}
use Rattle.theta_tree.specs.declared.tree.Signed.{Signed}
use Rattle.theta_tree.specs.Grammar.{FirstText, FurtherTerms}
use Rattle.theta_text.specs.Machine.{Symbol, sum, more, verdict}
use Rattle.theta_tree.specs.Faults.{words}
use Rattle.theta_tree.specs.Texts.{limits}
use Rattle.theta_text.proofs.parser.sums.sum_of.Given as goal

abbrev pub invariant-loop-minus : goal.invariant-loop-minus
invariant-loop-minus l = record {
  read : (x : Signed) × (xs : List Signed) × (l.terms ≡ x ∷ xs) × (l.room + length xs ≡ limits.more)
      × FirstText limits.greatest (words l.tokens) x (words l.initial.rest)
      × FurtherTerms limits.greatest limits.more (words l.initial.rest) xs (words l.rest);
  run : (s : List Symbol) → verdict limits l.end (sum ∷ s) l.tokens ≡ verdict limits l.end (more l.room ∷ s) l.rest;
  shorter : length l.rest < length l.tokens;
}

abbrev pub decreases-loop-minus : goal.decreases-loop-minus
decreases-loop-minus l = length l.rest
