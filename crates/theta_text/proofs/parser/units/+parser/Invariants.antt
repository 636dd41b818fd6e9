use Rattle.std.proofs.Common.{◌≡◌, ◌+◌, ◌*◌, ◌<◌, ◌≤◌, List, ◌∷◌, length, map}
use Rattle.theta_tree.specs.Grammar.{IsAnd, IsOr, Unit', Conj, Further}
use Rattle.theta_text.specs.Machine.{Symbol, unit, tail, verdict}
use Rattle.theta_tree.specs.Faults.{words}
use Rattle.theta_tree.specs.Texts.{tree_of, limits}
use Rattle.theta_text.specs.Views.{BeginsOff}
use Rattle.theta_tree.specs.Sizes.{longest, longest_sum}
use Rattle.theta_text.proofs.parser.units.+parser.Given as goal

abbrev pub decreases-predicate : goal.decreases-predicate
decreases-predicate l = 3 * l.depth + 2

abbrev pub decreases-conj : goal.decreases-conj
decreases-conj l = 3 * l.depth + 1

abbrev pub decreases-one_unit : goal.decreases-one_unit
decreases-one_unit l = 3 * l.depth

abbrev pub invariant-conj-loop-after : goal.invariant-conj-loop-after
invariant-conj-loop-after l = record {
  first : Unit' limits l.depth (words l.tokens) (tree_of l.first) (words l.initial.rest);
  read : Further IsAnd (Unit' limits l.depth) (words l.initial.rest) (map tree_of l.others.items) (words l.rest);
  run : (s : List Symbol) → verdict limits l.end (unit l.depth ∷ tail l.depth ∷ s) l.tokens
      ≡ verdict limits l.end (tail l.depth ∷ s) l.rest;
  shorter : length l.rest < length l.tokens;
  narrow_first : longest_sum l.first ≤ 16;
  narrow : longest (map longest_sum l.others.items) ≤ 16;
}

abbrev pub decreases-conj-loop-after : goal.decreases-conj-loop-after
decreases-conj-loop-after l = length l.rest

abbrev pub invariant-predicate-loop-after : goal.invariant-predicate-loop-after
invariant-predicate-loop-after l = record {
  first : Conj (Unit' limits l.depth) (words l.tokens) (tree_of l.first) (words l.initial.rest);
  read : Further IsOr (Conj (Unit' limits l.depth)) (words l.initial.rest) (map tree_of l.others.items) (words l.rest);
  run : (s : List Symbol) → verdict limits l.end (unit l.depth ∷ tail l.depth ∷ s) l.tokens
      ≡ verdict limits l.end (tail l.depth ∷ s) l.rest;
  ends : BeginsOff IsAnd l.rest;
  shorter : length l.rest < length l.tokens;
  narrow_first : longest_sum l.first ≤ 16;
  narrow : longest (map longest_sum l.others.items) ≤ 16;
}

abbrev pub decreases-predicate-loop-after : goal.decreases-predicate-loop-after
decreases-predicate-loop-after l = length l.rest
