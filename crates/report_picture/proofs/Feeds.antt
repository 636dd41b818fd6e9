-- How many line feeds a text has up to a place.
use Rattle.std.proofs.Common.{◌≤◌, ℕ, List, subst, take}
use Rattle.std.specs.Prelude.{◌==◌, cond}
use Rattle.std.proofs.lemmas.List.{take-take}
use Rattle.std.proofs.lemmas.List.Sums.{sum_by-take-le}
use Rattle.report_picture.specs.Texts.{feeds_in}

-- a shorter front has no more of them
pub feeds_more : (text : List ℕ) (before place : ℕ) → before ≤ place
    → feeds_in (take before text) ≤ feeds_in (take place text)
feeds_more text before place low =
    subst (λ front. feeds_in front ≤ feeds_in (take place text)) (take-take before place text low)
    (sum_by-take-le (λ byte. cond (byte == 10) 1 0) (take place text) before)
