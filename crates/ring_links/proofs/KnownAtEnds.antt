-- What an end of a ring knows of.
use Rattle.std.proofs.Common.{◌+◌, ◌≤◌, ap, sym, ◌∙◌, List, ◌∷◌, ◌++◌, length, arith}
use Rattle.std.proofs.lemmas.List.{length-append}
use mathlib.Core.List.{IsPrefix}

-- what was known before is the item that is taken and what is known after, or a front of that
pub known_after : {X : Type 0} (x : X) (before after : List X) → IsPrefix before (x ∷ after)
    → length before ≤ length after + 1
known_after x before after front =
    let whole = sym (length-append before front.0) ∙ ap length front.1 in
    omega (arith, whole)
