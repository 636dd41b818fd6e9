-- The rows of an epoch in lists of messages to a joiner.
use Rattle.std.proofs.Common.{◌≡◌, ℕ, refl, ap, Bool, true, false, cond, List, [], ◌∷◌, ◌++◌}
use Rattle.std.specs.Prelude.{◌==◌}
use Rattle.epoch_tags.specs.declared.message.ToJoiner.{ToJoiner}
use Rattle.epoch_tags.specs.declared.message.ToJoiner.TheVariants.{Tup, Turn, End, Moved, MovedEnd}
use Rattle.epoch_tags.specs.Messages.{tups_of}

-- of two lists end to end they are those in the first, and then those in the second
pub tups_of-append : (e : ℕ) (xs ys : List ToJoiner) → tups_of e (xs ++ ys) ≡ tups_of e xs ++ tups_of e ys
tups_of-append e [] ys = refl
tups_of-append e (Tup x ∷ xs) ys = either (x.stamp == e) (tups_of-append e xs ys)
  where
    either : (t : Bool) → tups_of e (xs ++ ys) ≡ tups_of e xs ++ tups_of e ys
        → cond t (x ∷ tups_of e (xs ++ ys)) (tups_of e (xs ++ ys)) ≡ cond t (x ∷ tups_of e xs) (tups_of e xs)
        ++ tups_of e ys
    either true rest = ap (λ ts. x ∷ ts) rest
    either false rest = rest
tups_of-append e (Turn epoch shift ∷ xs) ys = tups_of-append e xs ys
tups_of-append e (End ∷ xs) ys = tups_of-append e xs ys
tups_of-append e (Moved epoch x ∷ xs) ys = tups_of-append e xs ys
tups_of-append e (MovedEnd epoch ∷ xs) ys = tups_of-append e xs ys
