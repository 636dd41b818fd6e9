-- What a joiner can take of an open step, and what its counts and its last words say.
use Rattle.std.proofs.Common.{◌≡◌, ℕ, ◌<◌, refl, sym, ap, subst, List, [], ◌∷◌, ◌++◌}
use Rattle.std.specs.Prelude.{map}
use Rattle.epoch_tags.specs.declared.message.ToController.TheVariants.{Settled}
use Rattle.epoch_tags.specs.declared.message.ToJoiner.{ToJoiner}
use Rattle.epoch_tags.specs.declared.message.ToJoiner.TheVariants.{Tup, Turn, End, Moved, MovedEnd}
use Rattle.epoch_tags.specs.declared.message.ToCollector.{ToCollector}
use Rattle.epoch_tags.specs.declared.message.ToCollector.TheVariants.{Found}
use Rattle.epoch_tags.specs.declared.tuple.Pair.{Pair}
use Rattle.epoch_tags.specs.Messages.{settled_epochs, fins}
use Rattle.joiner_law.specs.Law.{JoinerStart, Taken, IsOpenPart, CanTakeOfJoiner}
use Rattle.joiner_law.proofs.TakesAll.{IsOfEpoch}

-- a message of the open step and of the partner can be taken
pub can_take_of_joiner : (s : JoinerStart) (t : Taken) (done q e : ℕ) (m : ToJoiner) → IsOfEpoch e m
    → IsOpenPart s t done q e → CanTakeOfJoiner s t done q m
can_take_of_joiner s t done q e (Tup x) is part = absurd is
can_take_of_joiner s t done q e (Turn epoch shift) is part = absurd is
can_take_of_joiner s t done q e End is part = absurd is
can_take_of_joiner s t done q e (Moved epoch x) is part = subst (λ v. IsOpenPart s t done q v) (sym is) part
can_take_of_joiner s t done q e (MovedEnd epoch) is part = subst (λ v. IsOpenPart s t done q v) (sym is) part

-- the epochs of words that say so
pub settled_of : (es : List ℕ) → settled_epochs (map (λ e. Settled e) es) ≡ es
settled_of [] = refl
settled_of (e ∷ es) = ap (λ xs. e ∷ xs) (settled_of es)

-- a last message stays behind the pairs
pub has_fin : (founds : List (List Pair)) (ms : List ToCollector) → 0 < fins ms
    → 0 < fins (map (λ ps. Found ps) founds ++ ms)
has_fin [] ms has = has
has_fin (ps ∷ founds) ms has = has_fin founds ms has
