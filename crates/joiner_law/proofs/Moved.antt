-- After the end of a step's part, and after a later turn, no more of it comes.
use Rattle.std.proofs.Common.{◌≡◌, ℕ, ◌+◌, ◌<◌, ◌⊎◌, inl, inr, refl, sym, ◌∙◌, ap, arith, cond, List, [], ◌∷◌, ◌++◌}
use Rattle.std.specs.Prelude.{◌==◌}
use Rattle.std.proofs.lemmas.Bool.{cases_Bool, eqb-true, ne_eqb}
use Rattle.epoch_tags.specs.declared.message.ToJoiner.{ToJoiner}
use Rattle.epoch_tags.specs.declared.message.ToJoiner.TheVariants.{Tup, Turn, End, Moved as Moved', MovedEnd}
use Rattle.epoch_tags.specs.Messages.{moved_of, moved_ends, tups_of, turns, ends}
use Rattle.epoch_tags.specs.Orders.{NeverFalls, CountsUp}

-- from epoch f on nothing of an earlier epoch comes
none_below : (e f : ℕ) (ms : List ToJoiner) → e < f → NeverFalls f ms → moved_of e ms ≡ []
none_below e f [] below falls = refl
none_below e f (Tup x ∷ ms) below falls = absurd falls
none_below e f (Turn epoch shift ∷ ms) below falls = absurd falls
none_below e f (End ∷ ms) below falls = absurd falls
none_below e f (Moved' epoch x ∷ ms) below (low, falls) =
    rw (ne_eqb epoch e (omega arith)) (none_below e epoch ms (omega arith) falls)
none_below e f (MovedEnd epoch ∷ ms) below (low, falls) = none_below e (epoch + 1) ms (omega arith) falls

-- where the front has the end of epoch e, it has all of that epoch
pub whole_part : (e f : ℕ) (front rest : List ToJoiner) → NeverFalls f (front ++ rest) → 0 < moved_ends e front
    → moved_of e front ≡ moved_of e (front ++ rest)
whole_part e f [] rest falls has = absurd (omega arith)
whole_part e f (Tup x ∷ ms) rest falls has = absurd falls
whole_part e f (Turn epoch shift ∷ ms) rest falls has = absurd falls
whole_part e f (End ∷ ms) rest falls has = absurd falls
whole_part e f (Moved' epoch x ∷ ms) rest (low, falls) has =
    let more = whole_part e epoch ms rest falls has in
    ap (λ ts. cond (epoch == e) (x ∷ ts) ts) more
whole_part e f (MovedEnd epoch ∷ ms) rest (low, falls) has =
    elim (cases_Bool (epoch == e)) [
      | inl is ↦
          let same = eqb-true epoch e is in
          none_front e (epoch + 1) ms rest (omega arith) falls
          ∙ sym (none_below e (epoch + 1) (ms ++ rest) (omega arith) falls)
      | inr differ ↦
          let has' : 0 < moved_ends e ms = rw differ at has in
          whole_part e (epoch + 1) ms rest falls has'
    ]
  where
    none_front : (e f : ℕ) (ms rest : List ToJoiner) → e < f → NeverFalls f (ms ++ rest) → moved_of e ms ≡ []
    none_front e f [] rest below falls = refl
    none_front e f (Tup x ∷ ms) rest below falls = absurd falls
    none_front e f (Turn epoch shift ∷ ms) rest below falls = absurd falls
    none_front e f (End ∷ ms) rest below falls = absurd falls
    none_front e f (Moved' epoch x ∷ ms) rest below (low, falls) =
        rw (ne_eqb epoch e (omega arith)) (none_front e epoch ms rest (omega arith) falls)
    none_front e f (MovedEnd epoch ∷ ms) rest below (low, falls) = none_front e (epoch + 1) ms rest (omega arith) falls

-- stamps from e on are not older
none_older : (n e : ℕ) (ms : List ToJoiner) → n < e → CountsUp e ms → tups_of n ms ≡ []
none_older n e [] below up = refl
none_older n e (Tup x ∷ ms) below (is, up) = rw (ne_eqb x.stamp n (omega arith)) (none_older n e ms below up)
none_older n e (Turn epoch shift ∷ ms) below (is, up) = none_older n (e + 1) ms (omega arith) up
none_older n e (End ∷ ms) below up = rw up refl
none_older n e (Moved' epoch x ∷ ms) below up = absurd up
none_older n e (MovedEnd epoch ∷ ms) below up = absurd up

front_empty : {A : Type 0} (xs ys : List A) → xs ++ ys ≡ [] → xs ≡ []
front_empty [] ys is = refl
front_empty (x ∷ xs) ys is = cc

-- where the front goes past epoch n, or has the end, it has all tuples of that epoch
pub whole_epoch : (n e : ℕ) (front rest : List ToJoiner) → CountsUp e (front ++ rest) → (n < e + turns front)
    ⊎ (0 < ends front) → tups_of n front ≡ tups_of n (front ++ rest)
whole_epoch n e [] rest up (inl past) = sym (none_older n e rest (omega arith) up)
whole_epoch n e [] rest up (inr over) = absurd (omega arith)
whole_epoch n e (Tup x ∷ ms) rest (is, up) over = ap (λ ts. cond (x.stamp == n) (x ∷ ts) ts)
    (whole_epoch n e ms rest up over)
whole_epoch n e (Turn epoch shift ∷ ms) rest (is, up) (inl past) = whole_epoch n (e + 1) ms rest up (inl (omega arith))
whole_epoch n e (Turn epoch shift ∷ ms) rest (is, up) (inr over) = whole_epoch n (e + 1) ms rest up (inr over)
whole_epoch n e (End ∷ ms) rest up over = rw (up, front_empty ms rest up) refl
whole_epoch n e (Moved' epoch x ∷ ms) rest up over = absurd up
whole_epoch n e (MovedEnd epoch ∷ ms) rest up over = absurd up
