-- A writer that holds more and more of a piece.
use Rattle.std.proofs.Common.{◌≡◌, ◌+◌, ◌-◌, ◌∙◌, ℕ, List, ◌++◌, length, take, drop, arith, Option, None, Some, ap}
use Rattle.std.proofs.Common.{take-add, length-drop}
use Rattle.std.proofs.lemmas.List.{append_assoc, drop-drop, take_all}
use Rattle.std.specs.Io.KnownBytes.{Appends}

-- a writer has the first n bytes of a piece more than it had, and these are left
pub record IsPartly (old now : Option (List ℕ)) (piece left : List ℕ) : Type 0 where
  pub count : ℕ
  pub appended : Appends old now (take count piece)
  pub rest : left ≡ drop count piece

then-more : (old now new : Option (List ℕ)) (bytes more : List ℕ) → Appends old now bytes → Appends now new more
    → Appends old new (bytes ++ more)
then-more None now new bytes more a b = tt
then-more (Some xs) None new bytes more a b = absurd a
then-more (Some xs) (Some ys) None bytes more a b = absurd b
then-more (Some xs) (Some ys) (Some zs) bytes more a b = b ∙ ap (λ l. l ++ more) a ∙ append_assoc xs bytes more

-- one that took some bytes
pub partly-more : (old now new : Option (List ℕ)) (piece left : List ℕ) (n : ℕ) → IsPartly old now piece left
    → Appends now new (take n left)
    → IsPartly old new piece (drop n left)
partly-more old now new piece left n is more = record {
  count = is.count + n;
  appended = rw (take-add is.count n piece) (then-more old now new (take is.count piece) (take n (drop is.count piece))
      is.appended (rw is.rest at more));
  rest = rw is.rest (drop-drop n is.count piece);
}

-- the same of a slice from there on
pub partly-next : (old now new : Option (List ℕ)) (piece left : List ℕ) (n : ℕ) → IsPartly old now piece left
    → Appends now new (take n left)
    → IsPartly old new piece (take (length left - n) (drop n left))
partly-next old now new piece left n is more =
    let whole : take (length left - n) (drop n left) ≡ drop n left =
    take_all (length left - n) (drop n left) (omega (arith, length-drop n left)) in
    rw whole (partly-more old now new piece left n is more)
