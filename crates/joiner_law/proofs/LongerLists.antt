-- Lists of messages with one more at the end.
use Rattle.std.proofs.Common.{◌≡◌, ℕ, zero, suc, ◌+◌, ◌<◌, ◌≢◌, inl, inr, refl, sym, ◌∙◌, ap, subst, arith, Bool, true}
use Rattle.std.proofs.Common.{false, cond, List, [], ◌∷◌, ◌++◌, append_assoc, eq-eqb}
use Rattle.std.specs.Prelude.{◌==◌, sum_by}
use Rattle.std.proofs.lemmas.Bool.{cases_eq, ne_eqb}
use Rattle.row_cells.specs.Lists.{SameBag, gather}
use Rattle.std.proofs.lemmas.List.Sums.{sum_by-append}
use Rattle.epoch_tags.specs.declared.message.ToJoiner.{ToJoiner}
use Rattle.epoch_tags.specs.declared.message.ToJoiner.TheVariants.{Tup, Turn, End, Moved, MovedEnd}
use Rattle.epoch_tags.specs.Messages.{tups_of, turns, ends, moved_of}
use Rattle.epoch_tags.specs.Orders.{CountsUp, TurnsGoBy}
use Rattle.joiner_law.specs.Standing.{grown}

-- what two lists one after the other move in an epoch: the tuples of the first, and then of the second
pub moved_of-append : (e : ℕ) (xs ys : List ToJoiner) → moved_of e (xs ++ ys) ≡ moved_of e xs ++ moved_of e ys
moved_of-append e [] ys = refl
moved_of-append e (Tup x ∷ xs) ys = moved_of-append e xs ys
moved_of-append e (Turn epoch shift ∷ xs) ys = moved_of-append e xs ys
moved_of-append e (End ∷ xs) ys = moved_of-append e xs ys
moved_of-append e (Moved epoch x ∷ xs) ys = either (epoch == e) (moved_of-append e xs ys)
  where
    either : (t : Bool) → moved_of e (xs ++ ys) ≡ moved_of e xs ++ moved_of e ys
        → cond t (x ∷ moved_of e (xs ++ ys)) (moved_of e (xs ++ ys)) ≡ cond t (x ∷ moved_of e xs) (moved_of e xs)
        ++ moved_of e ys
    either true rest = ap (λ ts. x ∷ ts) rest
    either false rest = rest
moved_of-append e (MovedEnd epoch ∷ xs) ys = moved_of-append e xs ys

-- the turns of two lists one after the other go by the shifts if those of each list do
pub TurnsGoBy-append : (b : ℕ → ℕ) (xs ys : List ToJoiner) → TurnsGoBy b xs → TurnsGoBy b ys → TurnsGoBy b (xs ++ ys)
TurnsGoBy-append b [] ys left right = right
TurnsGoBy-append b (Tup x ∷ xs) ys left right = TurnsGoBy-append b xs ys left right
TurnsGoBy-append b (Turn epoch shift ∷ xs) ys left right = (left.0, TurnsGoBy-append b xs ys left.1 right)
TurnsGoBy-append b (End ∷ xs) ys left right = TurnsGoBy-append b xs ys left right
TurnsGoBy-append b (Moved epoch x ∷ xs) ys left right = TurnsGoBy-append b xs ys left right
TurnsGoBy-append b (MovedEnd epoch ∷ xs) ys left right = TurnsGoBy-append b xs ys left right

-- where no end stands in the front, what counts up from there may follow
pub CountsUp-append : (e : ℕ) (xs ys : List ToJoiner) → CountsUp e xs → ends xs ≡ 0 → CountsUp (e + turns xs) ys
    → CountsUp e (xs ++ ys)
CountsUp-append e [] ys left none right = let is : e + 0 ≡ e = omega arith in subst (λ n. CountsUp n ys) is right
CountsUp-append e (Tup x ∷ xs) ys left none right = (left.0, CountsUp-append e xs ys left.1 none right)
CountsUp-append e (Turn epoch shift ∷ xs) ys left none right =
    let is : e + (turns xs + 1) ≡ (e + 1) + turns xs = omega arith in
    (left.0, CountsUp-append (e + 1) xs ys left.1 none (subst (λ n. CountsUp n ys) is right))
CountsUp-append e (End ∷ xs) ys left none right = absurd (omega arith)
CountsUp-append e (Moved epoch x ∷ xs) ys left none right = absurd left
CountsUp-append e (MovedEnd epoch ∷ xs) ys left none right = absurd left

-- ---- all links, one of them with a message more

-- the link of the message has it at its end
pub grown-same : (p : ℕ) (m : ToJoiner) (f : ℕ → List ToJoiner) → grown p m f p ≡ f p ++ m ∷ []
grown-same p m f = rw (eq-eqb p p refl) refl

-- and each other link is as it was
pub grown-other : (p : ℕ) (m : ToJoiner) (f : ℕ → List ToJoiner) (q : ℕ) → q ≢ p → grown p m f q ≡ f q
grown-other p m f q differ = rw (ne_eqb q p differ) refl

gather-same : {X : Type 0} (f g : ℕ → List X) (n : ℕ) → ((i : ℕ) → i < n → f i ≡ g i) → gather n f ≡ gather n g
gather-same f g zero same = refl
gather-same f g (suc n) same =
    let here : f n ≡ g n = same n (omega arith) in
    let rest : gather n f ≡ gather n g = gather-same f g n (λ i low. same i (omega arith)) in
    rw (here, rest) refl

swap : {X : Type 0} (us vs ws ps : List X) → SameBag us (vs ++ ps) → SameBag (us ++ ws) ((vs ++ ws) ++ ps)
swap us vs ws ps same = record {
  sums = λ g.
      let is = same.sums g in
      rw (
        sum_by-append g us ws,
        sum_by-append g (vs ++ ws) ps,
        sum_by-append g vs ws,
      ) (omega (arith, is, sum_by-append g vs ps));
}

-- what is gathered grows, as a bag, by what the message gives
pub gather-grown : {X : Type 0} (of : List ToJoiner → List X)
    → ((xs ys : List ToJoiner) → of (xs ++ ys) ≡ of xs ++ of ys)
    → (p : ℕ) (m : ToJoiner) (f : ℕ → List ToJoiner) (n : ℕ) → p < n
    → SameBag (gather n (λ i. of (grown p m f i))) (gather n (λ i. of (f i)) ++ of (m ∷ []))
gather-grown of appends p m f zero low = absurd (omega arith)
gather-grown {X = X} of appends p m f (suc n) low = elim (cases_eq n p) [
  | inl is ↦
      let here : of (grown p m f n) ≡ of (f n) ++ of (m ∷ []) =
      rw is (ap of (grown-same p m f) ∙ appends (f p) (m ∷ [])) in
      let rest : gather n (λ i. of (grown p m f i)) ≡ gather n (λ i. of (f i)) =
      gather-same _ _ n (λ i less. ap of (grown-other p m f i (λ same. absurd (omega arith)))) in
      rw (here, rest) (record {
        sums = λ g. ap (λ zs. sum_by g zs)
            (sym (append_assoc (gather n (λ i. of (f i))) (of (f n)) (of (m ∷ []))));
      })
  | inr differ ↦
      let here : of (grown p m f n) ≡ of (f n) = ap of (grown-other p m f n differ) in
      let rest = gather-grown of appends p m f n (omega arith) in
      rw here (swap (gather n (λ i. of (grown p m f i))) (gather n (λ i. of (f i))) (of (f n)) (of (m ∷ [])) rest)
]
