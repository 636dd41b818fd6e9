-- What a joiner moved, in the law's words: by numbers of steps.
use Rattle.std.proofs.Common.{◌≡◌, ℕ, zero, suc, ◌+◌, ◌^◌, ◌<◌, ◌≤◌, ◌≢◌, inl, inr, refl, sym, ◌∙◌, ap, subst, arith}
use Rattle.std.proofs.Common.{Bool, true, List, [], ◌∷◌, ◌++◌, length}
use Rattle.std.specs.Prelude.{map, filter, count_by, min}
use Rattle.std.proofs.lemmas.Bool.{cases_eq}
use Rattle.std.proofs.lemmas.List.{map-append, length-append, append-nil}
use Rattle.std.proofs.lemmas.List.Sums.{length-filter}
use Rattle.row_cells.specs.Lists.{SameBag, gather, counting_from}
use Rattle.row_cells.proofs.Bags.{SameBag-trans, SameBag-sym, SameBag-filter}
use Rattle.row_cells.proofs.RisingNumbers.{counting-more}
use Rattle.row_cells.proofs.Totals.{length_sum}
use Rattle.epoch_tags.specs.declared.tuple.Tuple.{Tuple}
use Rattle.epoch_tags.specs.declared.message.ToJoiner.{ToJoiner}
use Rattle.epoch_tags.specs.Messages.{moved_of, moved_ends}
use Rattle.grid_map.proofs.Halves.{partner_below}
use Rattle.migration_plan.specs.Steps.{AreNeighbours, is_of, exchanged_side, partner_in_step}
use Rattle.joiner_law.specs.Law.{JoinerStart, JoinerLists, Taken, partner_of, exchanged, shift_after, store}
use Rattle.joiner_law.specs.Law.{sent_in_step}
use Rattle.joiner_law.specs.History.{Step, stored}
use Rattle.joiner_law.specs.Standing.{grown, one_if, IsHistory, IsSent, AreSent, moved_counts}
use Rattle.joiner_law.proofs.LongerLists.{gather-grown}
use Rattle.joiner_law.proofs.StepStores.{store-is}

-- ---- bags and their sizes

-- two lists that are one bag are equally long
pub length-bag : {X : Type 0} (xs ys : List X) → SameBag xs ys → length xs ≡ length ys
length-bag xs ys same = length_sum xs ∙ same.sums (λ x. 1) ∙ sym (length_sum ys)

-- and as many tuples of the one as of the other pass a test
pub count-bag : (keep : Tuple → Bool) (xs ys : List Tuple) → SameBag xs ys → count_by keep xs ≡ count_by keep ys
count-bag keep xs ys same = sym (length-filter keep xs) ∙ length-bag (filter keep xs) (filter keep ys)
    (SameBag-filter keep same) ∙ length-filter keep ys

none-gathered : {X : Type 0} (n : ℕ) (f : ℕ → List X) → ((i : ℕ) → i < n → f i ≡ []) → gather n f ≡ []
none-gathered zero f none = refl
none-gathered (suc n) f none =
    let here : f n ≡ [] = none n (omega arith) in
    let rest : gather n f ≡ [] = none-gathered n f (λ i low. none i (omega arith)) in
    rw (here, rest) refl

-- one list alone isn't empty
one-gathered : {X : Type 0} (n : ℕ) (f : ℕ → List X) (who : ℕ) → who < n → ((i : ℕ) → i < n → i ≢ who → f i ≡ [])
    → gather n f ≡ f who
one-gathered zero f who low none = absurd (omega arith)
one-gathered (suc n) f who low none = elim (cases_eq n who) [
  | inl is ↦
      let rest : gather n f ≡ [] = none-gathered n f (λ i less. none i (omega arith) (λ same. absurd (omega arith))) in
      ap (λ zs. zs ++ f n) rest ∙ ap f is
  | inr differ ↦
      let here : f n ≡ [] = none n (omega arith) differ in
      let rest : gather n f ≡ f who = one-gathered n f who (omega arith) (λ i less other. none i (omega arith) other) in
      ap (λ zs. gather n f ++ zs) here ∙ append-nil (gather n f) ∙ rest
]

-- a message more is one more
pub gathered-more : (p : ℕ) (m : ToJoiner) (f : ℕ → List ToJoiner) (n : ℕ) → p < n
    → length (gather n (grown p m f)) ≡ length (gather n f) + 1
gathered-more p m f n low =
    length-bag (gather n (grown p m f)) (gather n f ++ m ∷ []) (gather-grown (λ ms. ms) (λ xs ys. refl) p m f n low)
    ∙ length-append (gather n f) (m ∷ [])

-- ---- each step

-- of the step after these
abbrev pub MovedAt : JoinerStart → JoinerLists → Taken → ℕ → Type 0
MovedAt s lists t n = SameBag (moved_of (s.epoch + n + 1) (lists.to_joiner (partner_of s t n)))
    (filter (is_of (exchanged s t n)) (store s t n))

shift-below : (s : JoinerStart) (t : Taken) (step before : Step) (past : List Step)
    → IsHistory s t (step ∷ (before ∷ past)) → shift_after s t (length past) ≡ before.shift
shift-below s t step before past is = is.1.0.shift

shift-top : (s : JoinerStart) (t : Taken) (step before : Step) (past : List Step)
    → IsHistory s t (step ∷ (before ∷ past)) → shift_after s t (length past + 1) ≡ step.shift
shift-top s t step before past is = let next : s.epoch + (length past + 1) ≡ s.epoch
    + length (before ∷ past) = omega arith in ap t.shift_at next ∙ is.0.shift

moved-here : (s : JoinerStart) (lists : JoinerLists) (t : Taken) (ended : Bool) (step before : Step) (past : List Step)
    → IsHistory s t (step ∷ (before ∷ past)) → IsSent s lists ended step before past → MovedAt s lists t (length past)
moved-here s lists t ended step before past is sent =
    rw (shift-below s t step before past is, shift-top s t step before past is)
    (SameBag-trans sent.tuples (SameBag-filter (is_of (exchanged_side before.shift step.shift))
    (SameBag-sym (store-is s t before past is.1))))

-- in each opened step, by its number, the exchanged side of the store before went to the partner
pub moved-law : (s : JoinerStart) (lists : JoinerLists) (t : Taken) (ended : Bool) (steps : List Step) (n : ℕ)
    → IsHistory s t steps → AreSent s lists ended steps → n + 1 < length steps → MovedAt s lists t n
moved-law s lists t ended [] n is sent low = absurd (omega arith)
moved-law s lists t ended (step ∷ []) n is sent low = absurd (omega arith)
moved-law s lists t ended (step ∷ (before ∷ past)) n is sent low = elim (cases_eq n (length past)) [
  | inl here ↦ subst (λ (i : ℕ). MovedAt s lists t i) (sym here) (moved-here s lists t ended step before past is sent.0)
  | inr other ↦ moved-law s lists t true (before ∷ past) n is.1 sent.1 (omega arith)
]

-- the partner in step n was sent the end of this joiner's part of it, just once
abbrev pub EndedAt : JoinerStart → JoinerLists → Taken → ℕ → Type 0
EndedAt s lists t n = moved_ends (s.epoch + n + 1) (lists.to_joiner (partner_of s t n)) ≡ 1

up-one : (n : ℕ) (b : Bool) → n ≡ one_if b → b ≡ true → n ≡ 1
up-one n b is up = is ∙ ap one_if up

-- this is so of each opened step before the latest, and of the latest where its end was sent
pub ended-law : (s : JoinerStart) (lists : JoinerLists) (t : Taken) (ended : Bool) (steps : List Step) (n : ℕ)
    → IsHistory s t steps → AreSent s lists ended steps → n + 1 < length steps → (n + 2 ≡ length steps → ended ≡ true)
    → EndedAt s lists t n
ended-law s lists t ended [] n is sent low last = absurd (omega arith)
ended-law s lists t ended (step ∷ []) n is sent low last = absurd (omega arith)
ended-law s lists t ended (step ∷ (before ∷ past)) n is sent low last = elim (cases_eq n (length past)) [
  | inl here ↦
      let one : moved_ends (s.epoch + length past + 1) (lists.to_joiner (partner_in_step before.shift step.shift s.id))
      ≡ 1 = up-one _ ended sent.0.ends (last (omega arith)) in
      let at : EndedAt s lists t (length past) = rw (
        shift-below s t step before past is,
        shift-top s t step before past is,
      ) one in
      subst (λ (i : ℕ). EndedAt s lists t i) (sym here) at
  | inr other ↦ ended-law s lists t true (before ∷ past) n is.1 sent.1 (omega arith) (λ same. refl)
]

-- ---- how many were moved

-- what is sent in a step goes to its partner alone
abbrev pub GoesToPartner : JoinerStart → JoinerLists → Taken → ℕ → Type 0
GoesToPartner s lists t n = (q : ℕ) → 0 < length (moved_of (s.epoch + n + 1) (lists.to_joiner q)) → q ≡ partner_of s t n

none-of : {X : Type 0} (xs : List X) → (0 < length xs → ⊥) → xs ≡ []
none-of [] never = refl
none-of (x ∷ xs) never = absurd (never (omega arith))

count-here : (s : JoinerStart) (lists : JoinerLists) (t : Taken) (n : ℕ) → partner_of s t n < 2 ^ s.k
    → GoesToPartner s lists t n → MovedAt s lists t n
    → length (sent_in_step s lists n) ≡ count_by (is_of (exchanged s t n)) (store s t n)
count-here s lists t n low only moved =
    let who = partner_of s t n in
    ap length (one-gathered (2 ^ s.k) (λ q. moved_of (s.epoch + n + 1) (lists.to_joiner q)) who low
    (λ q less other. none-of _ (λ some. other (only q some))))
    ∙ length-bag _ _ moved
    ∙ length-filter (is_of (exchanged s t n)) (store s t n)

-- how many tuples each step moves is how many were sent in it, where these went to its partner alone, one of the grid
pub counts-law : (s : JoinerStart) (lists : JoinerLists) (t : Taken) (ended : Bool) (step : Step) (past : List Step)
    → IsHistory s t (step ∷ past) → AreSent s lists ended (step ∷ past)
    → ((n : ℕ) → n < length past → partner_of s t n < 2 ^ s.k) → ((n : ℕ) → n < length past → GoesToPartner s lists t n)
    → moved_counts s.k s.id (step ∷ past) ≡ map (λ n. length (sent_in_step s lists n)) (counting_from 0 (length past))
counts-law s lists t ended step [] is sent low only = refl
counts-law s lists t ended step (before ∷ past) is sent low only =
    let f : ℕ → ℕ = λ n. length (sent_in_step s lists n) in
    let n = length past in
    let rest : moved_counts s.k s.id (before ∷ past) ≡ map f (counting_from 0 n) =
    counts-law s lists t true before past is.1 sent.1 (λ i less. low i (omega arith))
    (λ i less. only i (omega arith)) in
    let moved = moved-here s lists t ended step before past is sent.0 in
    let many : f n ≡ count_by (is_of (exchanged s t n)) (store s t n) =
    count-here s lists t n (low n (omega arith)) (only n (omega arith)) moved in
    let same : count_by (is_of (exchanged s t n)) (store s t n)
    ≡ count_by (is_of (exchanged_side before.shift step.shift)) (stored s.k s.id (before ∷ past)) =
    rw (shift-below s t step before past is, shift-top s t step before past is)
    (count-bag (is_of (exchanged_side before.shift step.shift)) (store s t n) (stored s.k s.id (before ∷ past))
    (store-is s t before past is.1)) in
    let size : length (before ∷ past) ≡ n + 1 = omega arith in
    let next : counting_from 0 (length (before ∷ past)) ≡ counting_from 0 n ++ n ∷ [] =
    ap (λ i. counting_from 0 i) size ∙ counting-more 0 n ∙ (let none : 0 + n ≡ n = omega arith in
    ap (λ i. counting_from 0 n ++ i ∷ []) none) in
    ap (λ zs. zs ++ count_by (is_of (exchanged_side before.shift step.shift)) (stored s.k s.id (before ∷ past)) ∷ [])
    rest
    ∙ ap (λ k. map f (counting_from 0 n) ++ k ∷ []) (sym (many ∙ same))
    ∙ sym (map-append f (counting_from 0 n) (n ∷ []))
    ∙ ap (λ ns. map f ns) (sym next)

-- ---- the partner is of the grid

low-below : (old new k : ℕ) → AreNeighbours old new → old ≤ k → new ≤ k → min old new < k
low-below old new k (inl is) low high = omega arith
low-below old new k (inr is) low high = omega arith

-- between two neighbouring shifts of the grid a joiner's partner is a joiner of the grid
pub partner-within : (s : JoinerStart) (t : Taken) (n : ℕ) → s.id < 2 ^ s.k
    → AreNeighbours (shift_after s t n) (shift_after s t (n + 1)) → shift_after s t n ≤ s.k
    → shift_after s t (n + 1) ≤ s.k → partner_of s t n < 2 ^ s.k
partner-within s t n id near low high = partner_below s.k (min (shift_after s t n) (shift_after s t (n + 1))) s.id
    (low-below (shift_after s t n) (shift_after s t (n + 1)) s.k near low high) id
