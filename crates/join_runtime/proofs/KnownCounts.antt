-- What an inbox knows to be left of each sender.
use Rattle.std.proofs.Common.{◌≡◌, ◌≢◌, ℕ, zero, suc, ◌<◌, eqb, eq-eqb, ne_eqb, eqb-true, true≢false, refl, sym, ap}
use Rattle.std.proofs.Common.{◌∙◌, Bool, true, false, cond, List, [], ◌∷◌, map, arith}
use Rattle.std.proofs.lemmas.List.Sums.{sum_by-cons}
use Rattle.epoch_tags.specs.declared.actor.Actor.{Actor}
use Rattle.ruled_links.specs.Delivery.{number_of}
use Rattle.ruled_links.specs.Inboxes.{OfSender, all_known, is_sender, told, senders_of, fresh}
use Rattle.join_runtime.specs.Joins.{Knows}

-- where a number was told of a sender, each entry of that sender has it
pub knows_told : (from : Actor) (n : ℕ) (senders : List OfSender) → Knows from n (told from n senders)
knows_told from n [] = tt
knows_told from n (s ∷ senders) = (
  (λ e. ap (λ b. cond b n s.known) (eq-eqb (number_of s.from) (number_of from) e)),
  knows_told from n senders,
)

-- and what was known of another sender is known still
pub knows_other : (from other : Actor) (n k : ℕ) (senders : List OfSender) → number_of other ≢ number_of from
    → Knows other k senders → Knows other k (told from n senders)
knows_other from other n k [] apart known = tt
knows_other from other n k (s ∷ senders) apart known = (
  (λ e. ap (λ b. cond b n s.known) (ne_eqb (number_of s.from) (number_of from) (λ d. apart (sym e ∙ d))) ∙ known.0 e),
  knows_other from other n k senders apart known.1,
)

-- where nothing is known to be left, nothing is known to be left of a sender
pub knows_none : (from : Actor) (n : ℕ) (senders : List OfSender) → all_known senders ≡ 0
    → is_sender from senders ≡ true → Knows from n senders → n ≡ 0
knows_none from n [] none is known = absurd (true≢false (sym is))
knows_none from n (s ∷ senders) none is known =
    let whole = sum_by-cons (λ (o : OfSender). o.known) s senders in
    let rest : all_known senders ≡ 0 = omega (arith, whole, none) in
    go (eqb (number_of s.from) (number_of from)) refl is (omega (arith, whole, none))
    (λ is'. knows_none from n senders rest is' known.1)
  where
    go : (b : Bool) → eqb (number_of s.from) (number_of from) ≡ b → cond b true (is_sender from senders) ≡ true
        → s.known ≡ 0 → (is_sender from senders ≡ true → n ≡ 0) → n ≡ 0
    go true e is' first rest = sym (known.0 (eqb-true (number_of s.from) (number_of from) e)) ∙ first
    go false e is' first rest = rest is'

-- where something is known to be left, it is of some sender
pub knows_some : (senders : List OfSender) → 0 < all_known senders → (from : Actor) × (is_sender from senders ≡ true)
    × ((n : ℕ) → Knows from n senders → 0 < n)
knows_some [] some = absurd (omega arith)
knows_some (s ∷ senders) some =
    let whole = sum_by-cons (λ (o : OfSender). o.known) s senders in
    go s.known refl (λ e. knows_some senders (omega (arith, whole, some, e)))
  where
    later : (from : Actor) × (is_sender from senders ≡ true) × ((n : ℕ) → Knows from n senders → 0 < n) → (from : Actor)
        × (is_sender from (s ∷ senders) ≡ true) × ((n : ℕ) → Knows from n (s ∷ senders) → 0 < n)
    later found = (
      found.0,
      skip (eqb (number_of s.from) (number_of found.0)) (is_sender found.0 senders) found.1,
      λ n known. found.2 n known.1,
    )
      where
        skip : (b c : Bool) → c ≡ true → cond b true c ≡ true
        skip true c e = refl
        skip false c e = e

    go : (k : ℕ) → s.known ≡ k → (s.known ≡ 0 → (from : Actor) × (is_sender from senders ≡ true)
        × ((n : ℕ) → Knows from n senders → 0 < n)) → (from : Actor) × (is_sender from (s ∷ senders) ≡ true)
        × ((n : ℕ) → Knows from n (s ∷ senders) → 0 < n)
    go zero e rest = later (rest e)
    go (suc k) e rest = (
      s.from,
      ap (λ b. cond b true (is_sender s.from senders)) (eq-eqb (number_of s.from) (number_of s.from) refl),
      λ n known. let is = known.0 refl in omega (arith, is, e),
    )

-- an actor is a sender among fresh entries of the senders' names exactly where it is one among the senders
pub is_sender-named : (a : Actor) (senders : List OfSender)
    → is_sender a (map fresh (senders_of senders)) ≡ is_sender a senders
is_sender-named a [] = refl
is_sender-named a (s ∷ senders) = ap (λ b. cond (eqb (number_of s.from) (number_of a)) true b)
    (is_sender-named a senders)

-- where a number was told, the senders are those of before
pub sender_told : (a from : Actor) (n : ℕ) (senders : List OfSender)
    → is_sender a (told from n senders) ≡ is_sender a senders
sender_told a from n [] = refl
sender_told a from n (s ∷ senders) = ap (λ b. cond (eqb (number_of s.from) (number_of a)) true b)
    (sender_told a from n senders)
