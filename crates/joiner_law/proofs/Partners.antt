-- What goes to partners and comes from them.
use Rattle.std.proofs.Common.{◌≡◌, ℕ, ◌+◌, ◌<◌, ◌⊎◌, inl, inr, refl, sym, ◌∙◌, ap, subst, arith, Bool, true, false}
use Rattle.std.proofs.Common.{List, [], ◌∷◌, ◌++◌, length, eq-eqb}
use Rattle.std.specs.Prelude.{map}
use Rattle.std.proofs.lemmas.Bool.{cases_eq, ne_eqb}
use Rattle.epoch_tags.specs.declared.tuple.Tuple.{Tuple}
use Rattle.epoch_tags.specs.declared.message.ToJoiner.{ToJoiner}
use Rattle.epoch_tags.specs.declared.message.ToJoiner.TheVariants.{Tup, Turn, End, Moved, MovedEnd}
use Rattle.epoch_tags.specs.Messages.{moved_of, moved_ends}
use Rattle.migration_plan.specs.Steps.{partner_in_step}
use Rattle.joiner_law.specs.Law.{JoinerStart, JoinerLists, Taken, partner_of, shift_after}
use Rattle.joiner_law.specs.History.{Step, with_arrived, with_came, new_step}
use Rattle.joiner_law.specs.Standing.{grown, IsHistory, IsPartOf, IsEndOf, HasParts, moved_counts, with_sent}
use Rattle.joiner_law.specs.Posting.{moved_post, moved_end_post}
use Rattle.joiner_law.proofs.LongerLists.{grown-same, grown-other}
use Rattle.joiner_law.proofs.PartnerPosts.{posted-here, posted-elsewhere}
use Rattle.std.proofs.lemmas.List.{append-nil}

-- ---- lists of messages

-- what is said of the epochs in each of two lists is so in the two one after the other
pub parts-append : (P Q : ℕ → Type 0) (xs ys : List ToJoiner) → HasParts P Q xs → HasParts P Q ys
    → HasParts P Q (xs ++ ys)
parts-append P Q [] ys left right = right
parts-append P Q (Tup x ∷ xs) ys left right = parts-append P Q xs ys left right
parts-append P Q (Turn epoch shift ∷ xs) ys left right = parts-append P Q xs ys left right
parts-append P Q (End ∷ xs) ys left right = parts-append P Q xs ys left right
parts-append P Q (Moved epoch x ∷ xs) ys left right = (left.0, parts-append P Q xs ys left.1 right)
parts-append P Q (MovedEnd epoch ∷ xs) ys left right = (left.0, parts-append P Q xs ys left.1 right)

-- what follows from what is said of the epochs in a list is so of them too
pub parts-more : (P Q P' Q' : ℕ → Type 0) (ms : List ToJoiner) → ((e : ℕ) → P e → P' e) → ((e : ℕ) → Q e → Q' e)
    → HasParts P Q ms → HasParts P' Q' ms
parts-more P Q P' Q' [] p q is = tt
parts-more P Q P' Q' (Tup x ∷ ms) p q is = parts-more P Q P' Q' ms p q is
parts-more P Q P' Q' (Turn epoch shift ∷ ms) p q is = parts-more P Q P' Q' ms p q is
parts-more P Q P' Q' (End ∷ ms) p q is = parts-more P Q P' Q' ms p q is
parts-more P Q P' Q' (Moved epoch x ∷ ms) p q is = (p epoch is.0, parts-more P Q P' Q' ms p q is.1)
parts-more P Q P' Q' (MovedEnd epoch ∷ ms) p q is = (q epoch is.0, parts-more P Q P' Q' ms p q is.1)

-- of an epoch in which a list moves a tuple, what is said of all such epochs is so
pub has-moved : (P Q : ℕ → Type 0) (e : ℕ) (ms : List ToJoiner) → HasParts P Q ms → 0 < length (moved_of e ms) → P e
has-moved P Q e [] is some = absurd (omega arith)
has-moved P Q e (Tup x ∷ ms) is some = has-moved P Q e ms is some
has-moved P Q e (Turn epoch shift ∷ ms) is some = has-moved P Q e ms is some
has-moved P Q e (End ∷ ms) is some = has-moved P Q e ms is some
has-moved P Q e (Moved epoch x ∷ ms) is some = elim (cases_eq epoch e) [
  | inl same ↦ subst P same is.0
  | inr differ ↦ has-moved P Q e ms is.1 (rw (ne_eqb epoch e differ) at some)
]
has-moved P Q e (MovedEnd epoch ∷ ms) is some = has-moved P Q e ms is.1 some

-- and of an epoch of which it has an end, what is said of those
pub has-end : (P Q : ℕ → Type 0) (e : ℕ) (ms : List ToJoiner) → HasParts P Q ms → 0 < moved_ends e ms → Q e
has-end P Q e [] is some = absurd (omega arith)
has-end P Q e (Tup x ∷ ms) is some = has-end P Q e ms is some
has-end P Q e (Turn epoch shift ∷ ms) is some = has-end P Q e ms is some
has-end P Q e (End ∷ ms) is some = has-end P Q e ms is some
has-end P Q e (Moved epoch x ∷ ms) is some = has-end P Q e ms is.1 some
has-end P Q e (MovedEnd epoch ∷ ms) is some = elim (cases_eq epoch e) [
  | inl same ↦ subst Q same is.0
  | inr differ ↦ has-end P Q e ms is.1 (rw (ne_eqb epoch e differ) at some)
]

parts-moved : (P Q : ℕ → Type 0) (epoch : ℕ) (xs : List Tuple) → P epoch → HasParts P Q (map (λ x. Moved epoch x) xs)
parts-moved P Q epoch [] has = tt
parts-moved P Q epoch (x ∷ xs) has = (has, parts-moved P Q epoch xs has)

-- ---- steps

part-arrived : (s : JoinerStart) (x : Tuple) (step : Step) (past : List Step) (q e : ℕ) → IsPartOf s (step ∷ past) q e
    → IsPartOf s (with_arrived x step ∷ past) q e
part-arrived s x step [] q e is = is
part-arrived s x step (before ∷ past) q e is = is

part-came : (s : JoinerStart) (x : Tuple) (step : Step) (past : List Step) (q e : ℕ) → IsPartOf s (step ∷ past) q e
    → IsPartOf s (with_came x step ∷ past) q e
part-came s x step [] q e is = is
part-came s x step (before ∷ past) q e is = is

part-under : (s : JoinerStart) (x : Tuple) (new cur : Step) (past : List Step) (q e : ℕ)
    → IsPartOf s (new ∷ (cur ∷ past)) q e → IsPartOf s (new ∷ (with_arrived x cur ∷ past)) q e
part-under s x new cur past q e (inl is) = inl is
part-under s x new cur past q e (inr is) = inr (part-arrived s x cur past q e is)

end-arrived : (s : JoinerStart) (ended : Bool) (x : Tuple) (step : Step) (past : List Step) (q e : ℕ)
    → IsEndOf s ended (step ∷ past) q e → IsEndOf s ended (with_arrived x step ∷ past) q e
end-arrived s ended x step [] q e is = is
end-arrived s ended x step (before ∷ past) q e is = is

end-came : (s : JoinerStart) (ended : Bool) (x : Tuple) (step : Step) (past : List Step) (q e : ℕ)
    → IsEndOf s ended (step ∷ past) q e → IsEndOf s ended (with_came x step ∷ past) q e
end-came s ended x step [] q e is = is
end-came s ended x step (before ∷ past) q e is = is

end-under : (s : JoinerStart) (ended : Bool) (x : Tuple) (new cur : Step) (past : List Step) (q e : ℕ)
    → IsEndOf s ended (new ∷ (cur ∷ past)) q e → IsEndOf s ended (new ∷ (with_arrived x cur ∷ past)) q e
end-under s ended x new cur past q e (inl is) = inl is
end-under s ended x new cur past q e (inr is) = inr (end-arrived s true x cur past q e is)

part-new : (s : JoinerStart) (shift : ℕ) (steps : List Step) (q e : ℕ) → IsPartOf s steps q e
    → IsPartOf s (new_step shift ∷ steps) q e
part-new s shift [] q e is = is
part-new s shift (step ∷ past) q e is = inr is

end-new : (s : JoinerStart) (shift : ℕ) (steps : List Step) (q e : ℕ) → IsEndOf s true steps q e
    → IsEndOf s false (new_step shift ∷ steps) q e
end-new s shift [] q e is = is
end-new s shift (step ∷ past) q e is = inr is

end-turned : (s : JoinerStart) (new cur : Step) (past : List Step) (q e : ℕ) → IsEndOf s false (new ∷ (cur ∷ past)) q e
    → IsEndOf s true (new ∷ (cur ∷ past)) q e
end-turned s new cur past q e (inl is) = inl (is.0, is.1, refl)
end-turned s new cur past q e (inr is) = inr is

-- ---- what was taken

-- what each joiner moved here, and the ends of its parts, are of steps whose partner it is
abbrev pub TakenParts : JoinerStart → List Step → (ℕ → List ToJoiner) → Type 0
TakenParts s steps f = (q : ℕ) → HasParts (λ e. IsPartOf s steps q e) (λ e. IsPartOf s steps q e) (f q)

-- this stays so with one tuple more that arrived in the latest step
pub taken-arrived : (s : JoinerStart) (f : ℕ → List ToJoiner) (x : Tuple) (step : Step) (past : List Step)
    → TakenParts s (step ∷ past) f → TakenParts s (with_arrived x step ∷ past) f
taken-arrived s f x step past is q = parts-more _ _ _ _ (f q) (part-arrived s x step past q)
    (part-arrived s x step past q) (is q)

-- and with a late one, in the step before the open one
pub taken-under : (s : JoinerStart) (f : ℕ → List ToJoiner) (x : Tuple) (new cur : Step) (past : List Step)
    → TakenParts s (new ∷ (cur ∷ past)) f → TakenParts s (new ∷ (with_arrived x cur ∷ past)) f
taken-under s f x new cur past is q = parts-more _ _ _ _ (f q) (part-under s x new cur past q)
    (part-under s x new cur past q) (is q)

-- and as a step is opened
pub taken-new : (s : JoinerStart) (f : ℕ → List ToJoiner) (shift : ℕ) (steps : List Step) → TakenParts s steps f
    → TakenParts s (new_step shift ∷ steps) f
taken-new s f shift steps is q = parts-more _ _ _ _ (f q) (part-new s shift steps q) (part-new s shift steps q) (is q)

taken-grown : (s : JoinerStart) (f : ℕ → List ToJoiner) (steps : List Step) (j : ℕ) (m : ToJoiner)
    → HasParts (λ e. IsPartOf s steps j e) (λ e. IsPartOf s steps j e) (m ∷ []) → TakenParts s steps f
    → TakenParts s steps (grown j m f)
taken-grown s f steps j m here is q = elim (cases_eq q j) [
  | inl same ↦ rw (same, grown-same j m f) (parts-append _ _ (f j) (m ∷ []) (is j) here)
  | inr differ ↦ rw (grown-other j m f q differ) (is q)
]

module _ (s : JoinerStart) (f : ℕ → List ToJoiner) where
  -- and with a tuple that the open step's partner moves here in that step
  pub taken-came : (x : Tuple) (new cur : Step) (past : List Step) (j epoch : ℕ)
      → epoch ≡ s.epoch + length past + 1 → j ≡ partner_in_step cur.shift new.shift s.id
      → TakenParts s (new ∷ (cur ∷ past)) f → TakenParts s (with_came x new ∷ (cur ∷ past)) (grown j (Moved epoch x) f)
  taken-came x new cur past j epoch now who is = taken-grown s f (with_came x new ∷ (cur ∷ past)) j (Moved epoch x)
      (inl (now, who), tt) (λ q. parts-more _ _ _ _ (f q) (part-came s x new (cur ∷ past) q)
      (part-came s x new (cur ∷ past) q) (is q))

-- and with the end of its part
pub taken-end : (s : JoinerStart) (f : ℕ → List ToJoiner) (new cur : Step) (past : List Step) (j epoch : ℕ)
    → epoch ≡ s.epoch + length past + 1 → j ≡ partner_in_step cur.shift new.shift s.id
    → TakenParts s (new ∷ (cur ∷ past)) f → TakenParts s (new ∷ (cur ∷ past)) (grown j (MovedEnd epoch) f)
taken-end s f new cur past j epoch now who is = taken-grown s f (new ∷ (cur ∷ past)) j (MovedEnd epoch) (
  inl (now, who),
  tt,
) is

-- ---- what was sent

-- what was moved to each joiner, and the ends, are of steps whose partner it is, an end only of one that was ended
abbrev pub SentParts : JoinerStart → Bool → List Step → (ℕ → List ToJoiner) → Type 0
SentParts s ended steps f = (q : ℕ) → HasParts (λ e. IsPartOf s steps q e) (λ e. IsEndOf s ended steps q e) (f q)

-- this stays so with one tuple more that arrived in the latest step
pub parts_sent-arrived : (s : JoinerStart) (ended : Bool) (f : ℕ
    → List ToJoiner) (x : Tuple) (step : Step) (past : List Step) → SentParts s ended (step ∷ past) f
    → SentParts s ended (with_arrived x step ∷ past) f
parts_sent-arrived s ended f x step past is q = parts-more _ _ _ _ (f q) (part-arrived s x step past q)
    (end-arrived s ended x step past q) (is q)

-- and with one more that came
pub parts_sent-came : (s : JoinerStart) (ended : Bool) (f : ℕ
    → List ToJoiner) (x : Tuple) (step : Step) (past : List Step) → SentParts s ended (step ∷ past) f
    → SentParts s ended (with_came x step ∷ past) f
parts_sent-came s ended f x step past is q = parts-more _ _ _ _ (f q) (part-came s x step past q)
    (end-came s ended x step past q) (is q)

-- tuples to the partner of the latest step
parts_sent-posts : (s : JoinerStart) (ended : Bool) (lists : JoinerLists) (steps : List Step) (who epoch : ℕ)
    (xs : List Tuple) → IsPartOf s steps who epoch → SentParts s ended steps lists.to_joiner
    → SentParts s ended steps (with_sent lists (map (moved_post who epoch) xs)).to_joiner
parts_sent-posts s ended lists steps who epoch xs here is q = elim (cases_eq who q) [
  | inl same ↦ rw (← same, posted-here who epoch xs) (parts-append _ _ (lists.to_joiner who)
      (map (λ x. Moved epoch x) xs) (is who) (parts-moved _ _ epoch xs here))
  | inr other ↦ rw (posted-elsewhere who epoch q xs other, append-nil (lists.to_joiner q)) (is q)
]

-- and with a late one, in the step before the open one, as tuples are posted to the open step's partner
pub parts_sent-under : (s : JoinerStart) (ended : Bool) (lists : JoinerLists) (x : Tuple) (new cur : Step)
    (past : List Step) (xs : List Tuple) → SentParts s ended (new ∷ (cur ∷ past)) lists.to_joiner
    → SentParts s ended (new ∷ (with_arrived x cur ∷ past))
    (with_sent lists (map (moved_post (partner_in_step cur.shift new.shift s.id) (s.epoch + length past + 1))
    xs)).to_joiner
parts_sent-under s ended lists x new cur past xs is =
    parts_sent-posts s ended lists (new ∷ (with_arrived x cur ∷ past)) (partner_in_step cur.shift new.shift s.id)
    (s.epoch + length past + 1) xs (inl (refl, refl))
    (λ q. parts-more _ _ _ _ (lists.to_joiner q) (part-under s x new cur past q) (end-under s ended x new cur past q)
    (is q))

-- and as a step is opened and tuples are posted to its partner
pub parts_sent-new : (s : JoinerStart) (lists : JoinerLists) (shift : ℕ) (before : Step) (past : List Step)
    (xs : List Tuple) → SentParts s true (before ∷ past) lists.to_joiner
    → SentParts s false (new_step shift ∷ (before ∷ past)) (with_sent lists
    (map (moved_post (partner_in_step before.shift shift s.id) (s.epoch + length past + 1)) xs)).to_joiner
parts_sent-new s lists shift before past xs is =
    parts_sent-posts s false lists (new_step shift ∷ (before ∷ past)) (partner_in_step before.shift shift s.id)
    (s.epoch + length past + 1) xs (inl (refl, refl))
    (λ q. parts-more _ _ _ _ (lists.to_joiner q) (part-new s shift (before ∷ past) q)
    (end-new s shift (before ∷ past) q) (is q))

-- and as the end of the open step is posted to its partner
pub parts_sent-end : (s : JoinerStart) (lists : JoinerLists) (new cur : Step) (past : List Step)
    → SentParts s false (new ∷ (cur ∷ past)) lists.to_joiner
    → SentParts s true (new ∷ (cur ∷ past)) (with_sent lists
    (moved_end_post (partner_in_step cur.shift new.shift s.id) (s.epoch + length past + 1) ∷ [])).to_joiner
parts_sent-end s lists new cur past is q =
    let who = partner_in_step cur.shift new.shift s.id in
    let e = s.epoch + length past + 1 in
    let before : HasParts (λ i. IsPartOf s (new ∷ (cur ∷ past)) q i) (λ i. IsEndOf s true (new ∷ (cur ∷ past)) q i)
    (lists.to_joiner q) =
    parts-more _ _ _ _ (lists.to_joiner q) (λ i p. p) (end-turned s new cur past q) (is q) in
    elim (cases_eq who q) [
      | inl same ↦ rw (eq-eqb who q same) (parts-append _ _ (lists.to_joiner q) (MovedEnd e ∷ []) before (
        inl (
          refl,
          sym same,
          refl,
        ),
        tt,
      ))
      | inr other ↦ rw (ne_eqb who q other, append-nil (lists.to_joiner q)) before
    ]

-- and where the links are the same, one by one
pub parts_sent-none : (s : JoinerStart) (ended : Bool) (steps : List Step) (f g : ℕ → List ToJoiner)
    → ((q : ℕ) → g q ≡ f q) → SentParts s ended steps f → SentParts s ended steps g
parts_sent-none s ended steps f g same is q = rw (same q) (is q)

-- ---- by numbers of steps

-- an epoch of a step whose partner is joiner q is, in the law's words, that of an opened step n with partner q
pub part-at : (s : JoinerStart) (t : Taken) (steps : List Step) (q e : ℕ) → IsHistory s t steps → IsPartOf s steps q e
    → (n : ℕ) × (e ≡ s.epoch + n + 1) × (n + 1 < length steps) × (q ≡ partner_of s t n)
part-at s t [] q e is part = absurd part
part-at s t (step ∷ []) q e is part = absurd part
part-at s t (step ∷ (before ∷ past)) q e is (inl part) =
    let next : s.epoch + (length past + 1) ≡ s.epoch + length (before ∷ past) = omega arith in
    let one : shift_after s t (length past) ≡ before.shift = is.1.0.shift in
    let two : shift_after s t (length past + 1) ≡ step.shift = ap t.shift_at next ∙ is.0.shift in
    (length past, part.0, omega arith, rw (one, two) part.1)
part-at s t (step ∷ (before ∷ past)) q e is (inr part) = let rest = part-at s t (before ∷ past) q e is.1 part in
    let low = rest.2 in (rest.0, rest.1, omega arith, rest.3)

-- the same where this joiner ended its part of the step, which is the latest only if that was ended
pub end-at : (s : JoinerStart) (t : Taken) (ended : Bool) (steps : List Step) (q e : ℕ) → IsHistory s t steps
    → IsEndOf s ended steps q e
    → (n : ℕ) × (e ≡ s.epoch + n + 1) × ((n + 2 < length steps) ⊎ ((n + 2 ≡ length steps) × (ended ≡ true)))
    × (q ≡ partner_of s t n)
end-at s t ended [] q e is part = absurd part
end-at s t ended (step ∷ []) q e is part = absurd part
end-at s t ended (step ∷ (before ∷ past)) q e is (inl part) =
    let next : s.epoch + (length past + 1) ≡ s.epoch + length (before ∷ past) = omega arith in
    let one : shift_after s t (length past) ≡ before.shift = is.1.0.shift in
    let two : shift_after s t (length past + 1) ≡ step.shift = ap t.shift_at next ∙ is.0.shift in
    (length past, part.0, inr (omega arith, part.2), rw (one, two) part.1)
end-at s t ended (step ∷ (before ∷ past)) q e is (inr part) =
    let rest = end-at s t true (before ∷ past) q e is.1 part in
    (rest.0, rest.1, inl (low rest.0 rest.2), rest.3)
  where
    low : (n : ℕ) → (n + 2 < length (before ∷ past)) ⊎ ((n + 2 ≡ length (before ∷ past)) × (true ≡ true))
        → n + 2 < length (step ∷ (before ∷ past))
    low n (inl less) = omega arith
    low n (inr same) = let is = same.0 in omega arith

-- one tuple more that arrived in the latest step changes no number of moved tuples
pub counts-arrived : (k id : ℕ) (x : Tuple) (step : Step) (past : List Step)
    → moved_counts k id (with_arrived x step ∷ past) ≡ moved_counts k id (step ∷ past)
counts-arrived k id x step [] = refl
counts-arrived k id x step (before ∷ past) = refl
