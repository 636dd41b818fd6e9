-- What is known to be left is at most what the queue holds.
use Rattle.std.proofs.Common.{◌≡◌, ◌≢◌, ℕ, suc, ◌+◌, ◌-◌, ◌^◌, ◌<◌, ◌≤◌, ◌⊎◌, inl, inr, ⊎_elim, Bool, true, false, cond}
use Rattle.std.proofs.Common.{eqb, true≢false, List, [], ◌∷◌, ◌++◌, length, map, get_or, All, sum_by, sym, refl, ap}
use Rattle.std.proofs.Common.{◌∙◌, subst, arith, eq-eqb, ne_eqb}
use Rattle.std.proofs.lemmas.List.Sums.{sum_by-cons}
use Rattle.std.proofs.lemmas.List.Elements.{All-map}
use native.Mathlib.Decide.{ℕ_discrete}
use Rattle.epoch_tags.specs.declared.actor.Actor.{Actor}
use Rattle.epoch_tags.specs.declared.message.Envelope.{Envelope}
use Rattle.ruled_links.specs.declared.delivery.InboxHand.{InboxHand}
use Rattle.ruled_links.specs.declared.parts.Part.{Part}
use Rattle.ruled_links.specs.Delivery.{number_of, of_sender, inbox_hand, known_of}
use Rattle.ruled_links.specs.Inboxes.{OfSender}
use Rattle.ruled_links.specs.Parts.{noted, set_known, has_part, PartFits, Distinct, known_left, AreCounted}
use Rattle.ruled_links.proofs.PartsLemmas.{named_notes, named_tells, note_from, tell_from, rest_false, notes_fit}
use Rattle.ruled_links.proofs.PartsLemmas.{tells_fit, fits_new, named_new, named_still}

-- no two parts are of one sender where a taken message is noted, if no two were before
pub distinct_notes : (n : ℕ) (ps : List Part) → Distinct ps → Distinct (map (noted n) ps)
distinct_notes n [] d = tt
distinct_notes n (p ∷ ps) d = (
  named_notes n (number_of (noted n p).from) ps
      ∙ ap (λ (a : Actor). has_part (number_of a) ps) (note_from (eqb (number_of p.from) n) p) ∙ d.0,
  distinct_notes n ps d.1,
)

-- the same, where a part is told what is left of its sender
pub distinct_tells : (n k : ℕ) (ps : List Part) → Distinct ps → Distinct (map (set_known n k) ps)
distinct_tells n k [] d = tt
distinct_tells n k (p ∷ ps) d = (
  named_tells n k (number_of (set_known n k p).from) ps
      ∙ ap (λ (a : Actor). has_part (number_of a) ps) (tell_from (eqb (number_of p.from) n) k p) ∙ d.0,
  distinct_tells n k ps d.1,
)

none_if : (b c more : Bool) → (c ≡ false → more ≡ false) → cond b true c ≡ false → cond b true more ≡ false
none_if true c more f e = e
none_if false c more f e = f e

none_push : (m : ℕ) (ps : List Part) (p : Part) → has_part m ps ≡ false → number_of p.from ≢ m
    → has_part m (ps ++ p ∷ []) ≡ false
none_push m [] p e n = ap (λ (b : Bool). cond b true false) (ne_eqb (number_of p.from) m n)
none_push m (q ∷ ps) p e n = none_if (eqb (number_of q.from) m) (has_part m ps) (has_part m (ps ++ p ∷ []))
    (λ f. none_push m ps p f n) e

head_differs : (q : Part) (ps : List Part) (m : ℕ) → has_part m (q ∷ ps) ≡ false → number_of q.from ≢ m
head_differs q ps m e f = true≢false (ap (λ (b : Bool). cond b true (has_part m ps))
    (sym (eq-eqb (number_of q.from) m f)) ∙ e)

-- the same, where a part of a new sender comes to stand at the end
pub distinct_push : (ps : List Part) (p : Part) → Distinct ps → has_part (number_of p.from) ps ≡ false
    → Distinct (ps ++ p ∷ [])
distinct_push [] p d e = (refl, tt)
distinct_push (q ∷ ps) p d e = (
  none_push (number_of q.from) ps p d.0 (λ f. head_differs q ps (number_of p.from) e (sym f)),
  distinct_push ps p d.1 (rest_false (eqb (number_of q.from) (number_of p.from)) (has_part (number_of p.from) ps) e),
)

note_less : (b : Bool) (p : Part)
    → known_left (cond b (record { from = p.from; taken = p.taken + 1; known = p.known - 1 }) p) ≤ known_left p
note_less true p = omega arith
note_less false p = omega arith

-- where a taken message is noted, no more messages are known to be left than before
pub sum_notes : (n : ℕ) (ps : List Part) → sum_by known_left (map (noted n) ps) ≤ sum_by known_left ps
sum_notes n [] = omega arith
sum_notes n (p ∷ ps) = let a = sum_by-cons known_left (noted n p) (map (noted n) ps) in
    let b = sum_by-cons known_left p ps in let c = note_less (eqb (number_of p.from) n) p in let d = sum_notes n ps in
    omega arith

-- as many messages are known to be left in all where a part of which none are comes to stand at the end
pub sum_push : (ps : List Part) (p : Part) → p.known ≡ 0 → sum_by known_left (ps ++ p ∷ []) ≡ sum_by known_left ps
sum_push [] p e = sum_by-cons known_left p [] ∙ ap (λ (n : ℕ). n + 0) e
sum_push (q ∷ ps) p e = sum_by-cons known_left q (ps ++ p ∷ []) ∙ ap (λ (n : ℕ). q.known + n) (sum_push ps p e)
    ∙ sym (sum_by-cons known_left q ps)

-- how many of these are of the part's sender
abbrev its : List Envelope → Part → ℕ
its items p = length (of_sender (number_of p.from) items)

its_more : (x : Envelope) (items : List Envelope) (p : Part) → Dec (number_of x.from ≡ number_of p.from)
    → ((number_of x.from ≡ number_of p.from) × (its (x ∷ items) p ≡ its items p + 1))
    ⊎ ((number_of x.from ≢ number_of p.from) × (its (x ∷ items) p ≡ its items p))
its_more x items p (yes e) =
    inl (
      e,
      ap (λ (b : Bool). length (cond b (x ∷ of_sender (number_of p.from) items)
          (of_sender (number_of p.from) items))) (eq-eqb (number_of x.from) (number_of p.from) e) ∙ omega arith,
    )
its_more x items p (no e) =
    inr (
      e,
      ap (λ (b : Bool). length (cond b (x ∷ of_sender (number_of p.from) items)
          (of_sender (number_of p.from) items))) (ne_eqb (number_of x.from) (number_of p.from) e),
    )

no_more : (x : Envelope) (items : List Envelope) (ps : List Part) → has_part (number_of x.from) ps ≡ false
    → sum_by (its (x ∷ items)) ps ≡ sum_by (its items) ps
no_more x items [] e = refl
no_more x items (p ∷ ps) e = let a = sum_by-cons (its (x ∷ items)) p ps in let b = sum_by-cons (its items) p ps in
    let r = no_more x items ps (rest_false (eqb (number_of p.from) (number_of x.from)) (has_part (number_of x.from) ps)
    e) in
    ⊎_elim (λ t. absurd (head_differs p ps (number_of x.from) e (sym t.0)))
    (λ t. let c : its (x ∷ items) p ≡ its items p = t.1 in
    omega arith) (its_more x items p (ℕ_discrete (number_of x.from) (number_of p.from)))

one_more : (x : Envelope) (items : List Envelope) (ps : List Part) → Distinct ps
    → sum_by (its (x ∷ items)) ps ≤ sum_by (its items) ps + 1
one_more x items [] d = omega arith
one_more x items (p ∷ ps) d = let a = sum_by-cons (its (x ∷ items)) p ps in let b = sum_by-cons (its items) p ps in
    ⊎_elim (λ t. let c : its (x ∷ items) p ≡ its items p + 1 = t.1 in
    let r = no_more x items ps (ap (λ (n : ℕ). has_part n ps) t.0 ∙ d.0) in omega arith)
    (λ t. let c : its (x ∷ items) p ≡ its items p = t.1 in let r = one_more x items ps d.1 in
    omega arith) (its_more x items p (ℕ_discrete (number_of x.from) (number_of p.from)))

none_its : (ps : List Part) → sum_by (its []) ps ≡ 0
none_its [] = refl
none_its (p ∷ ps) = let a = sum_by-cons (its []) p ps in let b = none_its ps in omega arith

all_its : (items : List Envelope) (ps : List Part) → Distinct ps → sum_by (its items) ps ≤ length items
all_its [] ps d = let e = none_its ps in omega arith
all_its (x ∷ items) ps d = let a = one_more x items ps d in let b = all_its items ps d in omega arith

less : (items : List Envelope) (ps : List Part) → All (λ (p : Part). p.known ≤ its items p) ps
    → sum_by known_left ps ≤ sum_by (its items) ps
less items [] h = omega arith
less items (p ∷ ps) h = let a = sum_by-cons known_left p ps in let b = sum_by-cons (its items) p ps in
    let c : p.known ≤ its items p = h 0 p (omega arith) in
    let r = less items ps (λ k d lt. h (suc k) d (omega arith)) in omega arith

-- no more are known to be left in all than the queue holds, if so it is of each sender and no two parts are of one
pub sum_held : (items : List Envelope) (ps : List Part) → Distinct ps
    → All (λ (p : Part). p.known ≤ length (of_sender (number_of p.from) items)) ps → sum_by known_left ps ≤ length items
sum_held items ps d h = let a = less items ps h in let b = all_its items ps d in omega arith

tell_bound : (v : InboxHand) (n k : ℕ) (items : List Envelope) (p : Part) → PartFits v p
    → k ≤ length (of_sender n items) → ((m : ℕ) → length (known_of v.known m) ≤ length (of_sender m v.received)
    + length (of_sender m items)) → Dec (number_of p.from ≡ n)
    → (set_known n k p).known ≤ length (of_sender (number_of (set_known n k p).from) items)
tell_bound v n k items p h le f (yes e) = let m = number_of p.from in
    subst (λ (b : Bool). (cond b (record { from = p.from; taken = p.taken; known = k }) p).known
    ≤ length (of_sender (number_of (cond b (record { from = p.from; taken = p.taken; known = k }) p).from) items))
    (sym (eq-eqb m n e))
    (subst (λ (j : ℕ). k ≤ length (of_sender j items)) (sym e) le)
tell_bound v n k items p h le f (no e) = let m = number_of p.from in
    let a : p.taken ≡ length (of_sender m v.received) = h.0 in
    let b : p.known ≡ length (known_of v.known m) - p.taken = h.1 in let c = f m in
    let goal : p.known ≤ length (of_sender m items) = omega arith in
    subst (λ (b : Bool). (cond b (record { from = p.from; taken = p.taken; known = k }) p).known
    ≤ length (of_sender (number_of (cond b (record { from = p.from; taken = p.taken; known = k }) p).from) items))
    (sym (ne_eqb m n e)) goal

-- so it is also once a sender's part is told at most what the queue holds of that one, if what is known of each sender
-- and was not received is left
pub sum_tells : (v : InboxHand) (n k : ℕ) (items : List Envelope) (ps : List Part) → Distinct ps → All (PartFits v) ps
    → k ≤ length (of_sender n items) → ((m : ℕ) → length (known_of v.known m) ≤ length (of_sender m v.received)
    + length (of_sender m items)) → sum_by known_left (map (set_known n k) ps) ≤ length items
sum_tells v n k items ps d h le f = sum_held items (map (set_known n k) ps) (distinct_tells n k ps d)
    (All-map (λ (p : Part). p.known ≤ length (of_sender (number_of p.from) items)) (set_known n k) ps
    (λ i e lt. let p : Part = get_or ps i e in tell_bound v n k items p (h i e lt) le f
    (ℕ_discrete (number_of p.from) n)))

-- nothing is known to be left in all where nothing is of any sender
pub sum_none : (ps : List OfSender) → All (λ (p : OfSender). p.known ≡ 0) ps → sum_by (λ (p : OfSender). p.known) ps ≡ 0
sum_none [] h = refl
sum_none (p ∷ ps) h = let a = sum_by-cons (λ (q : OfSender). q.known) p ps in
    let b : p.known ≡ 0 = h 0 p (omega arith) in let c = sum_none ps (λ k d lt. h (suc k) d (omega arith)) in
    omega arith

below : {a b : ℕ} → a ≤ b → b < 2 ^ 64 → a < 2 ^ 64
below h f = omega arith

-- ---- the parts stay counted

-- one message of one sender is taken
pub counted_note : (v w : InboxHand) (m : Envelope) (ps : List Part)
    → w ≡ inbox_hand false true 0 [] (v.received ++ m ∷ []) v.known → AreCounted v ps
    → AreCounted w (map (noted (number_of m.from)) ps)
counted_note v w m ps is h = let n = number_of m.from in subst (λ (u : InboxHand). AreCounted u (map (noted n) ps))
    (sym is) (record {
      fits = notes_fit v m ps h.fits;
      all = λ k none. h.all k (sym (named_notes n k ps) ∙ none);
      distinct = distinct_notes n ps h.distinct;
      few = below (sum_notes n ps) h.few;
    })

-- a sender is new
pub counted_open : (v w : InboxHand) (p : Part) (ps : List Part)
    → w ≡ inbox_hand false true 0 [] v.received ((number_of p.from, []) ∷ v.known) → v.received ≡ [] → p.taken ≡ 0
    → p.known ≡ 0 → has_part (number_of p.from) ps ≡ false → AreCounted v ps → AreCounted w (ps ++ p ∷ [])
counted_open v w p ps is none taken known new h = subst (λ (u : InboxHand). AreCounted u (ps ++ p ∷ [])) (sym is)
    (record {
      fits = fits_new v ps p none taken known new h.fits;
      all = λ k gone. named_new k v.known ps p h.all gone;
      distinct = distinct_push ps p h.distinct new;
      few = subst (λ (n : ℕ). n < 2 ^ 64) (sym (sum_push ps p known)) h.few;
    })

module _ (v w : InboxHand) (n k : ℕ) (s items : List Envelope) (ps : List Part) where
  -- so many are found left of one sender
  pub counted_tell : w ≡ inbox_hand false true 0 [] v.received ((n, s) ∷ v.known)
      → k ≡ length s - length (of_sender n v.received)
      → k ≤ length (of_sender n items) → has_part n ps ≡ true
      → ((m : ℕ) → length (known_of v.known m) ≤ length (of_sender m v.received) + length (of_sender m items))
      → length items < 2 ^ 64 → AreCounted v ps → AreCounted w (map (set_known n k) ps)
  counted_tell is left less has lesson fits h =
      subst (λ (u : InboxHand). AreCounted u (map (set_known n k) ps)) (sym is) (record {
        fits = tells_fit v n k s ps left h.fits;
        all = λ m none. named_still n s v.known ps has h.all m (sym (named_tells n k m ps) ∙ none);
        distinct = distinct_tells n k ps h.distinct;
        few = below (sum_tells v n k items ps h.distinct h.fits less lesson) fits;
      })
