-- What is counted of each sender stays right.
use Rattle.std.proofs.Common.{◌≡◌, ◌≢◌, ℕ, zero, suc, ◌+◌, ◌-◌, ◌^◌, ◌<◌, ◌≤◌, Bool, true, false, cond, eqb, true≢false}
use Rattle.std.proofs.Common.{List, [], ◌∷◌, ◌++◌, length, map, take, get_or, All, Contains, sym, refl, ap, ◌∙◌, subst}
use Rattle.std.proofs.Common.{arith, eq-eqb, ne_eqb, length-append, length-take, get_or-take}
use Rattle.std.proofs.lemmas.List.{get_or_default}
use Rattle.epoch_tags.specs.declared.actor.Actor.{Actor}
use Rattle.epoch_tags.specs.declared.message.Envelope.{Envelope}
use Rattle.ruled_links.specs.declared.delivery.InboxHand.{InboxHand}
use Rattle.ruled_links.specs.declared.parts.Part.{Part}
use Rattle.ruled_links.specs.Delivery.{number_of, of_sender, inbox_hand, known_of, has_sender}
use Rattle.ruled_links.specs.Parts.{noted, set_known, has_part, PartFits, seen}
use Rattle.ruled_links.specs.Inboxes.{OfSender, lowered, told, is_sender, senders_of, fresh, Differ}
use Rattle.ruled_links.proofs.DeliveryLemmas.{has_if, of_more, of_other}
use Rattle.epoch_tags.specs.declared.actor.Actor.TheVariants.{Feeder, Joiner, Controller, Collector}
use native.Mathlib.Decide.{ℕ_discrete}
use Rattle.std.proofs.lemmas.List.Elements.{All-map, All-contains, All-push}

note_if : (b : Bool) (p : Part) → seen (cond b (record { from = p.from; taken = p.taken + 1; known = p.known - 1 }) p)
    ≡ record { from = p.from; known = cond b (p.known - 1) p.known }
note_if true p = refl
note_if false p = refl

-- where a taken message is noted, contracts see one less known to be left of its sender, unless that was 0
pub lowered_notes : (a : Actor) (ps : List Part) → map seen (map (noted (number_of a)) ps) ≡ lowered a (map seen ps)
lowered_notes a [] = refl
lowered_notes a (p ∷ ps) = λ i. note_if (eqb (number_of p.from) (number_of a)) p i ∷ lowered_notes a ps i

tell_if : (b : Bool) (n : ℕ) (p : Part) → seen (cond b (record { from = p.from; taken = p.taken; known = n }) p)
    ≡ record { from = p.from; known = cond b n p.known }
tell_if true n p = refl
tell_if false n p = refl

-- where a part is told what is left of its sender, contracts see that number for it
pub told_tells : (a : Actor) (n : ℕ) (ps : List Part) → map seen (map (set_known (number_of a) n) ps)
    ≡ told a n (map seen ps)
told_tells a n [] = refl
told_tells a n (p ∷ ps) = λ i. tell_if (eqb (number_of p.from) (number_of a)) n p i ∷ told_tells a n ps i

-- a part stays its sender's, whether or not a message is noted in it
pub note_from : (b : Bool) (p : Part)
    → (cond b (record { from = p.from; taken = p.taken + 1; known = p.known - 1 }) p).from ≡ p.from
note_from true p = refl
note_from false p = refl

-- the same senders have parts where a taken message is noted
pub named_notes : (n m : ℕ) (ps : List Part) → has_part m (map (noted n) ps) ≡ has_part m ps
named_notes n m [] = refl
named_notes n m (p ∷ ps) = λ i. cond (eqb (number_of (note_from (eqb (number_of p.from) n) p i)) m) true
    (named_notes n m ps i)

-- a part stays its sender's, whether or not it is told what is left
pub tell_from : (b : Bool) (n : ℕ) (p : Part) → (cond b (record { from = p.from; taken = p.taken; known = n }) p).from
    ≡ p.from
tell_from true n p = refl
tell_from false n p = refl

-- the same senders have parts where one is told what is left
pub named_tells : (n k m : ℕ) (ps : List Part) → has_part m (map (set_known n k) ps) ≡ has_part m ps
named_tells n k m [] = refl
named_tells n k m (p ∷ ps) = λ i. cond (eqb (number_of (tell_from (eqb (number_of p.from) n) k p i)) m) true
    (named_tells n k m ps i)

note_fits : (v : InboxHand) (x : Envelope) (p : Part) → PartFits v p → Dec (number_of p.from ≡ number_of x.from)
    → PartFits (inbox_hand false true 0 [] (v.received ++ x ∷ []) v.known) (noted (number_of x.from) p)
note_fits v x p h (yes e) = let n = number_of p.from in
    let w : InboxHand = inbox_hand false true 0 [] (v.received ++ x ∷ []) v.known in
    let more : length (of_sender n (v.received ++ x ∷ [])) ≡ length (of_sender n v.received) + 1 =
    ap length (of_more n v.received x (sym e)) ∙ length-append (of_sender n v.received) (x ∷ []) in
    let a : p.taken ≡ length (of_sender n v.received) = h.0 in
    let b : p.known ≡ length (known_of v.known n) - p.taken = h.1 in
    subst (λ (b : Bool). PartFits w (cond b (record { from = p.from; taken = p.taken + 1; known = p.known - 1 }) p))
    (sym (eq-eqb n (number_of x.from) e)) ((omega arith), (omega arith))
note_fits v x p h (no e) = let n = number_of p.from in
    let w : InboxHand = inbox_hand false true 0 [] (v.received ++ x ∷ []) v.known in
    subst (λ (b : Bool). PartFits w (cond b (record { from = p.from; taken = p.taken + 1; known = p.known - 1 }) p))
    (sym (ne_eqb n (number_of x.from) e)) (h.0 ∙ ap length (sym (of_other n v.received x (λ q. e (sym q)))), h.1)

-- the parts have the counts of their senders again where a message joins what was received and is noted
pub notes_fit : (v : InboxHand) (x : Envelope) (ps : List Part) → All (PartFits v) ps
    → All (PartFits (inbox_hand false true 0 [] (v.received ++ x ∷ []) v.known)) (map (noted (number_of x.from)) ps)
notes_fit v x ps h = All-map (PartFits (inbox_hand false true 0 [] (v.received ++ x ∷ []) v.known))
    (noted (number_of x.from)) ps
    (λ k d lt. let p : Part = get_or ps k d in note_fits v x p (h k d lt)
    (ℕ_discrete (number_of p.from) (number_of x.from)))

-- a sender's part counts fewer than 2^62 messages, where with the next one at most so many were received
pub few_taken : (v : InboxHand) (x : Envelope) (ps : List Part)
    → length (of_sender (number_of x.from) (v.received ++ x ∷ [])) ≤ 2 ^ 62 → All (PartFits v) ps
    → All (λ p. number_of p.from ≡ number_of x.from → p.taken < 2 ^ 62) ps
few_taken v x ps few h k d lt e = let n = number_of x.from in let p : Part = get_or ps k d in
    let more : length (of_sender n (v.received ++ x ∷ [])) ≡ length (of_sender n v.received) + 1 =
    ap length (of_more n v.received x refl) ∙ length-append (of_sender n v.received) (x ∷ []) in
    let a : p.taken ≡ length (of_sender n v.received) = (h k d lt).0
    ∙ ap (λ (k : ℕ). length (of_sender k v.received)) e in omega arith

-- nothing is known to be left of any sender where all that was known of each has been received
pub none_left : (v : InboxHand) (ps : List Part) → ((n : ℕ)
    → length (known_of v.known n) ≤ length (of_sender n v.received) + 0) → All (PartFits v) ps
    → All (λ (p : OfSender). p.known ≡ 0) (map seen ps)
none_left v ps f h = All-map (λ (p : OfSender). p.known ≡ 0) seen ps
    (λ i d lt. let p : Part = get_or ps i d in let n = number_of p.from in let k = f n in
    let a : p.taken ≡ length (of_sender n v.received) = (h i d lt).0 in
    let b : p.known ≡ length (known_of v.known n) - p.taken = (h i d lt).1 in
    let c : p.known ≡ 0 = omega arith in c)

tell_fits : (v : InboxHand) (n k : ℕ) (s : List Envelope) (p : Part) → k ≡ length s - length (of_sender n v.received)
    → PartFits v p → Dec (number_of p.from ≡ n) → PartFits (inbox_hand false true 0 [] v.received ((n, s) ∷ v.known))
    (set_known n k p)
tell_fits v n k s p is h (yes e) = let m = number_of p.from in
    let w : InboxHand = inbox_hand false true 0 [] v.received ((n, s) ∷ v.known) in
    let a : p.taken ≡ length (of_sender n v.received) = h.0 ∙ ap (λ (j : ℕ). length (of_sender j v.received)) e in
    let b : length (known_of w.known m) ≡ length s = ap (λ (b : Bool). length (cond b s (known_of v.known m)))
    (eq-eqb n m (sym e)) in
    subst (λ (b : Bool). PartFits w (cond b (record { from = p.from; taken = p.taken; known = k }) p))
    (sym (eq-eqb m n e)) (h.0, (is ∙ ap (λ (j : ℕ). length s - j) (sym a) ∙ ap (λ (j : ℕ). j - p.taken) (sym b)))
tell_fits v n k s p is h (no e) = let m = number_of p.from in
    let w : InboxHand = inbox_hand false true 0 [] v.received ((n, s) ∷ v.known) in
    let b : length (known_of v.known m) ≡ length (known_of w.known m) =
    ap (λ (b : Bool). length (cond b s (known_of v.known m))) (sym (ne_eqb n m (λ q. e (sym q)))) in
    subst (λ (b : Bool). PartFits w (cond b (record { from = p.from; taken = p.taken; known = k }) p))
    (sym (ne_eqb m n e)) (h.0, h.1 ∙ ap (λ (j : ℕ). j - p.taken) b)

-- the parts have the counts of their senders again where a list of one sender becomes known, and its part is told how
-- many messages of that were not received
pub tells_fit : (v : InboxHand) (n k : ℕ) (s : List Envelope) (ps : List Part)
    → k ≡ length s - length (of_sender n v.received) → All (PartFits v) ps
    → All (PartFits (inbox_hand false true 0 [] v.received ((n, s) ∷ v.known))) (map (set_known n k) ps)
tells_fit v n k s ps is h = All-map (PartFits (inbox_hand false true 0 [] v.received ((n, s) ∷ v.known)))
    (set_known n k) ps
    (λ i d lt. let p : Part = get_or ps i d in tell_fits v n k s p is (h i d lt) (ℕ_discrete (number_of p.from) n))

-- a sender that the rule knows has a part
pub named_if : (b c : Bool) → (b ≡ false → c ≡ false) → c ≡ true → b ≡ true
named_if true c f e = refl
named_if false c f e = absurd (true≢false (sym e ∙ f refl))

-- a pass with a sender's list and the receiver's, where it looks
pub looked : (v u b : InboxHand) (n : ℕ) (ps : List Part) (items : List Envelope)
    → u ≡ inbox_hand true false n u.sent [] [] → b ≡ inbox_hand true true u.sender u.sent v.received v.known
    → (b.sent ≡ of_sender b.sender b.received ++ of_sender b.sender items) × (has_sender b.known b.sender ≡ true)
    → ((m : ℕ) → has_part m ps ≡ false → has_sender v.known m ≡ false)
    → (u.sent ≡ of_sender n v.received ++ of_sender n items) × (has_part n ps ≡ true)
looked v u b n ps items us bs fact named = let name : u.sender ≡ n = ap (λ (h : InboxHand). h.sender) us in
    let shown : (u.sent ≡ of_sender u.sender v.received ++ of_sender u.sender items)
    × (has_sender v.known u.sender ≡ true) =
    subst (λ (h : InboxHand). (h.sent ≡ of_sender h.sender h.received ++ of_sender h.sender items)
    × (has_sender h.known h.sender ≡ true)) bs fact in
    let here : (u.sent ≡ of_sender n v.received ++ of_sender n items)
    × (has_sender v.known n ≡ true) = subst (λ (k : ℕ). (u.sent ≡ of_sender k v.received ++ of_sender k items)
    × (has_sender v.known k ≡ true)) name shown in
    (here.0, named_if (has_part n ps) (has_sender v.known n) (named n) here.1)

-- the receiver's pass after the look
pub parted : (v u b c w : InboxHand) (n : ℕ) → u ≡ inbox_hand true false n u.sent [] []
    → b ≡ inbox_hand true true u.sender u.sent v.received v.known → c ≡ b
    → w ≡ inbox_hand false true 0 [] c.received ((c.sender, c.sent) ∷ c.known)
    → w ≡ inbox_hand false true 0 [] v.received ((n, u.sent) ∷ v.known)
parted v u b c w n us bs cs ws = let e = cs ∙ bs in ws ∙ ap
    (λ (h : InboxHand). inbox_hand false true 0 [] h.received ((h.sender, h.sent) ∷ h.known)) e
    ∙ ap (λ (k : ℕ). inbox_hand false true 0 [] v.received ((k, u.sent) ∷ v.known))
    (ap (λ (h : InboxHand). h.sender) us)

-- what a sender's part counts as taken is how many of its messages were received
pub found_taken : (v : InboxHand) (ps : List Part) (n t : ℕ) (p : Part) → All (PartFits v) ps → Contains ps p
    → number_of p.from ≡ n → t ≡ p.taken → t ≡ length (of_sender n v.received)
found_taken v ps n t p h c e is = is ∙ (All-contains (PartFits v) ps p h c).0
    ∙ ap (λ (k : ℕ). length (of_sender k v.received)) e

-- what the rule knows of a new list of senders, where each has a part
pub named_still : (n : ℕ) (s : List Envelope) (known : List (ℕ × List Envelope)) (ps : List Part) → has_part n ps ≡ true
    → ((m : ℕ) → has_part m ps ≡ false → has_sender known m ≡ false) → (m : ℕ) → has_part m ps ≡ false
    → has_sender ((n, s) ∷ known) m ≡ false
named_still n s known ps here f m none = elim (ℕ_discrete n m) [
  | yes e ↦ absurd (true≢false (sym here ∙ ap (λ (k : ℕ). has_part k ps) e ∙ none))
  | no e ↦ ap (λ (b : Bool). cond b true (has_sender known m)) (ne_eqb n m e) ∙ f m none
]

-- an actor is one of the senders that contracts see just where it has a part
pub named_seen : (a : Actor) (ps : List Part) → is_sender a (map seen ps) ≡ has_part (number_of a) ps
named_seen a [] = refl
named_seen a (p ∷ ps) = λ i. cond (eqb (number_of p.from) (number_of a)) true (named_seen a ps i)

named_at : (ps : List Part) (k : ℕ) (d : Part) → k < length ps → has_part (number_of (get_or ps k d).from) ps ≡ true
named_at [] k d lt = absurd (omega arith)
named_at (p ∷ ps) zero d lt = ap (λ (b : Bool). cond b true (has_part (number_of p.from) ps))
    (eq-eqb (number_of p.from) (number_of p.from) refl)
named_at (p ∷ ps) (suc k) d lt = has_if (eqb (number_of p.from) (number_of (get_or ps k d).from)) _
    (named_at ps k d (omega arith))

push_if : (b c more : Bool) → (more ≡ false → c ≡ false) → cond b true more ≡ false → cond b true c ≡ false
push_if true c more f e = e
push_if false c more f e = f e

-- a name that no part of a longer list has
pub named_push : (m : ℕ) (ps : List Part) (p : Part) → has_part m (ps ++ p ∷ []) ≡ false → has_part m ps ≡ false
named_push m [] p e = refl
named_push m (q ∷ ps) p e = push_if (eqb (number_of q.from) m) (has_part m ps) (has_part m (ps ++ p ∷ []))
    (named_push m ps p) e

-- the sender of the part that stands at the end has a part
pub named_end : (m : ℕ) (ps : List Part) (p : Part) → number_of p.from ≡ m → has_part m (ps ++ p ∷ []) ≡ true
named_end m [] p e = ap (λ (b : Bool). cond b true false) (eq-eqb (number_of p.from) m e)
named_end m (q ∷ ps) p e = has_if (eqb (number_of q.from) m) _ (named_end m ps p e)

-- who has no part is no sender that the rule knows, also once a new sender has come with its part
pub named_new : (m : ℕ) (known : List (ℕ × List Envelope)) (ps : List Part) (p : Part)
    → ((n : ℕ) → has_part n ps ≡ false → has_sender known n ≡ false) → has_part m (ps ++ p ∷ []) ≡ false
    → has_sender ((number_of p.from, []) ∷ known) m ≡ false
named_new m known ps p f none = ap (λ (b : Bool). cond b true (has_sender known m))
    (ne_eqb (number_of p.from) m (λ e. true≢false (sym (named_end m ps p e) ∙ none))) ∙ f m (named_push m ps p none)

-- a new sender's part, where nothing was received
pub fits_new : (v : InboxHand) (ps : List Part) (p : Part) → v.received ≡ [] → p.taken ≡ 0 → p.known ≡ 0
    → has_part (number_of p.from) ps ≡ false → All (PartFits v) ps
    → All (PartFits (inbox_hand false true 0 [] v.received ((number_of p.from, []) ∷ v.known))) (ps ++ p ∷ [])
fits_new v ps p none t k new h = let n = number_of p.from in
    let w : InboxHand = inbox_hand false true 0 [] v.received ((n, []) ∷ v.known) in
    let none' : (m : ℕ) → length (of_sender m v.received) ≡ 0 =
    λ m. ap (λ (l : List Envelope). length (of_sender m l)) none in
    let z : 0 - p.taken ≡ 0 = omega arith in
    All-push (PartFits w) ps p
    (λ i d lt. let q : Part = get_or ps i d in let m = number_of q.from in (
      (h i d lt).0,
      elim (ℕ_discrete n m) [
        | yes e ↦ absurd (true≢false (sym (named_at ps i d lt) ∙ ap (λ (j : ℕ). has_part j ps) (sym e) ∙ new))
        | no e ↦ (h i d lt).1 ∙ ap (λ (b : Bool). length (cond b [] (known_of v.known m)) - q.taken)
            (sym (ne_eqb n m e))
      ],
    )) (
      t ∙ sym (none' n),
      k ∙ sym z ∙ sym (ap (λ (b : Bool). length (cond b [] (known_of v.known n)) - p.taken)
          (eq-eqb n n refl)),
    )

-- an actor that differs from all these is no sender among them
pub no_sender : (a : Actor) (xs : List Actor) → ((k : ℕ) (d : Actor) → k < length xs
    → number_of (get_or xs k d) ≢ number_of a) → is_sender a (map fresh xs) ≡ false
no_sender a [] f = refl
no_sender a (x ∷ xs) f = ap (λ (b : Bool). cond b true (is_sender a (map fresh xs)))
    (ne_eqb (number_of x) (number_of a) (f 0 a (omega arith))) ∙ no_sender a xs (λ k d lt. f (suc k) d (omega arith))

-- no two actors have one number
pub name_once : (a b : Actor) → number_of a ≡ number_of b → a ≡ b
name_once (Feeder i) (Feeder j) e = let q : i ≡ j = omega arith in ap (λ (k : ℕ). Feeder k) q
name_once (Feeder i) (Joiner j) e = absurd (omega arith)
name_once (Feeder i) Controller e = absurd (omega arith)
name_once (Feeder i) Collector e = absurd (omega arith)
name_once (Joiner i) (Feeder j) e = absurd (omega arith)
name_once (Joiner i) (Joiner j) e = let q : i ≡ j = omega arith in ap (λ (k : ℕ). Joiner k) q
name_once (Joiner i) Controller e = absurd (omega arith)
name_once (Joiner i) Collector e = absurd (omega arith)
name_once Controller (Feeder j) e = absurd (omega arith)
name_once Controller (Joiner j) e = absurd (omega arith)
name_once Controller Controller e = refl
name_once Controller Collector e = absurd (omega arith)
name_once Collector (Feeder j) e = absurd (omega arith)
name_once Collector (Joiner j) e = absurd (omega arith)
name_once Collector Controller e = absurd (omega arith)
name_once Collector Collector e = refl

-- a sender among actors that differ is none of those before it
pub not_before : (xs : List Actor) (i : ℕ) (d : Actor) → Differ xs → i < length xs
    → is_sender (get_or xs i d) (map fresh (take i xs)) ≡ false
not_before xs i d differ lt = no_sender (get_or xs i d) (take i xs)
    (λ k e lt'. let le : k < i = omega (arith, length-take i xs) in
    λ q. differ k i e le lt (sym (get_or-take i xs k e le) ∙ name_once _ _ q ∙ get_or_default xs i d e lt))

-- who isn't found in a list isn't found among the others, behind the first
pub rest_false : (b c : Bool) → cond b true c ≡ false → c ≡ false
rest_false true c e = absurd (true≢false e)
rest_false false c e = e

-- the senders stay, whatever is known of them
pub senders_lowered : (a : Actor) (ss : List OfSender) → senders_of (lowered a ss) ≡ senders_of ss
senders_lowered a [] = refl
senders_lowered a (s ∷ ss) = λ i. s.from ∷ senders_lowered a ss i

-- so they do where it is told what is left of one
pub senders_told : (a : Actor) (n : ℕ) (ss : List OfSender) → senders_of (told a n ss) ≡ senders_of ss
senders_told a n [] = refl
senders_told a n (s ∷ ss) = λ i. s.from ∷ senders_told a n ss i
