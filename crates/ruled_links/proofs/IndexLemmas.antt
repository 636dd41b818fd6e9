-- A part that is found by its sender's number is the only one of that sender.
use Rattle.std.proofs.Common.{◌≡◌, ◌≢◌, ℕ, zero, suc, ◌+◌, ◌<◌, ◌≤◌, Bool, true, false, cond, eqb, List, [], ◌∷◌, ◌++◌}
use Rattle.std.proofs.Common.{length, map, set, get_or, sym, refl, ap, ◌∙◌, subst, arith, ne_eqb, eq-eqb, length-set}
use Rattle.std.proofs.Common.{length-append, ◌-◌, get_or-set_same, get_or-set_other}
use Rattle.std.proofs.lemmas.List.{get_or-append_right, get_or_append_left, get_or-map, length-map}
use Rattle.epoch_tags.specs.declared.actor.Actor.{Actor}
use Rattle.epoch_tags.specs.declared.actor.Actor.TheVariants.{Controller}
use native.Mathlib.Decide.{ℕ_discrete}
use Rattle.ruled_links.specs.declared.parts.Part.{Part}
use Rattle.ruled_links.specs.Delivery.{number_of}
use Rattle.ruled_links.specs.Parts.{noted, set_known, has_part, IsIndexed}
use Rattle.ruled_links.proofs.PartsLemmas.{note_from, tell_from}

-- a part that is read where there is none
pub any_part : Part
any_part = record { from = Controller; taken = 0; known = 0 }

-- a map that changes no item
map_same : {X : Type 0} → (f : X → X) (xs : List X) (d : X)
    → ((i : ℕ) → i < length xs → f (get_or xs i d) ≡ get_or xs i d) → map f xs ≡ xs
map_same f [] d h = refl
map_same f (x ∷ xs) d h = λ i. h 0 (omega arith) i ∷ map_same f xs d (λ k lt. h (suc k) (omega arith)) i

-- a map that changes no item but this one
set_map : {X : Type 0} → (f : X → X) (xs : List X) (k : ℕ) (d : X) → k < length xs
    → ((i : ℕ) → i < length xs → i ≢ k → f (get_or xs i d) ≡ get_or xs i d) → set xs k (f (get_or xs k d)) ≡ map f xs
set_map f [] k d lt h = absurd (omega arith)
set_map f (x ∷ xs) zero d lt h = λ i. f x ∷ sym (map_same f xs d (λ k less. h (suc k) (omega arith) (omega arith))) i
set_map f (x ∷ xs) (suc k) d lt h = λ i. sym (h 0 (omega arith) (omega arith)) i
    ∷ set_map f xs k d (omega arith) (λ j less other. h (suc j) (omega arith) (omega arith)) i

module _ (places : List ℕ) (ps : List Part) (n : ℕ) where
  -- what is found by a number is the only part of that number
  only : (k i : ℕ) (d : Part) → IsIndexed places ps → k < length ps
      → number_of (get_or ps k d).from ≡ n → i < length ps → i ≢ k → number_of (get_or ps i d).from ≢ n
  only k i d h lt is less other e =
      other (sym (h i d less).1 ∙ ap (λ (m : ℕ). get_or places m 0) (e ∙ sym is) ∙ (h k d lt).1)

noted_other : (n : ℕ) (p : Part) → number_of p.from ≢ n → noted n p ≡ p
noted_other n p e = ap (λ (b : Bool). cond b (record { from = p.from; taken = p.taken + 1; known = p.known - 1 }) p)
    (ne_eqb (number_of p.from) n e)

told_other : (n left : ℕ) (p : Part) → number_of p.from ≢ n → set_known n left p ≡ p
told_other n left p e = ap (λ (b : Bool). cond b (record { from = p.from; taken = p.taken; known = left }) p)
    (ne_eqb (number_of p.from) n e)

-- one part is noted
pub note_found : (places : List ℕ) (ps : List Part) (n k : ℕ) (d : Part) → IsIndexed places ps → k < length ps
    → number_of (get_or ps k d).from ≡ n → set ps k (noted n (get_or ps k d)) ≡ map (noted n) ps
note_found places ps n k d h lt is = set_map (noted n) ps k d lt
    (λ i less other. noted_other n (get_or ps i d) (only places ps n k i d h lt is less other))

-- where one part is told what is left, all parts of its sender are: it is the only one
pub tell_found : (places : List ℕ) (ps : List Part) (n left k : ℕ) (d : Part) → IsIndexed places ps → k < length ps
    → number_of (get_or ps k d).from ≡ n → set ps k (set_known n left (get_or ps k d)) ≡ map (set_known n left) ps
tell_found places ps n left k d h lt is = set_map (set_known n left) ps k d lt
    (λ i less other. told_other n left (get_or ps i d) (only places ps n k i d h lt is less other))

part_here : (b c : Bool) → cond b true c ≡ false → (b ≡ false) × (c ≡ false)
part_here true c e = (e, cc)
part_here false c e = (refl, e)

-- where no part is of a number, a note on it changes nothing
pub note_none : (n : ℕ) (ps : List Part) → has_part n ps ≡ false → ps ≡ map (noted n) ps
note_none n [] e = refl
note_none n (p ∷ ps) e = let both = part_here (eqb (number_of p.from) n) (has_part n ps) e in
    λ i. sym (ap (λ (b : Bool). cond b (record { from = p.from; taken = p.taken + 1; known = p.known - 1 }) p) both.0) i
    ∷ note_none n ps both.1 i

-- where no part is of a number, to tell what is left of it changes nothing
pub tell_none : (n left : ℕ) (ps : List Part) → has_part n ps ≡ false → ps ≡ map (set_known n left) ps
tell_none n left [] e = refl
tell_none n left (p ∷ ps) e = let both = part_here (eqb (number_of p.from) n) (has_part n ps) e in
    λ i. sym (ap (λ (b : Bool). cond b (record { from = p.from; taken = p.taken; known = left }) p) both.0) i
    ∷ tell_none n left ps both.1 i

no_part : (n : ℕ) (ps : List Part) (d : Part) → ((i : ℕ) → i < length ps → number_of (get_or ps i d).from ≢ n)
    → has_part n ps ≡ false
no_part n [] d h = refl
no_part n (p ∷ ps) d h = ap (λ (b : Bool). cond b true (has_part n ps))
    (ne_eqb (number_of p.from) n (h 0 (omega arith))) ∙ no_part n ps d (λ i lt. h (suc i) (omega arith))

-- a number that the places don't know
pub none_past : (places : List ℕ) (ps : List Part) (n : ℕ) (d : Part) → IsIndexed places ps → length places ≤ n
    → has_part n ps ≡ false
none_past places ps n d h past = no_part n ps d (λ i lt e. let within = (h i d lt).0 in absurd (omega (arith, e)))

-- a number whose place has no part, or another's
pub none_else : (places : List ℕ) (ps : List Part) (n : ℕ) (d : Part) → IsIndexed places ps
    → (get_or places n 0 < length ps → number_of (get_or ps (get_or places n 0) d).from ≢ n) → has_part n ps ≡ false
none_else places ps n d h other =
    no_part n ps d (λ i lt e. let at : get_or places n 0 ≡ i = ap (λ (m : ℕ). get_or places m 0) (sym e)
    ∙ (h i d lt).1 in
    other (subst (λ (j : ℕ). j < length ps) (sym at) lt) (subst (λ (j : ℕ). number_of (get_or ps j d).from ≡ n) (sym at)
    e))

head_apart : (n : ℕ) (p : Part) (ps : List Part) → has_part n (p ∷ ps) ≡ false → number_of p.from ≢ n
head_apart n p ps e is = let both = part_here (eqb (number_of p.from) n) (has_part n ps) e in
    absurd (let t : true ≡ false = sym (eq-eqb (number_of p.from) n is) ∙ both.0 in cc)

-- no part is of a number that none is of
all_apart : (n : ℕ) (ps : List Part) (i : ℕ) (d : Part) → has_part n ps ≡ false → i < length ps
    → number_of (get_or ps i d).from ≢ n
all_apart n [] i d e lt = absurd (omega arith)
all_apart n (p ∷ ps) zero d e lt = head_apart n p ps e
all_apart n (p ∷ ps) (suc i) d e lt = all_apart n ps i d (part_here (eqb (number_of p.from) n) (has_part n ps) e).1
    (omega arith)

-- a new sender's part stands at the end
pub index_push : (places wider : List ℕ) (ps : List Part) (p : Part) → IsIndexed places ps
    → has_part (number_of p.from) ps ≡ false → number_of p.from < length wider → length places ≤ length wider
    → ((k : ℕ) → k < length places → get_or wider k 0 ≡ get_or places k 0)
    → IsIndexed (set wider (number_of p.from) (length ps)) (ps ++ p ∷ [])
index_push places wider ps p h new room longer same = λ k d lt. let n = number_of p.from in
    elim (ℕ_discrete k (length ps)) [
      | yes e ↦ let here : get_or (ps ++ p ∷ []) k d ≡ p = get_or-append_right ps (p ∷ []) (length ps) k d refl
          (omega arith) ∙ ap (λ (j : ℕ). get_or (p ∷ []) j d) (let z : k - length ps ≡ 0 = omega arith in z) in
          subst (λ (q : Part). (number_of q.from < length (set wider n (length ps)))
          × (get_or (set wider n (length ps)) (number_of q.from) 0 ≡ k)) (sym here)
          (omega (arith, length-set {A = ℕ}), get_or-set_same wider n (length ps) 0 room ∙ sym e)
      | no e ↦ let less : k < length ps = omega (arith, length-append ps (p ∷ [])) in
          let here : get_or (ps ++ p ∷ []) k d ≡ get_or ps k d = get_or_append_left ps (p ∷ []) d k less in
          let q : Part = get_or ps k d in let m = number_of q.from in let apart : m ≢ n = all_apart n ps k d new less in
          let old = h k d less in
          subst (λ (q : Part). (number_of q.from < length (set wider n (length ps)))
          × (get_or (set wider n (length ps)) (number_of q.from) 0 ≡ k)) (sym here) (
            (let a : m < length places = old.0 in omega (arith, length-set {A = ℕ})),
            get_or-set_other wider n m (length ps) 0 apart ∙ same m old.0 ∙ old.1,
          )
    ]

index_map : (f : Part → Part) (places : List ℕ) (ps : List Part) → ((p : Part) → (f p).from ≡ p.from)
    → IsIndexed places ps → IsIndexed places (map f ps)
index_map f places ps same h k d lt = let less : k < length ps = omega (arith, length-map ps f) in
    let here : (get_or (map f ps) k d).from ≡ (get_or ps k d).from =
    ap (λ (p : Part). p.from) (get_or-map f ps k d d less) ∙ same (get_or ps k d) in
    subst (λ (a : Actor). (number_of a < length places) × (get_or places (number_of a) 0 ≡ k)) (sym here) (h k d less)

-- the places still are those of the parts where a taken message is noted
pub index_notes : (n : ℕ) (places : List ℕ) (ps : List Part) → IsIndexed places ps → IsIndexed places (map (noted n) ps)
index_notes n places ps h = index_map (noted n) places ps (λ p. note_from (eqb (number_of p.from) n) p) h

-- and where a part is told what is left of its sender
pub index_tells : (n left : ℕ) (places : List ℕ) (ps : List Part) → IsIndexed places ps
    → IsIndexed places (map (set_known n left) ps)
index_tells n left places ps h = index_map (set_known n left) places ps
    (λ p. tell_from (eqb (number_of p.from) n) left p) h
