-- The machine under wider limits, and what each of its faults says.
use Rattle.std.proofs.Common.{◌≡◌, ℕ, zero, suc, ◌+◌, ◌≤◌, List, [], ◌∷◌, ◌++◌, map, Bool, true, false, cond, nat_le}
use Rattle.std.proofs.Common.{Ok, Err, refl, sym, ap, subst, ◌∙◌, arith}
use Rattle.theta_tree.specs.declared.token.Token.{Token}
use Rattle.theta_tree.specs.declared.token.Token.TheVariants.{Word, Number, Literal, Quoted, Open, Close, Dot, Sign}
use Rattle.theta_tree.specs.declared.token.Token.TheVariants.{Compare}
use Rattle.theta_tree.specs.declared.token.Keyword.TheVariants.{And, Or, Not, Abs, Text, R, S}
use Rattle.theta_tree.specs.declared.token.Placed.{Placed}
use Rattle.theta_tree.specs.Grammar.{Limits, IsOpen}
use Rattle.theta_tree.specs.Tokens.{number_of}
use Rattle.theta_text.specs.Machine.{Kind, syntax, deep, wide, literal, Symbol, unit, tail, close, open', dot, field}
use Rattle.theta_text.specs.Machine.{name, term, sum, more, op, bound, side, Step, small, at_field, at_name, at_term}
use Rattle.theta_text.specs.Machine.{at_sum, at_side, at_unit, step, is_done, start, fine, wrong, go_on, verdict}
use Rattle.theta_tree.specs.Faults.{words, place_of, IsStuck, IsSyntaxFault, Passes, IsNesting, IsSign, IsNumber}
use Rattle.theta_tree.specs.Faults.{IsDeepFault, IsWideFault, IsLiteralFault}
use Rattle.theta_text.proofs.MachineLaws.{GivesAll, Goes, IfGoes, if_goes_map, Fits, pull}
use Rattle.theta_text.proofs.Runs.{fits, spells_done, then_run, run, open_goes, goes_open}
use Rattle.theta_text.proofs.Stops.{stuck_at, stuck_end, goes_ok, if_goes_at}

-- a number, one greater where the flag says so
abbrev pub raised : Bool → ℕ → ℕ
raised true n = suc n
raised false n = n

-- what is to come, one nesting deeper where the first flag says so, one term wider where the second does
abbrev pub up : Bool → Bool → Symbol → Symbol
up b c (unit d) = unit (raised b d)
up b c (tail d) = tail (raised b d)
up b c (more n) = more (raised c n)
up b c x = x

-- the same of all that is to come
abbrev pub ups : Bool → Bool → List Symbol → List Symbol
ups b c s = map (up b c) s

-- the limits, one nesting deeper and one term wider where these flags say so, with this greatest number
abbrev pub Wide : Limits → Bool → Bool → ℕ → Limits
Wide L b c g = record { nesting = raised b L.nesting; more = raised c L.more; greatest = g }

-- the number that a token spells, and 0 where it spells none
abbrev pub value_of : Token → ℕ
value_of (Number v) = number_of v
value_of _ = 0

-- the step succeeds
abbrev pub IsOk : Step → Type 0
IsOk r = (s : List Symbol) × (r ≡ Ok s)

-- what wider limits make of a step at a token: one that succeeds does so there too, with as much more room behind it;
-- one that a limit stops succeeds where that limit is the wider one, or takes in the token's number
abbrev pub Lifts : Bool → Bool → ℕ → Token → Step → Step → Type 0
Lifts b c g t (Ok s) r = r ≡ Ok (ups b c s)
Lifts b c g t (Err syntax) r = Unit {0}
Lifts b c g t (Err deep) r = b ≡ true → IsOk r
Lifts b c g t (Err wide) r = c ≡ true → IsOk r
Lifts b c g t (Err literal) r = value_of t ≤ g → IsOk r

-- the same of the step at a token, against what is to come
abbrev pub LiftsAt : Limits → Bool → Bool → ℕ → List Symbol → Token → Type 0
LiftsAt L b c g s t = Lifts b c g t (step L s t) (step (Wide L b c g) (ups b c s) t)

lifts_small : (L : Limits) (b c : Bool) (g : ℕ) (v : List ℕ) (s : List Symbol) → L.greatest ≤ g
    → Lifts b c g (Number v) (small L (number_of v) s) (small (Wide L b c g) (number_of v) (ups b c s))
lifts_small L b c g v s le = go (nat_le (number_of v) L.greatest) refl
  where
    go : (x : Bool) → nat_le (number_of v) L.greatest ≡ x → Lifts b c g (Number v) (cond x (Ok s) (Err literal))
        (small (Wide L b c g) (number_of v) (ups b c s))
    go true e = let h : nat_le (number_of v) g ≡ true = grind (arith, e) in
        ap (λ x. cond x (Ok (ups b c s)) (Err literal)) h
    go false e = λ h. let h' : nat_le (number_of v) g ≡ true = grind (arith, h) in
        (ups b c s, ap (λ x. cond x (Ok (ups b c s)) (Err literal)) h')

lifts_name : (L : Limits) (b c : Bool) (g : ℕ) (s : List Symbol) (t : Token)
    → Lifts b c g t (at_name s t) (at_name (ups b c s) t)
lifts_name L b c g s (Word R w) = refl
lifts_name L b c g s (Word S w) = refl
lifts_name L b c g s _ = tt

lifts_side : (b c : Bool) (g : ℕ) (s : List Symbol) (t : Token) → Lifts b c g t (at_side s t) (at_side (ups b c s) t)
lifts_side b c g s (Word Text w) = refl
lifts_side b c g s (Literal w) = refl
lifts_side b c g s _ = tt

lifts_field : (b c : Bool) (g : ℕ) (s : List Symbol) (t : Token) → Lifts b c g t (at_field s t) (at_field (ups b c s) t)
lifts_field b c g s (Word k w) = refl
lifts_field b c g s (Quoted w) = refl
lifts_field b c g s _ = tt

lifts_term : (L : Limits) (b c : Bool) (g : ℕ) → L.greatest ≤ g → (s : List Symbol) (t : Token)
    → Lifts b c g t (at_term L s t) (at_term (Wide L b c g) (ups b c s) t)
lifts_term L b c g le s (Number v) = lifts_small L b c g v s le
lifts_term L b c g le s (Word k w) = lifts_name L b c g s (Word k w)
lifts_term L b c g le s _ = tt

lifts_sum : (L : Limits) (b c : Bool) (g : ℕ) → L.greatest ≤ g → (s : List Symbol) (t : Token)
    → Lifts b c g t (at_sum L s t) (at_sum (Wide L b c g) (ups b c s) t)
lifts_sum L b c g le s (Sign m) = refl
lifts_sum L b c g le s t = lifts_term L b c g le (more L.more ∷ s) t

not_set : (r : Step) → false ≡ true → IsOk r
not_set r e = let bad : ⊥ = cc in absurd bad

lifts_unit : (L : Limits) (b c : Bool) (g : ℕ) → L.greatest ≤ g → (d : ℕ) (s : List Symbol) (t : Token)
    → Lifts b c g t (at_unit L d s t) (at_unit (Wide L b c g) (raised b d) (ups b c s) t)
lifts_unit L true c g le zero s (Word Not w) = λ e. (_, refl)
lifts_unit L true c g le zero s Open = λ e. (_, refl)
lifts_unit L true c g le zero s (Word Abs w) = refl
lifts_unit L true c g le zero s (Word Text w) = refl
lifts_unit L true c g le zero s (Literal w) = refl
lifts_unit L true c g le zero s t = lifts_sum L true c g le (op ∷ sum ∷ s) t
lifts_unit L true c g le (suc d) s (Word Not w) = refl
lifts_unit L true c g le (suc d) s Open = refl
lifts_unit L true c g le (suc d) s (Word Abs w) = refl
lifts_unit L true c g le (suc d) s (Word Text w) = refl
lifts_unit L true c g le (suc d) s (Literal w) = refl
lifts_unit L true c g le (suc d) s t = lifts_sum L true c g le (op ∷ sum ∷ s) t
lifts_unit L false c g le zero s (Word Not w) = λ e. not_set _ e
lifts_unit L false c g le zero s Open = λ e. not_set _ e
lifts_unit L false c g le zero s (Word Abs w) = refl
lifts_unit L false c g le zero s (Word Text w) = refl
lifts_unit L false c g le zero s (Literal w) = refl
lifts_unit L false c g le zero s t = lifts_sum L false c g le (op ∷ sum ∷ s) t
lifts_unit L false c g le (suc d) s (Word Not w) = refl
lifts_unit L false c g le (suc d) s Open = refl
lifts_unit L false c g le (suc d) s (Word Abs w) = refl
lifts_unit L false c g le (suc d) s (Word Text w) = refl
lifts_unit L false c g le (suc d) s (Literal w) = refl
lifts_unit L false c g le (suc d) s t = lifts_sum L false c g le (op ∷ sum ∷ s) t

-- wider limits make that of each step, if their greatest number is no less
pub lifts : (L : Limits) (b c : Bool) (g : ℕ) → L.greatest ≤ g → (s : List Symbol) (t : Token) → LiftsAt L b c g s t
lifts L b c g le [] t = tt
lifts L b c g le (unit d ∷ s) t = lifts_unit L b c g le d s t
lifts L b c g le (tail d ∷ s) (Word And w) = refl
lifts L b c g le (tail d ∷ s) (Word Or w) = refl
lifts L b c g le (tail d ∷ s) t = lifts L b c g le s t
lifts L b c g le (close ∷ s) Close = refl
lifts L b c g le (close ∷ s) _ = tt
lifts L b c g le (open' ∷ s) Open = refl
lifts L b c g le (open' ∷ s) _ = tt
lifts L b c g le (dot ∷ s) Dot = refl
lifts L b c g le (dot ∷ s) _ = tt
lifts L b c g le (field ∷ s) t = lifts_field b c g s t
lifts L b c g le (name ∷ s) t = lifts_name L b c g s t
lifts L b c g le (term ∷ s) t = lifts_term L b c g le s t
lifts L b c g le (sum ∷ s) t = lifts_sum L b c g le s t
lifts L b true g le (more zero ∷ s) (Sign m) = λ e. (_, refl)
lifts L b false g le (more zero ∷ s) (Sign m) = λ e. not_set _ e
lifts L b true g le (more (suc n) ∷ s) (Sign m) = refl
lifts L b false g le (more (suc n) ∷ s) (Sign m) = refl
lifts L b true g le (more n ∷ s) t = lifts L b true g le s t
lifts L b false g le (more n ∷ s) t = lifts L b false g le s t
lifts L b c g le (op ∷ s) (Compare o) = refl
lifts L b c g le (op ∷ s) _ = tt
lifts L b c g le (bound ∷ s) (Number v) = lifts_small L b c g v s le
lifts L b c g le (bound ∷ s) _ = tt
lifts L b c g le (side ∷ s) t = lifts_side b c g s t

-- a run within the limits is one within wider ones
pub lifted_run : (L : Limits) (b c : Bool) (g : ℕ) → L.greatest ≤ g → (front : List Token) (s : List Symbol)
    → IfGoes (run L s front) (λ s'. run (Wide L b c g) (ups b c s) front ≡ Ok (ups b c s'))
lifted_run L b c g le [] s = refl
lifted_run L b c g le (t ∷ ts) s = go (λ s'. lifted_run L b c g le ts s') (step L s t)
    (step (Wide L b c g) (ups b c s) t) (lifts L b c g le s t)
  where
    go : ((s' : List Symbol) → IfGoes (run L s' ts) (λ s''. run (Wide L b c g) (ups b c s') ts ≡ Ok (ups b c s'')))
        → (r f : Step) → Lifts b c g t r f → IfGoes (then_run r (λ s'. run L s' ts))
        (λ s''. then_run f (λ s'. run (Wide L b c g) s' ts) ≡ Ok (ups b c s''))
    go ih (Ok s1) f e = if_goes_map (run L s1 ts) _ _ (λ s' h. ap (λ x. then_run x (λ s'. run (Wide L b c g) s' ts)) e
        ∙ h) (ih s1)
    go ih (Err k) f e = tt

-- a run over one token more is the run so far, and then the step at that token
pub run-append : (L : Limits) (front : List Token) (t : Token) (s s' : List Symbol) → run L s front ≡ Ok s'
    → run L s (front ++ t ∷ []) ≡ then_run (step L s' t) (λ s. Ok s)
run-append L [] t s s' e =
    let same : s ≡ s' = cc in
    ap (λ x. then_run (step L x t) (λ s. Ok s)) same
run-append L (t' ∷ ts) t s s' e = go (λ s1 e'. run-append L ts t s1 s' e') (step L s t') e
  where
    go : ((s1 : List Symbol) → run L s1 ts ≡ Ok s' → run L s1 (ts ++ t ∷ []) ≡ then_run (step L s' t) (λ s. Ok s))
        → (r : Step) → then_run r (λ s1. run L s1 ts) ≡ Ok s'
        → then_run r (λ s1. run L s1 (ts ++ t ∷ [])) ≡ then_run (step L s' t) (λ s. Ok s)
    go ih (Ok s1) e' = ih s1 e'
    go ih (Err k) e' = let no : ⊥ = cc in absurd no

-- no rule within the limits: not open within them
pub not_open_at : (L : Limits) (front : List Token) (s : List Symbol) (t : Token) (k : Kind)
    → run L (start L) front ≡ Ok s → step L s t ≡ Err k
    → IsOpen L (front ++ t ∷ []) → ⊥
not_open_at L front s t k ran stop o =
    let (s2, ran2, f2) = goes_ok _ _ (open_goes L (front ++ t ∷ []) o) in
    let clash : Err k ≡ Ok s2 = sym (ap (λ x. then_run x (λ s. Ok s)) stop) ∙ sym (run-append L front t (start L) s ran)
    ∙ ran2 in
    let no : ⊥ = cc in
    absurd no

-- open within the wider limits, if the step goes there
pub open_wide : (L : Limits) (b c : Bool) (g : ℕ) → L.greatest ≤ g → (front : List Token) (s : List Symbol) (t : Token)
    → run L (start L) front ≡ Ok s
    → IsOk (step (Wide L b c g) (ups b c s) t) → IsOpen (Wide L b c g) (front ++ t ∷ [])
open_wide L b c g le front s t ran (s2, went) =
    let lifted : run (Wide L b c g) (start (Wide L b c g)) front ≡ Ok (ups b c s) =
    if_goes_at (run L (start L) front) _ s ran (lifted_run L b c g le front (start L)) in
    goes_open (Wide L b c g) (front ++ t ∷ []) s2 (run-append (Wide L b c g) front t (start (Wide L b c g)) (ups b c s)
    lifted ∙ ap (λ x. then_run x (λ s. Ok s)) went)

-- which token makes which fault
abbrev pub Blames : Token → Step → Type 0
Blames t (Ok s) = Unit {0}
Blames t (Err syntax) = Unit {0}
Blames t (Err deep) = IsNesting t
Blames t (Err wide) = IsSign t
Blames t (Err literal) = IsNumber t

blames_small : (L : Limits) (v : List ℕ) (s : List Symbol) → Blames (Number v) (small L (number_of v) s)
blames_small L v s = go (nat_le (number_of v) L.greatest)
  where
    go : (b : Bool) → Blames (Number v) (cond b (Ok s) (Err literal))
    go true = tt
    go false = tt

blames_name : (s : List Symbol) (t : Token) → Blames t (at_name s t)
blames_name s (Word R w) = tt
blames_name s (Word S w) = tt
blames_name s _ = tt

blames_side : (s : List Symbol) (t : Token) → Blames t (at_side s t)
blames_side s (Word Text w) = tt
blames_side s (Literal w) = tt
blames_side s _ = tt

blames_field : (s : List Symbol) (t : Token) → Blames t (at_field s t)
blames_field s (Word k w) = tt
blames_field s (Quoted w) = tt
blames_field s _ = tt

blames_term : (L : Limits) (s : List Symbol) (t : Token) → Blames t (at_term L s t)
blames_term L s (Number v) = blames_small L v s
blames_term L s (Word k w) = blames_name s (Word k w)
blames_term L s _ = tt

blames_sum : (L : Limits) (s : List Symbol) (t : Token) → Blames t (at_sum L s t)
blames_sum L s (Sign m) = tt
blames_sum L s t = blames_term L (more L.more ∷ s) t

blames_unit : (L : Limits) (d : ℕ) (s : List Symbol) (t : Token) → Blames t (at_unit L d s t)
blames_unit L zero s (Word Not w) = tt
blames_unit L zero s Open = tt
blames_unit L zero s (Word Abs w) = tt
blames_unit L zero s (Word Text w) = tt
blames_unit L zero s (Literal w) = tt
blames_unit L zero s t = blames_sum L (op ∷ sum ∷ s) t
blames_unit L (suc d) s (Word Not w) = tt
blames_unit L (suc d) s Open = tt
blames_unit L (suc d) s (Word Abs w) = tt
blames_unit L (suc d) s (Word Text w) = tt
blames_unit L (suc d) s (Literal w) = tt
blames_unit L (suc d) s t = blames_sum L (op ∷ sum ∷ s) t

-- a limit stops the machine only at a token that it bounds: one that nests, a sign or a number
pub blames : (L : Limits) (s : List Symbol) (t : Token) → Blames t (step L s t)
blames L [] t = tt
blames L (unit d ∷ s) t = blames_unit L d s t
blames L (tail d ∷ s) (Word And w) = tt
blames L (tail d ∷ s) (Word Or w) = tt
blames L (tail d ∷ s) t = blames L s t
blames L (close ∷ s) Close = tt
blames L (close ∷ s) _ = tt
blames L (open' ∷ s) Open = tt
blames L (open' ∷ s) _ = tt
blames L (dot ∷ s) Dot = tt
blames L (dot ∷ s) _ = tt
blames L (field ∷ s) t = blames_field s t
blames L (name ∷ s) t = blames_name s t
blames L (term ∷ s) t = blames_term L s t
blames L (sum ∷ s) t = blames_sum L s t
blames L (more zero ∷ s) (Sign m) = tt
blames L (more (suc n) ∷ s) (Sign m) = tt
blames L (more n ∷ s) t = blames L s t
blames L (op ∷ s) (Compare o) = tt
blames L (op ∷ s) _ = tt
blames L (bound ∷ s) (Number v) = blames_small L v s
blames L (bound ∷ s) _ = tt
blames L (side ∷ s) t = blames_side s t

-- the machine stops at the beginning of these tokens
abbrev pub Halts : Limits → List Symbol → Kind → List Placed → Type 0
Halts L s k [] = (k ≡ syntax) × (is_done s ≡ false)
Halts L s k (p ∷ ps) = step L s p.token ≡ Err k

-- the machine stops in the tokens: after front, with s still to come
pub record Stops (L : Limits) (end : ℕ) (from : List Symbol) (tokens : List Placed) (k : Kind)
    (place : ℕ) : Type 0 where
  pub front : List Placed
  pub rest : List Placed
  pub s : List Symbol
  pub whole : tokens ≡ front ++ rest
  pub there : place ≡ place_of end rest
  pub ran : run L from (words front) ≡ Ok s
  pub halted : Halts L s k rest

-- where the verdict is that something is wrong, the machine stopped for that, and at that place
pub stops : (L : Limits) (end : ℕ) (tokens : List Placed) (s : List Symbol) (k : Kind) (place : ℕ)
    → verdict L end s tokens ≡ wrong k place → Stops L end s tokens k place
stops L end [] s k place e = go (is_done s) refl e
  where
    go : (b : Bool) → is_done s ≡ b → cond b fine (wrong syntax end) ≡ wrong k place → Stops L end s [] k place
    go true h e' = let no : ⊥ = cc in absurd no
    go false h e' =
        let ek : k ≡ syntax = cc in
        let ep : place ≡ end = cc in
        record { front = []; rest = []; s = s; whole = refl; there = ep; ran = refl; halted = (ek, h) }
stops L end (p ∷ ps) s k place e = go (λ s' e'. stops L end ps s' k place e') (step L s p.token) refl e
  where
    go : ((s' : List Symbol) → verdict L end s' ps ≡ wrong k place → Stops L end s' ps k place)
        → (r : Step) → step L s p.token ≡ r → go_on p.place (λ s'. verdict L end s' ps) r ≡ wrong k place
        → Stops L end s (p ∷ ps) k place
    go ih (Ok s1) h e' =
        let st = ih s1 e' in
        record {
          front = p ∷ st.front;
          rest = st.rest;
          s = st.s;
          whole = ap (λ x. p ∷ x) st.whole;
          there = st.there;
          ran = ap (λ x. then_run x (λ s'. run L s' (words st.front))) h ∙ st.ran;
          halted = st.halted;
        }
    go ih (Err k') h e' =
        let ek : k' ≡ k = cc in
        let ep : place ≡ p.place = cc in
        record {
          front = [];
          rest = p ∷ ps;
          s = s;
          whole = refl;
          there = ep;
          ran = refl;
          halted = h ∙ ap (λ x. Err x) ek;
        }

-- the four faults
pub syntax_fault : (L : Limits) (end : ℕ) (tokens : List Placed) (place : ℕ)
    → verdict L end (start L) tokens ≡ wrong syntax place → IsSyntaxFault L end tokens place
syntax_fault L end tokens place e =
    let st = stops L end tokens (start L) syntax place e in
    record {
      front = st.front;
      rest = st.rest;
      whole = st.whole;
      there = st.there;
      open_before = goes_open L (words st.front) st.s st.ran;
      stuck = go st.front st.s st.ran st.rest st.halted;
    }
  where
    go : (front : List Placed) (s : List Symbol) → run L (start L) (words front) ≡ Ok s → (rest : List Placed)
        → Halts L s syntax rest → IsStuck (words front) (words rest)
    go front s ran [] h = stuck_end L (words front) s ran h.1
    go front s ran (p ∷ ps) h = stuck_at L (words front) s p.token ran h

module _ (L : Limits) (b c : Bool) (g : Token → ℕ) (end : ℕ) (tokens : List Placed) where
  -- for the three limits at once: where one is what is wrong, the token at the place passes it, and wouldn't a wider
  -- one
  pub passes : (place : ℕ) (k : Kind) (IsOf : Token → Type 0) → ((t : Token) → L.greatest ≤ g t) → (k ≡ syntax → ⊥)
      → verdict L end (start L) tokens ≡ wrong k place
      → ((t : Token) → Blames t (Err k) → IsOf t)
      → ((t : Token) (r : Step) → Lifts b c (g t) t (Err k) r → IsOk r)
      → (t : Token) × Passes L (Wide L b c (g t)) tokens place IsOf
  passes place k IsOf le other e kind lifting = let st = stops L end tokens (start L) k place e in
      go st st.rest refl
    where
      go : (st : Stops L end (start L) tokens k place) (rest : List Placed) → st.rest ≡ rest → (t : Token)
          × Passes L (Wide L b c (g t)) tokens place IsOf
      go st [] same = absurd (other (subst (λ x. Halts L st.s k x) same st.halted).0)
      go st (p ∷ ps) same =
          let t = p.token in
          let h : step L st.s t ≡ Err k = subst (λ x. Halts L st.s k x) same st.halted in
          let blame : Blames t (Err k) = subst (λ x. Blames t x) h (blames L st.s t) in
          let lift : Lifts b c (g t) t (Err k) (step (Wide L b c (g t)) (ups b c st.s) t) =
          subst (λ x. Lifts b c (g t) t x (step (Wide L b c (g t)) (ups b c st.s) t)) h
          (lifts L b c (g t) (le t) st.s t) in (
            t,
            record {
              front = st.front;
              next = p;
              rest = ps;
              whole = st.whole ∙ ap (λ x. st.front ++ x) same;
              there = st.there ∙ ap (λ x. place_of end x) same;
              kind = kind t blame;
              open_before = goes_open L (words st.front) st.s st.ran;
              not_open = not_open_at L (words st.front) st.s t k st.ran h;
              open_wider = open_wide L b c (g t) (le t) (words st.front) st.s t st.ran (lifting t _ lift);
            },
          )

-- where a unit is too deep by the verdict, the token at the place nests deeper than the limit
pub deep_fault : (L : Limits) (end : ℕ) (tokens : List Placed) (place : ℕ)
    → verdict L end (start L) tokens ≡ wrong deep place → IsDeepFault L tokens place
deep_fault L end tokens place e =
    (passes L true false (λ t. L.greatest) end tokens place deep IsNesting (λ t. omega arith) (λ h. cc) e (λ t b. b)
    (λ t r f. f refl)).1

-- where a sum is too wide by it, the sign at the place is of a term too many
pub wide_fault : (L : Limits) (end : ℕ) (tokens : List Placed) (place : ℕ)
    → verdict L end (start L) tokens ≡ wrong wide place → IsWideFault L tokens place
wide_fault L end tokens place e =
    (passes L false true (λ t. L.greatest) end tokens place wide IsSign (λ t. omega arith) (λ h. cc) e (λ t b. b)
    (λ t r f. f refl)).1

-- where a number is too great by it, the one at the place is greater than the limit
pub literal_fault : (L : Limits) (end : ℕ) (tokens : List Placed) (place : ℕ)
    → verdict L end (start L) tokens ≡ wrong literal place → IsLiteralFault L tokens place
literal_fault L end tokens place e =
    let (t, p) = passes L false false (λ t. L.greatest + value_of t) end tokens place literal IsNumber
    (λ t. omega arith) (λ h. cc) e (λ t b. b) (λ t r f. f (omega arith)) in
    (L.greatest + value_of t, p)

-- nothing is wrong with tokens that spell all that is to come, where that can come of the start
pub reads_fine : (L : Limits) (end : ℕ) (tokens : List Placed) (s : List Symbol) → Fits s → GivesAll L s (words tokens)
    → verdict L end s tokens ≡ fine
reads_fine L end [] s f r = ap (λ b. cond b fine (wrong syntax end)) (spells_done L s r)
reads_fine L end (p ∷ ps) s f r = go (λ s' f' r'. reads_fine L end ps s' f' r') (step L s p.token)
    (pull L s p.token (words ps) f r) (fits L s p.token f)
  where
    go : ((s' : List Symbol) → Fits s' → GivesAll L s' (words ps) → verdict L end s' ps ≡ fine)
        → (r : Step) → Goes r (λ s'. GivesAll L s' (words ps)) → IfGoes r Fits
        → go_on p.place (λ s'. verdict L end s' ps) r ≡ fine
    go ih (Ok s1) p f' = ih s1 f' p
    go ih (Err k) p f' = absurd p
