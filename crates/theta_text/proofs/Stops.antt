-- Where the machine stops, and what that says of the grammar.
use Rattle.std.proofs.Common.{◌≡◌, ℕ, zero, suc, List, [], ◌∷◌, ◌++◌, map, Bool, true, false, cond, nat_le, Ok, Err}
use Rattle.std.proofs.Common.{refl, sym, ap, subst, ◌∙◌}
use Rattle.theta_tree.specs.declared.token.Token.{Token}
use Rattle.theta_tree.specs.declared.token.Token.TheVariants.{Word, Number, Literal, Quoted, Open, Close, Dot, Sign}
use Rattle.theta_tree.specs.declared.token.Token.TheVariants.{Compare}
use Rattle.theta_tree.specs.declared.token.Keyword.TheVariants.{And, Or, Not, Abs, Text, R, S}
use Rattle.theta_tree.specs.Grammar.{Tree, Limits, Reads, IsOpen}
use Rattle.theta_tree.specs.Tokens.{number_of}
use Rattle.theta_text.specs.Machine.{syntax, literal, Symbol, unit, tail, close, open', dot, field, name, term, sum}
use Rattle.theta_text.specs.Machine.{more, op, bound, side, Step, small, at_field, at_name, at_term, at_sum, at_side}
use Rattle.theta_text.specs.Machine.{at_unit, at_tail, at_close, at_open, at_dot, at_op, step, is_done, start}
use Rattle.theta_text.proofs.MachineLaws.{GivesAll, Goes, IfGoes, if_goes_map}
use Rattle.theta_text.proofs.Runs.{spells_done, then_run, run, run_pull, reads_start, open_goes}

-- a symbol without its number
abbrev pub shape : Symbol → Symbol
shape (unit d) = unit 0
shape (tail d) = tail 0
shape (more n) = more 0
shape x = x

-- all that is to come, without its numbers
abbrev pub shapes : List Symbol → List Symbol
shapes s = map shape s

-- the machine without limits, on shapes
abbrev pub free_term : List Symbol → Token → Step
free_term s (Number v) = Ok s
free_term s (Word k w) = at_name s (Word k w)
free_term s _ = Err syntax

-- at a sum, which may have any number of terms
abbrev pub free_sum : List Symbol → Token → Step
free_sum s (Sign m) = Ok (term ∷ more 0 ∷ s)
free_sum s t = free_term (more 0 ∷ s) t

-- at a unit, in which others may be nested to any depth
abbrev pub free_unit : List Symbol → Token → Step
free_unit s (Word Not w) = Ok (unit 0 ∷ s)
free_unit s Open = Ok (unit 0 ∷ tail 0 ∷ close ∷ s)
free_unit s (Word Abs w) = Ok (open' ∷ sum ∷ close ∷ op ∷ bound ∷ s)
free_unit s (Word Text w) = at_side (op ∷ side ∷ s) (Word Text w)
free_unit s (Literal w) = at_side (op ∷ side ∷ s) (Literal w)
free_unit s t = free_sum (op ∷ sum ∷ s) t

-- at the end of a term, which any number of others may follow
abbrev pub free_more : List Symbol → Step → Token → Step
free_more s below (Sign m) = Ok (term ∷ more 0 ∷ s)
free_more s below t = below

-- at the bound of a band, which may be any number
abbrev pub free_bound : List Symbol → Token → Step
free_bound s (Number v) = Ok s
free_bound s _ = Err syntax

-- one token, against what is to come, without limits
abbrev pub free : List Symbol → Token → Step
free [] t = Err syntax
free (unit d ∷ s) t = free_unit s t
free (tail d ∷ s) t = at_tail 0 s (free s t) t
free (close ∷ s) t = at_close s t
free (open' ∷ s) t = at_open s t
free (dot ∷ s) t = at_dot s t
free (field ∷ s) t = at_field s t
free (name ∷ s) t = at_name s t
free (term ∷ s) t = free_term s t
free (sum ∷ s) t = free_sum s t
free (more n ∷ s) t = free_more s (free s t) t
free (op ∷ s) t = at_op s t
free (bound ∷ s) t = free_bound s t
free (side ∷ s) t = at_side s t

-- what a step is without its limits
abbrev pub Frees : Step → Step → Type 0
Frees (Ok s) r = r ≡ Ok (shapes s)
Frees (Err syntax) r = r ≡ Err syntax
Frees (Err _) r = Unit {0}

frees_small : (L : Limits) (v : ℕ) (s : List Symbol) → Frees (small L v s) (Ok (shapes s))
frees_small L v s = go (nat_le v L.greatest)
  where
    go : (b : Bool) → Frees (cond b (Ok s) (Err literal)) (Ok (shapes s))
    go true = refl
    go false = tt

frees_name : (s : List Symbol) (t : Token) → Frees (at_name s t) (at_name (shapes s) t)
frees_name s (Word R w) = refl
frees_name s (Word S w) = refl
frees_name s _ = refl

frees_side : (s : List Symbol) (t : Token) → Frees (at_side s t) (at_side (shapes s) t)
frees_side s (Word Text w) = refl
frees_side s (Literal w) = refl
frees_side s _ = refl

frees_field : (s : List Symbol) (t : Token) → Frees (at_field s t) (at_field (shapes s) t)
frees_field s (Word k w) = refl
frees_field s (Quoted w) = refl
frees_field s _ = refl

frees_term : (L : Limits) (s : List Symbol) (t : Token) → Frees (at_term L s t) (free_term (shapes s) t)
frees_term L s (Number v) = frees_small L (number_of v) s
frees_term L s (Word k w) = frees_name s (Word k w)
frees_term L s _ = refl

frees_sum : (L : Limits) (s : List Symbol) (t : Token) → Frees (at_sum L s t) (free_sum (shapes s) t)
frees_sum L s (Sign m) = refl
frees_sum L s t = frees_term L (more L.more ∷ s) t

frees_unit : (L : Limits) (d : ℕ) (s : List Symbol) (t : Token) → Frees (at_unit L d s t) (free_unit (shapes s) t)
frees_unit L zero s (Word Not w) = tt
frees_unit L (suc d) s (Word Not w) = refl
frees_unit L zero s Open = tt
frees_unit L (suc d) s Open = refl
frees_unit L zero s (Word Abs w) = refl
frees_unit L (suc d) s (Word Abs w) = refl
frees_unit L zero s (Word Text w) = refl
frees_unit L (suc d) s (Word Text w) = refl
frees_unit L zero s (Literal w) = refl
frees_unit L (suc d) s (Literal w) = refl
frees_unit L zero s t = frees_sum L (op ∷ sum ∷ s) t
frees_unit L (suc d) s t = frees_sum L (op ∷ sum ∷ s) t

-- a step does without limits what it does within them, but where a limit stopped it
pub frees : (L : Limits) (s : List Symbol) (t : Token) → Frees (step L s t) (free (shapes s) t)
frees L [] t = refl
frees L (unit d ∷ s) t = frees_unit L d s t
frees L (tail d ∷ s) (Word And w) = refl
frees L (tail d ∷ s) (Word Or w) = refl
frees L (tail d ∷ s) t = frees L s t
frees L (close ∷ s) Close = refl
frees L (close ∷ s) _ = refl
frees L (open' ∷ s) Open = refl
frees L (open' ∷ s) _ = refl
frees L (dot ∷ s) Dot = refl
frees L (dot ∷ s) _ = refl
frees L (field ∷ s) t = frees_field s t
frees L (name ∷ s) t = frees_name s t
frees L (term ∷ s) t = frees_term L s t
frees L (sum ∷ s) t = frees_sum L s t
frees L (more zero ∷ s) (Sign m) = tt
frees L (more (suc n) ∷ s) (Sign m) = refl
frees L (more n ∷ s) t = frees L s t
frees L (op ∷ s) (Compare o) = refl
frees L (op ∷ s) _ = refl
frees L (bound ∷ s) (Number v) = frees_small L (number_of v) s
frees L (bound ∷ s) _ = refl
frees L (side ∷ s) t = frees_side s t

-- the steps of several tokens, without limits
abbrev pub free_run : List Symbol → List Token → Step
free_run s [] = Ok s
free_run s (t ∷ ts) = then_run (free s t) (λ s'. free_run s' ts)

-- where the machine goes over tokens within limits, it does without, and the same is to come but for its numbers
pub free_runs : (L : Limits) (front : List Token) (s : List Symbol)
    → IfGoes (run L s front) (λ s'. free_run (shapes s) front ≡ Ok (shapes s'))
free_runs L [] s = refl
free_runs L (t ∷ ts) s = go (λ s'. free_runs L ts s') (step L s t) (free (shapes s) t) (frees L s t)
  where
    go : ((s' : List Symbol) → IfGoes (run L s' ts) (λ s''. free_run (shapes s') ts ≡ Ok (shapes s'')))
        → (r f : Step) → Frees r f → IfGoes (then_run r (λ s'. run L s' ts)) (λ s''. then_run f (λ s'. free_run s' ts)
        ≡ Ok (shapes s''))
    go ih (Ok s1) f e = if_goes_map (run L s1 ts) _ _ (λ s' g. ap (λ x. then_run x (λ s'. free_run s' ts)) e ∙ g)
        (ih s1)
    go ih (Err k) f e = tt

-- a run without limits over one token more is the run so far, and then the step at that token
pub free_run-append : (front : List Token) (t : Token) (s s' : List Symbol) → free_run s front ≡ Ok s'
    → free_run s (front ++ t ∷ []) ≡ then_run (free s' t) (λ s. Ok s)
free_run-append [] t s s' e =
    let same : s ≡ s' = cc in
    ap (λ x. then_run (free x t) (λ s. Ok s)) same
free_run-append (t' ∷ ts) t s s' e = go (λ s1 e'. free_run-append ts t s1 s' e') (free s t') e
  where
    go : ((s1 : List Symbol) → free_run s1 ts ≡ Ok s' → free_run s1 (ts ++ t ∷ []) ≡ then_run (free s' t) (λ s. Ok s))
        → (r : Step) → then_run r (λ s1. free_run s1 ts) ≡ Ok s'
        → then_run r (λ s1. free_run s1 (ts ++ t ∷ [])) ≡ then_run (free s' t) (λ s. Ok s)
    go ih (Ok s1) e' = ih s1 e'
    go ih (Err k) e' = let no : ⊥ = cc in absurd no

-- what goes is Ok of something
pub goes_ok : (r : Step) (P : List Symbol → Type 0) → Goes r P → (s : List Symbol) × (r ≡ Ok s) × P s
goes_ok (Ok s) P p = (s, refl, p)
goes_ok (Err k) P p = absurd p

-- what is true of whatever a step leaves to come is true of what it is known to leave
pub if_goes_at : (r : Step) (P : List Symbol → Type 0) (s : List Symbol) → r ≡ Ok s → IfGoes r P → P s
if_goes_at r P s e p = subst (λ x. IfGoes x P) e p

-- the same, where what the run within limits leaves to come is known
pub free_of : (L : Limits) (front : List Token) (s s' : List Symbol) → run L s front ≡ Ok s'
    → free_run (shapes s) front ≡ Ok (shapes s')
free_of L front s s' e = if_goes_at (run L s front) _ s' e (free_runs L front s)

-- a token at which the machine finds no rule can follow in no predicate of any size
pub stuck_at : (L : Limits) (front : List Token) (s : List Symbol) (t : Token) → run L (start L) front ≡ Ok s
    → step L s t ≡ Err syntax
    → (L' : Limits) → IsOpen L' (front ++ t ∷ []) → ⊥
stuck_at L front s t ran stop L' o =
    let (s2, ran2, f2) = goes_ok _ _ (open_goes L' (front ++ t ∷ []) o) in
    let all : free_run (shapes (start L)) (front ++ t ∷ []) ≡ Ok (shapes s2) =
    free_of L' (front ++ t ∷ []) (start L') s2 ran2 in
    let here : free_run (shapes (start L)) front ≡ Ok (shapes s) = free_of L front (start L) s ran in
    let no_rule : free (shapes s) t ≡ Err syntax = subst (λ x. Frees x (free (shapes s) t)) stop (frees L s t) in
    let last = free_run-append front t (shapes (start L)) (shapes s) here in
    let clash : Err syntax ≡ Ok (shapes s2) = sym (ap (λ x. then_run x (λ s. Ok s)) no_rule) ∙ sym last ∙ all in
    let no : ⊥ = cc in
    absurd no

-- whether something has to come yet doesn't hang on the numbers
pub done_shapes : (s : List Symbol) → is_done (shapes s) ≡ is_done s
done_shapes [] = refl
done_shapes (tail d ∷ s) = done_shapes s
done_shapes (more n ∷ s) = done_shapes s
done_shapes (x ∷ s) = refl

-- a step that succeeds leaves one thing to come and no other
pub ok_inj : (s s' : List Symbol) (r : Step) → r ≡ Ok s → r ≡ Ok s' → s ≡ s'
ok_inj s s' r e e' = let both : Ok s ≡ Ok s' = sym e ∙ e' in cc

-- a front with no token behind it is that front
pub run_append_nil : (front : List Token) → front ++ [] ≡ front
run_append_nil [] = refl
run_append_nil (t ∷ ts) = ap (λ x. t ∷ x) (run_append_nil ts)

-- where the machine wants more, no predicate of any size ends
pub stuck_end : (L : Limits) (front : List Token) (s : List Symbol) → run L (start L) front ≡ Ok s → is_done s ≡ false
    → (L' : Limits) (t : Tree) → Reads L' front t → ⊥
stuck_end L front s ran wants L' t r =
    let spelled : GivesAll L' (start L') (front ++ []) = subst (λ x. GivesAll L' (start L') x)
    (sym (run_append_nil front)) (reads_start L' front t r) in
    let (s2, ran2, p2) = goes_ok _ _ (run_pull L' front [] (start L') (tt, (tt, tt)) spelled) in
    let ended : is_done s2 ≡ true = spells_done L' s2 p2.0 in
    let same : shapes s2 ≡ shapes s = ok_inj _ _ _ (free_of L' front (start L') s2 ran2)
    (free_of L front (start L) s ran) in
    let clash : true ≡ false = sym ended ∙ sym (done_shapes s2) ∙ ap is_done same ∙ done_shapes s ∙ wants in
    let no : ⊥ = cc in
    absurd no
