-- Whole runs of the machine.
use Rattle.std.proofs.Common.{◌≡◌, ℕ, zero, suc, List, [], ◌∷◌, ◌++◌, Bool, true, false, cond, nat_le, Ok, Err, refl}
use Rattle.std.proofs.Common.{sym, subst, ◌∙◌, arith, pos}
use Rattle.theta_tree.specs.declared.token.Token.{Token}
use Rattle.theta_tree.specs.declared.token.Token.TheVariants.{Word, Number, Literal, Quoted, Open, Close, Dot, Sign}
use Rattle.theta_tree.specs.declared.token.Token.TheVariants.{Compare}
use Rattle.theta_tree.specs.declared.token.Keyword.TheVariants.{And, Or, Not, Abs, Text, R, S}
use Rattle.theta_tree.specs.declared.tree.Op.TheVariants.{Eq}
use Rattle.theta_tree.specs.declared.tree.Signed.{Signed}
use Rattle.theta_tree.specs.declared.tree.Term.TheVariants.{Const}
use Rattle.theta_tree.specs.declared.tree.TextSide.TheVariants.{Lit}
use Rattle.row_cells.specs.declared.table.Side.TheVariants as sides
use Rattle.theta_tree.specs.Grammar.{Tree, any, every, num, Limits, Further, joined, IsOr, Conj, SumText, NumTest}
use Rattle.theta_tree.specs.Grammar.{Unit', Reads, AreSpelled, IsOpen}
use Rattle.theta_tree.specs.Tokens.{number_of, Spells}
use Rattle.theta_text.specs.Machine.{literal, Symbol, unit, tail, close, open', dot, field, name, term, sum, more, op}
use Rattle.theta_text.specs.Machine.{bound, side, Step, small, at_field, at_name, at_term, at_sum, at_side, at_unit}
use Rattle.theta_text.specs.Machine.{step, is_done, start}
use Rattle.theta_text.proofs.MachineLaws.{GivesAll, Goes, IfGoes, if_goes_map, BelowMore, Fits, push, pull}

fits_small : (L : Limits) (v : ℕ) (s : List Symbol) → Fits s → IfGoes (small L v s) Fits
fits_small L v s f = go (nat_le v L.greatest)
  where
    go : (b : Bool) → IfGoes (cond b (Ok s) (Err literal)) Fits
    go true = f
    go false = tt

fits_name : (s : List Symbol) (t : Token) → Fits s → IfGoes (at_name s t) Fits
fits_name s (Word R w) f = f
fits_name s (Word S w) f = f
fits_name s _ f = tt

fits_term : (L : Limits) (s : List Symbol) (t : Token) → Fits s → IfGoes (at_term L s t) Fits
fits_term L s (Number v) f = fits_small L (number_of v) s f
fits_term L s (Word k w) f = fits_name s (Word k w) f
fits_term L s _ f = tt

fits_sum : (L : Limits) (s : List Symbol) (t : Token) → BelowMore s × Fits s → IfGoes (at_sum L s t) Fits
fits_sum L s (Sign m) f = f
fits_sum L s t f = fits_term L (more L.more ∷ s) t f

fits_side : (s : List Symbol) (t : Token) → Fits s → IfGoes (at_side s t) Fits
fits_side s (Word Text w) f = f
fits_side s (Literal w) f = f
fits_side s _ f = tt

fits_unit : (L : Limits) (d : ℕ) (s : List Symbol) (t : Token) → BelowMore s × Fits s → IfGoes (at_unit L d s t) Fits
fits_unit L zero s (Word Not w) f = tt
fits_unit L (suc d) s (Word Not w) f = f
fits_unit L zero s Open f = tt
fits_unit L (suc d) s Open f = (tt, (tt, f.1))
fits_unit L zero s (Word Abs w) f = (tt, f.1)
fits_unit L (suc d) s (Word Abs w) f = (tt, f.1)
fits_unit L zero s (Word Text w) f = f.1
fits_unit L (suc d) s (Word Text w) f = f.1
fits_unit L zero s (Literal w) f = f.1
fits_unit L (suc d) s (Literal w) f = f.1
fits_unit L zero s t f = fits_sum L (op ∷ sum ∷ s) t (tt, f)
fits_unit L (suc d) s t f = fits_sum L (op ∷ sum ∷ s) t (tt, f)

fits_field : (s : List Symbol) (t : Token) → Fits s → IfGoes (at_field s t) Fits
fits_field s (Word k w) f = f
fits_field s (Quoted w) f = f
fits_field s _ f = tt

-- where all that is to come can come of the start, so can what is to come after a step
pub fits : (L : Limits) (s : List Symbol) (t : Token) → Fits s → IfGoes (step L s t) Fits
fits L [] t f = tt
fits L (unit d ∷ s) t f = fits_unit L d s t f
fits L (tail d ∷ s) (Word And w) f = (tt, f)
fits L (tail d ∷ s) (Word Or w) f = (tt, f)
fits L (tail d ∷ s) t f = fits L s t f.1
fits L (close ∷ s) Close f = f
fits L (close ∷ s) _ f = tt
fits L (open' ∷ s) Open f = f
fits L (open' ∷ s) _ f = tt
fits L (dot ∷ s) Dot f = f
fits L (dot ∷ s) _ f = tt
fits L (field ∷ s) t f = fits_field s t f
fits L (name ∷ s) t f = fits_name s t f
fits L (term ∷ s) t f = fits_term L s t f
fits L (sum ∷ s) t f = fits_sum L s t f
fits L (more zero ∷ s) (Sign m) f = tt
fits L (more (suc n) ∷ s) (Sign m) f = f
fits L (more n ∷ s) t f = fits L s t f.1
fits L (op ∷ s) (Compare o) f = f
fits L (op ∷ s) _ f = tt
fits L (bound ∷ s) (Number v) f = fits_small L (number_of v) s f
fits L (bound ∷ s) _ f = tt
fits L (side ∷ s) t f = fits_side s t f

-- every stack can be finished
abbrev pub nil : Token
nil = Number (48 ∷ [])

nought : Signed
nought = record { minus = false; term = Const (pos 0) }

nought_sum : (L : Limits) (ts : List Token) → SumText L (nil ∷ ts) (nought ∷ []) ts
unfolding nought
nought_sum L ts = (ts, (refl, (refl, omega arith, refl)), refl)

nought_test : (L : Limits) (ts : List Token) → NumTest L (nil ∷ Compare Eq ∷ nil ∷ ts)
    (num (nought ∷ []) Eq (nought ∷ [])) ts
nought_test L ts = (
  nought ∷ [],
  Eq,
  nought ∷ [],
  Compare Eq ∷ nil ∷ ts,
  nil ∷ ts,
  refl,
  nought_sum L (Compare Eq ∷ nil ∷ ts),
  (refl, refl),
  nought_sum L ts,
)

-- some bytes spell the token
abbrev pub IsSpelled : Token → Type 0
IsSpelled t = (bytes : List ℕ) × Spells t bytes

nil_spelled : IsSpelled nil
nil_spelled = (48 ∷ [], (refl, (refl, tt)))

sign_spelled : IsSpelled (Compare Eq)
sign_spelled = (61 ∷ [], refl)

field_spelled : IsSpelled (Quoted [])
field_spelled = (34 ∷ 34 ∷ [], refl)

side_spelled : IsSpelled (Word R (114 ∷ []))
side_spelled = (114 ∷ [], (refl, (refl, tt), refl))

-- some tokens that bytes spell are all that is to come
abbrev pub Finish : Limits → List Symbol → Type 0
Finish L s = (ts : List Token) × AreSpelled ts × GivesAll L s ts

finish_unit : (L : Limits) (d : ℕ) (s : List Symbol) → ((ts : List Token)
    → Unit' L d (nil ∷ Compare Eq ∷ nil ∷ ts) (num (nought ∷ []) Eq (nought ∷ [])) ts) → Finish L s
    → Finish L (unit d ∷ s)
finish_unit L d s u (ts, sp, r) = (
  nil ∷ Compare Eq ∷ nil ∷ ts,
  (nil_spelled, (sign_spelled, (nil_spelled, sp))),
  (ts, (num (nought ∷ []) Eq (nought ∷ []), u ts), r),
)

-- whatever is to come, such tokens can follow
pub finish : (L : Limits) (s : List Symbol) → Finish L s
finish L [] = ([], tt, refl)
finish L (unit zero ∷ s) = finish_unit L zero s (nought_test L) (finish L s)
finish L (unit (suc d) ∷ s) = finish_unit L (suc d) s (nought_test L) (finish L s)
finish L (tail d ∷ s) = let (ts, sp, r) = finish L s in (ts, sp, (ts, ([], [], ts, refl, refl), r))
finish L (close ∷ s) = let (ts, sp, r) = finish L s in (Close ∷ ts, ((41 ∷ [], refl), sp), (ts, refl, r))
finish L (open' ∷ s) = let (ts, sp, r) = finish L s in (Open ∷ ts, ((40 ∷ [], refl), sp), (ts, refl, r))
finish L (dot ∷ s) = let (ts, sp, r) = finish L s in (Dot ∷ ts, ((46 ∷ [], refl), sp), (ts, refl, r))
finish L (field ∷ s) = let (ts, sp, r) = finish L s in (
  Quoted [] ∷ ts,
  (field_spelled, sp),
  (ts, ([], (refl, refl)), r),
)
finish L (name ∷ s) = let (ts, sp, r) = finish L s in (
  Word R (114 ∷ []) ∷ Dot ∷ Quoted [] ∷ ts,
  (side_spelled, ((46 ∷ [], refl), (field_spelled, sp))),
  (ts, (record { side = sides.R; word = [] }, ([], refl, (refl, refl))), r),
)
finish L (term ∷ s) = let (ts, sp, r) = finish L s in (
  nil ∷ ts,
  (nil_spelled, sp),
  (ts, (Const (pos 0), (refl, omega arith, refl)), r),
)
finish L (sum ∷ s) = let (ts, sp, r) = finish L s in (
  nil ∷ ts,
  (nil_spelled, sp),
  (ts, (nought ∷ [], nought_sum L ts), r),
)
finish L (more n ∷ s) = let (ts, sp, r) = finish L s in (ts, sp, (ts, ([], refl), r))
finish L (op ∷ s) = let (ts, sp, r) = finish L s in (Compare Eq ∷ ts, (sign_spelled, sp), (ts, (Eq, (refl, refl)), r))
finish L (bound ∷ s) = let (ts, sp, r) = finish L s in (
  nil ∷ ts,
  (nil_spelled, sp),
  (ts, (pos 0, (48 ∷ [], refl, refl, omega arith)), r),
)
finish L (side ∷ s) = let (ts, sp, r) = finish L s in (
  Literal [] ∷ ts,
  ((39 ∷ 39 ∷ [], refl), sp),
  (ts, (Lit [], (refl, refl)), r),
)

no_sum : (L : Limits) (xs : List Signed) (mid : List Token) → SumText L [] xs mid → ⊥
no_sum L [] mid h = h
no_sum L (x ∷ xs) mid (to, (e, h), f) = h

no_num : (L : Limits) (x : Tree) (mid : List Token) → NumTest L [] x mid → ⊥
no_num L x mid (l, o, r, m1, m2, e, hl, ho, hr) = no_sum L l m1 hl

-- where an empty list of tokens spells all that is to come, nothing more has to come
pub spells_done : (L : Limits) (s : List Symbol) → GivesAll L s [] → is_done s ≡ true
spells_done L [] r = refl
spells_done L (unit zero ∷ s) (mid, (t, u), r) = absurd (no_num L t mid u)
spells_done L (unit (suc d) ∷ s) (mid, (t, u), r) = absurd (no_num L t mid u)
spells_done L (tail d ∷ s) (mid, (u ∷ us, cs, m, (sep, from, to, es, e, item, fu), fo), r) = let bad : ⊥ = cc in
    absurd bad
spells_done L (tail d ∷ s) (mid, ([], c ∷ cs, m, fu, (sep, from, to, es, e, item, fo)), r) =
    let clash : [] ≡ sep ∷ from = fu ∙ e in let bad : ⊥ = cc in absurd bad
spells_done L (tail d ∷ s) (mid, ([], [], m, fu, fo), r) = spells_done L s
    (subst (λ x. GivesAll L s x) (sym (fu ∙ fo)) r)
spells_done L (close ∷ s) (mid, e, r) = let bad : ⊥ = cc in absurd bad
spells_done L (open' ∷ s) (mid, e, r) = let bad : ⊥ = cc in absurd bad
spells_done L (dot ∷ s) (mid, e, r) = let bad : ⊥ = cc in absurd bad
spells_done L (field ∷ s) (mid, (x, h), r) = absurd h
spells_done L (name ∷ s) (mid, (x, h), r) = absurd h
spells_done L (term ∷ s) (mid, (x, h), r) = absurd h
spells_done L (sum ∷ s) (mid, (x, h), r) = absurd (no_sum L x mid h)
spells_done L (more n ∷ s) (mid, ([], f), r) = spells_done L s (subst (λ x. GivesAll L s x) (sym f) r)
spells_done L (more zero ∷ s) (mid, (v ∷ vs, f), r) = absurd f
spells_done L (more (suc n) ∷ s) (mid, (v ∷ vs, (from, to, e, h, f)), r) = let bad : ⊥ = cc in absurd bad
spells_done L (op ∷ s) (mid, (x, h), r) = absurd h
spells_done L (bound ∷ s) (mid, (x, (ds, e, ev, le)), r) = let bad : ⊥ = cc in absurd bad
spells_done L (side ∷ s) (mid, (x, h), r) = absurd h

-- the steps of several tokens
abbrev pub then_run : Step → (List Symbol → Step) → Step
then_run (Ok s) go = go s
then_run (Err k) go = Err k

-- what is to come after some tokens, or what is wrong with the first that has no step
abbrev pub run : Limits → List Symbol → List Token → Step
run L s [] = Ok s
run L s (t ∷ ts) = then_run (step L s t) (λ s'. run L s' ts)

-- with the tokens of a run in front, what spells all to come after it spells all that was to come before it
pub run_push : (L : Limits) (front rest : List Token) (s : List Symbol)
    → IfGoes (run L s front) (λ s'. GivesAll L s' rest → GivesAll L s (front ++ rest))
run_push L [] rest s = λ r. r
run_push L (t ∷ ts) rest s = go (λ s'. run_push L ts rest s') (step L s t) (push L s t (ts ++ rest))
  where
    go : ((s' : List Symbol) → IfGoes (run L s' ts) (λ s''. GivesAll L s'' rest → GivesAll L s' (ts ++ rest)))
        → (r : Step) → IfGoes r (λ s'. GivesAll L s' (ts ++ rest) → GivesAll L s (t ∷ (ts ++ rest)))
        → IfGoes (then_run r (λ s'. run L s' ts)) (λ s'. GivesAll L s' rest → GivesAll L s (t ∷ (ts ++ rest)))
    go ih (Ok s1) f = if_goes_map (run L s1 ts) _ _ (λ s' g r. f (g r)) (ih s1)
    go ih (Err k) f = tt

-- the machine goes over any front of tokens that spell all to come, if that can come of the start, and the rest spells
-- what comes after it, which can come of the start too
pub run_pull : (L : Limits) (front rest : List Token) (s : List Symbol) → Fits s → GivesAll L s (front ++ rest)
    → Goes (run L s front) (λ s'. GivesAll L s' rest × Fits s')
run_pull L [] rest s f r = (r, f)
run_pull L (t ∷ ts) rest s f r = go (λ s' f' r'. run_pull L ts rest s' f' r') (step L s t) (pull L s t (ts ++ rest) f r)
    (fits L s t f)
  where
    go : ((s' : List Symbol) → Fits s' → GivesAll L s' (ts ++ rest)
        → Goes (run L s' ts) (λ s''. GivesAll L s'' rest × Fits s'')) → (r : Step)
        → Goes r (λ s'. GivesAll L s' (ts ++ rest)) → IfGoes r Fits
        → Goes (then_run r (λ s'. run L s' ts)) (λ s'. GivesAll L s' rest × Fits s')
    go ih (Ok s1) p f1 = ih s1 f1 p
    go ih (Err k) p f1 = absurd p

-- a predicate is what the start spells
pub reads_start : (L : Limits) (tokens : List Token) (t : Tree) → Reads L tokens t → GivesAll L (start L) tokens
reads_start L tokens t (first, others, to, e, (first', us, to', e', u, fu), fo) =
    (to', (first', u), ([], (us, others, to, fu, fo), refl))

-- and what the start spells is a predicate within the limits
pub start_reads : (L : Limits) (tokens : List Token) → GivesAll L (start L) tokens → (t : Tree) × Reads L tokens t
start_reads L tokens (m1, (t, u), (m2, (us, ts', m, fu, ft), e)) = (
  joined any (joined every t us) ts',
  (
    joined every t us,
    ts',
    m,
    refl,
    (t, us, m1, refl, u, fu),
    subst (λ x. Further IsOr (Conj (Unit' L L.nesting)) m ts' x) e ft,
  ),
)

-- a front is open exactly where the machine goes over it
pub open_goes : (L : Limits) (front : List Token) → IsOpen L front → Goes (run L (start L) front) (λ s. Fits s)
open_goes L front (rest, t, sp, r) = go (run L (start L) front) (run_pull L front rest (start L) (
  tt,
  (tt, tt),
) (reads_start L (front ++ rest) t r))
  where
    go : (r : Step) → Goes r (λ s'. GivesAll L s' rest × Fits s') → Goes r (λ s. Fits s)
    go (Ok s) p = p.1
    go (Err k) p = p

-- where the machine goes over a front, some predicate within the limits begins so
pub goes_open : (L : Limits) (front : List Token) (s : List Symbol) → run L (start L) front ≡ Ok s → IsOpen L front
goes_open L front s e =
    let (rest, sp, r) = finish L s in
    let p : GivesAll L (start L) (front ++ rest) = subst (λ x. IfGoes x (λ s'. GivesAll L s' rest
    → GivesAll L (start L) (front ++ rest))) e (run_push L front rest (start L)) r in
    let (t, q) = start_reads L (front ++ rest) p in
    (rest, t, sp, q)
