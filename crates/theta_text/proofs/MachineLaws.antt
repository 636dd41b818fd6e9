-- The machine reads exactly what the grammar spells.
use Rattle.std.proofs.Common.{◌≡◌, ℕ, zero, suc, ◌≤◌, List, [], ◌∷◌, Bool, true, false, cond, nat_le, Ok, Err, refl}
use Rattle.std.proofs.Common.{sym, ap, subst, ◌∙◌, arith, ℤ, pos}
use Rattle.theta_tree.specs.declared.token.Token.{Token}
use Rattle.theta_tree.specs.declared.token.Token.TheVariants.{Word, Number, Literal, Quoted, Open, Close, Dot, Sign}
use Rattle.theta_tree.specs.declared.token.Token.TheVariants.{Compare}
use Rattle.theta_tree.specs.declared.token.Keyword.TheVariants.{And, Or, Not, Abs, Text, R, S}
use Rattle.theta_tree.specs.declared.tree.Op.{Op}
use Rattle.theta_tree.specs.declared.tree.Signed.{Signed}
use Rattle.theta_tree.specs.declared.tree.Term.{Term}
use Rattle.theta_tree.specs.declared.tree.Term.TheVariants.{Const, Col}
use Rattle.theta_tree.specs.declared.tree.TextSide.{TextSide}
use Rattle.theta_tree.specs.declared.tree.TextSide.TheVariants.{Lit}
use Rattle.theta_tree.specs.declared.tree.TextSide.TheVariants as texts
use Rattle.theta_tree.specs.declared.tree.Name.{Name}
use Rattle.row_cells.specs.declared.table.Side.TheVariants as sides
use Rattle.theta_tree.specs.Grammar.{Tree, any, every, negation, num, band, txt, Limits, Further, joined, IsAnd, IsOr}
use Rattle.theta_tree.specs.Grammar.{Conj, FieldText, DotText, NameText, TermText, FurtherTerms, FirstText, SumText}
use Rattle.theta_tree.specs.Grammar.{OpText, NumTest, BoundText, BandRest, ColumnText, SideText, TxtTest, Unit'}
use Rattle.theta_tree.specs.Tokens.{number_of}
use Rattle.theta_text.specs.Machine.{literal, Symbol, unit, tail, close, open', dot, field, name, term, sum, more, op}
use Rattle.theta_text.specs.Machine.{bound, side, Step, small, at_field, at_name, at_term, at_sum, at_side, at_unit}
use Rattle.theta_text.specs.Machine.{at_op, step}

-- what a symbol stands for
abbrev pub Gives : Limits → Symbol → List Token → List Token → Type 0
Gives L (unit d) before after = (t : Tree) × Unit' L d before t after
Gives L (tail d) before after =
    (us : List Tree) × (ts : List Tree) × (mid : List Token)
    × Further IsAnd (Unit' L d) before us mid × Further IsOr (Conj (Unit' L d)) mid ts after
Gives L close before after = before ≡ Close ∷ after
Gives L open' before after = before ≡ Open ∷ after
Gives L dot before after = before ≡ Dot ∷ after
Gives L field before after = (f : List ℕ) × FieldText before f after
Gives L name before after = (n : Name) × NameText before n after
Gives L term before after = (t : Term) × TermText L.greatest before t after
Gives L sum before after = (xs : List Signed) × SumText L before xs after
Gives L (more n) before after = (xs : List Signed) × FurtherTerms L.greatest n before xs after
Gives L op before after = (o : Op) × OpText before o after
Gives L bound before after = (v : ℤ) × BoundText L.greatest before v after
Gives L side before after = (x : TextSide) × SideText before x after

-- the tokens are what all these symbols stand for, one behind the other, with no token left
abbrev pub GivesAll : Limits → List Symbol → List Token → Type 0
GivesAll L [] tokens = tokens ≡ []
GivesAll L (x ∷ s) tokens = (mid : List Token) × Gives L x tokens mid × GivesAll L s mid

-- a step succeeds, with this after it
abbrev pub Goes : Step → (List Symbol → Type 0) → Type 0
Goes (Ok s) P = P s
Goes (Err k) P = ⊥

-- a step that succeeds has this after it
abbrev pub IfGoes : Step → (List Symbol → Type 0) → Type 0
IfGoes (Ok s) P = P s
IfGoes (Err k) P = Unit {0}

-- where a step that succeeds has a fact after it, it has each that follows from that one
pub if_goes_map : (r : Step) (P Q : List Symbol → Type 0) → ((s : List Symbol) → P s → Q s) → IfGoes r P → IfGoes r Q
if_goes_map (Ok s) P Q f p = f s p
if_goes_map (Err k) P Q f p = tt

-- whatever may follow the step may follow the token
abbrev pub Back : Limits → Step → List Token → List Symbol → List Token → Type 0
Back L r ts s tokens = IfGoes r (λ s'. GivesAll L s' ts → GivesAll L s tokens)

back_map : (L : Limits) (r : Step) (ts : List Token) (s s' : List Symbol) (tokens : List Token)
    → (GivesAll L s tokens → GivesAll L s' tokens) → Back L r ts s tokens → Back L r ts s' tokens
back_map L r ts s s' tokens f b = if_goes_map r _ _ (λ s'' g h. f (g h)) b

push_small : (L : Limits) (v : ℕ) (s : List Symbol) (P : List Symbol → Type 0) → (v ≤ L.greatest → P s)
    → IfGoes (small L v s) P
push_small L v s P f = go (nat_le v L.greatest) refl
  where
    go : (b : Bool) → nat_le v L.greatest ≡ b → IfGoes (cond b (Ok s) (Err literal)) P
    go true e = f (grind (arith, e))
    go false e = tt

push_field : (L : Limits) (s : List Symbol) (t : Token) (ts : List Token)
    → Back L (at_field s t) ts (field ∷ s) (t ∷ ts)
push_field L s (Word k w) ts = λ r. (ts, (w, (refl, refl)), r)
push_field L s (Quoted w) ts = λ r. (ts, (w, (refl, refl)), r)
push_field L s _ ts = tt

dot_field : (L : Limits) (s : List Symbol) (ts : List Token) → GivesAll L (dot ∷ field ∷ s) ts → (mid : List Token)
    × (f : List ℕ) × DotText ts f mid × GivesAll L s mid
dot_field L s ts (m1, e, (m2, (f, h), r)) = (m2, f, subst (λ x. DotText x f m2) (sym e) h, r)

push_name : (L : Limits) (s : List Symbol) (t : Token) (ts : List Token) → Back L (at_name s t) ts (name ∷ s) (t ∷ ts)
push_name L s (Word R w) ts = λ r. let (mid, f, h, r') = dot_field L s ts r in
    (mid, (record { side = sides.R; word = f }, (f, refl, h)), r')
push_name L s (Word S w) ts = λ r. let (mid, f, h, r') = dot_field L s ts r in
    (mid, (record { side = sides.S; word = f }, (f, refl, h)), r')
push_name L s _ ts = tt

push_term : (L : Limits) (s : List Symbol) (t : Token) (ts : List Token) → Back L (at_term L s t) ts (term ∷ s) (t ∷ ts)
push_term L s (Number v) ts = push_small L (number_of v) _ _ (λ le r. (
  ts,
  (Const (pos (number_of v)), (refl, le, refl)),
  r,
))
push_term L s (Word k w) ts = back_map L (at_name s (Word k w)) ts (name ∷ s) (term ∷ s) (Word k w ∷ ts)
    (λ (mid, (n, h), r). (mid, (Col n, (n, refl, h)), r)) (push_name L s (Word k w) ts)
push_term L s _ ts = tt

term_sum : (L : Limits) (s : List Symbol) (t : Token) (ts : List Token)
    → ((mid : List Token) (x : Term) → TermText L.greatest (t ∷ ts) x mid
    → FirstText L.greatest (t ∷ ts) (record { minus = false; term = x }) mid)
    → GivesAll L (term ∷ more L.more ∷ s) (t ∷ ts) → GivesAll L (sum ∷ s) (t ∷ ts)
term_sum L s t ts f (m1, (x, h), (m2, (xs, g), r)) = (
  m2,
  (record { minus = false; term = x } ∷ xs, (m1, f m1 x h, g)),
  r,
)

push_sum : (L : Limits) (s : List Symbol) (t : Token) (ts : List Token) → Back L (at_sum L s t) ts (sum ∷ s) (t ∷ ts)
push_sum L s (Sign m) ts = λ (m1, (x, h), (m2, (xs, g), r)). (
  m2,
  (record { minus = m; term = x } ∷ xs, (m1, (refl, h), g)),
  r,
)
push_sum L s t ts = back_map L (at_term L (more L.more ∷ s) t) ts (term ∷ more L.more ∷ s) (sum ∷ s) (t ∷ ts)
    (term_sum L s t ts (λ mid x h. (refl, h))) (push_term L (more L.more ∷ s) t ts)

column : (L : Limits) (s : List Symbol) (ts : List Token) → GivesAll L (open' ∷ name ∷ close ∷ s) ts
    → (mid : List Token) × (x : TextSide) × ColumnText ts x mid × GivesAll L s mid
column L s ts (m1, e1, (m2, (n, h), (m3, e3, r))) = (m3, texts.Col n, (n, m1, m2, refl, e1, h, e3), r)

push_side : (L : Limits) (s : List Symbol) (t : Token) (ts : List Token) → Back L (at_side s t) ts (side ∷ s) (t ∷ ts)
push_side L s (Word Text w) ts = λ r. let (mid, x, h, r') = column L s ts r in (mid, (x, h), r')
push_side L s (Literal w) ts = λ r. (ts, (Lit w, (refl, refl)), r)
push_side L s _ ts = tt

txt_test : (L : Limits) (s : List Symbol) (tokens : List Token) → GivesAll L (side ∷ op ∷ side ∷ s) tokens
    → (mid : List Token) × (t : Tree) × TxtTest tokens t mid × GivesAll L s mid
txt_test L s tokens (m1, (l, hl), (m2, (o, ho), (m3, (r, hr), rest))) =
    (m3, txt l o r, (l, o, r, m1, m2, refl, hl, ho, hr), rest)

num_test : (L : Limits) (s : List Symbol) (tokens : List Token) → GivesAll L (sum ∷ op ∷ sum ∷ s) tokens
    → (mid : List Token) × (t : Tree) × NumTest L tokens t mid × GivesAll L s mid
num_test L s tokens (m1, (l, hl), (m2, (o, ho), (m3, (r, hr), rest))) =
    (m3, num l o r, (l, o, r, m1, m2, refl, hl, ho, hr), rest)

band_test : (L : Limits) (s : List Symbol) (ts : List Token) → GivesAll L (open' ∷ sum ∷ close ∷ op ∷ bound ∷ s) ts
    → (mid : List Token) × (t : Tree) × BandRest L ts t mid × GivesAll L s mid
band_test L s ts (m1, e1, (m2, (xs, hs), (m3, e3, (m4, (o, ho), (m5, (v, hv), r))))) =
    (m5, band xs o v, (xs, o, v, m1, m2, m3, m4, refl, e1, hs, e3, ho, hv), r)

-- a unit that is a test over sums
num_unit : (L : Limits) (d : ℕ) (s : List Symbol) (t : Token) (ts : List Token)
    → ((mid : List Token) (x : Tree) → NumTest L (t ∷ ts) x mid → Unit' L d (t ∷ ts) x mid)
    → Back L (at_sum L (op ∷ sum ∷ s) t) ts (unit d ∷ s) (t ∷ ts)
num_unit L d s t ts f = back_map L (at_sum L (op ∷ sum ∷ s) t) ts (sum ∷ op ∷ sum ∷ s) (unit d ∷ s) (t ∷ ts)
    (λ r. let (mid, x, h, r') = num_test L s (t ∷ ts) r in (mid, (x, f mid x h), r')) (push_sum L (op ∷ sum ∷ s) t ts)

txt_unit : (L : Limits) (d : ℕ) (s : List Symbol) (t : Token) (ts : List Token)
    → ((mid : List Token) (x : Tree) → TxtTest (t ∷ ts) x mid → Unit' L d (t ∷ ts) x mid)
    → Back L (at_side (op ∷ side ∷ s) t) ts (unit d ∷ s) (t ∷ ts)
txt_unit L d s t ts f = back_map L (at_side (op ∷ side ∷ s) t) ts (side ∷ op ∷ side ∷ s) (unit d ∷ s) (t ∷ ts)
    (λ r. let (mid, x, h, r') = txt_test L s (t ∷ ts) r in (mid, (x, f mid x h), r')) (push_side L (op ∷ side ∷ s) t ts)

push_unit : (L : Limits) (d : ℕ) (s : List Symbol) (t : Token) (ts : List Token)
    → Back L (at_unit L d s t) ts (unit d ∷ s) (t ∷ ts)
push_unit L zero s (Word Not w) ts = tt
push_unit L (suc d) s (Word Not w) ts = λ (mid, (t, u), r). (mid, (negation t, (t, refl, u)), r)
push_unit L zero s Open ts = tt
push_unit L (suc d) s Open ts = λ (m1, (t, u), (m2, (us, ts', m, fu, ft), (m3, e, r))). (
  m3,
  (
    joined any (joined every t us) ts',
    (
      joined every t us,
      ts',
      m,
      refl,
      (t, us, m1, refl, u, fu),
      subst (λ x. Further IsOr (Conj (Unit' L d)) m ts' x) e ft,
    ),
  ),
  r,
)
push_unit L zero s (Word Abs w) ts = λ r. let (mid, x, h, r') = band_test L s ts r in (mid, (x, h), r')
push_unit L (suc d) s (Word Abs w) ts = λ r. let (mid, x, h, r') = band_test L s ts r in (mid, (x, h), r')
push_unit L zero s (Word Text w) ts = txt_unit L zero s (Word Text w) ts (λ mid x h. h)
push_unit L (suc d) s (Word Text w) ts = txt_unit L (suc d) s (Word Text w) ts (λ mid x h. h)
push_unit L zero s (Literal w) ts = txt_unit L zero s (Literal w) ts (λ mid x h. h)
push_unit L (suc d) s (Literal w) ts = txt_unit L (suc d) s (Literal w) ts (λ mid x h. h)
push_unit L zero s t ts = num_unit L zero s t ts (λ mid x h. h)
push_unit L (suc d) s t ts = num_unit L (suc d) s t ts (λ mid x h. h)

under : (L : Limits) (x : Symbol) (s : List Symbol) (t : Token) → ((ts : List Token) → Gives L x ts ts)
    → ((ts : List Token) → Back L (step L s t) ts s (t ∷ ts))
    → (ts : List Token) → Back L (step L s t) ts (x ∷ s) (t ∷ ts)
under L x s t none p ts = back_map L (step L s t) ts s (x ∷ s) (t ∷ ts) (λ r. (t ∷ ts, none (t ∷ ts), r)) (p ts)

tail_none : (L : Limits) (d : ℕ) (ts : List Token) → Gives L (tail d) ts ts
tail_none L d ts = ([], [], ts, refl, refl)

more_none : (L : Limits) (n : ℕ) (ts : List Token) → Gives L (more n) ts ts
more_none L n ts = ([], refl)

-- with a token in front, what spells all to come after its step spells all that was to come before it
pub push : (L : Limits) (s : List Symbol) (t : Token) (ts : List Token) → Back L (step L s t) ts s (t ∷ ts)
push L [] t ts = tt
push L (unit d ∷ s) t ts = push_unit L d s t ts
push L (tail d ∷ s) (Word And w) ts = λ (m1, (t, u), (m2, (us, ts', m, fu, ft), r)). (
  m2,
  (t ∷ us, ts', m, (Word And w, ts, m1, (w, refl), refl, u, fu), ft),
  r,
)
push L (tail d ∷ s) (Word Or w) ts = λ (m1, (t, u), (m2, (us, ts', m, fu, ft), r)). (
  m2,
  (
    [],
    joined every t us ∷ ts',
    Word Or w ∷ ts,
    refl,
    (Word Or w, ts, m, (w, refl), refl, (t, us, m1, refl, u, fu), ft),
  ),
  r,
)
push L (tail d ∷ s) t ts = under L (tail d) s t (tail_none L d) (push L s t) ts
push L (close ∷ s) Close ts = λ r. (ts, refl, r)
push L (close ∷ s) _ ts = tt
push L (open' ∷ s) Open ts = λ r. (ts, refl, r)
push L (open' ∷ s) _ ts = tt
push L (dot ∷ s) Dot ts = λ r. (ts, refl, r)
push L (dot ∷ s) _ ts = tt
push L (field ∷ s) t ts = push_field L s t ts
push L (name ∷ s) t ts = push_name L s t ts
push L (term ∷ s) t ts = push_term L s t ts
push L (sum ∷ s) t ts = push_sum L s t ts
push L (more zero ∷ s) (Sign m) ts = tt
push L (more (suc n) ∷ s) (Sign m) ts = λ (m1, (x, h), (m2, (xs, f), r)). (
  m2,
  (record { minus = m; term = x } ∷ xs, (ts, m1, refl, h, f)),
  r,
)
push L (more n ∷ s) t ts = under L (more n) s t (more_none L n) (push L s t) ts
push L (op ∷ s) (Compare o) ts = λ r. (ts, (o, (refl, refl)), r)
push L (op ∷ s) _ ts = tt
push L (bound ∷ s) (Number v) ts = push_small L (number_of v) _ _ (λ le r. (
  ts,
  (pos (number_of v), (v, refl, refl, le)),
  r,
))
push L (bound ∷ s) _ ts = tt
push L (side ∷ s) t ts = push_side L s t ts

-- what may stand below the rest of a predicate, and below further terms
abbrev pub BelowTail : List Symbol → Type 0
BelowTail [] = Unit {0}
BelowTail (close ∷ s) = Unit {0}
BelowTail _ = ⊥

-- below further terms, a sum or a unit: a sign of comparison, a closing parenthesis, or the rest of a predicate
abbrev pub BelowMore : List Symbol → Type 0
BelowMore (op ∷ s) = Unit {0}
BelowMore (close ∷ s) = Unit {0}
BelowMore (tail d ∷ s) = Unit {0}
BelowMore _ = ⊥

-- the stacks that come of the start
abbrev pub Fits : List Symbol → Type 0
Fits [] = Unit {0}
Fits (tail d ∷ s) = BelowTail s × Fits s
Fits (more n ∷ s) = BelowMore s × Fits s
Fits (sum ∷ s) = BelowMore s × Fits s
Fits (unit d ∷ s) = BelowMore s × Fits s
Fits (x ∷ s) = Fits s

-- the step succeeds, and these tokens spell all that is to come after it
abbrev pub Pulls : Limits → Step → List Token → Type 0
Pulls L r ts = Goes r (λ s'. GivesAll L s' ts)

goes_small : (L : Limits) (v : ℕ) (s : List Symbol) (P : List Symbol → Type 0) → v ≤ L.greatest → P s
    → Goes (small L v s) P
goes_small L v s P le p = let e : nat_le v L.greatest ≡ true = grind arith in
    subst (λ b. Goes (cond b (Ok s) (Err literal)) P) (sym e) p

again : (L : Limits) (s : List Symbol) (a b : List Token) → a ≡ b → GivesAll L s b → GivesAll L s a
again L s a b e r = subst (λ x. GivesAll L s x) (sym e) r

pull_field : (L : Limits) (s : List Symbol) (t : Token) (ts mid : List Token) (f : List ℕ) → FieldText (t ∷ ts) f mid
    → GivesAll L s mid → Pulls L (at_field s t) ts
pull_field L s (Word k w) ts mid f (e, e') r = again L s ts mid e' r
pull_field L s (Quoted w) ts mid f (e, e') r = again L s ts mid e' r
pull_field L s _ ts mid f h r = absurd h

dotted : (L : Limits) (s : List Symbol) (ts mid : List Token) (f : List ℕ) → DotText ts f mid → GivesAll L s mid
    → GivesAll L (dot ∷ field ∷ s) ts
dotted L s [] mid f h r = absurd h
dotted L s (Dot ∷ ts) mid f h r = (ts, refl, (mid, (f, h), r))
dotted L s (_ ∷ ts) mid f h r = absurd h

pull_name : (L : Limits) (s : List Symbol) (t : Token) (ts mid : List Token) (n : Name) → NameText (t ∷ ts) n mid
    → GivesAll L s mid → Pulls L (at_name s t) ts
pull_name L s (Word R w) ts mid n (f, e, h) r = dotted L s ts mid f h r
pull_name L s (Word S w) ts mid n (f, e, h) r = dotted L s ts mid f h r
pull_name L s _ ts mid n h r = absurd h

pull_term : (L : Limits) (s : List Symbol) (t : Token) (ts mid : List Token) (x : Term)
    → TermText L.greatest (t ∷ ts) x mid → GivesAll L s mid → Pulls L (at_term L s t) ts
pull_term L s (Number v) ts mid x (e, le, e') r = goes_small L (number_of v) s _ le (again L s ts mid e' r)
pull_term L s (Word k w) ts mid x (n, e, h) r = pull_name L s (Word k w) ts mid n h r
pull_term L s _ ts mid x h r = absurd h

pull_sum : (L : Limits) (s : List Symbol) (t : Token) (ts mid : List Token) (xs : List Signed)
    → SumText L (t ∷ ts) xs mid → GivesAll L s mid → Pulls L (at_sum L s t) ts
pull_sum L s t ts mid [] h r = absurd h
pull_sum L s (Sign m) ts mid (x ∷ xs) (to, (e, h), f) r = (to, (x.term, h), (mid, (xs, f), r))
pull_sum L s t ts mid (x ∷ xs) (to, (e, h), f) r = pull_term L (more L.more ∷ s) t ts to x.term h (mid, (xs, f), r)

pull_side : (L : Limits) (s : List Symbol) (t : Token) (ts mid : List Token) (x : TextSide) → SideText (t ∷ ts) x mid
    → GivesAll L s mid → Pulls L (at_side s t) ts
pull_side L s (Word Text w) ts mid x (n, m1, m2, e, e1, h, e3) r = (m1, e1, (m2, (n, h), (mid, e3, r)))
pull_side L s (Literal w) ts mid x (e, e') r = again L s ts mid e' r
pull_side L s _ ts mid x h r = absurd h

pull_num : (L : Limits) (s : List Symbol) (t : Token) (ts mid : List Token) (x : Tree) → NumTest L (t ∷ ts) x mid
    → GivesAll L s mid → Pulls L (at_sum L (op ∷ sum ∷ s) t) ts
pull_num L s t ts mid x (l, o, r, m1, m2, e, hl, ho, hr) rest = pull_sum L (op ∷ sum ∷ s) t ts m1 l hl (
  m2,
  (o, ho),
  (mid, (r, hr), rest),
)

pull_txt : (L : Limits) (s : List Symbol) (t : Token) (ts mid : List Token) (x : Tree) → TxtTest (t ∷ ts) x mid
    → GivesAll L s mid → Pulls L (at_side (op ∷ side ∷ s) t) ts
pull_txt L s t ts mid x (l, o, r, m1, m2, e, hl, ho, hr) rest = pull_side L (op ∷ side ∷ s) t ts m1 l hl (
  m2,
  (o, ho),
  (mid, (r, hr), rest),
)

pull_band : (L : Limits) (s : List Symbol) (ts mid : List Token) (x : Tree) → BandRest L ts x mid → GivesAll L s mid
    → GivesAll L (open' ∷ sum ∷ close ∷ op ∷ bound ∷ s) ts
pull_band L s ts mid x (xs, o, v, m1, m2, m3, m4, e, e1, hs, e3, ho, hv) r =
    (m1, e1, (m2, (xs, hs), (m3, e3, (m4, (o, ho), (mid, (v, hv), r)))))

pull_unit : (L : Limits) (d : ℕ) (s : List Symbol) (t : Token) (ts mid : List Token) (x : Tree)
    → Unit' L d (t ∷ ts) x mid → GivesAll L s mid → Pulls L (at_unit L d s t) ts
pull_unit L zero s (Word Not w) ts mid x (inner, e, u) r = absurd u
pull_unit L (suc d) s (Word Not w) ts mid x (inner, e, u) r = (mid, (inner, u), r)
pull_unit L zero s Open ts mid x (first, others, to, e, (first', us, to', e', u, fu), fo) r = absurd u
pull_unit L (suc d) s Open ts mid x (first, others, to, e, (first', us, to', e', u, fu), fo) r =
    (to', (first', u), (Close ∷ mid, (us, others, to, fu, fo), (mid, refl, r)))
pull_unit L zero s (Word Abs w) ts mid x h r = pull_band L s ts mid x h r
pull_unit L (suc d) s (Word Abs w) ts mid x h r = pull_band L s ts mid x h r
pull_unit L zero s (Word Text w) ts mid x h r = pull_txt L s (Word Text w) ts mid x h r
pull_unit L (suc d) s (Word Text w) ts mid x h r = pull_txt L s (Word Text w) ts mid x h r
pull_unit L zero s (Literal w) ts mid x h r = pull_txt L s (Literal w) ts mid x h r
pull_unit L (suc d) s (Literal w) ts mid x h r = pull_txt L s (Literal w) ts mid x h r
pull_unit L zero s t ts mid x h r = pull_num L s t ts mid x h r
pull_unit L (suc d) s t ts mid x h r = pull_num L s t ts mid x h r

-- the same at a token that is known by an equation
pull_at : (L : Limits) (s : List Symbol) (t t' : Token) (ts ts' : List Token) → t ∷ ts ≡ t' ∷ ts'
    → Pulls L (step L s t') ts' → Pulls L (step L s t) ts
pull_at L s t t' ts ts' e p =
    let et : t' ≡ t = cc in
    let es : ts' ≡ ts = cc in
    subst (λ x. Pulls L (step L s x) ts) et (subst (λ x. Pulls L (step L s t') x) es p)

pull_below : (L : Limits) (d : ℕ) (s : List Symbol) (t : Token) (ts mid : List Token) → BelowTail s → t ∷ ts ≡ mid
    → GivesAll L s mid → Pulls L (step L (tail d ∷ s) t) ts
pull_below L d [] t ts mid b e r = let clash : t ∷ ts ≡ [] = e ∙ r in let bad : ⊥ = cc in absurd bad
pull_below L d (close ∷ s) t ts mid b e (mid', e', r) = pull_at L (tail d ∷ close ∷ s) t Close ts mid' (e ∙ e') r
pull_below L d (_ ∷ s) t ts mid b e r = absurd b

module _ (L : Limits) (d : ℕ) (s : List Symbol) (t : Token) (ts mid : List Token) where
  pull_tail : BelowTail s
      → (us cs : List Tree) (m : List Token) → Further IsAnd (Unit' L d) (t ∷ ts) us m
      → Further IsOr (Conj (Unit' L d)) m cs mid → GivesAll L s mid
      → Pulls L (step L (tail d ∷ s) t) ts
  pull_tail b (u ∷ us) cs m (sep, from, to, (w, es), e, item, fu) fo r =
      pull_at L (tail d ∷ s) t (Word And w) ts from (e ∙ ap (λ x. x ∷ from) es) (
        to,
        (u, item),
        (mid, (us, cs, m, fu, fo), r),
      )
  pull_tail b [] (c ∷ cs) m fu (sep, from, to, (w, es), e, (first, us, to', e', u, fu'), fo) r =
      pull_at L (tail d ∷ s) t (Word Or w) ts from (fu ∙ e ∙ ap (λ x. x ∷ from) es) (
        to',
        (first, u),
        (mid, (us, cs, to, fu', fo), r),
      )
  pull_tail b [] [] m fu fo r = pull_below L d s t ts mid b (fu ∙ fo) r

no_sign : (L : Limits) (s : List Symbol) (m : Bool) (ts : List Token) → BelowMore s → Fits s
    → Pulls L (step L s (Sign m)) ts → ⊥
no_sign L [] m ts b f p = b
no_sign L (op ∷ s) m ts b f p = p
no_sign L (close ∷ s) m ts b f p = p
no_sign L (tail d ∷ []) m ts b f p = p
no_sign L (tail d ∷ close ∷ s) m ts b f p = p
no_sign L (tail d ∷ _ ∷ s) m ts b (f, f') p = f
no_sign L (_ ∷ s) m ts b f p = b

under_more : (L : Limits) (n : ℕ) (s : List Symbol) (t : Token) (ts : List Token) → BelowMore s → Fits s
    → Pulls L (step L s t) ts → Pulls L (step L (more n ∷ s) t) ts
under_more L zero s (Sign m) ts b f p = absurd (no_sign L s m ts b f p)
under_more L (suc n) s (Sign m) ts b f p = absurd (no_sign L s m ts b f p)
under_more L n s t ts b f p = p

pull_further : (L : Limits) (n : ℕ) (s : List Symbol) (t : Token) (ts mid : List Token) → BelowMore s → Fits s
    → ((r : GivesAll L s (t ∷ ts)) → Pulls L (step L s t) ts)
    → (xs : List Signed) → FurtherTerms L.greatest n (t ∷ ts) xs mid → GivesAll L s mid
    → Pulls L (step L (more n ∷ s) t) ts
pull_further L n s t ts mid b fit ih [] f r = under_more L n s t ts b fit (ih (again L s (t ∷ ts) mid f r))
pull_further L zero s t ts mid b fit ih (x ∷ xs) f r = absurd f
pull_further L (suc n) s t ts mid b fit ih (x ∷ xs) (from, to, e, h, f) r =
    pull_at L (more (suc n) ∷ s) t (Sign x.minus) ts from e (to, (x.term, h), (mid, (xs, f), r))

pull_op : (L : Limits) (s : List Symbol) (t : Token) (ts mid : List Token) (o : Op) → OpText (t ∷ ts) o mid
    → GivesAll L s mid → Pulls L (at_op s t) ts
pull_op L s (Compare o') ts mid o (e, e') r = again L s ts mid e' r
pull_op L s _ ts mid o h r = absurd h

-- the machine goes over the first of the tokens that spell all to come, if that can come of the start, and the others
-- spell what comes after it
pub pull : (L : Limits) (s : List Symbol) (t : Token) (ts : List Token) → Fits s → GivesAll L s (t ∷ ts)
    → Pulls L (step L s t) ts
pull L [] t ts f r = let clash : t ∷ ts ≡ [] = r in let bad : ⊥ = cc in absurd bad
pull L (unit d ∷ s) t ts f (mid, (x, u), r) = pull_unit L d s t ts mid x u r
pull L (tail d ∷ s) t ts f (mid, (us, cs, m, fu, fo), r) = pull_tail L d s t ts mid f.0 us cs m fu fo r
pull L (close ∷ s) t ts f (mid, e, r) = pull_at L (close ∷ s) t Close ts mid e r
pull L (open' ∷ s) t ts f (mid, e, r) = pull_at L (open' ∷ s) t Open ts mid e r
pull L (dot ∷ s) t ts f (mid, e, r) = pull_at L (dot ∷ s) t Dot ts mid e r
pull L (field ∷ s) t ts f (mid, (x, h), r) = pull_field L s t ts mid x h r
pull L (name ∷ s) t ts f (mid, (x, h), r) = pull_name L s t ts mid x h r
pull L (term ∷ s) t ts f (mid, (x, h), r) = pull_term L s t ts mid x h r
pull L (sum ∷ s) t ts f (mid, (x, h), r) = pull_sum L s t ts mid x h r
pull L (more n ∷ s) t ts f (mid, (xs, h), r) = pull_further L n s t ts mid f.0 f.1 (λ r'. pull L s t ts f.1 r') xs h r
pull L (op ∷ s) t ts f (mid, (x, h), r) = pull_op L s t ts mid x h r
pull L (bound ∷ s) t ts f (mid, (v, (ds, e, ev, le)), r) = pull_at L (bound ∷ s) t (Number ds) ts mid e
    (goes_small L (number_of ds) s _ le r)
pull L (side ∷ s) t ts f (mid, (x, h), r) = pull_side L s t ts mid x h r
