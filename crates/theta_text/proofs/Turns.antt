-- One turn of the parser: what the machine does at its tokens, and what the grammar says there.
use Rattle.std.proofs.Common.{◌≡◌, ℕ, zero, suc, ◌≤◌, List, [], ◌∷◌, ◌++◌, Bool, true, false, cond, nat_le, Result, Ok}
use Rattle.std.proofs.Common.{Err, IfOk, length, ◌-◌, ◌<◌, refl, sym, ap, subst, ◌∙◌, arith}
use Rattle.theta_tree.specs.declared.token.Token.{Token}
use Rattle.theta_tree.specs.declared.token.Token.TheVariants.{Word, Literal, Open, Close, Sign}
use Rattle.theta_tree.specs.declared.token.Keyword.TheVariants.{And, Or, Not, Abs, Text, R, S}
use Rattle.theta_tree.specs.declared.token.Placed.{Placed}
use Rattle.theta_tree.specs.declared.tree.Signed.{Signed}
use Rattle.theta_tree.specs.Grammar.{Tree, Limits, Part, Further, IsAnd, IsOr, Predicate, TermText, FurtherTerms}
use Rattle.theta_tree.specs.Grammar.{NumTest, BandRest, TxtTest, Unit'}
use Rattle.theta_text.specs.Machine.{Kind, literal, Symbol, unit, tail, close, open', dot, field, name, term, sum, more}
use Rattle.theta_text.specs.Machine.{op, bound, side, small, step, Verdict, wrong, go_on, verdict}
use Rattle.theta_tree.specs.declared.fault.PredFault.{PredFault}
use Rattle.theta_text.specs.declared.parser.units.Start.TheVariants.{StartNot, StartOpen, StartBand, StartTxt, StartNum}
use Rattle.std.proofs.Common.{Some}
use Rattle.row_cells.specs.declared.table.Side.{Side}
use Rattle.theta_text.specs.Starts.{unit_start, named_side, is_text}
use Rattle.theta_tree.specs.Faults.{words}
use Rattle.theta_tree.specs.Texts.{limits}
use Rattle.theta_text.specs.Views.{IsFault, Leads, BeginsOff}

-- the greatest number that a text may hold
pub greatest_is : limits.greatest ≡ 9223372036854775807
unfolding limits
greatest_is = refl

-- how many terms a sum may have behind its first
pub more_is : limits.more ≡ 15
unfolding limits
more_is = refl

-- how deep units may nest
pub nesting_is : limits.nesting ≡ 32
unfolding limits
nesting_is = refl

module _ (L : Limits) (end : ℕ) (s s' : List Symbol) where
  -- where the first token has a step, the verdict is that on the others, against what is then to come
  pub turn_ok : (t : Token) (tokens : List Placed) (p : Placed) (ps : List Placed)
      → tokens ≡ p ∷ ps → p.token ≡ t → step L s t ≡ Ok s' → verdict L end s tokens ≡ verdict L end s' ps
  turn_ok t tokens p ps e et h =
      ap (verdict L end s) e ∙ ap (λ x. go_on p.place (λ s. verdict L end s ps) (step L s x)) et
      ∙ ap (go_on p.place (λ s. verdict L end s ps)) h

module _ (L : Limits) (end : ℕ) (s : List Symbol) (k : Kind) where
  -- and where it has none, what stopped it is wrong, at its place
  pub turn_err : (t : Token) (tokens : List Placed) (p : Placed) (ps : List Placed)
      → tokens ≡ p ∷ ps → p.token ≡ t → step L s t ≡ Err k → verdict L end s tokens ≡ wrong k p.place
  turn_err t tokens p ps e et h =
      ap (verdict L end s) e ∙ ap (λ x. go_on p.place (λ s. verdict L end s ps) (step L s x)) et
      ∙ ap (go_on p.place (λ s. verdict L end s ps)) h

module _ (L : Limits) (end : ℕ) (s s' : List Symbol) where
  -- where it has the same step against either of two stacks, the verdict is the same against both
  pub turn_same : (t : Token) (tokens : List Placed) (p : Placed) (ps : List Placed)
      → tokens ≡ p ∷ ps → p.token ≡ t → step L s t ≡ step L s' t → verdict L end s tokens ≡ verdict L end s' tokens
  turn_same t tokens p ps e et h =
      ap (verdict L end s) e ∙ ap (λ x. go_on p.place (λ s. verdict L end s ps) (step L s x)) et
      ∙ ap (go_on p.place (λ s. verdict L end s ps)) h
      ∙ sym (ap (λ x. go_on p.place (λ s. verdict L end s ps) (step L s' x)) et) ∙ sym (ap (verdict L end s') e)

-- tokens without their places are the first one and then the others without theirs
pub words_at : (t : Token) (tokens : List Placed) (p : Placed) (ps : List Placed) → tokens ≡ p ∷ ps → p.token ≡ t
    → words tokens ≡ t ∷ words ps
words_at t tokens p ps e et = ap words e ∙ ap (λ x. x ∷ words ps) et

-- a number up to the limit is read
pub small_ok : (L : Limits) (v : ℕ) (s : List Symbol) → v ≤ L.greatest → small L v s ≡ Ok s
small_ok L v s le = let e : nat_le v L.greatest ≡ true = grind arith in ap (λ b. cond b (Ok s) (Err literal)) e

-- and one above it is too great
pub small_err : (L : Limits) (v : ℕ) (s : List Symbol) → L.greatest < v → small L v s ≡ Err literal
small_err L v s lt = let e : nat_le v L.greatest ≡ false = grind arith in ap (λ b. cond b (Ok s) (Err literal)) e

-- behind `not` a unit is to come in which others nest one less deep, if any may
pub unit_not : (L : Limits) (d : ℕ) (s : List Symbol) (w : List ℕ) → 0 < d
    → step L (unit d ∷ s) (Word Not w) ≡ Ok (unit (d - 1) ∷ s)
unit_not L zero s w h = absurd (omega arith)
unit_not L (suc d) s w h = let e : d ≡ suc d - 1 = omega arith in ap (λ x. Ok (unit x ∷ s)) e

-- behind `(` a predicate one less deep is to come, and its `)`, if units may nest here
pub unit_open : (L : Limits) (d : ℕ) (s : List Symbol) → 0 < d
    → step L (unit d ∷ s) Open ≡ Ok (unit (d - 1) ∷ tail (d - 1) ∷ close ∷ s)
unit_open L zero s h = absurd (omega arith)
unit_open L (suc d) s h = let e : d ≡ suc d - 1 = omega arith in ap (λ x. Ok (unit x ∷ tail x ∷ close ∷ s)) e

-- behind a sign a term is to come, and then one term fewer, if any more is allowed
pub more_sign : (L : Limits) (n : ℕ) (s : List Symbol) (m : Bool) → 0 < n
    → step L (more n ∷ s) (Sign m) ≡ Ok (term ∷ more (n - 1) ∷ s)
more_sign L zero s m h = absurd (omega arith)
more_sign L (suc n) s m h = let e : n ≡ suc n - 1 = omega arith in ap (λ x. Ok (term ∷ more x ∷ s)) e

-- what is only passed over
pub past_more : (L : Limits) (end n : ℕ) (s : List Symbol) (ps : List Placed)
    → ((p : Placed) (rest : List Placed) → ps ≡ p ∷ rest → (m : Bool) → p.token ≡ Sign m → ⊥)
    → verdict L end (more n ∷ s) ps ≡ verdict L end s ps
past_more L end n s [] off = refl
past_more L end n s (p ∷ ps) off = ap (go_on p.place (λ s. verdict L end s ps)) (go p.token (off p ps refl))
  where
    go : (t : Token) → ((m : Bool) → t ≡ Sign m → ⊥) → step L (more n ∷ s) t ≡ step L s t
    go t isnt = at n t isnt
      where
        at : (n : ℕ) (t : Token) → ((m : Bool) → t ≡ Sign m → ⊥) → step L (more n ∷ s) t ≡ step L s t
        at zero (Sign m) isnt = absurd (isnt m refl)
        at (suc n) (Sign m) isnt = absurd (isnt m refl)
        at zero t isnt = refl
        at (suc n) t isnt = refl

-- and the rest of a predicate is passed over where neither an `and` nor an `or` comes next
pub past_tail : (L : Limits) (end d : ℕ) (s : List Symbol) (ps : List Placed) → BeginsOff IsAnd ps → BeginsOff IsOr ps
    → verdict L end (tail d ∷ s) ps ≡ verdict L end s ps
past_tail L end d s [] off off' = refl
past_tail L end d s (p ∷ ps) off off' = ap (go_on p.place (λ s. verdict L end s ps))
    (go p.token (off p ps refl) (off' p ps refl))
  where
    go : (t : Token) → (IsAnd t → ⊥) → (IsOr t → ⊥) → step L (tail d ∷ s) t ≡ step L s t
    go (Word And w) isnt isnt' = absurd (isnt (w, refl))
    go (Word Or w) isnt isnt' = absurd (isnt' (w, refl))
    go t isnt isnt' = refl

-- a predicate one less deep between parentheses is a unit
pub read_open : (L : Limits) (d : ℕ) (before ts mid after : List Token) (t : Tree) → 0 < d → before ≡ Open ∷ ts
    → Predicate (Unit' L (d - 1)) ts t mid → mid ≡ Close ∷ after
    → Unit' L d before t after
read_open L zero before ts mid after t = λ h e u em. absurd (omega arith)
read_open L (suc d) before ts mid after t = λ h e u em.
    let same : suc d - 1 ≡ d = omega arith in
    let u' : Predicate (Unit' L d) ts t mid = subst (λ x. Predicate (Unit' L x) ts t mid) same u in
    subst (λ x. Unit' L (suc d) x t after) (sym e) (subst (λ x. Predicate (Unit' L d) ts t x) em u')

module _ {A : Type 0} (IsSep : Token → Type 0) (Item : Part A) where
  -- further items and one more behind them, with its separator, are further items
  pub further_push : (before mid from to : List Token) (xs : List A) (x : A) (sep : Token)
      → Further IsSep Item before xs mid → IsSep sep → mid ≡ sep ∷ from → Item from x to
      → Further IsSep Item before (xs ++ x ∷ []) to
  further_push before mid from to [] x sep f is = λ e item. (sep, from, to, is, f ∙ e, item, refl)
  further_push before mid from to (y ∷ ys) x sep (sep', from', to', is', e', item', f) is = λ e item.
      (sep', from', to', is', e', item', further_push to' mid from to ys x sep f is e item)

-- and so are further terms and one more, with its sign, if there is room for it
pub terms_push : (g n : ℕ) (before mid from to : List Token) (xs : List Signed) (x : Signed)
    → FurtherTerms g n before xs mid → mid ≡ Sign x.minus ∷ from → TermText g from x.term to → length xs < n
    → FurtherTerms g n before (xs ++ x ∷ []) to
terms_push g zero before mid from to [] x f = λ e h lt. absurd (omega arith)
terms_push g (suc n) before mid from to [] x f = λ e h lt. (from, to, f ∙ e, h, refl)
terms_push g zero before mid from to (y ∷ ys) x f = λ e h lt. absurd f
terms_push g (suc n) before mid from to (y ∷ ys) x (from', to', e', h', f) = λ e h lt.
    (from', to', e', h', terms_push g n to' mid from to ys x f e h (omega arith))

-- a fault that a part met is the fault of the whole
pub same_fault : (v v' : Verdict) (fault : PredFault) → v ≡ v' → IsFault v' fault → IsFault v fault
same_fault v v' fault e h = subst (λ x. IsFault x fault) (sym e) h

-- the same of any answer of a part, where a value leaves the verdict to what comes after it
pub same_leads : {A : Type 0} (v v' : Verdict) (go : A → Verdict) (r : Result A PredFault) → v ≡ v' → Leads v' go r
    → Leads v go r
same_leads v v' go r e h = subst (λ x. Leads x go r) (sym e) h

-- where an answer has a fact of its value, it has each that follows from that one
pub if_ok_map : {A E : Type 0} (r : Result A E) (P Q : A → Type 0) → ((x : A) → P x → Q x) → IfOk r P → IfOk r Q
if_ok_map (Ok x) P Q f p = f x p
if_ok_map (Err e) P Q f p = p

-- at a token that is no sign, a sum is its first term, and then further ones
pub sum_plain : (L : Limits) (s : List Symbol) (t : Token) → ((m : Bool) → t ≡ Sign m → ⊥)
    → step L (sum ∷ s) t ≡ step L (term ∷ more L.more ∷ s) t
sum_plain L s (Sign m) isnt = absurd (isnt m refl)
sum_plain L s t isnt = refl

-- a unit that begins as a test on numbers is a sum, a sign of comparison and a sum to the machine
pub starts_num : (L : Limits) (d : ℕ) (s : List Symbol) (t : Token) → unit_start t ≡ StartNum
    → step L (unit d ∷ s) t ≡ step L (sum ∷ op ∷ sum ∷ s) t
starts_num L d s (Word Not w) e = let bad : ⊥ = cc in absurd bad
starts_num L d s Open e = let bad : ⊥ = cc in absurd bad
starts_num L d s (Word Abs w) e = let bad : ⊥ = cc in absurd bad
starts_num L d s (Word Text w) e = let bad : ⊥ = cc in absurd bad
starts_num L d s (Literal w) e = let bad : ⊥ = cc in absurd bad
starts_num L zero s t e = refl
starts_num L (suc d) s t e = refl

-- and such a test is a unit of the grammar
pub read_num : (L : Limits) (d : ℕ) (before : List Token) (t : Token) (ts : List Token) (x : Tree) (mid : List Token)
    → before ≡ t ∷ ts → unit_start t ≡ StartNum → NumTest L before x mid → Unit' L d before x mid
read_num L d before t ts x mid e es h = subst (λ z. Unit' L d z x mid) (sym e)
    (go d t es (subst (λ z. NumTest L z x mid) e h))
  where
    go : (d : ℕ) (t : Token) → unit_start t ≡ StartNum → NumTest L (t ∷ ts) x mid → Unit' L d (t ∷ ts) x mid
    go d (Word Not w) e h = let bad : ⊥ = cc in absurd bad
    go d Open e h = let bad : ⊥ = cc in absurd bad
    go d (Word Abs w) e h = let bad : ⊥ = cc in absurd bad
    go d (Word Text w) e h = let bad : ⊥ = cc in absurd bad
    go d (Literal w) e h = let bad : ⊥ = cc in absurd bad
    go zero t e h = h
    go (suc d) t e h = h

-- a unit that begins as a test on texts is a side, a sign of comparison and a side to the machine
pub starts_txt : (L : Limits) (d : ℕ) (s : List Symbol) (t : Token) → unit_start t ≡ StartTxt
    → step L (unit d ∷ s) t ≡ step L (side ∷ op ∷ side ∷ s) t
starts_txt L zero s (Word Text w) e = refl
starts_txt L (suc d) s (Word Text w) e = refl
starts_txt L zero s (Literal w) e = refl
starts_txt L (suc d) s (Literal w) e = refl
starts_txt L d s t e = let bad : ⊥ = cc in absurd bad

-- and such a test is a unit of the grammar too
pub read_txt : (L : Limits) (d : ℕ) (before : List Token) (t : Token) (ts : List Token) (x : Tree) (mid : List Token)
    → before ≡ t ∷ ts → unit_start t ≡ StartTxt → TxtTest before x mid → Unit' L d before x mid
read_txt L d before t ts x mid e es h = subst (λ z. Unit' L d z x mid) (sym e)
    (go d t es (subst (λ z. TxtTest z x mid) e h))
  where
    go : (d : ℕ) (t : Token) → unit_start t ≡ StartTxt → TxtTest (t ∷ ts) x mid → Unit' L d (t ∷ ts) x mid
    go zero (Word Text w) e h = h
    go (suc d) (Word Text w) e h = h
    go zero (Literal w) e h = h
    go (suc d) (Literal w) e h = h
    go d t e h = let bad : ⊥ = cc in absurd bad

-- a unit that begins as a band begins with the word `abs`
pub is_band : (t : Token) → unit_start t ≡ StartBand → (w : List ℕ) × (t ≡ Word Abs w)
is_band (Word Abs w) e = (w, refl)
is_band t e = let bad : ⊥ = cc in absurd bad

-- one that begins as a negation, with the word `not`
pub is_not : (t : Token) → unit_start t ≡ StartNot → (w : List ℕ) × (t ≡ Word Not w)
is_not (Word Not w) e = (w, refl)
is_not t e = let bad : ⊥ = cc in absurd bad

-- and one in parentheses, with `(`
pub is_open : (t : Token) → unit_start t ≡ StartOpen → t ≡ Open
is_open Open e = refl
is_open (Word Not w) e = let bad : ⊥ = cc in absurd bad
is_open t e = let bad : ⊥ = cc in absurd bad

-- behind `abs` a sum in parentheses, a sign of comparison and a bound are to come
pub unit_band : (L : Limits) (d : ℕ) (s : List Symbol) (w : List ℕ)
    → step L (unit d ∷ s) (Word Abs w) ≡ Ok (open' ∷ sum ∷ close ∷ op ∷ bound ∷ s)
unit_band L zero s w = refl
unit_band L (suc d) s w = refl

-- and a band is a unit of the grammar
pub read_band : (L : Limits) (d : ℕ) (before : List Token) (w : List ℕ) (ts : List Token) (x : Tree) (mid : List Token)
    → before ≡ Word Abs w ∷ ts → BandRest L ts x mid → Unit' L d before x mid
read_band L d before w ts x mid e h = subst (λ z. Unit' L d z x mid) (sym e) (go d h)
  where
    go : (d : ℕ) → BandRest L ts x mid → Unit' L d (Word Abs w ∷ ts) x mid
    go zero h = h
    go (suc d) h = h

-- behind the side that a name begins with, a dot and a field are to come
pub name_step : (L : Limits) (s : List Symbol) (t : Token) (x : Side) → named_side t ≡ Some x
    → step L (name ∷ s) t ≡ Ok (dot ∷ field ∷ s)
name_step L s (Word R w) x e = refl
name_step L s (Word S w) x e = refl
name_step L s t x e = let bad : ⊥ = cc in absurd bad

-- a token that the test takes for the word `text` is that word
pub side_column : (t : Token) → is_text t ≡ true → (w : List ℕ) × (t ≡ Word Text w)
side_column (Word Text w) e = (w, refl)
side_column t e = let bad : ⊥ = cc in absurd bad
