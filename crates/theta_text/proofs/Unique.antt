-- A text has at most one tree.
use Rattle.std.proofs.Common.{◌≡◌, ℕ, zero, suc, List, [], ◌∷◌, Bool, false, refl, sym, ap, ap₂, subst, ◌∙◌, pos}
use Rattle.theta_tree.specs.declared.token.Token.{Token}
use Rattle.theta_tree.specs.declared.token.Token.TheVariants.{Word, Number, Literal, Quoted, Open, Close, Dot, Sign}
use Rattle.theta_tree.specs.declared.token.Token.TheVariants.{Compare}
use Rattle.theta_tree.specs.declared.token.Keyword.TheVariants.{And, Or, Not, Abs, Text, R, S}
use Rattle.theta_tree.specs.declared.tree.Op.{Op}
use Rattle.theta_tree.specs.declared.tree.Signed.{Signed}
use Rattle.theta_tree.specs.declared.tree.Term.{Term}
use Rattle.theta_tree.specs.declared.tree.Term.TheVariants.{Col}
use Rattle.theta_tree.specs.declared.tree.TextSide.TheVariants.{Lit}
use Rattle.theta_tree.specs.declared.tree.TextSide.TheVariants as texts
use Rattle.row_cells.specs.declared.table.Side.TheVariants as sides
use Rattle.theta_tree.specs.Grammar.{Tree, Trees, any, every, negation, num, band, txt, Limits, Part, Further, joined}
use Rattle.theta_tree.specs.Grammar.{Chain, IsAnd, IsOr, Conj, Predicate, FieldText, DotText, NameText, TermText}
use Rattle.theta_tree.specs.Grammar.{FurtherTerms, FirstText, SumText, OpText, NumTest, BandRest, ColumnText, SideText}
use Rattle.theta_tree.specs.Grammar.{TxtTest, UnitOver, Unit', Reads}
use Rattle.theta_tree.specs.Tokens.{number_of}

-- tokens that don't begin with one of this kind
abbrev pub StartsOff : (Token → Type 0) → List Token → Type 0
StartsOff IsOf ts = (t : Token) (rest : List Token) → IsOf t → ts ≡ t ∷ rest → ⊥

-- the token is a sign of a sum
abbrev pub IsSignToken : Token → Type 0
IsSignToken t = (m : Bool) × (t ≡ Sign m)

-- one text from one place has one value and one end, if what follows the texts is of this kind
abbrev pub IsSharp : {A : Type 0} → (List Token → Type 0) → Part A → Type 0
IsSharp {A} Stop Item = (before : List Token) (x y : A) (a b : List Token) → Item before x a → Item before y b → Stop a
    → Stop b → (x ≡ y) × (a ≡ b)

-- anything may follow
abbrev pub Always : List Token → Type 0
Always ts = Unit {0}

further_stop : {A : Type 0} (IsSep : Token → Type 0) (Stop : List Token → Type 0) (Item : Part A)
    → ((t : Token) (rest : List Token) → IsSep t → Stop (t ∷ rest))
    → (before : List Token) (xs : List A) (a : List Token) → Further IsSep Item before xs a → Stop a → Stop before
further_stop IsSep Stop Item at_sep before [] a f s = subst Stop (sym f) s
further_stop IsSep Stop Item at_sep before (x ∷ xs) a (sep, from, to, is, e, item, f) s =
    subst Stop (sym e) (at_sep sep from is)

module _ {A : Type 0} (IsSep : Token → Type 0) (Stop : List Token → Type 0) (Item : Part A) where
  -- further items from one place have one value and one end, if each item has where a separator or what stands behind
  -- the last follows it, and that is no separator
  pub further_sharp : ((t : Token) (rest : List Token) → IsSep t → Stop (t ∷ rest)) → IsSharp Stop Item
      → (before : List Token) (xs ys : List A) (a b : List Token) → Further IsSep Item before xs a
      → Further IsSep Item before ys b
      → Stop a → Stop b → StartsOff IsSep a → StartsOff IsSep b → (xs ≡ ys) × (a ≡ b)
  further_sharp at_sep sharp before [] [] a b f g = λ s s' o o'. (refl, sym f ∙ g)
  further_sharp at_sep sharp before [] (y ∷ ys) a b f (sep, from, to, is, e, item, g) = λ s s' o o'.
      absurd (o sep from is (sym f ∙ e))
  further_sharp at_sep sharp before (x ∷ xs) [] a b (sep, from, to, is, e, item, f) g = λ s s' o o'.
      absurd (o' sep from is (sym g ∙ e))
  further_sharp at_sep sharp before (x ∷ xs) (y ∷ ys) a b (sep, from, to, is, e, item, f)
      (sep', from', to', is', e', item', g) = λ s s' o o'.
      let both : sep' ∷ from' ≡ sep ∷ from = sym e' ∙ e in
      let ef : from' ≡ from = cc in
      let at_from : Item from y to' = subst (λ z. Item z y to') ef item' in
      let one = sharp from x y to to' item at_from (further_stop IsSep Stop Item at_sep to xs a f s)
      (further_stop IsSep Stop Item at_sep to' ys b g s') in
      let g' : Further IsSep Item to ys b = subst (λ z. Further IsSep Item z ys b) (sym one.1) g in
      let others = further_sharp at_sep sharp to xs ys a b f g' s s' o o' in
      (ap₂ (λ z zs. z ∷ zs) one.0 others.0, others.1)

-- and so has a chain of such items, as one tree, if no separator follows it
pub chain_sharp : (IsSep : Token → Type 0) (make : Trees → Tree) (Stop : List Token → Type 0) (Item : Part Tree)
    → ((t : Token) (rest : List Token) → IsSep t → Stop (t ∷ rest)) → IsSharp Stop Item
    → IsSharp (λ ts. Stop ts × StartsOff IsSep ts) (Chain IsSep make Item)
chain_sharp IsSep make Stop Item at_sep sharp before x y a b (first, others, to, e, item, f)
    (first', others', to', e', item', f') s s' =
    let one = sharp before first first' to to' item item' (further_stop IsSep Stop Item at_sep to others a f s.0)
    (further_stop IsSep Stop Item at_sep to' others' b f' s'.0) in
    let g : Further IsSep Item to others' b = subst (λ z. Further IsSep Item z others' b) (sym one.1) f' in
    let rest = further_sharp IsSep Stop Item at_sep sharp to others others' a b f g s.0 s'.0 s.1 s'.1 in
    (e ∙ ap₂ (joined make) one.0 rest.0 ∙ sym e', rest.1)

-- a field has one value and one end, whatever follows it
pub field_sharp : IsSharp Always FieldText
field_sharp [] x y a b p q s s' = absurd p
field_sharp (Word k w ∷ ts) x y a b (e, e') (f, f') s s' = (e ∙ sym f, sym e' ∙ f')
field_sharp (Quoted w ∷ ts) x y a b (e, e') (f, f') s s' = (e ∙ sym f, sym e' ∙ f')
field_sharp (_ ∷ ts) x y a b p q s s' = absurd p

-- so has a field with its dot
pub dot_sharp : IsSharp Always DotText
dot_sharp [] x y a b p q s s' = absurd p
dot_sharp (Dot ∷ ts) x y a b p q s s' = field_sharp ts x y a b p q s s'
dot_sharp (_ ∷ ts) x y a b p q s s' = absurd p

-- so has a name
pub name_sharp : IsSharp Always NameText
name_sharp [] x y a b p q s s' = absurd p
name_sharp (Word R w ∷ ts) x y a b (f, e, h) (f', e', h') s s' = let r = dot_sharp ts f f' a b h h' s s' in
    (e ∙ ap (λ z. record { side = sides.R; word = z }) r.0 ∙ sym e', r.1)
name_sharp (Word S w ∷ ts) x y a b (f, e, h) (f', e', h') s s' = let r = dot_sharp ts f f' a b h h' s s' in
    (e ∙ ap (λ z. record { side = sides.S; word = z }) r.0 ∙ sym e', r.1)
name_sharp (_ ∷ ts) x y a b p q s s' = absurd p

-- so has a term
pub term_sharp : (g : ℕ) → IsSharp Always (TermText g)
term_sharp g [] x y a b p q s s' = absurd p
term_sharp g (Number v ∷ ts) x y a b (e, le, e') (f, le', f') s s' = (e ∙ sym f, sym e' ∙ f')
term_sharp g (Word k w ∷ ts) x y a b (n, e, h) (n', e', h') s s' =
    let r = name_sharp (Word k w ∷ ts) n n' a b h h' s s' in (e ∙ ap Col r.0 ∙ sym e', r.1)
term_sharp g (_ ∷ ts) x y a b p q s s' = absurd p

same_signed : (x y : Signed) → x.minus ≡ y.minus → x.term ≡ y.term → x ≡ y
same_signed x y e e' = ap₂ {A = Bool} {B = Term} (λ m t. record { minus = m; term = t }) e e'

first_plain : (g : ℕ) (before : List Token) (x y : Signed) (a b : List Token) → (x.minus ≡ false)
    × TermText g before x.term a → (y.minus ≡ false) × TermText g before y.term b → (x ≡ y) × (a ≡ b)
first_plain g before x y a b (e, h) (e', h') = let r = term_sharp g before x.term y.term a b h h' tt tt in
    (same_signed x y (e ∙ sym e') r.0, r.1)

-- and so has the first term of a sum, with a sign or without
pub first_sharp : (g : ℕ) → IsSharp Always (FirstText g)
first_sharp g [] x y a b p q s s' = first_plain g [] x y a b p q
first_sharp g (Sign m ∷ ts) x y a b (e, h) (e', h') s s' = let r = term_sharp g ts x.term y.term a b h h' tt tt in
    (same_signed x y (e ∙ sym e') r.0, r.1)
first_sharp g (t ∷ ts) x y a b p q s s' = first_plain g (t ∷ ts) x y a b p q

-- what may follow a sum
abbrev pub AfterSum : List Token → Type 0
AfterSum = StartsOff IsSignToken

-- further terms from one place are the same, and end at one place, if no sign follows them
pub terms_sharp : (g n : ℕ) (before : List Token) (vs ws : List Signed) (a b : List Token)
    → FurtherTerms g n before vs a → FurtherTerms g n before ws b
    → AfterSum a → AfterSum b → (vs ≡ ws) × (a ≡ b)
terms_sharp g n before [] [] a b f f' = λ o o'. (refl, sym f ∙ f')
terms_sharp g zero before [] (w ∷ ws) a b f f' = λ o o'. absurd f'
terms_sharp g (suc n) before [] (w ∷ ws) a b f (from, to, e, h, f') = λ o o'.
    absurd (o _ from (w.minus, refl) (sym f ∙ e))
terms_sharp g zero before (v ∷ vs) ws a b f f' = λ o o'. absurd f
terms_sharp g (suc n) before (v ∷ vs) [] a b (from, to, e, h, f) f' = λ o o'.
    absurd (o' _ from (v.minus, refl) (sym f' ∙ e))
terms_sharp g (suc n) before (v ∷ vs) (w ∷ ws) a b (from, to, e, h, f) (from', to', e', h', f') = λ o o'.
    let both : Sign w.minus ∷ from' ≡ Sign v.minus ∷ from = sym e' ∙ e in
    let ef : from' ≡ from = cc in
    let em : w.minus ≡ v.minus = cc in
    let one = term_sharp g from v.term w.term to to' h (subst (λ z. TermText g z w.term to') ef h') tt tt in
    let r = terms_sharp g n to vs ws a b f (subst (λ z. FurtherTerms g n z ws b) (sym one.1) f') o o' in
    (ap₂ (λ z zs. z ∷ zs) (same_signed v w (sym em) one.0) r.0, r.1)

-- a sum has one value and one end, if no sign follows it
pub sum_sharp : (L : Limits) → IsSharp AfterSum (SumText L)
sum_sharp L before [] y a b p q s s' = absurd p
sum_sharp L before (x ∷ xs) [] a b p q s s' = absurd q
sum_sharp L before (x ∷ xs) (y ∷ ys) a b (to, h, f) (to', h', f') s s' =
    let one = first_sharp L.greatest before x y to to' h h' tt tt in
    let r = terms_sharp L.greatest L.more to xs ys a b f (subst (λ z. FurtherTerms L.greatest L.more z ys b) (sym one.1)
    f') s s' in
    (ap₂ (λ z zs. z ∷ zs) one.0 r.0, r.1)

-- a sign of comparison has one value and one end, whatever follows it
pub op_sharp : IsSharp Always OpText
op_sharp [] x y a b p q s s' = absurd p
op_sharp (Compare o ∷ ts) x y a b (e, e') (f, f') s s' = (e ∙ sym f, sym e' ∙ f')
op_sharp (_ ∷ ts) x y a b p q s s' = absurd p

off_sign : (t : Token) (ts : List Token) → (IsSignToken t → ⊥) → AfterSum (t ∷ ts)
off_sign t ts isnt t' rest is e = let same : t' ≡ t = cc in isnt (is.0, sym same ∙ is.1)

op_stop : (before : List Token) (o : Op) (after : List Token) → OpText before o after → AfterSum before
op_stop [] o after h = absurd h
op_stop (Compare p ∷ ts) o after h = off_sign (Compare p) ts (λ (m, e). cc)
op_stop (_ ∷ ts) o after h = absurd h

close_stop : (before after : List Token) → before ≡ Close ∷ after → AfterSum before
close_stop before after e = subst AfterSum (sym e) (off_sign Close after (λ (m, e). cc))

-- a test on numbers has one tree and one end, if no sign follows it
pub num_sharp : (L : Limits) → IsSharp AfterSum (NumTest L)
num_sharp L before x y a b (l, o, r, m1, m2, e, hl, ho, hr) (l', o', r', m1', m2', e', hl', ho', hr') s s' =
    let el = sum_sharp L before l l' m1 m1' hl hl' (op_stop m1 o m2 ho) (op_stop m1' o' m2' ho') in
    let eo = op_sharp m1 o o' m2 m2' ho (subst (λ z. OpText z o' m2') (sym el.1) ho') tt tt in
    let er = sum_sharp L m2 r r' a b hr (subst (λ z. SumText L z r' b) (sym eo.1) hr') s s' in
    (e ∙ ap (λ z. num z o r) el.0 ∙ ap₂ (num l') eo.0 er.0 ∙ sym e', er.1)

-- and so has a band, behind its `abs`
pub band_sharp : (L : Limits) → IsSharp AfterSum (BandRest L)
band_sharp L before x y a b (xs, o, v, m1, m2, m3, m4, e, e1, hs, e3, ho, (ds, ev, is, le))
    (xs', o', v', m1', m2', m3', m4', e', e1', hs', e3', ho', (ds', ev', is', le')) s s' =
    let c1 : Open ∷ m1' ≡ Open ∷ m1 = sym e1' ∙ e1 in
    let t1 : m1' ≡ m1 = cc in
    let es = sum_sharp L m1 xs xs' m2 m2' hs (subst (λ z. SumText L z xs' m2') t1 hs') (close_stop m2 m3 e3)
    (close_stop m2' m3' e3') in
    let c3 : Close ∷ m3' ≡ Close ∷ m3 = sym e3' ∙ sym es.1 ∙ e3 in
    let t3 : m3' ≡ m3 = cc in
    let eo = op_sharp m3 o o' m4 m4' ho (subst (λ z. OpText z o' m4') t3 ho') tt tt in
    let c4 : Number ds' ∷ b ≡ Number ds ∷ a = sym ev' ∙ sym eo.1 ∙ ev in
    let td : ds ≡ ds' = cc in
    let tv : v ≡ v' = is ∙ ap (λ z. pos (number_of z)) td ∙ sym is' in
    let ta : a ≡ b = cc in
    (e ∙ ap (λ z. band z o v) es.0 ∙ ap₂ (band xs') eo.0 tv ∙ sym e', ta)

-- a column in parentheses, behind its `text`, has one value and one end, whatever follows it
pub column_sharp : IsSharp Always ColumnText
column_sharp before x y a b (n, m1, m2, e, e1, h, e3) (n', m1', m2', e', e1', h', e3') s s' =
    let c1 : Open ∷ m1' ≡ Open ∷ m1 = sym e1' ∙ e1 in
    let t1 : m1' ≡ m1 = cc in
    let en = name_sharp m1 n n' m2 m2' h (subst (λ z. NameText z n' m2') t1 h') tt tt in
    let c3 : Close ∷ b ≡ Close ∷ a = sym e3' ∙ sym en.1 ∙ e3 in
    let ta : a ≡ b = cc in
    (e ∙ ap texts.Col en.0 ∙ sym e', ta)

-- so has a side of a test on texts
pub side_sharp : IsSharp Always SideText
side_sharp [] x y a b p q s s' = absurd p
side_sharp (Word Text w ∷ ts) x y a b p q s s' = column_sharp ts x y a b p q s s'
side_sharp (Literal w ∷ ts) x y a b (e, e') (f, f') s s' = (e ∙ sym f, sym e' ∙ f')
side_sharp (_ ∷ ts) x y a b p q s s' = absurd p

-- and so has such a test
pub txt_sharp : IsSharp Always TxtTest
txt_sharp before x y a b (l, o, r, m1, m2, e, hl, ho, hr) (l', o', r', m1', m2', e', hl', ho', hr') s s' =
    let el = side_sharp before l l' m1 m1' hl hl' tt tt in
    let eo = op_sharp m1 o o' m2 m2' ho (subst (λ z. OpText z o' m2') (sym el.1) ho') tt tt in
    let er = side_sharp m2 r r' a b hr (subst (λ z. SideText z r' b) (sym eo.1) hr') tt tt in
    (e ∙ ap (λ z. txt z o r) el.0 ∙ ap₂ (txt l') eo.0 er.0 ∙ sym e', er.1)

-- what may follow a conjunction and a predicate
abbrev pub AfterConj : List Token → Type 0
AfterConj ts = AfterSum ts × StartsOff IsAnd ts

-- no sign, no `and` and no `or` comes next
abbrev pub AfterPredicate : List Token → Type 0
AfterPredicate ts = AfterConj ts × StartsOff IsOr ts

and_stop : (t : Token) (rest : List Token) → IsAnd t → AfterSum (t ∷ rest)
and_stop t rest (w, e) = off_sign t rest (λ (m, e'). let clash : Word And w ≡ Sign m = sym e ∙ e' in cc)

or_stop : (t : Token) (rest : List Token) → IsOr t → AfterConj (t ∷ rest)
or_stop t rest (w, e) = (
  off_sign t rest (λ (m, e'). let clash : Word Or w ≡ Sign m = sym e ∙ e' in cc),
  λ t' rest' (w', e') et. let same : t ≡ t' = cc in let clash : Word Or w ≡ Word And w' = sym e ∙ same ∙ e' in cc,
)

close_end : (rest : List Token) → AfterPredicate (Close ∷ rest)
close_end rest = (
  (
    off_sign Close rest (λ (m, e). cc),
    λ t' rest' (w', e') et. let same : Close ≡ t' = cc in
        let clash : Close ≡ Word And w' = same ∙ e' in cc,
  ),
  λ t' rest' (w', e') et. let same : Close ≡ t' = cc in let clash : Close ≡ Word Or w' = same ∙ e' in cc,
)

nothing_end : AfterPredicate []
nothing_end = ((λ t rest is e. cc, λ t rest is e. cc), λ t rest is e. cc)

-- a predicate has one tree and one end, if no sign, `and` or `or` follows it, and a unit has where no sign does
pub predicate_sharp : (Unit : Part Tree) → IsSharp AfterSum Unit → IsSharp AfterPredicate (Predicate Unit)
predicate_sharp Unit sharp =
    chain_sharp IsOr any AfterConj (Conj Unit) or_stop (chain_sharp IsAnd every AfterSum Unit and_stop sharp)

over_sharp : (L : Limits) (Inner : Part Tree) → IsSharp AfterSum Inner → IsSharp AfterSum (UnitOver L Inner)
over_sharp L Inner sharp [] x y a b p q = λ s s'. num_sharp L [] x y a b p q s s'
over_sharp L Inner sharp (Word Not w ∷ ts) x y a b (t, e, i) (t', e', i') = λ s s'.
    let r = sharp ts t t' a b i i' s s' in
    (e ∙ ap negation r.0 ∙ sym e', r.1)
over_sharp L Inner sharp (Open ∷ ts) x y a b p q = λ s s'.
    let r = predicate_sharp Inner sharp ts x y (Close ∷ a) (Close ∷ b) p q (close_end a) (close_end b) in
    let e = r.1 in
    (r.0, cc)
over_sharp L Inner sharp (Word Abs w ∷ ts) x y a b p q = λ s s'. band_sharp L ts x y a b p q s s'
over_sharp L Inner sharp (Word Text w ∷ ts) x y a b p q = λ s s'. txt_sharp (Word Text w ∷ ts) x y a b p q tt tt
over_sharp L Inner sharp (Literal w ∷ ts) x y a b p q = λ s s'. txt_sharp (Literal w ∷ ts) x y a b p q tt tt
over_sharp L Inner sharp (t ∷ ts) x y a b p q = λ s s'. num_sharp L (t ∷ ts) x y a b p q s s'

-- a unit of any depth has one tree and one end, if no sign follows it
pub unit_sharp : (L : Limits) (d : ℕ) → IsSharp AfterSum (Unit' L d)
unit_sharp L zero = over_sharp L _ (λ before x y a b p q s s'. absurd p)
unit_sharp L (suc d) = over_sharp L (Unit' L d) (unit_sharp L d)

-- tokens that are a predicate have one tree
pub reads_unique : (L : Limits) (tokens : List Token) (t u : Tree) → Reads L tokens t → Reads L tokens u → t ≡ u
reads_unique L tokens t u p q = (predicate_sharp (Unit' L L.nesting) (unit_sharp L L.nesting) tokens t u [] []
    p q nothing_end nothing_end).0
