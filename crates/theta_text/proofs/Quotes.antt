-- The length of what is quoted.
use Rattle.std.proofs.Common.{◌≡◌, ℕ, zero, suc, ◌<◌, ◌≤◌, List, [], ◌∷◌, ◌++◌, length, take, Bool, true, false, cond}
use Rattle.std.proofs.Common.{◌==◌, Option, Some, None, option_map, MatchOption, refl, sym, ap, subst, ◌∙◌, arith}
use Rattle.std.proofs.lemmas.Bool.{eqb-true, eq-eqb}
use Rattle.theta_tree.specs.Tokens.{doubled}
use Rattle.theta_text.specs.Front.{later, quoted_len}

-- at least so much was found
abbrev pub Reaches : ℕ → Option ℕ → Type 0
Reaches m None = ⊥
Reaches m (Some n) = m ≤ n

-- what was found ends what is quoted
abbrev pub Ends : ℕ → List ℕ → ℕ → Type 0
Ends q bs n = (content : List ℕ) × (take n bs ≡ doubled q content ++ q ∷ []) × (n ≤ length bs) × (0 < n)

-- an end that is found ends what is quoted
abbrev pub Closes : ℕ → List ℕ → Type 0
Closes q bs = MatchOption (quoted_len q bs) (Unit {0}) (Ends q bs)

-- a byte that is no quote is one byte more up to the end that is found behind it
pub other : (q b : ℕ) (bs : List ℕ) → (b == q) ≡ false → quoted_len q (b ∷ bs) ≡ option_map suc (quoted_len q bs)
other q b [] e = ap (λ t. cond t (Some 1) None) e
other q b (c ∷ bs) e = ap (λ t. cond t (cond (c == q) (Some (later (quoted_len q bs))) (Some 1))
    (option_map suc (quoted_len q (c ∷ bs)))) e

-- two quotes together are content if an end comes later, and else the first of them is the end
pub twice : (q b c : ℕ) (bs : List ℕ) → (b == q) ≡ true → (c == q) ≡ true
    → quoted_len q (b ∷ c ∷ bs) ≡ Some (later (quoted_len q bs))
twice q b c bs e e' =
    ap (λ t. cond t (cond (c == q) (Some (later (quoted_len q bs))) (Some 1)) (option_map suc (quoted_len q (c ∷ bs))))
    e
    ∙ ap (λ t. cond t (Some (later (quoted_len q bs))) (Some 1)) e'

-- a quote with another byte behind it, no quote, is the end
pub once : (q b c : ℕ) (bs : List ℕ) → (b == q) ≡ true → (c == q) ≡ false → quoted_len q (b ∷ c ∷ bs) ≡ Some 1
once q b c bs e e' =
    ap (λ t. cond t (cond (c == q) (Some (later (quoted_len q bs))) (Some 1)) (option_map suc (quoted_len q (c ∷ bs))))
    e
    ∙ ap (λ t. cond t (Some (later (quoted_len q bs))) (Some 1)) e'

-- and so is one that is the last byte
pub last_one : (q b : ℕ) → (b == q) ≡ true → quoted_len q (b ∷ []) ≡ Some 1
last_one q b e = ap (λ t. cond t (Some 1) None) e

-- by the test on bytes too, a byte is equal to itself
pub same_self : (q : ℕ) → (q == q) ≡ true
same_self q = eq-eqb q q refl

-- a quote in the content stands twice
pub doubled-same : (q c : ℕ) (cs : List ℕ) → (c == q) ≡ true → doubled q (c ∷ cs) ≡ q ∷ q ∷ doubled q cs
doubled-same q c cs e = ap (λ t. cond t (q ∷ q ∷ doubled q cs) (c ∷ doubled q cs)) e

-- any other byte of it stands once
pub doubled-other : (q c : ℕ) (cs : List ℕ) → (c == q) ≡ false → doubled q (c ∷ cs) ≡ c ∷ doubled q cs
doubled-other q c cs e = ap (λ t. cond t (q ∷ q ∷ doubled q cs) (c ∷ doubled q cs)) e

-- a front that is not empty
pub front_cons : (m : ℕ) (bs : List ℕ) (x : ℕ) (xs : List ℕ) → take m bs ≡ x ∷ xs → (m' : ℕ) × (bs' : List ℕ)
    × (m ≡ suc m') × (bs ≡ x ∷ bs') × (take m' bs' ≡ xs)
front_cons zero bs x xs e = let none : [] ≡ x ∷ xs = e in let bad : ⊥ = cc in absurd bad
front_cons (suc m) [] x xs e = let none : [] ≡ x ∷ xs = e in let bad : ⊥ = cc in absurd bad
front_cons (suc m) (b ∷ bs) x xs e = let e' : b ∷ take m bs ≡ x ∷ xs = e in let eb : b ≡ x = cc in
    let et : take m bs ≡ xs = cc in (m, bs, refl, ap (λ z. z ∷ bs) eb, et)

some_least : (m : ℕ) (o : Option ℕ) → Reaches m o → (n : ℕ) × (o ≡ Some n) × (m ≤ n)
some_least m None r = absurd r
some_least m (Some n) r = (n, refl, r)

starts_one : (q : ℕ) (bs : List ℕ) → Reaches 1 (quoted_len q (q ∷ bs))
starts_one q [] = subst (λ o. Reaches 1 o) (sym (last_one q q (same_self q))) (omega arith)
starts_one q (c ∷ bs) = go (c == q) refl
  where
    at_least : (o : Option ℕ) → 1 ≤ later o
    at_least None = omega arith
    at_least (Some n) = omega arith

    go : (t : Bool) → (c == q) ≡ t → Reaches 1 (quoted_len q (q ∷ c ∷ bs))
    go true e = subst (λ o. Reaches 1 o) (sym (twice q q c bs (same_self q) e)) (at_least (quoted_len q bs))
    go false e = subst (λ o. Reaches 1 o) (sym (once q q c bs (same_self q) e)) (omega arith)

-- where a content and its closing quote stand at the front, an end is found, and no sooner than theirs
pub reach : (q : ℕ) (content : List ℕ) (m : ℕ) (bs : List ℕ) → take m bs ≡ doubled q content ++ q ∷ [] → m ≤ length bs
    → Reaches m (quoted_len q bs)
reach q [] m bs e le =
    let (m', bs', em, eb, et) = front_cons m bs q [] e in
    let le' : suc m' ≤ length (q ∷ bs') = subst (λ z. suc m' ≤ length z) eb (subst (λ z. z ≤ length bs) em le) in
    let none : m' ≡ 0 = front_nil m' bs' et (omega (arith, le')) in
    let one : m ≡ 1 = omega arith in
    subst (λ z. Reaches z (quoted_len q bs)) (sym one) (subst (λ z. Reaches 1 (quoted_len q z)) (sym eb)
    (starts_one q bs'))
  where
    front_nil : (m : ℕ) (bs : List ℕ) → take m bs ≡ [] → m ≤ length bs → m ≡ 0
    front_nil zero bs e le = refl
    front_nil (suc m) [] e le = absurd (omega arith)
    front_nil (suc m) (b ∷ bs) e le = let bad : ⊥ = cc in absurd bad
reach q (c ∷ cs) m bs e le = go (λ m' bs' e' le'. reach q cs m' bs' e' le') (c == q) refl
  where
    go : ((m' : ℕ) (bs' : List ℕ) → take m' bs' ≡ doubled q cs ++ q ∷ [] → m' ≤ length bs'
        → Reaches m' (quoted_len q bs'))
        → (t : Bool) → (c == q) ≡ t → Reaches m (quoted_len q bs)
    go ih true ec =
        let e1 : take m bs ≡ q ∷ (q ∷ (doubled q cs ++ q ∷ [])) = e ∙ ap (λ z. z ++ q ∷ []) (doubled-same q c cs ec) in
        let (m1, bs1, em1, eb1, et1) = front_cons m bs q (q ∷ (doubled q cs ++ q ∷ [])) e1 in
        let (m2, bs2, em2, eb2, et2) = front_cons m1 bs1 q (doubled q cs ++ q ∷ []) et1 in
        let whole : bs ≡ q ∷ q ∷ bs2 = eb1 ∙ ap (λ z. q ∷ z) eb2 in
        let le2 : suc (suc m2) ≤ length (q ∷ q ∷ bs2) = subst (λ z. suc (suc m2) ≤ length z) whole
        (subst (λ z. z ≤ length bs) (em1 ∙ ap suc em2) le) in
        let (n, en, ln) = some_least m2 (quoted_len q bs2) (ih m2 bs2 et2 (omega (arith, le2))) in
        let all : quoted_len q bs ≡ Some (suc (suc n)) = ap (quoted_len q) whole
        ∙ twice q q q bs2 (same_self q) (same_self q) ∙ ap (λ o. Some (later o)) en in
        subst (λ o. Reaches m o) (sym all) (omega (arith, em1, em2, ln))
    go ih false ec =
        let e1 : take m bs ≡ c ∷ (doubled q cs ++ q ∷ []) = e ∙ ap (λ z. z ++ q ∷ []) (doubled-other q c cs ec) in
        let (m1, bs1, em1, eb1, et1) = front_cons m bs c (doubled q cs ++ q ∷ []) e1 in
        let le1 : suc m1 ≤ length (c ∷ bs1) = subst (λ z. suc m1 ≤ length z) eb1 (subst (λ z. z ≤ length bs) em1 le) in
        let (n, en, ln) = some_least m1 (quoted_len q bs1) (ih m1 bs1 et1 (omega (arith, le1))) in
        let all : quoted_len q bs ≡ Some (suc n) = ap (quoted_len q) eb1 ∙ other q c bs1 ec
        ∙ ap (λ o. option_map suc o) en in
        subst (λ o. Reaches m o) (sym all) (omega (arith, em1, ln))

-- what is found is what is quoted
ends_at : (q : ℕ) (bs : List ℕ) (o : Option ℕ) → quoted_len q bs ≡ o → MatchOption o (Unit {0}) (Ends q bs)
    → Closes q bs
ends_at q bs o e h = subst (λ o. MatchOption o (Unit {0}) (Ends q bs)) (sym e) h

one_end : (q b : ℕ) (bs : List ℕ) → (b == q) ≡ true → Ends q (b ∷ bs) 1
one_end q b bs e = ([], ap (λ z. z ∷ []) (eqb-true b q e), omega arith, omega arith)

-- whatever the bytes, an end that is found ends what is quoted
pub closes : (q : ℕ) (bs : List ℕ) → Closes q bs
closes q [] = tt
closes q (b ∷ []) = go (b == q) refl
  where
    go : (t : Bool) → (b == q) ≡ t → Closes q (b ∷ [])
    go true e = ends_at q (b ∷ []) (Some 1) (last_one q b e) (one_end q b [] e)
    go false e = ends_at q (b ∷ []) None (other q b [] e) tt
closes q (b ∷ c ∷ bs) = go (closes q bs) (closes q (c ∷ bs)) (b == q) refl (c == q) refl
  where
    after : (o : Option ℕ) → quoted_len q bs ≡ o → MatchOption o (Unit {0}) (Ends q bs) → (b == q) ≡ true
        → (c == q) ≡ true → Ends q (b ∷ c ∷ bs) (later o)
    after None eo h e e' = one_end q b (c ∷ bs) e
    after (Some n) eo (content, et, le, pos) e e' = (
      q ∷ content,
      ap (λ z. b ∷ c ∷ z) et ∙ ap (λ z. z ∷ c ∷ (doubled q content ++ q ∷ [])) (eqb-true b q e)
          ∙ ap (λ z. q ∷ z ∷ (doubled q content ++ q ∷ [])) (eqb-true c q e')
          ∙ ap (λ z. z ++ q ∷ []) (sym (doubled-same q q content (same_self q))),
      omega arith,
      omega arith,
    )

    shifted : (o : Option ℕ) → MatchOption o (Unit {0}) (Ends q (c ∷ bs)) → (b == q) ≡ false
        → MatchOption (option_map suc o) (Unit {0}) (Ends q (b ∷ c ∷ bs))
    shifted None h e = tt
    shifted (Some n) (content, et, le, pos) e = (
      b ∷ content,
      ap (λ z. b ∷ z) et ∙ ap (λ z. z ++ q ∷ []) (sym (doubled-other q b content e)),
      omega arith,
      omega arith,
    )

    go : Closes q bs → Closes q (c ∷ bs) → (t : Bool) → (b == q) ≡ t → (u : Bool) → (c == q) ≡ u → Closes q (b ∷ c ∷ bs)
    go h h' true e true e' = ends_at q (b ∷ c ∷ bs) (Some (later (quoted_len q bs))) (twice q b c bs e e')
        (after (quoted_len q bs) refl h e e')
    go h h' true e false e' = ends_at q (b ∷ c ∷ bs) (Some 1) (once q b c bs e e') (one_end q b (c ∷ bs) e)
    go h h' false e u e' = ends_at q (b ∷ c ∷ bs) (option_map suc (quoted_len q (c ∷ bs))) (other q b (c ∷ bs) e)
        (shifted (quoted_len q (c ∷ bs)) h' e)
