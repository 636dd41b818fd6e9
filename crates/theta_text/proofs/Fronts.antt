-- The token at the front is the longest.
use Rattle.std.proofs.Common.{◌≡◌, ◌≢◌, ℕ, zero, suc, ◌+◌, ◌<◌, ◌≤◌, List, [], ◌∷◌, ◌++◌, length, take, Bool, true}
use Rattle.std.proofs.Common.{false, cond, ◌==◌, nat_le, Option, Some, None, option_map, MatchOption, refl, sym, ap}
use Rattle.std.proofs.Common.{subst, ◌∙◌, arith, ◌⊎◌, inl, inr, ap₂}
use Rattle.std.proofs.lemmas.Bool.{eqb-true, ne_eqb, and_parts, leb-true, lt-leb}
use Rattle.std.specs.List.{prefix_len, AllByRecursion}
use Rattle.theta_text.specs.declared.lexer.kind.Kind.{Kind}
use Rattle.theta_text.specs.declared.lexer.kind.Kind.TheVariants.{Word, Number, Literal, Name, Open, Close, Dot, Plus}
use Rattle.theta_text.specs.declared.lexer.kind.Kind.TheVariants.{Minus, Eq, Ne, Lt, Le, Gt, Ge, Stray}
use Rattle.theta_tree.specs.Tokens.{is_letter, is_digit, is_word, doubled, IsWord, IsNumber}
use Rattle.theta_text.specs.Kinds.{IsQuoted, SpellsKind, IsLongestKind, IsStrayKind, IsNextKind}
use Rattle.theta_text.specs.Front.{Found, later, quoted_len, with_equals, not_equals, sign, front}
use Rattle.theta_text.proofs.Quotes.{Reaches, Ends, reach, closes, front_cons, other, twice}

-- what the rest found, from here on, or else the best so far
abbrev pub found_by : ℕ → Option ℕ → Option ℕ → Option ℕ
found_by at best None = best
found_by at best (Some n) = Some (at + n)

-- runs of bytes that pass a test
pub run_all : (p : ℕ → Bool) (xs : List ℕ) → AllByRecursion (λ b. p b ≡ true) (take (prefix_len p xs) xs)
run_all p [] = tt
run_all p (x ∷ xs) = go (run_all p xs) (p x) refl
  where
    go : AllByRecursion (λ b. p b ≡ true) (take (prefix_len p xs) xs) → (t : Bool) → p x ≡ t
        → AllByRecursion (λ b. p b ≡ true) (take (cond t (1 + prefix_len p xs) 0) (x ∷ xs))
    go ih true e = let one : 1 + prefix_len p xs ≡ suc (prefix_len p xs) = omega arith in
        subst (λ n. AllByRecursion (λ b. p b ≡ true) (take n (x ∷ xs))) (sym one) (e, ih)
    go ih false e = tt

-- no more bytes at the front pass a test than there are
pub run_le : (p : ℕ → Bool) (xs : List ℕ) → prefix_len p xs ≤ length xs
run_le p [] = omega arith
run_le p (x ∷ xs) = go (run_le p xs) (p x)
  where
    go : prefix_len p xs ≤ length xs → (t : Bool) → cond t (1 + prefix_len p xs) 0 ≤ length (x ∷ xs)
    go ih true = omega arith
    go ih false = omega arith

-- a front of which each byte passes the test is no longer than the run of those that do
pub run_bound : (p : ℕ → Bool) (xs : List ℕ) (m : ℕ) → m ≤ length xs → AllByRecursion (λ b. p b ≡ true) (take m xs)
    → m ≤ prefix_len p xs
run_bound p xs zero le all = omega arith
run_bound p [] (suc m) le all = absurd (omega arith)
run_bound p (x ∷ xs) (suc m) le (e, all) =
    let ih = run_bound p xs m (omega arith) all in
    let here : prefix_len p (x ∷ xs) ≡ 1 + prefix_len p xs = ap (λ t. cond t (1 + prefix_len p xs) 0) e in
    omega (arith, ih, here)

-- the token that is found is at least so long, and of this kind where it is no longer
abbrev pub AtLeast : Kind → ℕ → Found → Type 0
AtLeast k m None = ⊥
AtLeast k m (Some x) = (m ≤ x.1) × (x.1 ≤ m → x.0 ≡ k)

at_mapped : (k : Kind) (m : ℕ) (o : Option ℕ) → Reaches m o → AtLeast k (suc m) (option_map (λ n. (k, suc n)) o)
at_mapped k m None r = absurd r
at_mapped k m (Some n) r = (omega (arith, r), λ h. refl)

digit_letter : (b : ℕ) → is_digit b ≡ true → is_letter b ≡ false
digit_letter b e =
    let p = and_parts (nat_le 48 b) (nat_le b 57) e in
    let lo = leb-true 48 b p.0 in
    let hi = leb-true b 57 p.1 in
    rw (lt-leb 65 b (omega arith), lt-leb 97 b (omega arith), ne_eqb b 95 (λ h. omega arith)) refl

at_found : (k : Kind) (m : ℕ) (text text' : List ℕ) → text ≡ text' → AtLeast k m (front text')
    → AtLeast k m (front text)
at_found k m text text' e h = subst (λ t. AtLeast k m (front t)) (sym e) h

equals_least : (one two : Kind) (m : ℕ) (bs : List ℕ) → m ≤ 1 → AtLeast one m (with_equals one two bs)
equals_least one two m [] le = (le, λ h. refl)
equals_least one two m (c ∷ bs) le = go (c == 61)
  where
    go : (t : Bool) → AtLeast one m (cond t (Some (two, 2)) (Some (one, 1)))
    go true = (omega arith, λ h. absurd (omega (arith, h, le)))
    go false = (le, λ h. refl)

take_nil : (m : ℕ) (bs : List ℕ) → take m bs ≡ [] → m ≤ length bs → m ≡ 0
take_nil zero bs e le = refl
take_nil (suc m) [] e le = absurd (omega arith)
take_nil (suc m) (b ∷ bs) e le = let bad : ⊥ = cc in absurd bad

-- one byte, and the front is known to be at least that
one_byte : (k : Kind) (m : ℕ) (text : List ℕ) (x : ℕ) → take m text ≡ x ∷ [] → m ≤ length text
    → ((bs : List ℕ) → AtLeast k 1 (front (x ∷ bs))) → AtLeast k m (front text)
one_byte k m text x e le f =
    let (m', bs, em, eb, et) = front_cons m text x [] e in
    let le' : suc m' ≤ length (x ∷ bs) = subst (λ z. suc m' ≤ length z) eb (subst (λ z. z ≤ length text) em le) in
    let none : m' ≡ 0 = take_nil m' bs et (omega (arith, le')) in
    let one : m ≡ 1 = omega (arith, em, none) in
    subst (λ z. AtLeast k z (front text)) (sym one) (at_found k 1 text (x ∷ bs) eb (f bs))

two_bytes : (k : Kind) (m : ℕ) (text : List ℕ) (x : ℕ) → take m text ≡ x ∷ 61 ∷ [] → m ≤ length text
    → ((bs : List ℕ) → AtLeast k 2 (front (x ∷ 61 ∷ bs))) → AtLeast k m (front text)
two_bytes k m text x e le f =
    let (m1, bs1, em1, eb1, et1) = front_cons m text x (61 ∷ []) e in
    let (m2, bs2, em2, eb2, et2) = front_cons m1 bs1 61 [] et1 in
    let whole : text ≡ x ∷ 61 ∷ bs2 = eb1 ∙ ap (λ z. x ∷ z) eb2 in
    let le' : suc (suc m2) ≤ length (x ∷ 61 ∷ bs2) = subst (λ z. suc (suc m2) ≤ length z) whole
    (subst (λ z. z ≤ length text) (em1 ∙ ap suc em2) le) in
    let none : m2 ≡ 0 = take_nil m2 bs2 et2 (omega (arith, le')) in
    let two : m ≡ 2 = omega (arith, em1, em2, none) in
    subst (λ z. AtLeast k z (front text)) (sym two) (at_found k 2 text (x ∷ 61 ∷ bs2) whole (f bs2))

word_least : (m : ℕ) (text : List ℕ) → m ≤ length text → IsWord (take m text) → AtLeast Word m (front text)
word_least zero text le h = absurd h
word_least (suc m) [] le h = absurd h
word_least (suc m) (b ∷ bs) le (e, all) =
    let ih = run_bound is_word bs m (omega arith) all in
    subst (λ t. AtLeast Word (suc m) (cond t (Some (Word, suc (prefix_len is_word bs)))
    (cond (is_digit b) (Some (Number, suc (prefix_len is_digit bs)))
    (cond (b == 39) (option_map (λ n. (Literal, suc n)) (quoted_len 39 bs))
    (cond (b == 34) (option_map (λ n. (Name, suc n)) (quoted_len 34 bs)) (sign b bs)))))) (sym e) (
      omega (
        arith,
        ih,
      ),
      λ h. refl,
    )

number_least : (m : ℕ) (text : List ℕ) → m ≤ length text → IsNumber (take m text) → AtLeast Number m (front text)
number_least zero text le h = absurd h
number_least (suc m) [] le h = absurd h
number_least (suc m) (b ∷ bs) le (e, all) =
    let ih = run_bound is_digit bs m (omega arith) all in
    let later = cond (b == 39) (option_map (λ n. (Literal, suc n)) (quoted_len 39 bs))
    (cond (b == 34) (option_map (λ n. (Name, suc n)) (quoted_len 34 bs)) (sign b bs)) in
    let isnt : is_letter b ≡ false = digit_letter b e in
    subst (λ t. AtLeast Number (suc m) (cond t (Some (Word, suc (prefix_len is_word bs)))
    (cond (is_digit b) (Some (Number, suc (prefix_len is_digit bs))) later))) (sym isnt)
    (subst (λ t. AtLeast Number (suc m) (cond t (Some (Number, suc (prefix_len is_digit bs))) later)) (sym e)
    (omega (arith, ih), λ h. refl))

quoted_least : (q : ℕ) (k : Kind) → ((bs : List ℕ) → front (q ∷ bs) ≡ option_map (λ n. (k, suc n)) (quoted_len q bs))
    → (m : ℕ) (text : List ℕ) → m ≤ length text → IsQuoted q (take m text) → AtLeast k m (front text)
quoted_least q k f m text le (content, e) =
    let (m', bs, em, eb, et) = front_cons m text q (doubled q content ++ q ∷ []) e in
    let le' : suc m' ≤ length (q ∷ bs) = subst (λ z. suc m' ≤ length z) eb (subst (λ z. z ≤ length text) em le) in
    let r = at_mapped k m' (quoted_len q bs) (reach q content m' bs et (omega (arith, le'))) in
    subst (λ z. AtLeast k z (front text)) (sym em) (at_found k (suc m') text (q ∷ bs) eb
    (subst (λ o. AtLeast k (suc m') o) (sym (f bs)) r))

-- no token at the front is longer than the one that is found
pub least : (k : Kind) (m : ℕ) (text : List ℕ) → m ≤ length text → SpellsKind k (take m text) → AtLeast k m (front text)
least Word m text le h = word_least m text le h
least Number m text le h = number_least m text le h
least Literal m text le h = quoted_least 39 Literal (λ bs. refl) m text le h
least Name m text le h = quoted_least 34 Name (λ bs. refl) m text le h
least Open m text le h = one_byte Open m text 40 h le (λ bs. (omega arith, λ h. refl))
least Close m text le h = one_byte Close m text 41 h le (λ bs. (omega arith, λ h. refl))
least Dot m text le h = one_byte Dot m text 46 h le (λ bs. (omega arith, λ h. refl))
least Plus m text le h = one_byte Plus m text 43 h le (λ bs. (omega arith, λ h. refl))
least Minus m text le h = one_byte Minus m text 45 h le (λ bs. (omega arith, λ h. refl))
least Eq m text le h = one_byte Eq m text 61 h le (λ bs. (omega arith, λ h. refl))
least Ne m text le h = two_bytes Ne m text 33 h le (λ bs. (omega arith, λ h. refl))
least Lt m text le h = one_byte Lt m text 60 h le (λ bs. equals_least Lt Le 1 bs (omega arith))
least Le m text le h = two_bytes Le m text 60 h le (λ bs. (omega arith, λ h. refl))
least Gt m text le h = one_byte Gt m text 62 h le (λ bs. equals_least Gt Ge 1 bs (omega arith))
least Ge m text le h = two_bytes Ge m text 62 h le (λ bs. (omega arith, λ h. refl))
least Stray m text le h = absurd h

-- the token that is found stands there
abbrev pub IsThere : List ℕ → Found → Type 0
IsThere text None = Unit {0}
IsThere text (Some x) = SpellsKind x.0 (take x.1 text) × (x.1 ≤ length text) × (0 < x.1) × (x.0 ≢ Stray)

there_one : (b : ℕ) (bs : List ℕ) (k : Kind) (rest : Found) (v : ℕ) → SpellsKind k (v ∷ []) → k ≢ Stray
    → ((b == v) ≡ false → IsThere (b ∷ bs) rest) → IsThere (b ∷ bs) (cond (b == v) (Some (k, 1)) rest)
there_one b bs k rest v sp isnt f = go (b == v) refl
  where
    go : (t : Bool) → (b == v) ≡ t → IsThere (b ∷ bs) (cond t (Some (k, 1)) rest)
    go true e = (subst (λ z. SpellsKind k (z ∷ [])) (sym (eqb-true b v e)) sp, omega arith, omega arith, isnt)
    go false e = f e

there_if : (b v : ℕ) (bs : List ℕ) (here rest : Found) → (b ≡ v → IsThere (b ∷ bs) here) → IsThere (b ∷ bs) rest
    → IsThere (b ∷ bs) (cond (b == v) here rest)
there_if b v bs here rest f g = go (b == v) refl
  where
    go : (t : Bool) → (b == v) ≡ t → IsThere (b ∷ bs) (cond t here rest)
    go true e = f (eqb-true b v e)
    go false e = g

there_equals : (v : ℕ) (one two : Kind) (bs : List ℕ) → SpellsKind one (v ∷ []) → one ≢ Stray
    → SpellsKind two (v ∷ 61 ∷ []) → two ≢ Stray → IsThere (v ∷ bs) (with_equals one two bs)
there_equals v one two [] s1 n1 s2 n2 = (s1, omega arith, omega arith, n1)
there_equals v one two (c ∷ bs) s1 n1 s2 n2 = go (c == 61) refl
  where
    go : (t : Bool) → (c == 61) ≡ t → IsThere (v ∷ c ∷ bs) (cond t (Some (two, 2)) (Some (one, 1)))
    go true e = (subst (λ z. SpellsKind two (v ∷ z ∷ [])) (sym (eqb-true c 61 e)) s2, omega arith, omega arith, n2)
    go false e = (s1, omega arith, omega arith, n1)

there_not : (bs : List ℕ) → IsThere (33 ∷ bs) (not_equals bs)
there_not [] = tt
there_not (c ∷ bs) = go (c == 61) refl
  where
    go : (t : Bool) → (c == 61) ≡ t → IsThere (33 ∷ c ∷ bs) (cond t (Some (Ne, 2)) None)
    go true e = (ap (λ z. 33 ∷ z ∷ []) (eqb-true c 61 e), omega arith, omega arith, λ h. cc)
    go false e = tt

there_sign : (b : ℕ) (bs : List ℕ) → IsThere (b ∷ bs) (sign b bs)
there_sign b bs =
    there_one b bs Open _ 40 refl (λ h. cc) (λ h.
    there_one b bs Close _ 41 refl (λ h. cc) (λ h.
    there_one b bs Dot _ 46 refl (λ h. cc) (λ h.
    there_one b bs Plus _ 43 refl (λ h. cc) (λ h.
    there_one b bs Minus _ 45 refl (λ h. cc) (λ h.
    there_one b bs Eq _ 61 refl (λ h. cc) (λ h.
    there_if b 33 bs _ _ (λ e. subst (λ z. IsThere (z ∷ bs) (not_equals bs)) (sym e) (there_not bs))
    (there_if b 60 bs _ _ (λ e. subst (λ z. IsThere (z ∷ bs) (with_equals Lt Le bs)) (sym e)
    (there_equals 60 Lt Le bs refl (λ h. cc) refl (λ h. cc)))
    (there_if b 62 bs _ _ (λ e. subst (λ z. IsThere (z ∷ bs) (with_equals Gt Ge bs)) (sym e)
    (there_equals 62 Gt Ge bs refl (λ h. cc) refl (λ h. cc))) tt))))))))

there_quoted : (q : ℕ) (k : Kind) (bs : List ℕ) → k ≢ Stray → ((bytes : List ℕ) → IsQuoted q bytes → SpellsKind k bytes)
    → IsThere (q ∷ bs) (option_map (λ n. (k, suc n)) (quoted_len q bs))
there_quoted q k bs isnt f = go (quoted_len q bs) (closes q bs)
  where
    go : (o : Option ℕ) → MatchOption o (Unit {0}) (Ends q bs) → IsThere (q ∷ bs) (option_map (λ n. (k, suc n)) o)
    go None h = tt
    go (Some n) (content, e, le, pos) = (f (q ∷ take n bs) (content, ap (λ z. q ∷ z) e), omega arith, omega arith, isnt)

-- where a token is found, bytes at the front spell it, one or more, and it is no stray one
pub there : (text : List ℕ) → IsThere text (front text)
there [] = tt
there (b ∷ bs) = go (is_letter b) refl (is_digit b) refl
  where
    go : (t : Bool) → is_letter b ≡ t → (u : Bool) → is_digit b ≡ u
        → IsThere (b ∷ bs) (cond t (Some (Word, suc (prefix_len is_word bs)))
        (cond u (Some (Number, suc (prefix_len is_digit bs)))
        (cond (b == 39) (option_map (λ n. (Literal, suc n)) (quoted_len 39 bs))
        (cond (b == 34) (option_map (λ n. (Name, suc n)) (quoted_len 34 bs)) (sign b bs)))))
    go true e u e' = let le = run_le is_word bs in ((e, run_all is_word bs), omega arith, omega arith, λ h. cc)
    go false e true e' = let le = run_le is_digit bs in ((e', run_all is_digit bs), omega arith, omega arith, λ h. cc)
    go false e false e' =
        there_if b 39 bs _ _ (λ h. subst (λ z. IsThere (z ∷ bs) (option_map (λ n. (Literal, suc n)) (quoted_len 39 bs)))
        (sym h) (there_quoted 39 Literal bs (λ h. cc) (λ bytes q. q)))
        (there_if b 34 bs _ _ (λ h. subst (λ z. IsThere (z ∷ bs) (option_map (λ n. (Name, suc n)) (quoted_len 34 bs)))
        (sym h) (there_quoted 34 Name bs (λ h. cc) (λ bytes q. q)))
        (there_sign b bs))

-- the token at the front, or the rest where none begins
not_stray : (text : List ℕ) (k : Kind) (n : ℕ) → k ≢ Stray → IsLongestKind text k n → IsNextKind text k n
not_stray text Word n isnt h = h
not_stray text Stray n isnt h = absurd (isnt refl)
not_stray text k n isnt h = h

-- a token that is found is the one that comes next, with one byte or more, within the text
pub next_some : (text : List ℕ) (k : Kind) (n : ℕ) → front text ≡ Some (k, n) → IsNextKind text k n × (n ≤ length text)
    × (0 < n)
next_some text k n e =
    let h : IsThere text (Some (k, n)) = subst (λ o. IsThere text o) e (there text) in (
      not_stray text k n h.3 (record {
        spelled = h.0;
        within = h.1;
        longest = λ other m le sp. (subst (λ o. AtLeast other m o) e (least other m text le sp)).0;
      }),
      h.1,
      h.2,
    )

-- where none is found, no token begins, and the whole text is stray
pub next_none : (text : List ℕ) → front text ≡ None → IsNextKind text Stray (length text)
next_none text e = record {
  all = refl;
  no_token = λ kind m le sp. subst (λ o. AtLeast kind m o) e
      (least kind m text le sp);
}

-- a closing quote that is found lies within the text
pub quoted_within : (q : ℕ) (bs : List ℕ) → MatchOption (quoted_len q bs) (Unit {0}) (λ n. n ≤ length bs)
quoted_within q bs = go (quoted_len q bs) (closes q bs)
  where
    go : (o : Option ℕ) → MatchOption o (Unit {0}) (Ends q bs) → MatchOption o (Unit {0}) (λ n. n ≤ length bs)
    go None h = tt
    go (Some n) h = h.2

-- one turn of the search for the closing quote
pub turn_other : (q at b : ℕ) (best : Option ℕ) (rest : List ℕ) → (b == q) ≡ false
    → found_by at best (quoted_len q (b ∷ rest)) ≡ found_by (at + 1) best (quoted_len q rest)
turn_other q at b best rest e = ap (found_by at best) (other q b rest e) ∙ go (quoted_len q rest)
  where
    go : (o : Option ℕ) → found_by at best (option_map suc o) ≡ found_by (at + 1) best o
    go None = refl
    go (Some n) = let h : at + suc n ≡ at + 1 + n = omega arith in ap (λ x. Some x) h

-- where two quotes stand together, the first is the best end so far, and the search goes on behind both
pub turn_twice : (q at b c : ℕ) (best : Option ℕ) (rest : List ℕ) → (b == q) ≡ true → (c == q) ≡ true
    → found_by at best (quoted_len q (b ∷ c ∷ rest)) ≡ found_by (at + 2) (Some (at + 1)) (quoted_len q rest)
turn_twice q at b c best rest e e' = ap (found_by at best) (twice q b c rest e e') ∙ go (quoted_len q rest)
  where
    go : (o : Option ℕ) → found_by at best (Some (later o)) ≡ found_by (at + 2) (Some (at + 1)) o
    go None = refl
    go (Some n) = let h : at + suc (suc n) ≡ at + 2 + n = omega arith in ap (λ x. Some x) h

-- which token comes next is determined
is_stray : (k : Kind) → (k ≡ Stray) ⊎ (k ≡ Stray → ⊥)
is_stray Stray = inl refl
is_stray Word = inr (λ e. cc)
is_stray k = inr (λ e. cc)

longest_of : (text : List ℕ) (k : Kind) (n : ℕ) → (k ≡ Stray → ⊥) → IsNextKind text k n → IsLongestKind text k n
longest_of text Word n isnt h = h
longest_of text Stray n isnt h = absurd (isnt refl)
longest_of text k n isnt h = h

stray_of : (text : List ℕ) (k : Kind) (n : ℕ) → k ≡ Stray → IsNextKind text k n → IsStrayKind text n
stray_of text k n e h = subst (λ z. IsNextKind text z n) e h

front_longest : (text : List ℕ) (k : Kind) (n : ℕ) → IsLongestKind text k n → front text ≡ Some (k, n)
front_longest text k n h = go (front text) (there text) (least k n text h.within h.spelled)
  where
    go : (o : Found) → IsThere text o → AtLeast k n o → o ≡ Some (k, n)
    go None t a = absurd a
    go (Some x) (sp, le, pos, isnt) (a, same) =
        let le' = h.longest x.0 x.1 le sp in
        let en : x.1 ≡ n = omega (arith, a, le') in
        ap₂ (λ (k : Kind) (n : ℕ). Some (k, n)) (same le') en

front_stray : (text : List ℕ) (n : ℕ) → IsStrayKind text n → front text ≡ None
front_stray text n h = go (front text) (there text)
  where
    go : (o : Found) → IsThere text o → o ≡ None
    go None t = refl
    go (Some x) (sp, le, pos, isnt) = absurd (h.no_token x.0 x.1 le sp)

not_both : (o : Found) (x : Kind × ℕ) → o ≡ None → o ≡ Some x → ⊥
not_both None x e e' = let bad : ⊥ = cc in bad
not_both (Some y) x e e' = let bad : ⊥ = cc in bad

same_found : (o : Found) (k k' : Kind) (n n' : ℕ) → o ≡ Some (k, n) → o ≡ Some (k', n') → (k ≡ k') × (n ≡ n')
same_found None k k' n n' e e' = let bad : ⊥ = cc in absurd bad
same_found (Some x) k k' n n' e e' =
    let a : x ≡ (k, n) = cc in
    let b : x ≡ (k', n') = cc in (
      sym (ap (λ (z : Kind × ℕ). z.0) a) ∙ ap (λ (z : Kind × ℕ). z.0) b,
      sym (ap (λ (z : Kind × ℕ). z.1) a) ∙ ap (λ (z : Kind × ℕ). z.1) b,
    )

-- at the front of a text one kind of token comes next, with one length
pub next_unique : (text : List ℕ) (k k' : Kind) (n n' : ℕ) → IsNextKind text k n → IsNextKind text k' n' → (k ≡ k')
    × (n ≡ n')
next_unique text k k' n n' h h' = go (is_stray k) (is_stray k')
  where
    go : (k ≡ Stray) ⊎ (k ≡ Stray → ⊥) → (k' ≡ Stray) ⊎ (k' ≡ Stray → ⊥) → (k ≡ k') × (n ≡ n')
    go (inl e) (inl e') = (e ∙ sym e', (stray_of text k n e h).all ∙ sym (stray_of text k' n' e' h').all)
    go (inl e) (inr e') =
        absurd (not_both (front text) (k', n') (front_stray text n (stray_of text k n e h))
        (front_longest text k' n' (longest_of text k' n' e' h')))
    go (inr e) (inl e') =
        absurd (not_both (front text) (k, n) (front_stray text n' (stray_of text k' n' e' h'))
        (front_longest text k n (longest_of text k n e h)))
    go (inr e) (inr e') =
        same_found (front text) k k' n n' (front_longest text k n (longest_of text k n e h))
        (front_longest text k' n' (longest_of text k' n' e' h'))
