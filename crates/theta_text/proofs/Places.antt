-- The tokens that were found so far.
use Rattle.std.proofs.Common.{◌≡◌, ℕ, ◌+◌, ◌<◌, ◌≤◌, List, [], ◌∷◌, ◌++◌, length, drop, Bool, true, false, cond, refl}
use Rattle.std.proofs.Common.{sym, ap, subst, ◌∙◌, arith, ap₂}
use Rattle.std.proofs.lemmas.List.{length-drop, take_all}
use Rattle.std.specs.List.{prefix_len, AllByRecursion}
use Rattle.theta_tree.specs.declared.token.Token.{Token}
use Rattle.theta_tree.specs.declared.token.Placed.{Placed}
use Rattle.theta_tree.specs.Tokens.{is_blank, IsNext, Stand, AreTokens}
use Rattle.theta_text.proofs.Fronts.{run_bound}
use Rattle.theta_text.proofs.Spellings.{same_next}

-- the tokens stand in the text up to some place, and `at` is behind the blanks that follow there
abbrev pub StandsTo : List ℕ → List Placed → ℕ → Type 0
StandsTo text ps at = (to : ℕ) × (to ≤ length text) × Stand text 0 ps to
    × (at ≡ to + prefix_len is_blank (drop to text))

-- with the token that comes next behind the blanks, tokens that stand in the text still do
pub stand_push : (text : List ℕ) (from : ℕ) (ps : List Placed) (to : ℕ) (p : Placed) (n : ℕ) → Stand text from ps to
    → p.place ≡ to + prefix_len is_blank (drop to text) → p.place < length text → IsNext (drop p.place text) p.token n
    → Stand text from (ps ++ p ∷ []) (p.place + n)
stand_push text from [] to p n s e lt next = (
  n,
  e ∙ ap (λ z. z + prefix_len is_blank (drop z text)) (sym s),
  lt,
  next,
  refl,
)
stand_push text from (q ∷ qs) to p n (m, e', lt', next', s) e lt next =
    (m, e', lt', next', stand_push text (q.place + m) qs to p n s e lt next)

-- a run that goes to the end is the whole rest
pub all_run : (p : ℕ → Bool) (xs : List ℕ) → length xs ≤ prefix_len p xs → AllByRecursion (λ b. p b ≡ true) xs
all_run p [] le = tt
all_run p (x ∷ xs) le = go (λ le'. all_run p xs le') (p x) refl le
  where
    go : (length xs ≤ prefix_len p xs → AllByRecursion (λ b. p b ≡ true) xs) → (t : Bool) → p x ≡ t
        → length (x ∷ xs) ≤ cond t (1 + prefix_len p xs) 0 → (p x ≡ true) × AllByRecursion (λ b. p b ≡ true) xs
    go ih true e le' = (e, ih (omega arith))
    go ih false e le' = absurd (omega arith)

run_whole : (p : ℕ → Bool) (xs : List ℕ) → AllByRecursion (λ b. p b ≡ true) xs → length xs ≤ prefix_len p xs
run_whole p xs all = run_bound p xs (length xs) (omega arith)
    (subst (λ z. AllByRecursion (λ b. p b ≡ true) z) (sym (take_all (length xs) xs (omega arith))) all)

no_more : (text : List ℕ) (from : ℕ) (place : ℕ) → AllByRecursion (λ b. is_blank b ≡ true) (drop from text)
    → place ≡ from + prefix_len is_blank (drop from text) → place < length text → ⊥
no_more text from place all e lt =
    let run = run_whole is_blank (drop from text) all in
    let rest : length (drop from text) ≡ _ = length-drop from text in
    omega (arith, run, rest, e, lt)

same_placed : (p q : Placed) → p.token ≡ q.token → p.place ≡ q.place → p ≡ q
same_placed p q et ep = ap₂ {A = Token} {B = ℕ} (λ t x. record { token = t; place = x }) et ep

stand_unique : (text : List ℕ) (from : ℕ) (ps qs : List Placed) (to to' : ℕ) → Stand text from ps to
    → Stand text from qs to'
    → AllByRecursion (λ b. is_blank b ≡ true) (drop to text) → AllByRecursion (λ b. is_blank b ≡ true) (drop to' text)
    → ps ≡ qs
stand_unique text from [] [] to to' s s' all all' = refl
stand_unique text from [] (q ∷ qs) to to' s (m, e', lt', n', s') all all' =
    absurd (no_more text from q.place (subst (λ z. AllByRecursion (λ b. is_blank b ≡ true) (drop z text)) (sym s) all)
    e' lt')
stand_unique text from (p ∷ ps) [] to to' (m, e, lt, n, s) s' all all' =
    absurd (no_more text from p.place (subst (λ z. AllByRecursion (λ b. is_blank b ≡ true) (drop z text)) (sym s') all')
    e lt)
stand_unique text from (p ∷ ps) (q ∷ qs) to to' (m, e, lt, n, s) (m', e', lt', n', s') all all' =
    let ep : p.place ≡ q.place = e ∙ sym e' in
    let next = same_next (drop p.place text) p.token q.token m m' n
    (subst (λ z. IsNext (drop z text) q.token m') (sym ep) n') in
    let same : p ≡ q = same_placed p q next.0 ep in
    let end : q.place + m' ≡ p.place + m = ap₂ (λ x y. x + y) (sym ep) (sym next.1) in
    ap₂ (λ z zs. z ∷ zs) same (stand_unique text (p.place + m) ps qs to to' s (subst (λ z. Stand text z qs to') end s')
    all all')

-- a text has one list of tokens
pub tokens_unique : (text : List ℕ) (ps qs : List Placed) → AreTokens text ps → AreTokens text qs → ps ≡ qs
tokens_unique text ps qs (to, le, s, all) (to', le', s', all') = stand_unique text 0 ps qs to to' s s' all all'
