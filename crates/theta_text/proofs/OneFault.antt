-- A text has a tree or a fault, and no second fault.
use Rattle.std.proofs.Common.{◌≡◌, ℕ, List, [], ◌∷◌, ◌++◌, length, Result, Ok, Err, IfOk, MatchResult, ◌⊎◌, inl, inr}
use Rattle.std.proofs.Common.{refl, sym, ap, subst, ◌∙◌}
use Rattle.std.proofs.lemmas.List.{map-append}
use Rattle.theta_tree.specs.declared.token.Token.{Token}
use Rattle.theta_tree.specs.declared.token.Token.TheVariants.{Number, Sign}
use Rattle.theta_tree.specs.declared.token.Placed.{Placed}
use Rattle.theta_tree.specs.declared.tree.Pred.{Pred}
use Rattle.theta_tree.specs.declared.fault.PredFault.{PredFault}
use Rattle.theta_tree.specs.declared.fault.PredFault.TheVariants as faults
use Rattle.theta_tree.specs.Tokens.{AreTokens}
use Rattle.theta_tree.specs.Grammar.{Tree, Limits, Reads, IsOpen}
use Rattle.theta_tree.specs.Faults.{words, place_of, IsStuck, IsSyntaxFault, Passes, IsNesting, IsSign, IsNumber}
use Rattle.theta_text.specs.Machine.{Symbol, Step, step, start}
use Rattle.theta_tree.specs.Texts.{tree_of, TextReads, IsSyntaxAt, IsDeepAt, IsWideAt, IsLiteralAt, IsFaultOf}
use Rattle.theta_text.proofs.MachineLaws.{Goes}
use Rattle.theta_text.proofs.Runs.{then_run, run, run_pull, reads_start, open_goes, goes_open}
use Rattle.theta_text.proofs.Stops.{goes_ok}
use Rattle.theta_text.proofs.Places.{tokens_unique}

-- the machine goes over a front of what it goes over
run_front : (L : Limits) (a b : List Token) (s : List Symbol) (P : List Symbol → Type 0) → Goes (run L s (a ++ b)) P
    → (s' : List Symbol) × (run L s a ≡ Ok s')
run_front L [] b s P g = (s, refl)
run_front L (t ∷ ts) b s P g = go (λ s1 g1. run_front L ts b s1 P g1) (step L s t) refl g
  where
    go : ((s1 : List Symbol) → Goes (run L s1 (ts ++ b)) P → (s' : List Symbol) × (run L s1 ts ≡ Ok s'))
        → (r : Step) → step L s t ≡ r → Goes (then_run r (λ s'. run L s' (ts ++ b))) P → (s' : List Symbol)
        × (run L s (t ∷ ts) ≡ Ok s')
    go ih (Ok s1) e g1 = let (s2, e2) = ih s1 g1 in (s2, ap (λ x. then_run x (λ s'. run L s' ts)) e ∙ e2)
    go ih (Err k) e g1 = absurd g1

-- a front of an open front is open
open_front : (L : Limits) (a b : List Token) → IsOpen L (a ++ b) → IsOpen L a
open_front L a b o = let (s, e) = run_front L a b (start L) _ (open_goes L (a ++ b) o) in goes_open L a s e

-- and so is one of a predicate
read_front : (L : Limits) (a b : List Token) (t : Tree) → Reads L (a ++ b) t → IsOpen L a
read_front L a b t r =
    let (s, e, p) = goes_ok _ _ (run_pull L a b (start L) (tt, (tt, tt)) (reads_start L (a ++ b) t r)) in
    goes_open L a s e

-- within the limits nothing goes on here
abbrev pub Blocked : Limits → List Token → List Token → Type 0
Blocked L front [] = (t : Tree) → Reads L front t → ⊥
Blocked L front (t ∷ ts) = IsOpen L (front ++ t ∷ []) → ⊥

-- behind the front, at the place, is a token of this kind with which some predicate of some size goes on
abbrev pub At : (Token → Type 0) → List Placed → List Placed → ℕ → Type 0
At IsOf front [] place = ⊥
At IsOf front (p ∷ ps) place = (place ≡ p.place) × IsOf p.token
    × ((L : Limits) × IsOpen L (words front ++ p.token ∷ []))

-- what a fault tells of a front and the rest: one of syntax, that the front is stuck before the rest; one of a limit,
-- that some predicate has the next token there, and that this limit bounds such tokens
abbrev pub Says : ℕ → List Placed → List Placed → PredFault → Type 0
Says end front rest (faults.Syntax place) = (place ≡ place_of end rest) × IsStuck (words front) (words rest)
Says end front rest (faults.Deep place) = At IsNesting front rest place
Says end front rest (faults.Wide place) = At IsSign front rest place
Says end front rest (faults.Literal place) = At IsNumber front rest place
Says end front rest faults.Memory = ⊥

at_stuck : (IsOf : Token → Type 0) (front rest : List Placed) (place : ℕ) → IsStuck (words front) (words rest)
    → At IsOf front rest place → ⊥
at_stuck IsOf front [] place stuck h = h
at_stuck IsOf front (p ∷ ps) place stuck (e, is, (L, o)) = stuck L o

at_place : (A B : Token → Type 0) (front rest : List Placed) (x y : ℕ) → At A front rest x → At B front rest y → x ≡ y
at_place A B front [] x y h h' = absurd h
at_place A B front (p ∷ ps) x y (e, is, o) (e', is', o') = e ∙ sym e'

at_kinds : (A B : Token → Type 0) (front rest : List Placed) (x y : ℕ) → ((t : Token) → A t → B t → ⊥)
    → At A front rest x → At B front rest y → ⊥
at_kinds A B front [] x y apart h h' = h
at_kinds A B front (p ∷ ps) x y apart (e, is, o) (e', is', o') = apart p.token is is'

nesting_sign : (t : Token) → IsNesting t → IsSign t → ⊥
nesting_sign (Sign m) h h' = h
nesting_sign t h h' = h'

nesting_number : (t : Token) → IsNesting t → IsNumber t → ⊥
nesting_number (Number v) h h' = h
nesting_number t h h' = h'

sign_number : (t : Token) → IsSign t → IsNumber t → ⊥
sign_number (Number v) h h' = h
sign_number t h h' = h'

same_says : (end : ℕ) (front rest : List Placed) (f g : PredFault) → Says end front rest f → Says end front rest g
    → f ≡ g
same_says end front rest (faults.Syntax x) (faults.Syntax y) (e, stuck) (e', stuck') =
    ap (λ z. faults.Syntax z) (e ∙ sym e')
same_says end front rest (faults.Syntax x) (faults.Deep y) (e, stuck) h =
    absurd (at_stuck IsNesting front rest y stuck h)
same_says end front rest (faults.Syntax x) (faults.Wide y) (e, stuck) h = absurd (at_stuck IsSign front rest y stuck h)
same_says end front rest (faults.Syntax x) (faults.Literal y) (e, stuck) h =
    absurd (at_stuck IsNumber front rest y stuck h)
same_says end front rest (faults.Deep x) (faults.Syntax y) h (e, stuck) =
    absurd (at_stuck IsNesting front rest x stuck h)
same_says end front rest (faults.Wide x) (faults.Syntax y) h (e, stuck) = absurd (at_stuck IsSign front rest x stuck h)
same_says end front rest (faults.Literal x) (faults.Syntax y) h (e, stuck) =
    absurd (at_stuck IsNumber front rest x stuck h)
same_says end front rest (faults.Deep x) (faults.Deep y) h h' =
    ap (λ z. faults.Deep z) (at_place IsNesting IsNesting front rest x y h h')
same_says end front rest (faults.Wide x) (faults.Wide y) h h' =
    ap (λ z. faults.Wide z) (at_place IsSign IsSign front rest x y h h')
same_says end front rest (faults.Literal x) (faults.Literal y) h h' =
    ap (λ z. faults.Literal z) (at_place IsNumber IsNumber front rest x y h h')
same_says end front rest (faults.Deep x) (faults.Wide y) h h' =
    absurd (at_kinds IsNesting IsSign front rest x y nesting_sign h h')
same_says end front rest (faults.Wide x) (faults.Deep y) h h' =
    absurd (at_kinds IsNesting IsSign front rest y x nesting_sign h' h)
same_says end front rest (faults.Deep x) (faults.Literal y) h h' =
    absurd (at_kinds IsNesting IsNumber front rest x y nesting_number h h')
same_says end front rest (faults.Literal x) (faults.Deep y) h h' =
    absurd (at_kinds IsNesting IsNumber front rest y x nesting_number h' h)
same_says end front rest (faults.Wide x) (faults.Literal y) h h' =
    absurd (at_kinds IsSign IsNumber front rest x y sign_number h h')
same_says end front rest (faults.Literal x) (faults.Wide y) h h' =
    absurd (at_kinds IsSign IsNumber front rest y x sign_number h' h)
same_says end front rest faults.Memory g h h' = absurd h
same_says end front rest f faults.Memory h h' = absurd h'

-- where the tokens leave the limits, and what is wrong there
pub record Leaves (L : Limits) (end : ℕ) (tokens : List Placed) (f : PredFault) : Type 0 where
  pub front : List Placed
  pub rest : List Placed
  pub whole : tokens ≡ front ++ rest
  pub open_before : IsOpen L (words front)
  pub blocked : Blocked L (words front) (words rest)
  pub says : Says end front rest f

syntax_blocked : (L : Limits) (front rest : List Token) → IsStuck front rest → Blocked L front rest
syntax_blocked L front [] stuck = stuck L
syntax_blocked L front (t ∷ ts) stuck = stuck L

syntax_leaves : (L : Limits) (end : ℕ) (tokens : List Placed) (place : ℕ) → IsSyntaxFault L end tokens place
    → Leaves L end tokens (faults.Syntax place)
syntax_leaves L end tokens place h = record {
  front = h.front;
  rest = h.rest;
  whole = h.whole;
  open_before = h.open_before;
  blocked = syntax_blocked L (words h.front) (words h.rest) h.stuck;
  says = (h.there, h.stuck);
}

passes_leaves : (L wider : Limits) (end : ℕ) (tokens : List Placed) (place : ℕ) (IsOf : Token → Type 0) (f : PredFault)
    → ((front rest : List Placed) → At IsOf front rest place → Says end front rest f) → Passes L wider tokens place IsOf
    → Leaves L end tokens f
passes_leaves L wider end tokens place IsOf f say h = record {
  front = h.front;
  rest = h.next ∷ h.rest;
  whole = h.whole;
  open_before = h.open_before;
  blocked = h.not_open;
  says = say h.front (h.next ∷ h.rest) (h.there, h.kind, (wider, h.open_wider));
}

leaves : (L : Limits) (text : List ℕ) (f : PredFault) → IsFaultOf L text f → (tokens : List Placed)
    × AreTokens text tokens × Leaves L (length text) tokens f
leaves L text (faults.Syntax place) (ts, are, h) = (ts, are, syntax_leaves L (length text) ts place h)
leaves L text (faults.Deep place) (ts, are, h) = (
  ts,
  are,
  passes_leaves L _ (length text) ts place IsNesting
      (faults.Deep place) (λ front rest a. a) h,
)
leaves L text (faults.Wide place) (ts, are, h) = (
  ts,
  are,
  passes_leaves L _ (length text) ts place IsSign
      (faults.Wide place) (λ front rest a. a) h,
)
leaves L text (faults.Literal place) (ts, are, (greatest, h)) =
    (ts, are, passes_leaves L _ (length text) ts place IsNumber (faults.Literal place) (λ front rest a. a) h)
leaves L text faults.Memory h = absurd h

-- two ways to part one list
abbrev pub IsLonger : List Placed → List Placed → List Placed → List Placed → Type 0
IsLonger a b longer shorter = (x : Placed) × (xs : List Placed) × (longer ≡ a ++ x ∷ xs) × (b ≡ x ∷ (xs ++ shorter))

-- the one front is longer, or the other, or both ways are the same
abbrev pub Parts : List Placed → List Placed → List Placed → List Placed → Type 0
Parts a b a' b' = IsLonger a b a' b' ⊎ (IsLonger a' b' a b ⊎ ((a ≡ a') × (b ≡ b')))

parts_cons : (x : Placed) (xs b ys b' : List Placed) → Parts xs b ys b' → Parts (x ∷ xs) b (x ∷ ys) b'
parts_cons x xs b ys b' (inl (z, zs, e, e')) = inl (z, zs, ap (λ l. x ∷ l) e, e')
parts_cons x xs b ys b' (inr (inl (z, zs, e, e'))) = inr (inl (z, zs, ap (λ l. x ∷ l) e, e'))
parts_cons x xs b ys b' (inr (inr (e, e'))) = inr (inr (ap (λ l. x ∷ l) e, e'))

parts : (a b a' b' : List Placed) → a ++ b ≡ a' ++ b' → Parts a b a' b'
parts [] b [] b' e = inr (inr (refl, e))
parts [] b (y ∷ ys) b' e = inl (y, ys, refl, e)
parts (x ∷ xs) b [] b' e = inr (inl (x, xs, refl, sym e))
parts (x ∷ xs) b (y ∷ ys) b' e =
    let head : x ≡ y = cc in
    let tail : xs ++ b ≡ ys ++ b' = cc in
    subst (λ z. Parts (x ∷ xs) b (z ∷ ys) b') head (parts_cons x xs b ys b' (parts xs b ys b' tail))

append_cons : (ts : List Token) (t : Token) (us : List Token) → ts ++ t ∷ us ≡ (ts ++ t ∷ []) ++ us
append_cons [] t us = refl
append_cons (x ∷ xs) t us = ap (λ l. x ∷ l) (append_cons xs t us)

words_cons : (front : List Placed) (x : Placed) (xs : List Placed)
    → words (front ++ x ∷ xs) ≡ (words front ++ x.token ∷ []) ++ words xs
words_cons front x xs = map-append (λ p. p.token) front (x ∷ xs) ∙ append_cons (words front) x.token (words xs)

too_far : (L : Limits) (front rest longer shorter : List Placed) → IsLonger front rest longer shorter
    → Blocked L (words front) (words rest) → IsOpen L (words longer) → ⊥
too_far L front rest longer shorter (x, xs, e, er) blocked o =
    let b : IsOpen L (words front ++ x.token ∷ []) → ⊥ = subst (λ z. Blocked L (words front) (words z)) er blocked in
    b (open_front L (words front ++ x.token ∷ []) (words xs)
    (subst (λ z. IsOpen L z) (ap words e ∙ words_cons front x xs) o))

same_fault_at : (L : Limits) (end : ℕ) (tokens : List Placed) (f g : PredFault) → Leaves L end tokens f
    → Leaves L end tokens g → f ≡ g
same_fault_at L end tokens f g a b = go (parts a.front a.rest b.front b.rest (sym a.whole ∙ b.whole))
  where
    go : Parts a.front a.rest b.front b.rest → f ≡ g
    go (inl longer) = absurd (too_far L a.front a.rest b.front b.rest longer a.blocked b.open_before)
    go (inr (inl longer)) = absurd (too_far L b.front b.rest a.front a.rest longer b.blocked a.open_before)
    go (inr (inr (e, er))) =
        same_says end b.front b.rest f g (subst (λ z. Says end z b.rest f) e
        (subst (λ z. Says end a.front z f) er a.says)) b.says

-- a text has at most one fault
pub one_fault : (L : Limits) (text : List ℕ) (f g : PredFault) → IsFaultOf L text f → IsFaultOf L text g → f ≡ g
one_fault L text f g hf hg =
    let (ts, are, a) = leaves L text f hf in
    let (us, are', b) = leaves L text g hg in
    same_fault_at L (length text) ts f g a (subst (λ z. Leaves L (length text) z g) (tokens_unique text us ts are' are)
    b)

nil_append : (ts : List Placed) → words (ts ++ []) ≡ words ts
nil_append [] = refl
nil_append (t ∷ ts) = ap (λ l. t.token ∷ l) (nil_append ts)

unread : (L : Limits) (front rest : List Placed) (t : Tree) → Blocked L (words front) (words rest)
    → Reads L (words (front ++ rest)) t → ⊥
unread L front [] t blocked r = blocked t (subst (λ z. Reads L z t) (nil_append front) r)
unread L front (x ∷ xs) t blocked r = blocked (read_front L (words front ++ x.token ∷ []) (words xs) t
    (subst (λ z. Reads L z t) (words_cons front x xs) r))

-- and none where it has a tree
pub no_tree : (L : Limits) (text : List ℕ) (f : PredFault) (t : Tree) → IsFaultOf L text f → TextReads L text t → ⊥
no_tree L text f t hf (us, are', r) =
    let (ts, are, a) = leaves L text f hf in
    let same : us ≡ a.front ++ a.rest = tokens_unique text us ts are' are ∙ a.whole in
    unread L a.front a.rest t a.blocked (subst (λ z. Reads L (words z) t) same r)

-- what is answered is the text's fault, where it has one
pub exact_answer : (L : Limits) (text : List ℕ) (r : Result Pred PredFault)
    → IfOk r (λ pred. TextReads L text (tree_of pred))
    → ((place : ℕ) → r ≡ Err (faults.Syntax place) → IsSyntaxAt L text place)
    → ((place : ℕ) → r ≡ Err (faults.Deep place) → IsDeepAt L text place)
    → ((place : ℕ) → r ≡ Err (faults.Wide place) → IsWideAt L text place)
    → ((place : ℕ) → r ≡ Err (faults.Literal place) → IsLiteralAt L text place)
    → (fault : PredFault) → IsFaultOf L text fault → MatchResult r (λ pred. ⊥) (λ found. (found ≡ fault)
    ⊎ (found ≡ faults.Memory))
exact_answer L text (Ok pred) ok syntax deep wide literal fault h = no_tree L text fault (tree_of pred) h ok
exact_answer L text (Err (faults.Syntax x)) ok syntax deep wide literal fault h =
    inl (one_fault L text (faults.Syntax x) fault (syntax x refl) h)
exact_answer L text (Err (faults.Deep x)) ok syntax deep wide literal fault h =
    inl (one_fault L text (faults.Deep x) fault (deep x refl) h)
exact_answer L text (Err (faults.Wide x)) ok syntax deep wide literal fault h =
    inl (one_fault L text (faults.Wide x) fault (wide x refl) h)
exact_answer L text (Err (faults.Literal x)) ok syntax deep wide literal fault h =
    inl (one_fault L text (faults.Literal x) fault (literal x refl) h)
exact_answer L text (Err faults.Memory) ok syntax deep wide literal fault h = inr refl
