-- A token and its kind say the same of the bytes.
use Rattle.std.proofs.Common.{◌≡◌, ℕ, List, [], ◌∷◌, ◌++◌, take, Bool, true, false, cond, ◌&&◌, ◌==◌, refl, sym, ap}
use Rattle.std.proofs.Common.{ap₂, subst, ◌∙◌}
use Rattle.std.proofs.lemmas.Bool.{eqb-true}
use Rattle.theta_text.specs.declared.lexer.kind.Kind.{Kind}
use Rattle.theta_text.specs.declared.lexer.kind.Kind.TheVariants as kinds
use Rattle.theta_tree.specs.declared.token.Token.{Token}
use Rattle.theta_tree.specs.declared.token.Token.TheVariants.{Word, Number, Literal, Quoted, Open, Close, Dot, Sign}
use Rattle.theta_tree.specs.declared.token.Token.TheVariants.{Compare, Stray}
use Rattle.theta_tree.specs.declared.tree.Op.TheVariants.{Eq, Ne, Lt, Le, Gt, Ge}
use Rattle.theta_tree.specs.Tokens.{IsWord, IsNumber, doubled, in_quotes, keyword_of, Spells, IsLongest, IsNext}
use Rattle.theta_text.specs.Kinds.{SpellsKind, IsLongestKind, IsNextKind, undoubled, unquoted, token_at}
use Rattle.theta_text.proofs.Quotes.{same_self, doubled-same, doubled-other}
use Rattle.theta_text.proofs.Fronts.{next_unique}

-- one byte of a quoted content
first_quote : (q b : ℕ) (bs : List ℕ) → (b == q) ≡ true → undoubled q false (b ∷ bs) ≡ undoubled q true bs
first_quote q b bs e = ap (λ t. cond (t && true) (undoubled q true bs) (b ∷ undoubled q false bs)) e

second_quote : (q b : ℕ) (bs : List ℕ) → (b == q) ≡ true → undoubled q true (b ∷ bs) ≡ b ∷ undoubled q false bs
second_quote q b bs e = ap (λ t. cond (t && false) (undoubled q true bs) (b ∷ undoubled q false bs)) e

other_byte : (q b : ℕ) (bs : List ℕ) → (b == q) ≡ false → undoubled q false (b ∷ bs) ≡ b ∷ undoubled q false bs
other_byte q b bs e = ap (λ t. cond (t && true) (undoubled q true bs) (b ∷ undoubled q false bs)) e

undoubled-doubled : (q : ℕ) (content : List ℕ) → undoubled q false (doubled q content ++ q ∷ []) ≡ content
undoubled-doubled q [] = first_quote q q [] (same_self q)
undoubled-doubled q (b ∷ bs) = go (undoubled-doubled q bs) (b == q) refl
  where
    go : undoubled q false (doubled q bs ++ q ∷ []) ≡ bs → (t : Bool) → (b == q) ≡ t
        → undoubled q false (doubled q (b ∷ bs) ++ q ∷ []) ≡ b ∷ bs
    go ih true e =
        ap (λ z. undoubled q false (z ++ q ∷ [])) (doubled-same q b bs e)
        ∙ first_quote q q (q ∷ (doubled q bs ++ q ∷ [])) (same_self q)
        ∙ second_quote q q (doubled q bs ++ q ∷ []) (same_self q)
        ∙ ap₂ (λ x xs. x ∷ xs) (sym (eqb-true b q e)) ih
    go ih false e =
        ap (λ z. undoubled q false (z ++ q ∷ [])) (doubled-other q b bs e)
        ∙ other_byte q b (doubled q bs ++ q ∷ []) e
        ∙ ap (λ xs. b ∷ xs) ih

unquoted-quoted : (q : ℕ) (bytes content : List ℕ) → bytes ≡ in_quotes q content → unquoted q bytes ≡ content
unquoted-quoted q bytes content e = ap (unquoted q) e ∙ undoubled-doubled q content

-- the kind of a token
abbrev pub kind_of : Token → Kind
kind_of (Word keyword word) = kinds.Word
kind_of (Number digits) = kinds.Number
kind_of (Literal content) = kinds.Literal
kind_of (Quoted content) = kinds.Name
kind_of Open = kinds.Open
kind_of Close = kinds.Close
kind_of Dot = kinds.Dot
kind_of (Sign false) = kinds.Plus
kind_of (Sign true) = kinds.Minus
kind_of (Compare Eq) = kinds.Eq
kind_of (Compare Ne) = kinds.Ne
kind_of (Compare Lt) = kinds.Lt
kind_of (Compare Le) = kinds.Le
kind_of (Compare Gt) = kinds.Gt
kind_of (Compare Ge) = kinds.Ge
kind_of Stray = kinds.Stray

spells_kind : (t : Token) (bytes : List ℕ) → Spells t bytes → SpellsKind (kind_of t) bytes
spells_kind (Word keyword word) bytes (e, is, same) = subst IsWord (sym e) is
spells_kind (Number digits) bytes (e, is) = subst IsNumber (sym e) is
spells_kind (Literal content) bytes e = (content, e)
spells_kind (Quoted content) bytes e = (content, e)
spells_kind Open bytes e = e
spells_kind Close bytes e = e
spells_kind Dot bytes e = e
spells_kind (Sign false) bytes e = e
spells_kind (Sign true) bytes e = e
spells_kind (Compare Eq) bytes e = e
spells_kind (Compare Ne) bytes e = e
spells_kind (Compare Lt) bytes e = e
spells_kind (Compare Le) bytes e = e
spells_kind (Compare Gt) bytes e = e
spells_kind (Compare Ge) bytes e = e
spells_kind Stray bytes e = e

kind_spells : (k : Kind) (bytes : List ℕ) → SpellsKind k bytes → Spells (token_at k bytes) bytes
kind_spells kinds.Word bytes is = (refl, is, refl)
kind_spells kinds.Number bytes is = (refl, is)
kind_spells kinds.Literal bytes (content, e) = e ∙ ap (in_quotes 39) (sym (unquoted-quoted 39 bytes content e))
kind_spells kinds.Name bytes (content, e) = e ∙ ap (in_quotes 34) (sym (unquoted-quoted 34 bytes content e))
kind_spells kinds.Open bytes e = e
kind_spells kinds.Close bytes e = e
kind_spells kinds.Dot bytes e = e
kind_spells kinds.Plus bytes e = e
kind_spells kinds.Minus bytes e = e
kind_spells kinds.Eq bytes e = e
kind_spells kinds.Ne bytes e = e
kind_spells kinds.Lt bytes e = e
kind_spells kinds.Le bytes e = e
kind_spells kinds.Gt bytes e = e
kind_spells kinds.Ge bytes e = e
kind_spells kinds.Stray bytes e = e

-- bytes spell one token of their kind
token_is : (t : Token) (bytes : List ℕ) → Spells t bytes → t ≡ token_at (kind_of t) bytes
token_is (Word keyword word) bytes (e, is, same) = ap₂ Word (same ∙ ap keyword_of (sym e)) (sym e)
token_is (Number digits) bytes (e, is) = ap Number (sym e)
token_is (Literal content) bytes e = ap Literal (sym (unquoted-quoted 39 bytes content e))
token_is (Quoted content) bytes e = ap Quoted (sym (unquoted-quoted 34 bytes content e))
token_is Open bytes e = refl
token_is Close bytes e = refl
token_is Dot bytes e = refl
token_is (Sign false) bytes e = refl
token_is (Sign true) bytes e = refl
token_is (Compare Eq) bytes e = refl
token_is (Compare Ne) bytes e = refl
token_is (Compare Lt) bytes e = refl
token_is (Compare Le) bytes e = refl
token_is (Compare Gt) bytes e = refl
token_is (Compare Ge) bytes e = refl
token_is Stray bytes e = refl

longest_token : (text : List ℕ) (k : Kind) (n : ℕ) → IsLongestKind text k n
    → IsLongest text (token_at k (take n text)) n
longest_token text k n h = record {
  spelled = kind_spells k (take n text) h.spelled;
  within = h.within;
  longest = λ other m le sp. h.longest (kind_of other) m le (spells_kind other (take m text) sp);
}

-- where a kind comes next in a text, so does the token of that kind that the bytes spell
pub next_token : (text : List ℕ) (k : Kind) (n : ℕ) → IsNextKind text k n → IsNext text (token_at k (take n text)) n
next_token text kinds.Stray n h = record {
  all = h.all;
  no_token = λ other m le sp. h.no_token (kind_of other) m le (spells_kind other (take m text) sp);
}
next_token text kinds.Word n h = longest_token text kinds.Word n h
next_token text k n h = longest_token text k n h

longest_kind : (text : List ℕ) (t : Token) (n : ℕ) → IsLongest text t n → IsLongestKind text (kind_of t) n
longest_kind text t n h = record {
  spelled = spells_kind t (take n text) h.spelled;
  within = h.within;
  longest = λ other m le sp. h.longest (token_at other (take m text)) m le (kind_spells other (take m text) sp);
}

abbrev SaysKind : List ℕ → Token → ℕ → Type 0
SaysKind text t n = IsNextKind text (kind_of t) n × (t ≡ token_at (kind_of t) (take n text))

says_longest : (text : List ℕ) (t : Token) (n : ℕ) → IsLongest text t n → IsLongestKind text (kind_of t) n
    × (t ≡ token_at (kind_of t) (take n text))
says_longest text t n h = (longest_kind text t n h, token_is t (take n text) h.spelled)

says_kind : (text : List ℕ) (t : Token) (n : ℕ) → IsNext text t n → SaysKind text t n
says_kind text (Word keyword word) n h = says_longest text (Word keyword word) n h
says_kind text (Number digits) n h = says_longest text (Number digits) n h
says_kind text (Literal content) n h = says_longest text (Literal content) n h
says_kind text (Quoted content) n h = says_longest text (Quoted content) n h
says_kind text Open n h = says_longest text Open n h
says_kind text Close n h = says_longest text Close n h
says_kind text Dot n h = says_longest text Dot n h
says_kind text (Sign false) n h = says_longest text (Sign false) n h
says_kind text (Sign true) n h = says_longest text (Sign true) n h
says_kind text (Compare Eq) n h = says_longest text (Compare Eq) n h
says_kind text (Compare Ne) n h = says_longest text (Compare Ne) n h
says_kind text (Compare Lt) n h = says_longest text (Compare Lt) n h
says_kind text (Compare Le) n h = says_longest text (Compare Le) n h
says_kind text (Compare Gt) n h = says_longest text (Compare Gt) n h
says_kind text (Compare Ge) n h = says_longest text (Compare Ge) n h
says_kind text Stray n h = (
  record {
    all = h.all;
    no_token = λ k m le sp. h.no_token (token_at k (take m text)) m le (kind_spells k (take m text) sp);
  },
  refl,
)

-- which token comes next is determined
pub same_next : (text : List ℕ) (t t' : Token) (n n' : ℕ) → IsNext text t n → IsNext text t' n' → (t ≡ t') × (n ≡ n')
same_next text t t' n n' h h' =
    let (k, e) = says_kind text t n h in
    let (k', e') = says_kind text t' n' h' in
    let both = next_unique text (kind_of t) (kind_of t') n n' k k' in
    (e ∙ ap₂ (λ (k : Kind) (m : ℕ). token_at k (take m text)) both.0 both.1 ∙ sym e', both.1)
