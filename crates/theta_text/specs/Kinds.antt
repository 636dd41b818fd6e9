-- What kind of token some bytes are, and what token they are.
use Rattle.std.specs.Prelude.{◌≡◌, ℕ, ◌≤◌, List, [], ◌∷◌, length, take, drop, Bool, true, false, cond, not, ◌&&◌, ◌==◌}
use Rattle.theta_text.specs.declared.lexer.kind.Kind.{Kind}
use Rattle.theta_text.specs.declared.lexer.kind.Kind.TheVariants.{Word, Number, Literal, Name, Open, Close, Dot, Plus}
use Rattle.theta_text.specs.declared.lexer.kind.Kind.TheVariants.{Minus, Eq, Ne, Lt, Le, Gt, Ge, Stray}
use Rattle.theta_tree.specs.declared.token.Token.{Token}
use Rattle.theta_tree.specs.declared.token.Token.TheVariants as tokens
use Rattle.theta_tree.specs.declared.tree.Op.TheVariants as ops
use Rattle.theta_tree.specs.Tokens.{IsWord, IsNumber, in_quotes, keyword_of}

-- the bytes are some content between these quotes
abbrev pub IsQuoted : ℕ → List ℕ → Type 0
IsQuoted q bytes = (content : List ℕ) × (bytes ≡ in_quotes q content)

-- the bytes are one token of this kind
abbrev pub SpellsKind : Kind → List ℕ → Type 0
SpellsKind Word bytes = IsWord bytes
SpellsKind Number bytes = IsNumber bytes
SpellsKind Literal bytes = IsQuoted 39 bytes
SpellsKind Name bytes = IsQuoted 34 bytes
SpellsKind Open bytes = bytes ≡ 40 ∷ []
SpellsKind Close bytes = bytes ≡ 41 ∷ []
SpellsKind Dot bytes = bytes ≡ 46 ∷ []
SpellsKind Plus bytes = bytes ≡ 43 ∷ []
SpellsKind Minus bytes = bytes ≡ 45 ∷ []
SpellsKind Eq bytes = bytes ≡ 61 ∷ []
SpellsKind Ne bytes = bytes ≡ 33 ∷ 61 ∷ []
SpellsKind Lt bytes = bytes ≡ 60 ∷ []
SpellsKind Le bytes = bytes ≡ 60 ∷ 61 ∷ []
SpellsKind Gt bytes = bytes ≡ 62 ∷ []
SpellsKind Ge bytes = bytes ≡ 62 ∷ 61 ∷ []
SpellsKind Stray bytes = ⊥

-- the text begins with a token of this kind and n bytes, and with no longer token of any kind
pub record IsLongestKind (text : List ℕ) (kind : Kind) (n : ℕ) : Type 0 where
  pub spelled : SpellsKind kind (take n text)
  pub within : n ≤ length text
  pub longest : (other : Kind) (m : ℕ) → m ≤ length text → SpellsKind other (take m text) → m ≤ n

-- no token of any kind begins here, so the rest of the text is none
pub record IsStrayKind (text : List ℕ) (n : ℕ) : Type 0 where
  pub all : n ≡ length text
  pub no_token : (kind : Kind) (m : ℕ) → m ≤ length text → SpellsKind kind (take m text) → ⊥

-- what kind of token stands at the front of the text, and how many bytes it has
abbrev pub IsNextKind : List ℕ → Kind → ℕ → Type 0
IsNextKind text Stray n = IsStrayKind text n
IsNextKind text kind n = IsLongestKind text kind n

-- the bytes without every quote that stands at an odd place of its run, which here has begun or not
abbrev pub undoubled : ℕ → Bool → List ℕ → List ℕ
undoubled q begun [] = []
undoubled q begun (b ∷ bs) =
    cond ((b == q) && not begun) (undoubled q true bs) (b ∷ undoubled q false bs)

-- what stands between two quotes
abbrev pub unquoted : ℕ → List ℕ → List ℕ
unquoted q bytes = undoubled q false (drop 1 bytes)

-- the token of this kind that the bytes spell
abbrev pub token_at : Kind → List ℕ → Token
token_at Word bytes = tokens.Word (keyword_of bytes) bytes
token_at Number bytes = tokens.Number bytes
token_at Literal bytes = tokens.Literal (unquoted 39 bytes)
token_at Name bytes = tokens.Quoted (unquoted 34 bytes)
token_at Open bytes = tokens.Open
token_at Close bytes = tokens.Close
token_at Dot bytes = tokens.Dot
token_at Plus bytes = tokens.Sign false
token_at Minus bytes = tokens.Sign true
token_at Eq bytes = tokens.Compare ops.Eq
token_at Ne bytes = tokens.Compare ops.Ne
token_at Lt bytes = tokens.Compare ops.Lt
token_at Le bytes = tokens.Compare ops.Le
token_at Gt bytes = tokens.Compare ops.Gt
token_at Ge bytes = tokens.Compare ops.Ge
token_at Stray bytes = tokens.Stray
