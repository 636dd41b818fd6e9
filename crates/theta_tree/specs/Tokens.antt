-- The tokens of a text: which bytes spell each, and that the longest stands at each place.
use Rattle.std.specs.Prelude.{◌≡◌, ℕ, ◌+◌, ◌*◌, ◌-◌, ◌<◌, ◌≤◌, List, [], ◌∷◌, ◌++◌, length, take, drop, Bool, true}
use Rattle.std.specs.Prelude.{false, cond, ◌&&◌, ◌||◌, ◌==◌, nat_le, bytes_eq, codes}
use Rattle.std.specs.List.{prefix_len, AllByRecursion}
use Rattle.theta_tree.specs.declared.token.Keyword.{Keyword}
use Rattle.theta_tree.specs.declared.token.Keyword.TheVariants.{And, Or, Not, Abs, Text, R, S, Other}
use Rattle.theta_tree.specs.declared.token.Token.{Token}
use Rattle.theta_tree.specs.declared.token.Token.TheVariants.{Word, Number, Literal, Quoted, Open, Close, Dot, Sign}
use Rattle.theta_tree.specs.declared.token.Token.TheVariants.{Compare, Stray}
use Rattle.theta_tree.specs.declared.token.Placed.{Placed}
use Rattle.theta_tree.specs.declared.tree.Op.{Op}
use Rattle.theta_tree.specs.declared.tree.Op.TheVariants.{Eq, Ne, Lt, Le, Gt, Ge}

-- a letter of ASCII or `_`
abbrev pub is_letter : ℕ → Bool
is_letter b = (nat_le 65 b && nat_le b 90) || (nat_le 97 b && nat_le b 122) || (b == 95)

-- a digit of ASCII
abbrev pub is_digit : ℕ → Bool
is_digit b = nat_le 48 b && nat_le b 57

-- a letter or a digit
abbrev pub is_word : ℕ → Bool
is_word b = is_letter b || is_digit b

-- space, tab, LF and CR
abbrev pub is_blank : ℕ → Bool
is_blank b = (b == 32) || (b == 9) || (b == 10) || (b == 13)

-- a letter, then letters and digits
abbrev pub IsWord : List ℕ → Type 0
IsWord [] = ⊥
IsWord (b ∷ bs) = (is_letter b ≡ true) × AllByRecursion (λ b. is_word b ≡ true) bs

-- one or more digits
abbrev pub IsNumber : List ℕ → Type 0
IsNumber [] = ⊥
IsNumber (b ∷ bs) = (is_digit b ≡ true) × AllByRecursion (λ b. is_digit b ≡ true) bs

-- the number that digits spell, behind digits that spell so much
abbrev pub number_from : ℕ → List ℕ → ℕ
number_from before [] = before
number_from before (b ∷ bs) = number_from (before * 10 + (b - 48)) bs

-- the number that digits spell
abbrev pub number_of : List ℕ → ℕ
number_of digits = number_from 0 digits

-- what a word means in the grammar, with upper and lower case apart
abbrev pub keyword_of : List ℕ → Keyword
keyword_of word =
    cond (bytes_eq word (codes "and")) And
    (cond (bytes_eq word (codes "or")) Or
    (cond (bytes_eq word (codes "not")) Not
    (cond (bytes_eq word (codes "abs")) Abs
    (cond (bytes_eq word (codes "text")) Text
    (cond (bytes_eq word (codes "r")) R
    (cond (bytes_eq word (codes "s")) S Other))))))

-- each quote twice
abbrev pub doubled : ℕ → List ℕ → List ℕ
doubled q [] = []
doubled q (b ∷ bs) = cond (b == q) (q ∷ q ∷ doubled q bs) (b ∷ doubled q bs)

-- a content between quotes, with each quote in it twice
abbrev pub in_quotes : ℕ → List ℕ → List ℕ
in_quotes q content = q ∷ (doubled q content ++ q ∷ [])

-- the bytes of a sign of comparison
abbrev pub sign_codes : Op → List ℕ
sign_codes Eq = 61 ∷ []
sign_codes Ne = 33 ∷ 61 ∷ []
sign_codes Lt = 60 ∷ []
sign_codes Le = 60 ∷ 61 ∷ []
sign_codes Gt = 62 ∷ []
sign_codes Ge = 62 ∷ 61 ∷ []

-- the bytes are this token, whole
abbrev pub Spells : Token → List ℕ → Type 0
Spells (Word keyword word) bytes = (bytes ≡ word) × IsWord word × (keyword ≡ keyword_of word)
Spells (Number digits) bytes = (bytes ≡ digits) × IsNumber digits
Spells (Literal content) bytes = bytes ≡ in_quotes 39 content
Spells (Quoted content) bytes = bytes ≡ in_quotes 34 content
Spells Open bytes = bytes ≡ 40 ∷ []
Spells Close bytes = bytes ≡ 41 ∷ []
Spells Dot bytes = bytes ≡ 46 ∷ []
Spells (Sign false) bytes = bytes ≡ 43 ∷ []
Spells (Sign true) bytes = bytes ≡ 45 ∷ []
Spells (Compare op) bytes = bytes ≡ sign_codes op
Spells Stray bytes = ⊥

-- the text begins with this token of n bytes, and with no longer one
pub record IsLongest (text : List ℕ) (token : Token) (n : ℕ) : Type 0 where
  pub spelled : Spells token (take n text)
  pub within : n ≤ length text
  pub longest : (other : Token) (m : ℕ) → m ≤ length text → Spells other (take m text) → m ≤ n

-- no token begins here, so the rest of the text is none
pub record IsStray (text : List ℕ) (n : ℕ) : Type 0 where
  pub all : n ≡ length text
  pub no_token : (token : Token) (m : ℕ) → m ≤ length text → Spells token (take m text) → ⊥

-- what stands at the front of the text, and how many bytes it has
abbrev pub IsNext : List ℕ → Token → ℕ → Type 0
IsNext text Stray n = IsStray text n
IsNext text token n = IsLongest text token n

-- these tokens stand in the text from this place on up to that one, with only blanks before each
abbrev pub Stand : List ℕ → ℕ → List Placed → ℕ → Type 0
Stand text from [] to = from ≡ to
Stand text from (p ∷ ps) to =
    (n : ℕ)
    × (p.place ≡ from + prefix_len is_blank (drop from text))
    × (p.place < length text)
    × IsNext (drop p.place text) p.token n
    × Stand text (p.place + n) ps to

-- the tokens of the text, with nothing but blanks behind them
abbrev pub AreTokens : List ℕ → List Placed → Type 0
AreTokens text ps =
    (to : ℕ) × (to ≤ length text) × Stand text 0 ps to
    × AllByRecursion (λ b. is_blank b ≡ true) (drop to text)
