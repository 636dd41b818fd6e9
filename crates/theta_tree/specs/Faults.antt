-- Where a text leaves the grammar.
use Rattle.std.specs.Prelude.{◌≡◌, ℕ, suc, List, [], ◌∷◌, ◌++◌, map, ⊤}
use Rattle.theta_tree.specs.Grammar.{Tree, Limits, Reads, IsOpen}
use Rattle.theta_tree.specs.declared.token.Token.{Token}
use Rattle.theta_tree.specs.declared.token.Token.TheVariants.{Word, Number, Open, Sign}
use Rattle.theta_tree.specs.declared.token.Keyword.TheVariants.{Not}
use Rattle.theta_tree.specs.declared.token.Placed.{Placed}

-- the tokens without their places
abbrev pub words : List Placed → List Token
words ps = map (λ p. p.token) ps

-- where the rest begins, in a text that ends at end
abbrev pub place_of : ℕ → List Placed → ℕ
place_of end [] = end
place_of end (p ∷ ps) = p.place

-- after front the next token is one that no predicate of any size has there, or the text ends too soon
abbrev pub IsStuck : List Token → List Token → Type 0
IsStuck front [] = (limits : Limits) (t : Tree) → Reads limits front t → ⊥
IsStuck front (next ∷ rest) = (limits : Limits) → IsOpen limits (front ++ next ∷ []) → ⊥

-- the place is that of the first token that no predicate of any size has after those before it, or the end
pub record IsSyntaxFault (limits : Limits) (end : ℕ) (tokens : List Placed) (place : ℕ) : Type 0 where
  pub front : List Placed
  pub rest : List Placed
  pub whole : tokens ≡ front ++ rest
  pub there : place ≡ place_of end rest
  pub open_before : IsOpen limits (words front)
  pub stuck : IsStuck (words front) (words rest)

-- the token at the place passes these limits, and would not pass the wider ones
pub record Passes (limits wider : Limits) (tokens : List Placed) (place : ℕ) (IsOf : Token → Type 0) : Type 0 where
  pub front : List Placed
  pub next : Placed
  pub rest : List Placed
  pub whole : tokens ≡ front ++ next ∷ rest
  pub there : place ≡ next.place
  pub kind : IsOf next.token
  pub open_before : IsOpen limits (words front)
  pub not_open : IsOpen limits (words front ++ next.token ∷ []) → ⊥
  pub open_wider : IsOpen wider (words front ++ next.token ∷ [])

-- a token that begins a unit with another inside
abbrev pub IsNesting : Token → Type 0
IsNesting (Word Not w) = ⊤
IsNesting Open = ⊤
IsNesting _ = ⊥

-- a sign of a sum
abbrev pub IsSign : Token → Type 0
IsSign (Sign m) = ⊤
IsSign _ = ⊥

-- a number
abbrev pub IsNumber : Token → Type 0
IsNumber (Number v) = ⊤
IsNumber _ = ⊥

-- the limits with one nesting more
abbrev pub deeper : Limits → Limits
deeper limits = record { nesting = suc limits.nesting; more = limits.more; greatest = limits.greatest }

-- the limits with one term more
abbrev pub wider : Limits → Limits
wider limits = record { nesting = limits.nesting; more = suc limits.more; greatest = limits.greatest }

-- the token at the place nests deeper than the limit
abbrev pub IsDeepFault : Limits → List Placed → ℕ → Type 0
IsDeepFault limits tokens place = Passes limits (deeper limits) tokens place IsNesting

-- the sign at the place is of a term too many
abbrev pub IsWideFault : Limits → List Placed → ℕ → Type 0
IsWideFault limits tokens place = Passes limits (wider limits) tokens place IsSign

-- the number at the place is greater than the limit
abbrev pub IsLiteralFault : Limits → List Placed → ℕ → Type 0
IsLiteralFault limits tokens place =
    (greatest : ℕ) × Passes limits (record { nesting = limits.nesting; more = limits.more; greatest = greatest })
    tokens place IsNumber
