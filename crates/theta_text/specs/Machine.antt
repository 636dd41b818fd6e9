-- The tokens from left to right, against what is still to come.
use Rattle.std.specs.Prelude.{ℕ, zero, suc, List, [], ◌∷◌, Bool, true, false, cond, nat_le, Result, Ok, Err}
use Rattle.theta_tree.specs.Grammar.{Limits}
use Rattle.theta_tree.specs.Tokens.{number_of}
use Rattle.theta_tree.specs.declared.token.Token.{Token}
use Rattle.theta_tree.specs.declared.token.Token.TheVariants.{Word, Number, Literal, Quoted, Open, Close, Dot, Sign}
use Rattle.theta_tree.specs.declared.token.Token.TheVariants.{Compare}
use Rattle.theta_tree.specs.declared.token.Keyword.TheVariants.{And, Or, Not, Abs, Text, R, S}
use Rattle.theta_tree.specs.declared.token.Placed.{Placed}

-- what can be wrong with a text
pub data Kind : Type 0 where
  syntax : Kind
  deep : Kind
  wide : Kind
  literal : Kind

-- what is to come
pub data Symbol : Type 0 where
  unit : ℕ → Symbol
  tail : ℕ → Symbol
  close : Symbol
  open' : Symbol
  dot : Symbol
  field : Symbol
  name : Symbol
  term : Symbol
  sum : Symbol
  more : ℕ → Symbol
  op : Symbol
  bound : Symbol
  side : Symbol

-- what is to come after a token, or what is wrong with the token
abbrev pub Step : Type 0
Step = Result (List Symbol) Kind

-- a number is read, if it is within its limit
abbrev pub small : Limits → ℕ → List Symbol → Step
small limits v s = cond (nat_le v limits.greatest) (Ok s) (Err literal)

-- at the name of a column, behind its dot
abbrev pub at_field : List Symbol → Token → Step
at_field s (Word k w) = Ok s
at_field s (Quoted w) = Ok s
at_field s _ = Err syntax

-- at a name: the side, then a dot and the column
abbrev pub at_name : List Symbol → Token → Step
at_name s (Word R w) = Ok (dot ∷ field ∷ s)
at_name s (Word S w) = Ok (dot ∷ field ∷ s)
at_name s _ = Err syntax

-- at a term of a sum: a number or a name
abbrev pub at_term : Limits → List Symbol → Token → Step
at_term limits s (Number digits) = small limits (number_of digits) s
at_term limits s (Word k w) = at_name s (Word k w)
at_term limits s _ = Err syntax

-- at a sum: a term with a sign or without, and more of them
abbrev pub at_sum : Limits → List Symbol → Token → Step
at_sum limits s (Sign m) = Ok (term ∷ more limits.more ∷ s)
at_sum limits s t = at_term limits (more limits.more ∷ s) t

-- at a side of a test on texts: `text` with a name, or a literal
abbrev pub at_side : List Symbol → Token → Step
at_side s (Word Text w) = Ok (open' ∷ name ∷ close ∷ s)
at_side s (Literal w) = Ok s
at_side s _ = Err syntax

-- at a unit in which others may be nested d deep
abbrev pub at_unit : Limits → ℕ → List Symbol → Token → Step
at_unit limits zero s (Word Not w) = Err deep
at_unit limits (suc d) s (Word Not w) = Ok (unit d ∷ s)
at_unit limits zero s Open = Err deep
at_unit limits (suc d) s Open = Ok (unit d ∷ tail d ∷ close ∷ s)
at_unit limits d s (Word Abs w) = Ok (open' ∷ sum ∷ close ∷ op ∷ bound ∷ s)
at_unit limits d s (Word Text w) = at_side (op ∷ side ∷ s) (Word Text w)
at_unit limits d s (Literal w) = at_side (op ∷ side ∷ s) (Literal w)
at_unit limits d s t = at_sum limits (op ∷ sum ∷ s) t

-- at the end of a unit: another one, or what comes behind it
abbrev pub at_tail : ℕ → List Symbol → Step → Token → Step
at_tail d s below (Word And w) = Ok (unit d ∷ tail d ∷ s)
at_tail d s below (Word Or w) = Ok (unit d ∷ tail d ∷ s)
at_tail d s below t = below

-- at the end of a term: as many more as are allowed, or what comes behind the sum
abbrev pub at_more : ℕ → List Symbol → Step → Token → Step
at_more zero s below (Sign m) = Err wide
at_more (suc n) s below (Sign m) = Ok (term ∷ more n ∷ s)
at_more n s below t = below

-- at a closing parenthesis
abbrev pub at_close : List Symbol → Token → Step
at_close s Close = Ok s
at_close s _ = Err syntax

-- at an opening parenthesis
abbrev pub at_open : List Symbol → Token → Step
at_open s Open = Ok s
at_open s _ = Err syntax

-- at a dot
abbrev pub at_dot : List Symbol → Token → Step
at_dot s Dot = Ok s
at_dot s _ = Err syntax

-- at a sign of comparison
abbrev pub at_op : List Symbol → Token → Step
at_op s (Compare o) = Ok s
at_op s _ = Err syntax

-- at the bound of a band
abbrev pub at_bound : Limits → List Symbol → Token → Step
at_bound limits s (Number digits) = small limits (number_of digits) s
at_bound limits s _ = Err syntax

-- one token, against what is to come
abbrev pub step : Limits → List Symbol → Token → Step
step limits [] t = Err syntax
step limits (unit d ∷ s) t = at_unit limits d s t
step limits (tail d ∷ s) t = at_tail d s (step limits s t) t
step limits (close ∷ s) t = at_close s t
step limits (open' ∷ s) t = at_open s t
step limits (dot ∷ s) t = at_dot s t
step limits (field ∷ s) t = at_field s t
step limits (name ∷ s) t = at_name s t
step limits (term ∷ s) t = at_term limits s t
step limits (sum ∷ s) t = at_sum limits s t
step limits (more n ∷ s) t = at_more n s (step limits s t) t
step limits (op ∷ s) t = at_op s t
step limits (bound ∷ s) t = at_bound limits s t
step limits (side ∷ s) t = at_side s t

-- nothing more has to come
abbrev pub is_done : List Symbol → Bool
is_done [] = true
is_done (tail d ∷ s) = is_done s
is_done (more n ∷ s) = is_done s
is_done (x ∷ s) = false

-- nothing is wrong, or this is, at this place
pub data Verdict : Type 0 where
  fine : Verdict
  wrong : Kind → ℕ → Verdict

-- what a step leads to, for a token at this place
abbrev pub go_on : ℕ → (List Symbol → Verdict) → Step → Verdict
go_on place go (Ok s) = go s
go_on place go (Err k) = wrong k place

-- what is wrong with the tokens, and where; the text ends at end
abbrev pub verdict : Limits → ℕ → List Symbol → List Placed → Verdict
verdict limits end s [] = cond (is_done s) fine (wrong syntax end)
verdict limits end s (p ∷ ps) = go_on p.place (λ s. verdict limits end s ps) (step limits s p.token)

-- at the front of a text one predicate is to come
abbrev pub start : Limits → List Symbol
start limits = unit limits.nesting ∷ tail limits.nesting ∷ []
