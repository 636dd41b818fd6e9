-- The token at the front of a text, computed.
use Rattle.std.specs.Prelude.{ℕ, suc, List, [], ◌∷◌, cond, ◌==◌, Option, Some, None, option_map}
use Rattle.std.specs.List.{prefix_len}
use Rattle.theta_text.specs.declared.lexer.kind.Kind.{Kind}
use Rattle.theta_text.specs.declared.lexer.kind.Kind.TheVariants.{Word, Number, Literal, Name, Open, Close, Dot, Plus}
use Rattle.theta_text.specs.declared.lexer.kind.Kind.TheVariants.{Minus, Eq, Ne, Lt, Le, Gt, Ge}
use Rattle.theta_tree.specs.Tokens.{is_letter, is_digit, is_word}

-- a kind of token and how many bytes it has, where a token begins here
abbrev pub Found : Type 0
Found = Option (Kind × ℕ)

-- the end at a quote that another follows: that of what comes after both, or else here
abbrev pub later : Option ℕ → ℕ
later None = 1
later (Some n) = suc (suc n)

-- how many bytes there are up to the last possible closing quote and with it
abbrev pub quoted_len : ℕ → List ℕ → Option ℕ
quoted_len q [] = None
quoted_len q (b ∷ []) = cond (b == q) (Some 1) None
quoted_len q (b ∷ c ∷ bs) =
    cond (b == q)
    (cond (c == q) (Some (later (quoted_len q bs))) (Some 1))
    (option_map suc (quoted_len q (c ∷ bs)))

-- a sign of one byte, or of two where `=` comes next
abbrev pub with_equals : Kind → Kind → List ℕ → Found
with_equals one two [] = Some (one, 1)
with_equals one two (c ∷ bs) = cond (c == 61) (Some (two, 2)) (Some (one, 1))

-- the sign `!=`, behind its first byte
abbrev pub not_equals : List ℕ → Found
not_equals [] = None
not_equals (c ∷ bs) = cond (c == 61) (Some (Ne, 2)) None

-- the token that begins with this byte, where that is neither a letter, a digit nor a quote
abbrev pub sign : ℕ → List ℕ → Found
sign b bs =
    cond (b == 40) (Some (Open, 1))
    (cond (b == 41) (Some (Close, 1))
    (cond (b == 46) (Some (Dot, 1))
    (cond (b == 43) (Some (Plus, 1))
    (cond (b == 45) (Some (Minus, 1))
    (cond (b == 61) (Some (Eq, 1))
    (cond (b == 33) (not_equals bs)
    (cond (b == 60) (with_equals Lt Le bs)
    (cond (b == 62) (with_equals Gt Ge bs) None))))))))

-- the longest token at the front of the text
abbrev pub front : List ℕ → Found
front [] = None
front (b ∷ bs) =
    cond (is_letter b) (Some (Word, suc (prefix_len is_word bs)))
    (cond (is_digit b) (Some (Number, suc (prefix_len is_digit bs)))
    (cond (b == 39) (option_map (λ n. (Literal, suc n)) (quoted_len 39 bs))
    (cond (b == 34) (option_map (λ n. (Name, suc n)) (quoted_len 34 bs))
    (sign b bs))))
