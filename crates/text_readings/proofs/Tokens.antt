-- Each text has tokens.
use Rattle.std.proofs.Common.{◌≡◌, ℕ, zero, suc, ◌+◌, ◌<◌, ◌≤◌, arith, Bool, true, false, nat_le, refl, Some, None}
use Rattle.std.proofs.Common.{List, [], ◌∷◌, length, take, drop}
use Rattle.std.proofs.lemmas.Bool.{leb-true}
use Rattle.std.proofs.lemmas.List.{length-drop}
use Rattle.std.specs.List.{prefix_len, AllByRecursion}
use Rattle.theta_tree.specs.declared.token.Token.{Token}
use Rattle.theta_tree.specs.declared.token.Token.TheVariants.{Stray}
use Rattle.theta_tree.specs.declared.token.Placed.{Placed}
use Rattle.theta_tree.specs.Tokens.{is_blank, AreTokens, IsNext, Stand}
use Rattle.theta_text.specs.Kinds.{token_at}
use Rattle.theta_text.specs.Front.{Found, front}
use Rattle.theta_text.proofs.Fronts.{next_none, next_some}
use Rattle.theta_text.proofs.Spellings.{kind_of, next_token}
use Rattle.theta_text.proofs.Places.{all_run}

-- what stands at the front of the text, and how many bytes it has
abbrev NextToken : List ℕ → Type 0
NextToken text = (token : Token) × (n : ℕ) × IsNext text token n × (n ≤ length text) × (0 < n)

-- something stands at the front of a text that isn't empty
next_of : (text : List ℕ) → 0 < length text → NextToken text
next_of text some = go (front text) refl
  where
    go : (found : Found) → front text ≡ found → NextToken text
    go None e =
        let next = next_token text (kind_of Stray) (length text) (next_none text e) in
        (Stray, length text, next, omega arith, some)
    go (Some (kind, n)) e =
        let (next, within, more) = next_some text kind n e in
        (token_at kind (take n text), n, next_token text kind n next, within, more)

-- the text has tokens from this place on
abbrev HasTokensFrom : List ℕ → ℕ → Type 0
HasTokensFrom text from =
    (ps : List Placed) × (to : ℕ) × (to ≤ length text) × Stand text from ps to
    × AllByRecursion (λ b. is_blank b ≡ true) (drop to text)

-- the token at this place and what the text has behind it are tokens from where only blanks stand before it
with_token : (text : List ℕ) (from at : ℕ) → at ≡ from + prefix_len is_blank (drop from text) → at < length text
    → (next : NextToken (drop at text)) → HasTokensFrom text (at + next.1) → HasTokensFrom text from
with_token text from at is inside (token, n, next, le, some) (ps, to, within, stand, blank) =
    let placed : Placed = record { token = token; place = at } in
    (placed ∷ ps, to, within, (n, is, inside, next, stand), blank)

-- where only blanks are left there are none
none_left : (text : List ℕ) (from at : ℕ) → from ≤ length text → at ≡ from + prefix_len is_blank (drop from text)
    → length text ≤ at → HasTokensFrom text from
none_left text from at within is past =
    let rest : length (drop from text) ≡ _ = length-drop from text in
    ([], from, within, refl, all_run is_blank (drop from text) (omega (arith, rest, is, past)))

-- from each place on, where so much may be left
tokens_from : (left : ℕ) (text : List ℕ) (from : ℕ) → from ≤ length text → length text ≤ from + left
    → HasTokensFrom text from
tokens_from zero text from within enough = none_left text from _ within refl (omega (arith, enough))
tokens_from (suc left) text from within enough =
    go (λ next within' enough'. tokens_from left text next within' enough')
    (from + prefix_len is_blank (drop from text)) refl
  where
    go : ((next : ℕ) → next ≤ length text → length text ≤ next + left → HasTokensFrom text next)
        → (at : ℕ) → at ≡ from + prefix_len is_blank (drop from text) → HasTokensFrom text from
    go behind at is = by (nat_le (length text) at) refl
      where
        by : (past : Bool) → nat_le (length text) at ≡ past → HasTokensFrom text from
        by true e = none_left text from at within is (leb-true (length text) at e)
        by false e =
            let inside : at < length text = grind (arith, e) in
            let rest : length (drop at text) ≡ _ = length-drop at text in
            let next = next_of (drop at text) (omega (arith, rest, inside)) in
            let within' : at + next.1 ≤ length text = omega (arith, rest, inside, next.3) in
            let enough' : length text ≤ at + next.1 + left = omega (arith, is, enough, next.4) in
            with_token text from at is inside next (behind (at + next.1) within' enough')

-- each text has tokens
pub has_tokens : (text : List ℕ) → (tokens : List Placed) × AreTokens text tokens
has_tokens text =
    let (tokens, to, within, stand, blank) = tokens_from (length text) text 0 (omega arith) (omega arith) in
    (tokens, (to, within, stand, blank))
