-- What a wave's run tells: the last line of a journal, powers of two, and several clauses of one result.
use Rattle.std.proofs.Common.{◌≡◌, ℕ, suc, ◌+◌, ◌-◌, ◌<◌, ◌≤◌, ◌^◌, sym, ap, subst, ◌∙◌, inl, inr, ◌⊎◌, arith, Some}
use Rattle.std.proofs.Common.{List}
use Rattle.std.proofs.Common.{Result, Ok, Err}
use Rattle.std.proofs.Common.{[], ◌∷◌, ◌++◌, length}
use Rattle.std.specs.Prelude.{reverse, slice_get, IfOk}
use Rattle.std.proofs.Math.Pow.{pow-lt}
use Rattle.std.proofs.lemmas.Bool.{cases_lt}
use Rattle.std.proofs.lemmas.List.{length-append, reverse-reverse, reverse-append}
use Rattle.load_controller.specs.Journal.{last_line}
use Rattle.load_controller.specs.declared.line.TurnLine.{TurnLine}
use Rattle.actor_core.proofs.LeftStores.{at_end}
use Rattle.actor_core.proofs.OwnNumbers.{none_some, some_is}

-- what stands at the end of a list is the first of it read backwards
pub last_there : (journal : List TurnLine) (x line : TurnLine) (past : List TurnLine)
    → slice_get journal (length journal - 1) ≡ Some x → reverse journal ≡ line ∷ past → x ≡ line
last_there journal x line past there back =
    let whole : journal ≡ reverse past ++ line ∷ [] =
    sym (reverse-reverse journal) ∙ ap reverse back ∙ reverse-append (line ∷ []) past in
    let long = ap length whole ∙ length-append (reverse past) (line ∷ []) in
    let place : length journal - 1 ≡ length (reverse past) = omega (arith, long) in
    some_is x line
    (sym there ∙ subst (λ n. slice_get journal n ≡ Some line) (sym place)
    (subst (λ js. slice_get js (length (reverse past)) ≡ Some line) (sym whole) (at_end (reverse past) line)))

-- what stands at the end of a journal with a line is its last line, whatever line the wave goes on from
pub last_is : (journal : List TurnLine) (x : TurnLine) → slice_get journal (length journal - 1) ≡ Some x
    → (first : TurnLine) → x ≡ last_line first journal
last_is [] x there first = absurd (none_some x there)
last_is (line ∷ []) x there first = sym (some_is line x there)
last_is (line ∷ next ∷ journal) x there first =
    let place : length (line ∷ next ∷ journal) - 1 ≡ suc (length (next ∷ journal) - 1) = omega arith in
    last_is (next ∷ journal) x (subst (λ n. slice_get (line ∷ next ∷ journal) n ≡ Some x) place there) line

-- a power of two is that of one number
pub same_power : (a b : ℕ) → 2 ^ a ≡ 2 ^ b → a ≡ b
same_power a b same = go (cases_lt a b) (cases_lt b a)
  where
    go : (a < b) ⊎ (b ≤ a) → (b < a) ⊎ (a ≤ b) → a ≡ b
    go (inl less) other = let far = pow-lt less in absurd (omega (arith, far, same))
    go (inr more) (inl less) = let far = pow-lt less in absurd (omega (arith, far, same))
    go (inr more) (inr less) = omega (arith, more, less)

-- what no number below this one is, and this one isn't, none below the next one is
pub none_below : (n k : ℕ) → ((m : ℕ) → m < k → n ≡ 2 ^ m → ⊥) → (n ≡ 2 ^ k → ⊥) → (m : ℕ) → m < k + 1 → n ≡ 2 ^ m → ⊥
none_below n k old own m low is = go (cases_lt m k)
  where
    go : (m < k) ⊎ (k ≤ m) → ⊥
    go (inl less) = old m less is
    go (inr more) = let same : m ≡ k = omega (arith, low, more) in own (subst (λ z. n ≡ 2 ^ z) same is)

-- what follows from three clauses of one result holds of it
pub from_three : {X E : Type 0} (result : Result X E) (P Q R S : X → Type 0) → IfOk result P → IfOk result Q
    → IfOk result R → ((x : X) → P x → Q x → R x → S x) → IfOk result S
from_three (Ok x) P Q R S p q r follows = follows x p q r
from_three (Err e) P Q R S p q r follows = tt
