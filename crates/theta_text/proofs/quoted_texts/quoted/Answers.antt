use Rattle.std.proofs.Common.{◌≡◌, ℕ, ◌+◌, ◌<◌, ◌≤◌, suc, List, ◌∷◌, length, drop, get_or, false, ◌==◌, Option, Some}
use Rattle.std.proofs.Common.{None, MatchOption, IfSome, ap, subst, ◌∙◌, arith}
use Rattle.std.proofs.Math.Seq.{drop-cons}
use Rattle.std.proofs.lemmas.List.{drop_all}
use Rattle.std.proofs.lemmas.Bool.{eq-eqb, ne_eqb}
use Rattle.theta_text.specs.Front.{quoted_len}
use Rattle.theta_text.proofs.Fronts.{found_by, quoted_within, turn_other, turn_twice}
use Rattle.theta_text.proofs.quoted_texts.quoted.Goals as goal

at_drop : (text : List ℕ) (at : ℕ) → at < length text → drop at text ≡ get_or text at 0 ∷ drop (at + 1) text
at_drop text at lt = let one : suc at ≡ at + 1 = omega arith in
    drop-cons text at 0 lt ∙ ap (λ n. get_or text at 0 ∷ drop n text) one

ne_lt : (a b : ℕ) → (a ≡ b → ⊥) → a ≤ b → a < b
ne_lt a b isnt le = omega arith

within_best : (o best : Option ℕ) (n : ℕ) → o ≡ best → MatchOption o (Unit {0}) (λ k. k ≤ n) → IfSome best (λ k. k ≤ n)
within_best o best n e h = go best (subst (λ z. MatchOption z (Unit {0}) (λ k. k ≤ n)) e h)
  where
    go : (z : Option ℕ) → MatchOption z (Unit {0}) (λ k. k ≤ n) → IfSome z (λ k. k ≤ n)
    go None h = tt
    go (Some k) h = h

pub loop-at-preserved-then-text-at : goal.loop-at-preserved-then-text-at
loop-at-preserved-then-text-at c =
    let l = c.loop-at in
    let test = c.if-text-at.true in
    let off : (get_or c.args.text.now l.at 0 == c.args.quote) ≡ false = ne_eqb _ _ test in
    record {
      found = l.invariant.found ∙ ap (λ xs. found_by l.at l.best (quoted_len c.args.quote xs))
          (at_drop c.args.text.now l.at c.loop-at-test.true)
          ∙ turn_other c.args.quote l.at (get_or c.args.text.now l.at 0) l.best (drop (l.at + 1) c.args.text.now) off;
      within = omega arith;
    }

pub loop-at-preserved : goal.loop-at-preserved
loop-at-preserved c =
    let l = c.loop-at in
    let test = c.if-text-at.false in
    let room = c.if-at-text.false in
    let test2 = c.if-text-at-2.false in
    let text = c.args.text.now in
    let q = c.args.quote in
    let lt1 : l.at + 1 < length text = ne_lt _ _ room (omega arith) in
    let two : l.at + 1 + 1 ≡ l.at + 2 = omega arith in
    let here : drop l.at text ≡ get_or text l.at 0 ∷ get_or text (l.at + 1) 0 ∷ drop (l.at + 2) text =
    at_drop text l.at c.loop-at-test.true ∙ ap (λ xs. get_or text l.at 0 ∷ xs)
    (at_drop text (l.at + 1) lt1 ∙ ap (λ n. get_or text (l.at + 1) 0 ∷ drop n text) two) in
    record {
      found = l.invariant.found ∙ ap (λ xs. found_by l.at l.best (quoted_len q xs)) here
          ∙ turn_twice q l.at (get_or text l.at 0) (get_or text (l.at + 1) 0) l.best (drop (l.at + 2) text)
          (eq-eqb _ _ test) (eq-eqb _ _ test2);
      within = omega (arith, lt1);
    }

pub returns-clause-within : goal.returns-clause-within
returns-clause-within c =
    let l = c.loop-at in
    let text = c.args.text.now in
    let q = c.args.quote in
    let whole : quoted_len q text ≡ l.best = l.invariant.found
    ∙ ap (λ xs. found_by l.at l.best (quoted_len q xs)) (drop_all l.at text c.loop-at-test.false) in
    within_best (quoted_len q text) l.best (length text) whole (quoted_within q text)
