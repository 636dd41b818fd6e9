use Rattle.std.proofs.Common.{◌≡◌, ℕ, ◌+◌, ◌-◌, ◌≤◌, take, List, [], ◌∷◌, ◌++◌, length, drop, sym, ap, subst, ◌∙◌}
use Rattle.std.proofs.Common.{arith, rules}
use Rattle.std.proofs.lemmas.List.{length-drop, take_all}
use Rattle.std.specs.List.{prefix_len}
use Rattle.theta_tree.specs.Tokens.{is_blank, Stand, IsNext}
use Rattle.theta_text.specs.Kinds.{IsNextKind, token_at}
use Rattle.theta_tree.specs.declared.token.Placed.{Placed}
use Rattle.theta_text.proofs.Fronts.{run_le}
use Rattle.theta_text.proofs.Spellings.{next_token}
use Rattle.theta_text.proofs.Places.{stand_push, all_run}
use Rattle.theta_text.proofs.lexer.lex.Goals as goal

slice_rest : (text : List ℕ) (at : ℕ) → take (length text - at) (drop at text) ≡ drop at text
slice_rest text at = take_all _ _ (omega (arith, length-drop at text))

pub loop-at-preserved : goal.loop-at-preserved
loop-at-preserved c =
    let l = c.loop-at in
    let text = c.args.text.now in
    let (to, le, stood, e) = l.invariant.stands in
    let kind = c.next_kind-kind.result.0 in
    let n = c.next_kind-kind.result.1 in
    let here = drop l.at text in
    let placed : Placed = record { token = c.in_ok-token.token; place = l.at } in
    let pushed : c.push.new.self.items ≡ l.found.items ++ placed ∷ [] = search rules in
    let end = l.at + n in
    let kind_next : IsNextKind here kind n = subst (λ xs. IsNextKind xs kind n) (slice_rest text l.at)
    c.next_kind-kind.ensures.next in
    let width : l.at + n - l.at ≡ n = omega arith in
    let spelled : c.in_ok-token.token ≡ token_at kind (take n here) =
    c.in_ok-token.ensures ∙ ap (λ m. token_at kind (take m here)) width in
    let next : IsNext here c.in_ok-token.token n = subst (λ t. IsNext here t n) (sym spelled)
    (next_token here kind n kind_next) in
    let ran : c.blanks.result ≡ prefix_len is_blank (drop end text) =
    c.blanks.ensures.run ∙ ap (prefix_len is_blank) (slice_rest text end) in
    let fits : n ≤ length here = subst (λ xs. n ≤ length xs) (slice_rest text l.at) c.next_kind-kind.ensures.within in
    let left = length-drop l.at text in
    let short : length (drop end text) ≡ _ = length-drop end text in
    let few : prefix_len is_blank (drop end text) ≤ length (drop end text) = run_le is_blank (drop end text) in
    let inside : end ≤ length text = omega (arith, fits, left, c.loop-at-test.true) in
    record {
      stands = (
        end,
        inside,
        subst (λ ps. Stand text 0 ps end) (sym pushed)
            (stand_push text 0 l.found.items to placed n stood e c.loop-at-test.true next),
        ap (λ n. end + n) ran,
      );
      within = omega (arith, ran, few, short, inside);
    }

pub returns : goal.returns
returns c =
    let l = c.loop-at in
    let text = c.args.text.now in
    let (to, le, stood, e) = l.invariant.stands in
    let past = c.loop-at-test.false in
    let rest : length (drop to text) ≡ _ = length-drop to text in
    let all : length (drop to text) ≤ prefix_len is_blank (drop to text) = omega (arith, e, past, rest, le) in
    (to, le, stood, all_run is_blank (drop to text) all)
