use Rattle.std.proofs.Common.{◌≡◌, ◌∙◌, sym, ap, rules, tests, [], slice_get, unwrap_or}
use Rattle.std.specs.Prelude.{◌==◌, option_map}
use Rattle.std.proofs.lemmas.Iterator.Consumers.{nth_from_yields_List}
use Rattle.std.proofs.lemmas.Iterator.Splits.{YieldsList-from_slice_split}
use Rattle.report_picture.specs.Texts.{words_in}
use Rattle.report_picture.proofs.nearest.word.Goals as goal

pub returns-in_default : goal.returns-in_default
returns-in_default c =
    let found : option_map (λ x. x.now) c.nth.result ≡ slice_get (words_in c.args.line.now) c.args.place =
    nth_from_yields_List _ _ c.args.place c.nth.ensures.ran
    (YieldsList-from_slice_split _ (λ byte. byte == 32) c.args.line.now c.split.ensures.rest c.split.ensures.done
    c.split.ensures.closure (λ x r q k. search (rules, tests))) in
    ap (λ r. unwrap_or (option_map (λ x. x.now) r) []) (sym c.in_default.is) ∙ ap (λ o. unwrap_or o []) found

pub returns : goal.returns
returns c =
    let found : option_map (λ x. x.now) c.nth.result ≡ slice_get (words_in c.args.line.now) c.args.place =
    nth_from_yields_List _ _ c.args.place c.nth.ensures.ran
    (YieldsList-from_slice_split _ (λ byte. byte == 32) c.args.line.now c.split.ensures.rest c.split.ensures.done
    c.split.ensures.closure (λ x r q k. search (rules, tests))) in
    ap (λ r. unwrap_or (option_map (λ x. x.now) r) []) (sym c.in-Some.is) ∙ ap (λ o. unwrap_or o []) found
