use Rattle.std.proofs.Common.{◌≡◌, ◌∙◌, List, ℕ, sym, ap, subst, rules}
use Rattle.std.specs.Prelude.{IfOk}
use Rattle.std.specs.Option.{option_copied}
use Rattle.std.proofs.lemmas.Int.{to_z-of_z}
use mir.Val.{SFits}
use mir.Syntax.{w128}
use Rattle.store_parts.proofs.OneValue.{gathered-found}
use Rattle.store_parts.proofs.hashed.gather_one.Goals as goal

pub returns-in-Some : goal.returns-in-Some
returns-in-Some c =
    let fits : SFits w128 c.args.value = search rules in
    let found = ap option_copied (sym c.in-Some.is) ∙ c.get.ensures.value in
    let all = gathered-found c.args.value _ c.args.map.now.entries _ c.len.ensures.unique
    (to_z-of_z w128 c.args.value fits) found in
    let P : List ℕ → Type 0 = λ ps. IfOk c.from_slice.result (λ found. found ≡ ps) in
    subst P (c.as_slice.ensures ∙ all) c.from_slice.ensures

pub returns-in-None : goal.returns-in-None
returns-in-None c =
    let fits : SFits w128 c.args.value = search rules in
    let found = ap option_copied (sym c.in-None.is) ∙ c.get.ensures.value in
    c.new.ensures ∙ gathered-found c.args.value _ c.args.map.now.entries _ c.len.ensures.unique
    (to_z-of_z w128 c.args.value fits) found
