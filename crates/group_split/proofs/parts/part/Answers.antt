use Rattle.std.proofs.Common.{ℕ, Bool, ◌∙◌, ◌++◌, ◌∷◌, [], cond, ap, sym, refl}
use Rattle.std.specs.Prelude.{filter, slice_index}
use Rattle.std.specs.List.{range_with_len}
use Rattle.std.proofs.lemmas.Option.{get_or_from_slice_get}
use Rattle.group_split.specs.Sizes.{is_of}
use Rattle.group_split.proofs.BinaryDigits.{same_test}
use Rattle.group_split.proofs.Parted.{filter_more}
use Rattle.group_split.proofs.parts.part.Goals as goal

pub loop-index-preserved : goal.loop-index-preserved
loop-index-preserved c =
    let i = c.loop-index.index in
    let numbers = c.args.numbers.now in
    let test : ℕ → Bool = λ j. is_of c.args.joiners c.args.group (slice_index numbers j) in
    let number = get_or_from_slice_get numbers i c.at.result.now 0 c.at.ensures in
    let its = c.is_of-its.ensures ∙ ap (is_of c.args.joiners c.args.group) (sym number) in
    c.in_ok-push_if.ensures
    ∙ ap (λ is. is ++ cond c.is_of-its.result (i ∷ []) []) c.loop-index.invariant
    ∙ ap (λ more. filter test (range_with_len 0 i) ++ more) (same_test its refl)
    ∙ sym (filter_more test i)
