use Rattle.std.proofs.Common.{◌≡◌, ◌∙◌, ap, arith, length, sym}
use Rattle.std.specs.List.{slice_get}
use Rattle.row_cells.specs.Texts.{cut}
use Rattle.row_cells.proofs.CutTexts.{length-cut}
use Rattle.row_cells.proofs.texts.Texts.at.Goals as goal

pub text_at-requires-clause-within : goal.text_at-requires-clause-within
text_at-requires-clause-within c =
    let size : length c.as_slice.result.now ≡ length c.args.self.now =
    ap length c.as_slice.ensures.value
    ∙ sym (length-cut 0 c.self.inside.ends.items c.self.inside.bytes.items)
    ∙ ap length c.self.view_is in
    omega (arith, size, c.requires)

pub text_at-requires-clause-ends : goal.text_at-requires-clause-ends
text_at-requires-clause-ends c =
    rw (c.as_slice.ensures.value, c.as_slice-2.ensures.value) c.self.invariant

pub returns : goal.returns
returns c =
    sym (ap (λ texts. slice_get texts c.args.place) c.self.view_is)
    ∙ sym (ap (λ bytes. slice_get (cut 0 c.self.inside.ends.items bytes) c.args.place) c.as_slice-2.ensures.value)
    ∙ sym (ap (λ ends. slice_get (cut 0 ends c.as_slice-2.result.now) c.args.place) c.as_slice.ensures.value)
    ∙ c.text_at.ensures
