use Rattle.std.proofs.Common.{◌≡◌, ◌+◌, ◌∙◌, ◌++◌, ◌∷◌, [], ap, length, length-append}
use Rattle.row_cells.proofs.CutTexts.{cut-more, ends-more}
use Rattle.row_cells.proofs.texts.Texts.push.Goals as goal

-- where the new text ends
end_is : (c : goal.In-Ok-push) → c.in-Ok.end ≡ length c.self.inside.bytes.items + length c.args.text.now
end_is c = c.in-Ok.ensures.1 ∙ c.in-Some.ensures.1
    ∙ ap (λ size. size + length c.args.text.now) (ap length c.as_slice-before.ensures.value)

pub invariant_of-self-in-Ok-push : goal.invariant_of-self-in-Ok-push
invariant_of-self-in-Ok-push c =
    rw (
      c.in-Ok-push.ensures.items,
      c.in_ok-extend_from_slice.ensures.items,
      end_is c,
      length-append c.self.inside.bytes.items c.args.text.now,
    )
    (ends-more 0 c.self.inside.ends.items (length c.self.inside.bytes.items) (length c.args.text.now)
    c.self.invariant)

pub returns-in-Ok-push-clause-ok : goal.returns-in-Ok-push-clause-ok
returns-in-Ok-push-clause-ok c =
    rw (c.in-Ok-push.ensures.items, c.in_ok-extend_from_slice.ensures.items, end_is c)
    (cut-more 0 c.self.inside.ends.items c.self.inside.bytes.items c.args.text.now c.self.invariant
    ∙ ap (λ texts. texts ++ c.args.text.now ∷ []) c.self.view_is)
