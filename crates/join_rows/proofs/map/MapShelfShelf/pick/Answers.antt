use Rattle.std.proofs.Common.{◌≡◌, ◌∙◌, true, false, sym, inr}
use Rattle.join_rows.proofs.map.MapShelfShelf.pick.Goals as goal

pub returns-then-contains-clause-other : goal.returns-then-contains-clause-other
returns-then-contains-clause-other c =
    let yes = rw (c.deref.ensures.value, c.one_more-self-inside.ensures) at
    (sym c.contains.ensures.value ∙ c.if-contains.true) in
    rw (← c.self.view_is) (λ no. let never : true ≡ false = sym yes ∙ no in cc never)

pub returns-then-contains-clause-fails : goal.returns-then-contains-clause-fails
returns-then-contains-clause-fails c =
    let yes = rw (c.deref.ensures.value, c.one_more-self-inside.ensures) at
    (sym c.contains.ensures.value ∙ c.if-contains.true) in
    rw (← c.self.view_is) (inr yes)
