use Rattle.std.proofs.Common.{subst, sym, ap, ℕ}
use Rattle.row_cells.specs.Lists.{SameBag}
use Rattle.row_cells.proofs.Bags.{SameBag-trans}
use Rattle.joiner_law.specs.Law.{Taken, store}
use Rattle.joiner_core.specs.State.{Stocked, tuples_of, IsAccessOf, IsKeyOf}
use Rattle.joiner_core.proofs.WholeLaw.{store-law}
use Rattle.joiner_core.proofs.Fresh.{same-bag}
use Rattle.joiner_core.proofs.CallerFacts.{sound-at-work}
use Rattle.joiner_core.specs.Machine.{state_of}
use Rattle.joiner_core.proofs.joiner.Joiner.into_store.Goals as goal

pub returns-clause-tuples : goal.returns-clause-tuples
returns-clause-tuples c = rw (← c.self.view_is) (λ s lists stands.
    let is = stands.machine.between in
    let bag = SameBag-trans (same-bag _ _ (ap (λ (z : Stocked). z.tuples) c.into_store.ensures))
    (store-law s lists (state_of c.self.inside.machine) is) in
    subst (λ (t : Taken). SameBag (tuples_of c.into_store.result) (store s t stands.law.done)) stands.machine.taken
    (subst (λ (n : ℕ). SameBag (tuples_of c.into_store.result) (store s is.within.taken n)) stands.machine.done bag))

pub returns-clause-key : goal.returns-clause-key
returns-clause-key c = rw (← c.self.view_is) (λ going.
    let m = (state_of c.self.inside.machine) in
    subst (λ (z : Stocked). IsKeyOf m.epochs.theta z.key) (sym c.into_store.ensures)
    (sound-at-work (record { machine = m; spent = c.self.inside.spent }) c.self.invariant going).within.stock.key)

pub returns-clause-access : goal.returns-clause-access
returns-clause-access c = rw (← c.self.view_is) (λ going.
    let m = (state_of c.self.inside.machine) in
    subst (λ (z : Stocked). IsAccessOf m.epochs.theta z.access) (sym c.into_store.ensures)
    (sound-at-work (record { machine = m; spent = c.self.inside.spent }) c.self.invariant going).within.stock.access)
