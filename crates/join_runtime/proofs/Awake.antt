-- Seats that come awake, one after another.
use Rattle.std.proofs.Common.{◌≡◌, ◌∙◌, ◌+◌, ◌<◌, ◌≤◌, ℕ, List, inl, inr, ap, arith, false, get_or, length, set, subst}
use Rattle.std.proofs.Common.{sym}
use Rattle.std.proofs.lemmas.Bool.{cases_eq}
use Rattle.std.proofs.lemmas.List.{get_or_default, get_or-set_other, get_or-set_same, length-set}
use Rattle.join_runtime.specs.Views.{SeatView}

-- the seats below this number are awake, and the others are as they were
pub record AreAwakeBelow (below : ℕ) (old new : List SeatView) : Type 0 where
  pub all : length new ≡ length old
  pub each : (n : ℕ) (d : SeatView) → n < below → n < length old
      → get_or new n d ≡ record (get_or old n d) { spent = false }
  pub rest : (n : ℕ) (d : SeatView) → below ≤ n → get_or new n d ≡ get_or old n d

-- one seat more
pub awake_more : (below : ℕ) (first old : List SeatView) (seat new : SeatView) → AreAwakeBelow below first old
    → below < length old → seat ≡ get_or old below seat → new ≡ record seat { spent = false }
    → AreAwakeBelow (below + 1) first (set old below new)
awake_more below first old seat new before low here is = record {
  all = length-set old below new ∙ before.all;
  each = each;
  rest = λ n d more. get_or-set_other old below n new d (λ same. absurd (omega (arith, same, more)))
      ∙ before.rest n d (omega (arith, more));
}
  where
    each : (n : ℕ) (d : SeatView) → n < below + 1 → n < length first → get_or (set old below new) n d
        ≡ record (get_or first n d) { spent = false }
    each n d less low' = elim (cases_eq n below) [
      | inl same ↦
          let own : seat ≡ get_or first below d =
          here ∙ (get_or_default old below seat d low ∙ before.rest below d (omega arith)) in
          subst (λ z. get_or (set old below new) z d ≡ record (get_or first z d) { spent = false }) (sym same)
          (get_or-set_same old below new d low ∙ (is ∙ ap (λ (s : SeatView). record s { spent = false }) own))
      | inr other ↦
          get_or-set_other old below n new d other
          ∙ before.each n d (omega (arith, less, λ (e : n ≡ below). other e)) low'
    ]
