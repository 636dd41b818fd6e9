-- A line that isn't moving is one from which a controller can begin.
use Rattle.std.proofs.Common.{◌≡◌, ℕ, ◌≤◌, ◌^◌, refl, sym, ◌∙◌, ap, subst, false, not, List, [], ◌∷◌, Option, None}
use Rattle.std.proofs.Common.{Some}
use Rattle.std.specs.Prelude.{is_none}
use Rattle.std.proofs.lemmas.Bool.{eq-eqb}
use Rattle.load_controller.specs.declared.line.Cause.{Cause}
use Rattle.load_controller.specs.declared.line.TurnLine.{TurnLine}
use Rattle.load_controller.specs.Journal.{Rules, Fits, Follows, line_after}
use Rattle.load_controller.proofs.Bound as bound
use Rattle.load_controller.proofs.Still as still

-- where a shift is fixed: with its goal, as one line leads to the next
record Stands (shift : ℕ) (line : TurnLine) : Type 0 where
  stays : line.shift ≡ shift
  goal : line.goal ≡ shift
  still : line.moving ≡ false

after : (rules : Rules) (before : TurnLine) (past : List TurnLine) (cause : Cause) (shift : ℕ)
    → rules.fixed ≡ Some shift → Stands shift before → Stands shift (line_after rules before past cause)
after rules before past cause shift fixed old =
    rw (ap is_none fixed, old.still, eq-eqb before.shift before.goal (old.stays ∙ sym old.goal))
    (record { stays = old.stays; goal = old.goal; still = refl })

stands : (rules : Rules) (first line : TurnLine) (past : List TurnLine) (shift : ℕ) → Fits rules first
    → rules.fixed ≡ Some shift → Follows rules first (line ∷ past) → Stands shift line
stands rules first line [] shift fits fixed is =
    subst (Stands shift) (sym is) (record {
      stays = fits.fixed shift fixed;
      goal = fits.reached ∙ fits.fixed shift fixed;
      still = fits.still;
    })
stands rules first line (before ∷ past) shift fits fixed (made, allowed, rest) =
    subst (Stands shift) (sym made)
    (after rules before past line.cause shift fixed (stands rules first before past shift fits fixed rest))

-- a still line of a journal that begins at a line which fits, fits too
pub fits_again : (rules : Rules) (first line : TurnLine) (past : List TurnLine) → Fits rules first
    → Follows rules first (line ∷ past) → line.moving ≡ false
    → line.rows_r ≤ 2 ^ 32 → line.rows_s ≤ 2 ^ 32 → Fits rules line
fits_again rules first line past fits follows at_rest few_r few_s =
    let b = bound.each first.epoch 0 rules first line past (bound.at_first rules first fits) follows in
    record {
      still = at_rest;
      reached = reaches rules.fixed refl;
      within = b.shift_within;
      few_r = few_r;
      few_s = few_s;
      base_r = b.low_r;
      base_s = b.low_s;
      free = λ free.
          let s = still.each rules first line past fits free follows in
          (ap not (s.not_due at_rest), rw (s.reached at_rest) s.best);
      fixed = λ shift fixed. (stands rules first line past shift fits fixed follows).stays;
    }
  where
    reaches : (o : Option ℕ) → rules.fixed ≡ o → line.goal ≡ line.shift
    reaches None free = sym ((still.each rules first line past fits free follows).reached at_rest)
    reaches (Some shift) fixed = let its = stands rules first line past shift fits fixed follows in
        its.goal ∙ sym its.stays
