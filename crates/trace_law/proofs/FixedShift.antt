-- Where a shift is fixed, no line of a journal leaves it.
use Rattle.std.proofs.Common.{◌≡◌, ℕ, ◌+◌, ◌-◌, arith, refl, sym, ◌∙◌, ap, subst, Some, List, [], ◌∷◌}
use Rattle.std.specs.Prelude.{All, map, is_none, reverse}
use Rattle.std.specs.List.{AllByRecursion, range_with_len}
use Rattle.std.proofs.lemmas.Bool.{eq-eqb}
use Rattle.load_controller.specs.declared.line.Cause.{Cause}
use Rattle.load_controller.specs.declared.line.TurnLine.{TurnLine}
use Rattle.load_controller.specs.Journal.{Rules, Fits, Follows, begun, line_after, last_epoch, IsLawfulSoFar}
use Rattle.std.proofs.lemmas.List.Elements.{All-from_recursion}
use Rattle.row_cells.proofs.Everywhere.{weaken, all-reverse}
use mathlib.Core.List.{reverse-reverse}
use Rattle.trace_law.specs.declared.input.Input.{Input}
use Rattle.trace_law.specs.declared.run.Run.{Run}
use Rattle.trace_law.specs.Join.{moved}
use Rattle.trace_law.specs.declared.setting.Setting.{Setting}
use Rattle.trace_law.specs.Family.{IsLineFor, rules_of, shift_by, stamp_by}
use Rattle.trace_law.proofs.Begun.{fits_begun}
use Rattle.trace_law.specs.Runs.{StaysAt, IsRunOf}

-- with its goal, as one line leads to the next
record Stands (at shift : ℕ) (line : TurnLine) : Type 0 where
  stays : StaysAt at shift line
  goal : line.goal ≡ shift

after : (rules : Rules) (before : TurnLine) (past : List TurnLine) (cause : Cause) (at shift : ℕ)
    → rules.fixed ≡ Some shift → Stands at shift before → Stands at shift (line_after rules before past cause)
after rules before past cause at shift fixed old =
    rw (ap is_none fixed, old.stays.still, eq-eqb before.shift before.goal (old.stays.stays ∙ sym old.goal))
    (record { stays = record { epoch = old.stays.epoch; stays = old.stays.stays; still = refl }; goal = old.goal })

past_stands : (rules : Rules) (first line : TurnLine) (past : List TurnLine) (shift : ℕ) → Fits rules first
    → rules.fixed ≡ Some shift → Follows rules first (line ∷ past)
    → AllByRecursion (Stands first.epoch shift) (line ∷ past)
past_stands rules first line [] shift fits fixed is =
    let here : Stands first.epoch shift first =
    record {
      stays = record { epoch = refl; stays = fits.fixed shift fixed; still = fits.still };
      goal = fits.reached ∙ fits.fixed shift fixed;
    } in
    (subst (Stands first.epoch shift) (sym is) here, tt)
past_stands rules first line (before ∷ past) shift fits fixed (made, allowed, more) =
    let old = past_stands rules first before past shift fits fixed more in (
      subst (Stands first.epoch shift) (sym made) (after rules before past line.cause first.epoch shift fixed old.0),
      old,
    )

journal_stands : (rules : Rules) (first : TurnLine) (journal past : List TurnLine) (shift : ℕ) → Fits rules first
    → rules.fixed ≡ Some shift → reverse journal ≡ past → Follows rules first past
    → AllByRecursion (Stands first.epoch shift) journal
journal_stands rules first journal [] shift fits fixed is follows = absurd follows
journal_stands rules first journal (line ∷ past) shift fits fixed is follows =
    subst (AllByRecursion (Stands first.epoch shift)) (ap reverse (sym is) ∙ reverse-reverse journal)
    (all-reverse (Stands first.epoch shift) (line ∷ past)
    (past_stands rules first line past shift fits fixed follows))

last_of_all : (line : TurnLine) (journal : List TurnLine) (at shift : ℕ)
    → AllByRecursion (Stands at shift) (line ∷ journal) → last_epoch (line ∷ journal) ≡ at
last_of_all line [] at shift (here, more) = here.stays.epoch
last_of_all line (next ∷ journal) at shift (here, more) = last_of_all next journal at shift more

module _ (input : Input) (setting : Setting) (first : TurnLine) (for : IsLineFor input setting first)
    {sizes : ℕ → List (ℕ × ℕ)} where
  each : (journal : List TurnLine) → IsLawfulSoFar (rules_of setting) (begun first) sizes journal → (shift : ℕ)
      → setting.fixed ≡ Some shift → AllByRecursion (Stands first.epoch shift) journal
  each journal law shift fixed =
      journal_stands (rules_of setting) (begun first) journal (reverse journal) shift
      (fits_begun (rules_of setting) first for.fits) fixed refl law.follows

  -- where a shift is fixed no line leaves it
  pub all_stay : (journal : List TurnLine) → IsLawfulSoFar (rules_of setting) (begun first) sizes journal → (shift : ℕ)
      → setting.fixed ≡ Some shift → All (StaysAt first.epoch shift) journal
  all_stay journal law shift fixed =
      All-from_recursion (StaysAt first.epoch shift) journal
      (weaken (Stands first.epoch shift) (StaysAt first.epoch shift) (λ line stands. stands.stays) journal
      (each journal law shift fixed))

  -- and there is no migration
  pub no_migration : (journal : List TurnLine) → IsLawfulSoFar (rules_of setting) (begun first) sizes journal
      → (shift : ℕ) → setting.fixed ≡ Some shift → last_epoch journal ≡ first.epoch
  no_migration [] law shift fixed = absurd law.follows
  no_migration (line ∷ journal) law shift fixed =
      last_of_all line journal first.epoch shift (each (line ∷ journal) law shift fixed)

-- so nothing moves
pub moves_nothing : (input : Input) (setting : Setting) (first : TurnLine) (journal : List TurnLine) (run : Run)
    → IsLineFor input setting first → IsRunOf input setting first journal run
    → (shift : ℕ) → setting.fixed ≡ Some shift → run.moved ≡ []
moves_nothing input setting first journal run for is shift fixed =
    let moves : ℕ → ℕ =
    λ n.
    moved input setting.k (stamp_by input setting first journal) (shift_by first journal) (first.epoch + n + 1) in
    let none : last_epoch journal - first.epoch ≡ 0 =
    omega (arith, no_migration input setting first for journal is.lawful.so_far shift fixed) in
    is.moved ∙ ap (λ n. map moves (range_with_len 0 n)) none
