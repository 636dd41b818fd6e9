-- The journal of an agreeing family is lawful so far.
use Rattle.std.proofs.Common.{◌≡◌, ℕ, ◌<◌, refl, sym, ◌∙◌, ap, subst, arith, cond, List, [], ◌∷◌, ◌++◌}
use Rattle.std.specs.Prelude.{map, count_by, reverse}
use Rattle.std.proofs.lemmas.List.{map-append, reverse-reverse}
use Rattle.row_cells.specs.declared.table.Side.TheVariants.{R, S}
use Rattle.row_cells.proofs.Bags.{sum_of_map}
use Rattle.epoch_tags.specs.declared.message.ToController.TheVariants.{Drained}
use Rattle.migration_plan.specs.Steps.{is_of}
use Rattle.reshuffler_core.specs.Law.{ask_for}
use Rattle.load_controller.specs.declared.line.Cause.TheVariants.{Count}
use Rattle.load_controller.specs.Journal.{begun, Follows, causes_of, all_causes, IsLawfulSoFar}
use Rattle.load_controller.specs.Law.{cause_of}
use Rattle.load_controller.proofs.Counted.{HaveLines, forwards}
use Rattle.trace_law.specs.declared.input.Input.{Input}
use Rattle.row_tickets.specs.declared.place.Place.{Place}
use Rattle.trace_law.specs.Batches.{size_of}
use Rattle.trace_law.specs.declared.setting.Setting.{Setting}
use Rattle.trace_law.specs.Validity.{IsValid}
use Rattle.trace_law.specs.Family.{Rest, IsRestFor, Family, IsAgreeing, rules_of, batches, tuple_of}
use Rattle.trace_law.proofs.Begun.{no_request}
use Rattle.trace_law.proofs.Lines.{have_lines, came}
use Rattle.trace_law.proofs.Shares.{asks_for_r, asks_for_s}

-- all that a feeder will ask for are all causes of its lines
pub causes_asked : (input : Input) (p : ℕ) (bs : List (List Place))
    → map (cause_of p) (map ask_for (map (λ batch. map (tuple_of input 0) batch) bs) ++ Drained ∷ [])
    ≡ all_causes p (map size_of bs)
causes_asked input p [] = refl
causes_asked input p (batch ∷ bs) =
    let r = sum_of_map (λ t. cond (is_of R t) 1 0) (tuple_of input 0) batch in
    let s = sum_of_map (λ t. cond (is_of S t) 1 0) (tuple_of input 0) batch in
    let more = causes_asked input p bs in
    let here : Count p (count_by (is_of R) (map (tuple_of input 0) batch))
    (count_by (is_of S) (map (tuple_of input 0) batch)) ≡ Count p (size_of batch).0 (size_of batch).1 =
    ap (λ n. Count p n (count_by (is_of S) (map (tuple_of input 0) batch))) r
    ∙ ap (λ n. Count p (size_of batch).0 n) s in
    ap (λ c. c ∷ map (cause_of p) (map ask_for (map (λ b. map (tuple_of input 0) b) bs) ++ Drained ∷ [])) here
    ∙ ap (λ cs. Count p (size_of batch).0 (size_of batch).1 ∷ cs) more

module _ (input : Input) (setting : Setting) (valid : IsValid input setting) (rest : Rest)
    (stands : IsRestFor input setting rest) (f : Family) (agrees : IsAgreeing input setting rest f) where
  -- the journal is the past of the law, read forwards
  pub journal_is : f.controller.journal ≡ reverse (agrees.controller.line ∷ agrees.controller.past)
  journal_is = sym (reverse-reverse f.controller.journal) ∙ ap reverse agrees.controller.journal

  -- each message of a feeder has its line
  pub lines_of : (p : ℕ) → p < setting.feeders
      → HaveLines p (agrees.controller.line ∷ agrees.controller.past) (f.controller.from_feeder p)
  lines_of p low =
      let low_r = stands.line.within_r in
      let low_s = stands.line.within_s in
      have_lines input setting rest f agrees
      (omega
      (arith, asks_for_r input setting valid.some valid.batch rest low_r low_s, (valid.of_input.sides R).few))
      (omega
      (arith, asks_for_s input setting valid.some valid.batch rest low_r low_s, (valid.of_input.sides S).few)) p low

  -- the causes of a feeder's lines are its messages
  pub causes_are : (p : ℕ) → p < setting.feeders
      → causes_of p f.controller.journal ≡ map (cause_of p) (f.controller.from_feeder p)
  causes_are p low =
      let of_past = lines_of p low in
      ap (causes_of p) journal_is
      ∙ forwards (rules_of setting) (begun rest.line)
      agrees.controller.line agrees.controller.past p agrees.controller.follows (no_request p rest.line.cause)
      ∙ of_past.causes

  -- the journal of an agreeing family is lawful so far
  pub lawful_so_far : IsLawfulSoFar (rules_of setting) (begun rest.line)
      (λ p. map size_of (batches input setting rest.line p)) f.controller.journal
  lawful_so_far = record {
    follows =
        subst (λ ls. Follows (rules_of setting) (begun rest.line) ls) (sym agrees.controller.journal)
        agrees.controller.follows;
    counts = λ p low.
        let front = came input setting rest f agrees p low in
        record {
          rest = map (cause_of p) front.rest;
          joins =
              ap (λ cs. cs ++ map (cause_of p) front.rest) (causes_are p low)
              ∙ sym (map-append (cause_of p) (f.controller.from_feeder p) front.rest)
              ∙ ap (map (cause_of p)) front.joins
              ∙ causes_asked input p (batches input setting rest.line p);
        };
  }
