-- A joiner sends messages to none but those that differ from it in one digit of their numbers.
use Rattle.std.proofs.Common.{◌≡◌, ℕ, ◌+◌, ◌<◌, ◌^◌, inl, inr, refl, sym, ◌∙◌, subst, arith, length, List, [], ◌∷◌}
use Rattle.std.proofs.Common.{◌++◌}
use Rattle.epoch_tags.specs.declared.actor.Actor.TheVariants.{Joiner}
use Rattle.epoch_tags.specs.declared.message.ToJoiner.{ToJoiner}
use Rattle.epoch_tags.specs.Messages.{turns, moved_of, moved_ends}
use Rattle.epoch_tags.specs.Orders.{NeverFalls}
use Rattle.epoch_tags.specs.Links.{HasLink, joiner_joiner}
use Rattle.joiner_law.specs.Law.{JoinerStart, Taken, AllTurned, opened, shift_after, partner_of}
use Rattle.joiner_law.proofs.TakesAll.{at_least, shows}
use Rattle.row_cells.proofs.Totals.{greatest_above}
use Rattle.trace_law.specs.declared.input.Input.{Input}
use Rattle.trace_law.specs.declared.setting.Setting.{Setting}
use Rattle.trace_law.specs.Family.{Rest, Family, IsAgreeing, joiner_start}
use Rattle.trace_law.proofs.Membership.{low_within}

module _ (input : Input) (setting : Setting) (some : 0 < setting.feeders) (rest : Rest) (f : Family)
    (agrees : IsAgreeing input setting rest f) where
  abbrev start : ℕ → JoinerStart
  start j = joiner_start input setting rest j

  abbrev took : ℕ → Taken
  took j = agrees.taken_by_joiner j

  -- the partner of an opened step is joined by a link
  to_partner : (i n : ℕ) → i < 2 ^ setting.k → n < opened (start i) (took i)
      → HasLink setting.k setting.feeders (Joiner i) (Joiner (partner_of (start i) (took i) n))
  to_partner i n h low =
      let law = agrees.joiners i h in
      joiner_joiner h
      (low_within setting.k (shift_after (start i) (took i) n) (shift_after (start i) (took i) (n + 1))
      (law.by_one n low) (law.within n (omega arith)) (law.within (n + 1) (omega arith)))

  turned_opened : (i n : ℕ) → AllTurned (start i) (took i) n → n < opened (start i) (took i)
  turned_opened i n turned = let one = turned 0 some in
      omega (arith, greatest_above setting.feeders (λ p. turns ((took i).from_feeder p)) 0 some)

  -- where a message was sent there is a link
  pub has_link : (i j : ℕ) → i < 2 ^ setting.k → (m : ToJoiner) (more : List ToJoiner)
      → (f.joiner i).to_joiner j ≡ m ∷ more → HasLink setting.k setting.feeders (Joiner i) (Joiner j)
  has_link i j h m more is =
      let law = agrees.joiners i h in
      let here =
      at_least rest.line.epoch [] more m (subst (λ ms. NeverFalls rest.line.epoch ms) is (law.never_falls j)) in
      let e = here.0 in
      elim (shows e [] more m here.1) [
        | inl moved ↦
            let r = law.moved_only j e (subst (λ ms. 0 < length (moved_of e ms)) (sym is) moved) in
            subst (λ q. HasLink setting.k setting.feeders (Joiner i) (Joiner q)) (sym r.3) (to_partner i r.0 h r.2)
        | inr ended ↦
            let r = law.ended_only j e (subst (λ ms. 0 < moved_ends e ms) (sym is) ended) in
            subst (λ q. HasLink setting.k setting.feeders (Joiner i) (Joiner q)) (sym r.3)
            (to_partner i r.0 h (turned_opened i r.0 r.2))
      ]

  -- and where there is none no message
  pub none_sent : (i j : ℕ) → i < 2 ^ setting.k → ¬ HasLink setting.k setting.feeders (Joiner i) (Joiner j)
      → (f.joiner i).to_joiner j ≡ []
  none_sent i j h apart = by_list ((f.joiner i).to_joiner j) refl
    where
      by_list : (ms : List ToJoiner) → (f.joiner i).to_joiner j ≡ ms → (f.joiner i).to_joiner j ≡ []
      by_list [] is = is
      by_list (m ∷ more) is = absurd (apart (has_link i j h m more is))

  -- where nothing was sent nothing was received
  pub none_received : (i j : ℕ) → i < 2 ^ setting.k → j < 2 ^ setting.k → (f.joiner i).to_joiner j ≡ []
      → (f.joiner j).from_joiner i ≡ []
  none_received i j h h' none = let link = agrees.joiner_joiner i j h h' in
      empty_front ((f.joiner j).from_joiner i) link.rest (link.joins ∙ none)
    where
      empty_front : (xs ys : List ToJoiner) → xs ++ ys ≡ [] → xs ≡ []
      empty_front [] ys none = refl
      empty_front (x ∷ xs) ys none = cc
