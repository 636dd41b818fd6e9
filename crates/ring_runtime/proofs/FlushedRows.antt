-- Outlets that are flushed one after another.
use Rattle.std.proofs.Common.{◌≡◌, ℕ, ◌+◌, ◌≤◌, ◌<◌, inl, inr, ap, sym, subst, refl, ◌∙◌, Bool, true, false, true≢false}
use Rattle.std.proofs.Common.{Option, None, List, get_or, set, map, length, arith}
use Rattle.std.proofs.lemmas.Bool.{cases_eq}
use Rattle.std.proofs.lemmas.List.{get_or-set_other, get_or-set_same, get_or_default, length-set}
use Rattle.std.proofs.lemmas.List.Sums.{sum_by-set}
use Rattle.std.proofs.Math.Seq.{map-set_same}
use Rattle.ring_links.specs.Outlets.{OutletView}
use Rattle.ring_runtime.specs.Seats.{IsStuckAt, out_address, sent_at, waiting_at, waiting_in}

-- those below this place were flushed
pub record FlushesSome (place : ℕ) (moved : Bool) (old new : List (Option OutletView)) : Type 0 where
  pub long : length new ≡ length old
  pub same : (n : ℕ) → sent_at (get_or new n None) ≡ sent_at (get_or old n None)
  pub rest : (n : ℕ) → place ≤ n → get_or new n None ≡ get_or old n None
  pub less : moved ≡ true → waiting_in new < waiting_in old
  pub still : moved ≡ false → waiting_in new ≡ waiting_in old
  pub stuck : moved ≡ false → (n : ℕ) → n < place → IsStuckAt (get_or old n None)
  pub rings : map out_address new ≡ map out_address old

module _ (place : ℕ) (old new : List (Option OutletView)) (d slot' : Option OutletView) (low : place < length new)
    (same : sent_at slot' ≡ sent_at (get_or new place d))
    (ring : out_address slot' ≡ out_address (get_or new place d)) where
  abbrev slot : Option OutletView
  slot = get_or new place d

  here : get_or new place None ≡ slot
  here = get_or_default new place None d low

  same_there : (n : ℕ) → sent_at (get_or (set new place slot') n None) ≡ sent_at (get_or new n None)
  same_there n = elim (cases_eq n place) [
    | inl e ↦
        subst (λ k. sent_at (get_or (set new place slot') k None) ≡ sent_at (get_or new k None)) (sym e)
        (ap sent_at (get_or-set_same new place slot' None low) ∙ (same ∙ ap sent_at (sym here)))
    | inr other ↦ ap sent_at (get_or-set_other new place n slot' None other)
  ]

  rest_there : (n : ℕ) → place + 1 ≤ n → get_or (set new place slot') n None ≡ get_or new n None
  rest_there n later = get_or-set_other new place n slot' None (λ e. absurd (omega (arith, later, e)))

  sum_there : waiting_in (set new place slot') + waiting_at slot ≡ waiting_in new + waiting_at slot'
  sum_there = subst (λ x. waiting_in (set new place slot') + waiting_at x ≡ waiting_in new + waiting_at slot') here
      (sum_by-set waiting_at new place slot' None low)

  rings_there : map out_address (set new place slot') ≡ map out_address new
  rings_there = map-set_same out_address new place slot' d ring

  module _ (moved : Bool) (before : FlushesSome place moved old new) where
    stuck_there : IsStuckAt slot → moved ≡ false → (n : ℕ) → n < place + 1 → IsStuckAt (get_or old n None)
    stuck_there stuck none n below = elim (cases_eq n place) [
      | inl e ↦ subst (λ k. IsStuckAt (get_or old k None)) (sym e)
          (subst IsStuckAt (sym here ∙ before.rest place (omega arith)) stuck)
      | inr other ↦ before.stuck none n (omega (arith, below, other))
    ]

    -- one place more, whose outlet put a message
    pub flushed_went : waiting_at slot' < waiting_at slot → FlushesSome (place + 1) true old (set new place slot')
    flushed_went less =
        let sum = sum_there in
        record {
          long = length-set new place slot' ∙ before.long;
          same = λ n. same_there n ∙ before.same n;
          rest = λ n later. rest_there n later ∙ before.rest n (omega (arith, later));
          less = λ e. go moved refl sum;
          still = λ e. absurd (true≢false e);
          stuck = λ e. absurd (true≢false e);
          rings = rings_there ∙ before.rings;
        }
      where
        go : (b : Bool) → moved ≡ b
            → waiting_in (set new place slot') + waiting_at slot ≡ waiting_in new + waiting_at slot'
            → waiting_in (set new place slot') < waiting_in old
        go true e sum = let was = before.less e in omega (arith, was, sum, less)
        go false e sum = let was = before.still e in omega (arith, was, sum, less)

    -- one place more, whose outlet put none
    pub flushed_stayed : waiting_at slot' ≡ waiting_at slot → IsStuckAt slot
        → FlushesSome (place + 1) moved old (set new place slot')
    flushed_stayed still stuck =
        let sum = sum_there in
        record {
          long = length-set new place slot' ∙ before.long;
          same = λ n. same_there n ∙ before.same n;
          rest = λ n later. rest_there n later ∙ before.rest n (omega (arith, later));
          less = λ e. let was = before.less e in omega (arith, was, sum, still);
          still = λ e. let was = before.still e in omega (arith, was, sum, still);
          stuck = stuck_there stuck;
          rings = rings_there ∙ before.rings;
        }
