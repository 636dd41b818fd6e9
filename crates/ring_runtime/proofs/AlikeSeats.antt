-- Seats whose rings were held together are what they were, but for what they know.
use Rattle.std.proofs.Common.{◌≡◌, ℕ, ◌+◌, ◌<◌, ◌≤◌, inl, inr, refl, sym, ap, subst, ◌∙◌, Option, Some, None, List, []}
use Rattle.std.proofs.Common.{◌∷◌, get_or, map, length, sum_by, suc, arith}
use Rattle.std.proofs.lemmas.Bool.{cases_lt}
use Rattle.std.proofs.lemmas.List.{get_or_past}
use Rattle.std.proofs.lemmas.List.Sums.{sum_by-cons}
use Rattle.ring_links.specs.Rings.{Receiving}
use Rattle.ring_links.specs.Outlets.{OutletView}
use Rattle.actor_core.specs.Numbers.{at_number, number}
use Rattle.ring_runtime.specs.Seats.{RingSeatView, frame_of, in_address, out_address, player_of, received_at}
use Rattle.ring_runtime.specs.Seats.{received_from, sent_at, sent_to, waiting_at}
use Rattle.ring_runtime.specs.Wiring.{HasSamePlaces, in_of, out_of}
use Rattle.ring_runtime.specs.Joins.{AllHeld, AreHeld, HoldsBelow, IsAlike, IsHeldAt}

-- ---- lists that are the same at each place

-- what f makes of each element is the same
pub map_same : {X Y : Type 0} (f : X → Y) (xs ys : List X) (d : X) → length ys ≡ length xs
    → ((n : ℕ) → f (get_or ys n d) ≡ f (get_or xs n d)) → map f ys ≡ map f xs
map_same f [] [] d long same = refl
map_same f [] (y ∷ ys) d long same = absurd (omega arith)
map_same f (x ∷ xs) [] d long same = absurd (omega arith)
map_same f (x ∷ xs) (y ∷ ys) d long same =
    let first = same 0 in
    let rest = map_same f xs ys d (omega arith) (λ n. same (suc n)) in
    λ i. first i ∷ rest i

sum_same : {X : Type 0} (f : X → ℕ) (xs ys : List X) (d : X) → length ys ≡ length xs
    → ((n : ℕ) → f (get_or ys n d) ≡ f (get_or xs n d)) → sum_by f ys ≡ sum_by f xs
sum_same f [] [] d long same = refl
sum_same f [] (y ∷ ys) d long same = absurd (omega arith)
sum_same f (x ∷ xs) [] d long same = absurd (omega arith)
sum_same f (x ∷ xs) (y ∷ ys) d long same =
    let first = same 0 in
    let rest = sum_same f xs ys d (omega arith) (λ n. same (suc n)) in
    sum_by-cons f y ys ∙ ((λ i. first i + rest i) ∙ sym (sum_by-cons f x xs))

-- seats whose frames are the same at each place
pub frames_same : (old new : List RingSeatView) → length new ≡ length old
    → ((n : ℕ) (d : RingSeatView) → n < length old → frame_of (get_or new n d) ≡ frame_of (get_or old n d))
    → map frame_of new ≡ map frame_of old
frames_same [] [] long same = refl
frames_same [] (y ∷ ys) long same = absurd (omega arith)
frames_same (x ∷ xs) [] long same = absurd (omega arith)
frames_same (x ∷ xs) (y ∷ ys) long same =
    let first : frame_of y ≡ frame_of x = same 0 x (omega arith) in
    let rest = frames_same xs ys (omega arith) (λ n d low. same (suc n) d (omega arith)) in
    λ i. first i ∷ rest i

-- ---- two ends that were held together

-- what an outlet has but for what it knows
pub held_out : {Y : Type 0} (f : Option OutletView → Y)
    → ((o : OutletView) (places : ℕ) (refused : _)
    → f (Some (record o { out = record o.out { places = places; refused = refused } })) ≡ f (Some o))
    → (out : Option OutletView) (inn : Option Receiving) (out' : Option OutletView) (inn' : Option Receiving)
    → AllHeld out inn out' inn' → f out' ≡ f out
held_out f same None None None None held = refl
held_out f same None None None (Some inn') held = absurd held
held_out f same None None (Some out') inn' held = absurd held
held_out f same None (Some inn) out' inn' held = absurd held
held_out f same (Some out) None out' inn' held = absurd held
held_out f same (Some out) (Some inn) None inn' held = absurd held
held_out f same (Some out) (Some inn) (Some out') None held = absurd held
held_out f same (Some out) (Some inn) (Some out') (Some inn') held =
    ap (λ o. f (Some o)) held.outlet ∙ same out out'.out.places out'.out.refused

-- and what the other end has
held_in : {Y : Type 0} (f : Option Receiving → Y)
    → ((i : Receiving) (known : ℕ) → f (Some (record i { known = known })) ≡ f (Some i))
    → (out : Option OutletView) (inn : Option Receiving) (out' : Option OutletView) (inn' : Option Receiving)
    → AllHeld out inn out' inn' → f inn' ≡ f inn
held_in f same None None None None held = refl
held_in f same None None None (Some inn') held = absurd held
held_in f same None None (Some out') inn' held = absurd held
held_in f same None (Some inn) out' inn' held = absurd held
held_in f same (Some out) None out' inn' held = absurd held
held_in f same (Some out) (Some inn) None inn' held = absurd held
held_in f same (Some out) (Some inn) (Some out') None held = absurd held
held_in f same (Some out) (Some inn) (Some out') (Some inn') held =
    ap (λ i. f (Some i)) held.ring_in ∙ same inn inn'.known

is_held : (out : Option OutletView) (inn : Option Receiving) (out' : Option OutletView) (inn' : Option Receiving)
    → AllHeld out inn out' inn' → IsHeldAt out' inn'
is_held None None None None held = tt
is_held None None None (Some inn') held = absurd held
is_held None None (Some out') inn' held = absurd held
is_held None (Some inn) out' inn' held = absurd held
is_held (Some out) None out' inn' held = absurd held
is_held (Some out) (Some inn) None inn' held = absurd held
is_held (Some out) (Some inn) (Some out') None held = absurd held
is_held (Some out) (Some inn) (Some out') (Some inn') held = held.held

-- ---- a seat

-- with other ends through which as much went, it is the same actor at work
like : (s : RingSeatView) (ins : List (Option Receiving)) (outs : List (Option OutletView))
    → ((n : ℕ) → received_from ins n ≡ received_from s.ins n) → ((n : ℕ) → sent_to outs n ≡ sent_to s.outs n)
    → player_of (record s { ins = ins; outs = outs }) ≡ player_of s
like s ins outs received sent = λ i. record {
  core = s.core;
  lists = record {
    received = λ a. at_number [] (number s.cast a) (λ n. received n i);
    sent = λ a. at_number [] (number s.cast a) (λ n. sent n i);
  };
}

module _ (s t : RingSeatView) (places : HasSamePlaces s t)
    (received : (n : ℕ) → received_from t.ins n ≡ received_from s.ins n)
    (sent : (n : ℕ) → sent_to t.outs n ≡ sent_to s.outs n)
    (ins : (n : ℕ) → in_address (get_or t.ins n None) ≡ in_address (get_or s.ins n None))
    (outs : (n : ℕ) → out_address (get_or t.outs n None) ≡ out_address (get_or s.outs n None))
    (waiting : (n : ℕ) → waiting_at (get_or t.outs n None) ≡ waiting_at (get_or s.outs n None)) where
  ins_same : map in_address t.ins ≡ map in_address s.ins
  ins_same = map_same in_address s.ins t.ins None places.ins ins

  outs_same : map out_address t.outs ≡ map out_address s.outs
  outs_same = map_same out_address s.outs t.outs None places.outs outs

  alike : IsAlike s t
  alike = record {
    player = ap player_of places.same ∙ like s t.ins t.outs received sent;
    frame =
        ap (λ (u : RingSeatView).
        record {
          cast = u.cast;
          actor = u.actor;
          ins = map in_address t.ins;
          outs = map
              out_address t.outs;
        }) places.same
        ∙ (λ i. record {
          cast = s.cast;
          actor = s.actor;
          ins = ins_same i;
          outs = outs_same
              i;
        });
    waiting = sum_same waiting_at s.outs t.outs None places.outs waiting;
    spent = ap (λ (u : RingSeatView). u.spent) places.same;
  }

-- ---- all seats

-- the seats of a run, whose rings were held together
module _ (old new : List RingSeatView) (holds : HoldsBelow (length old) old new)
    (outs_many : (n : ℕ) (d : RingSeatView) → n < length old → length (get_or old n d).outs ≡ length old)
    (ins_many : (n : ℕ) (d : RingSeatView) → n < length old → length (get_or old n d).ins ≡ length old) where
  -- of each outlet of a seat, what f says of it is as it was
  out_same : {Y : Type 0} (f : Option OutletView → Y)
      → ((o : OutletView) (places : ℕ) (refused : _)
      → f (Some (record o { out = record o.out { places = places; refused = refused } })) ≡ f (Some o))
      → (n : ℕ) (d : RingSeatView) → n < length old → (r : ℕ) → f (out_of new d n r) ≡ f (out_of old d n r)
  out_same f same n d low r = elim (cases_lt r (length old)) [
    | inl below ↦
        held_out f same (out_of old d n r) (in_of old d r n) (out_of new d n r) (in_of new d r n)
        (holds.held n r d low below)
    | inr past ↦
        let long = outs_many n d low in
        ap f
        (get_or_past (get_or new n d).outs r None (subst (λ z. z ≤ r) (sym ((holds.same n d low).outs ∙ long)) past)
        ∙ sym (get_or_past (get_or old n d).outs r None (subst (λ z. z ≤ r) (sym long) past)))
  ]

  in_same : {Y : Type 0} (f : Option Receiving → Y)
      → ((i : Receiving) (known : ℕ) → f (Some (record i { known = known })) ≡ f (Some i))
      → (r : ℕ) (d : RingSeatView) → r < length old → (n : ℕ) → f (in_of new d r n) ≡ f (in_of old d r n)
  in_same f same r d low n = elim (cases_lt n (length old)) [
    | inl below ↦
        held_in f same (out_of old d n r) (in_of old d r n) (out_of new d n r) (in_of new d r n)
        (holds.held n r d below low)
    | inr past ↦
        let long = ins_many r d low in
        ap f
        (get_or_past (get_or new r d).ins n None (subst (λ z. z ≤ n) (sym ((holds.same r d low).ins ∙ long)) past)
        ∙ sym (get_or_past (get_or old r d).ins n None (subst (λ z. z ≤ n) (sym long) past)))
  ]

  -- so is each seat
  pub alike_at : (n : ℕ) (d : RingSeatView) → n < length old → IsAlike (get_or old n d) (get_or new n d)
  alike_at n d low =
      alike (get_or old n d) (get_or new n d) (holds.same n d low) (in_same received_at (λ i known. refl) n d low)
      (out_same sent_at (λ o places refused. refl) n d low)
      (in_same in_address (λ i known. refl) n d low) (out_same out_address (λ o places refused. refl) n d low)
      (out_same waiting_at (λ o places refused. refl) n d low)

  -- they are the same seats, joined as they were
  pub frames_alike : map frame_of new ≡ map frame_of old
  frames_alike = frames_same old new holds.long (λ n d low. (alike_at n d low).frame)

  -- and each ring was held
  pub are_held : AreHeld new
  are_held n r d low low' =
      let before = subst (λ z. n < z) holds.long low in
      let before' = subst (λ z. r < z) holds.long low' in
      is_held (out_of old d n r) (in_of old d r n) (out_of new d n r) (in_of new d r n)
      (holds.held n r d before before')
