-- The mouths of one seat are taken, held together with the inboxes to which they lead, and given back.
use Rattle.std.proofs.Common.{◌≡◌, ◌∙◌, ◌<◌, ℕ, Bool, true, false, Option, Some, None, List, [], ap, arith, get_or}
use Rattle.std.proofs.Common.{inl, inr, length, set, subst, sym}
use Rattle.std.proofs.lemmas.Bool.{cases_eq}
use Rattle.std.proofs.lemmas.List.{get_or_default, get_or-set_other, get_or-set_same}
use Rattle.ruled_links.specs.Ends.{Sending}
use Rattle.ruled_links.specs.Inboxes.{told}
use Rattle.join_runtime.specs.Joins.{Tells, slot_of}
use Rattle.join_runtime.specs.Serving.{IsServed}
use Rattle.join_runtime.specs.Views.{SeatView}

-- a seat whose mouths are away
abbrev pub without : SeatView → SeatView
without s = record s { mouths = []; spent = true }

-- what a seat was told while its mouths were away, it was told
told_back : (slot : Option Sending) (s last new : SeatView) → s.spent ≡ false → Tells slot (without s) last
    → new ≡ record last { mouths = s.mouths; spent = false } → Tells slot s new
told_back None s last new awake is now =
    now ∙ (ap (λ (x : SeatView). record x { mouths = s.mouths; spent = false }) is
    ∙ ap (λ (b : Bool). record s { spent = b }) (sym awake))
told_back (Some mouth) s last new awake is now = record {
  count = is.count;
  agrees = is.agrees;
  sender = is.sender;
  now = now ∙ (ap (λ (x : SeatView). record x { mouths = s.mouths; spent = false }) is.now
      ∙ ap (λ (b : Bool). record s {
        inbox = record s.inbox { senders = told mouth.from is.count s.inbox.senders };
        spent = b;
      }) (sym awake));
}

-- its machine is served by these mouths still
told_served : (slot : Option Sending) (s last : SeatView) (mouths : List (Option Sending))
    → Tells slot (without s) last → IsServed s.cast mouths s.core
    → IsServed last.cast mouths last.core
told_served None s last mouths is served =
    subst (λ (x : SeatView). IsServed x.cast mouths x.core) (sym is) served
told_served (Some mouth) s last mouths is served =
    subst (λ (x : SeatView). IsServed x.cast mouths x.core) (sym is.now) served

-- the mouths of one of these seats were taken, and each seat was told what is left of the mouth to it
module _ (seats after : List SeatView) (sender : ℕ) (s t last : SeatView) (mouths : List (Option Sending))
    (low : sender < length seats) (long : length after ≡ length seats) (here : s ≡ get_or seats sender s)
    (away : t ≡ without s) (own : mouths ≡ s.mouths) (then : last ≡ get_or after sender last)
    (told_all : (r : ℕ) (d : SeatView) → r < length seats
    → Tells (get_or mouths r None) (get_or (set seats sender t) r d) (get_or after r d)) where
  at_sender : Tells (get_or s.mouths sender None) (without s) last
  at_sender =
      subst (λ ms. Tells (get_or ms sender None) (without s) last) own
      (subst (Tells (get_or mouths sender None) (without s)) (sym then)
      (subst (λ (x : SeatView). Tells (get_or mouths sender None) x (get_or after sender last))
      (get_or-set_same seats sender t last low ∙ away) (told_all sender last low)))

  -- so they serve its machine still
  pub served_back : IsServed s.cast s.mouths s.core → IsServed last.cast mouths last.core
  served_back served =
      subst (λ ms. IsServed last.cast ms last.core) (sym own)
      (told_served (get_or s.mouths sender None) s last s.mouths at_sender served)

  -- and once they are given back, each seat was told what is left of the mouth to it, and nothing else changed
  pub told_given : (new : SeatView) → s.spent ≡ false → new ≡ record last { mouths = mouths; spent = false }
      → (r : ℕ) (d : SeatView) → r < length seats
      → Tells (slot_of seats d sender r) (get_or seats r d) (get_or (set after sender new) r d)
  told_given new awake now r d low' =
      let mine : s ≡ get_or seats sender d = here ∙ get_or_default seats sender s d low in
      let slot_is : get_or mouths r None ≡ slot_of seats d sender r =
      ap (λ ms. get_or ms r None) own ∙ ap (λ (x : SeatView). get_or x.mouths r None) mine in
      elim (cases_eq r sender) [
        | inl same ↦
            subst (λ z. Tells (slot_of seats d sender z) (get_or seats z d) (get_or (set after sender new) z d))
            (sym same)
            (subst (Tells (slot_of seats d sender sender) (get_or seats sender d))
            (sym (get_or-set_same after sender new d (omega (arith, low, long))))
            (subst (λ (x : SeatView). Tells (get_or x.mouths sender None) x new) mine
            (told_back (get_or s.mouths sender None) s last new awake at_sender
            (now ∙ ap (λ ms. record last { mouths = ms; spent = false }) own))))
        | inr other ↦
            subst (Tells (slot_of seats d sender r) (get_or seats r d))
            (sym (get_or-set_other after sender r new d other))
            (subst (λ (x : SeatView). Tells (slot_of seats d sender r) x (get_or after r d))
            (get_or-set_other seats sender r t d other)
            (subst (λ slot. Tells slot (get_or (set seats sender t) r d) (get_or after r d)) slot_is
            (told_all r d low')))
      ]
