-- What a call leaves and sends is a function of what the machine held and of the message.
use Rattle.std.proofs.Common.{◌≡◌, ◌+◌, inl, inr, refl, sym, ◌∙◌, ap, Bool, true, false, cond, not, ◌&&◌, List, [], ◌∷◌}
use Rattle.std.proofs.Common.{◌++◌, drop}
use Rattle.std.specs.Prelude.{◌==◌, nat_le}
use Rattle.std.proofs.lemmas.Bool.{cases_Bool, eq-eqb, eqb-true, le-leb, leb-true, and_parts, and_from, not-true}
use Rattle.std.proofs.lemmas.List.{append-nil}
use Rattle.epoch_tags.specs.declared.message.Post.{Post}
use Rattle.epoch_tags.specs.declared.message.ToFeeder.{ToFeeder}
use Rattle.epoch_tags.specs.declared.message.ToFeeder.TheVariants.{Order, Grant, Stop}
use Rattle.reshuffler_core.specs.Standing.{FeederState, can_take, state_after, posts_for, after_held, posts_of_held}
use Rattle.reshuffler_core.specs.Machine.{Takes, IsStuck, IsReady}

-- ---- what it can take

takes_up : (s : FeederState) (m : ToFeeder) → Takes s m → can_take s m ≡ true
takes_up s (Order epoch shift) takes =
    and_from (epoch == s.epoch + 1) (nat_le shift s.start.k && not s.stopped) (eq-eqb epoch (s.epoch + 1) takes.0)
    (and_from (nat_le shift s.start.k) (not s.stopped) (le-leb shift s.start.k takes.1) (ap not takes.2))
takes_up s Grant takes = takes
takes_up s Stop takes = and_from s.drained (not s.stopped) takes.0 (ap not takes.1)

takes_from : (s : FeederState) (m : ToFeeder) → can_take s m ≡ true → Takes s m
takes_from s (Order epoch shift) up =
    let outer = and_parts (epoch == s.epoch + 1) (nat_le shift s.start.k && not s.stopped) up in
    let inner = and_parts (nat_le shift s.start.k) (not s.stopped) outer.1 in
    (eqb-true epoch (s.epoch + 1) outer.0, leb-true shift s.start.k inner.0, not-true s.stopped inner.1)
takes_from s Grant up = up
takes_from s Stop up = let parts = and_parts s.drained (not s.stopped) up in (parts.0, not-true s.stopped parts.1)

-- ---- what is held, and whether it is spent, makes no difference

module _ (held : List ToFeeder) (spent : Bool) where
  -- the machine with these
  abbrev other : FeederState → FeederState
  other s = record s { held = held; spent = spent }

  -- a machine with these takes the same of what is held, and stays as spent as it is
  pub after_other : (s : FeederState) (ms : List ToFeeder) → after_held (other s) ms
      ≡ record (after_held s ms) { spent = spent }
  after_other s [] = refl
  after_other s (Order epoch shift ∷ ms) = either (can_take s (Order epoch shift))
      (after_other (state_after s (Order epoch shift)) ms)
    where
      either : (t : Bool) → after_held (other (state_after s (Order epoch shift))) ms
          ≡ record (after_held (state_after s (Order epoch shift)) ms) { spent = spent }
          → cond t (after_held (other (state_after s (Order epoch shift))) ms)
          (record s { held = Order epoch shift ∷ ms; spent = spent })
          ≡ (let left : FeederState = cond t (after_held (state_after s (Order epoch shift)) ms)
          (record s { held = Order epoch shift ∷ ms }) in record left { spent = spent })
      either true is = is
      either false is = refl
  after_other s (Grant ∷ ms) = either (can_take s Grant) (after_other (state_after s Grant) ms)
    where
      either : (t : Bool) → after_held (other (state_after s Grant)) ms
          ≡ record (after_held (state_after s Grant) ms) { spent = spent }
          → cond t (after_held (other (state_after s Grant)) ms) (record s { held = Grant ∷ ms; spent = spent })
          ≡ (let left : FeederState = cond t (after_held (state_after s Grant) ms) (record s { held = Grant ∷ ms }) in
          record left { spent = spent })
      either true is = is
      either false is = refl
  after_other s (Stop ∷ ms) = either (can_take s Stop) (after_other (state_after s Stop) ms)
    where
      either : (t : Bool) → after_held (other (state_after s Stop)) ms
          ≡ record (after_held (state_after s Stop) ms) { spent = spent }
          → cond t (after_held (other (state_after s Stop)) ms) (record s { held = Stop ∷ ms; spent = spent })
          ≡ (let left : FeederState = cond t (after_held (state_after s Stop) ms) (record s { held = Stop ∷ ms }) in
          record left { spent = spent })
      either true is = is
      either false is = refl

  -- and sends the same
  pub posts_other : (s : FeederState) (ms : List ToFeeder) → posts_of_held (other s) ms ≡ posts_of_held s ms
  posts_other s [] = refl
  posts_other s (Order epoch shift ∷ ms) =
      ap (λ posts. cond (can_take s (Order epoch shift)) (posts_for s (Order epoch shift) ++ posts) [])
      (posts_other (state_after s (Order epoch shift)) ms)
  posts_other s (Grant ∷ ms) = ap (λ posts. cond (can_take s Grant) (posts_for s Grant ++ posts) [])
      (posts_other (state_after s Grant) ms)
  posts_other s (Stop ∷ ms) = ap (λ posts. cond (can_take s Stop) (posts_for s Stop ++ posts) [])
      (posts_other (state_after s Stop) ms)

-- ---- one taken

same_spent : (s : FeederState) (m : ToFeeder) (ms : List ToFeeder)
    → (state_after (record s { held = ms }) m) ≡ record (state_after s m) { held = ms; spent = s.spent }
same_spent s (Order epoch shift) ms = refl
same_spent s Grant ms = refl
same_spent s Stop ms = refl

keeps_spent : (s : FeederState) (ms : List ToFeeder) → record (after_held s ms) { spent = s.spent } ≡ after_held s ms
keeps_spent s ms = sym (after_other s.held s.spent s ms)

own_spent : (s : FeederState) (m : ToFeeder) → (state_after s m).spent ≡ s.spent
own_spent s (Order epoch shift) = refl
own_spent s Grant = refl
own_spent s Stop = refl

module _ (s : FeederState) (m : ToFeeder) (ready : IsReady s m) where
  abbrev left : List ToFeeder
  left = drop 1 s.held

  first : s.held ≡ m ∷ left
  first = ready.first ∙ ap (λ ms. m ∷ ms) (sym (ap (drop 1) ready.first))

  abbrev next : FeederState
  next = state_after (record s { held = left }) m

  up : can_take s m ≡ true
  up = takes_up s m ready.takes

  -- the first that is held was taken: what is left to take leaves the same machine
  pub one_state : after_held s s.held ≡ after_held next left
  one_state =
      ap (after_held s) first ∙ ap (λ t. cond t (after_held (state_after s m) left) (record s { held = m ∷ left })) up
      ∙ sym (keeps_spent (state_after s m) left) ∙ ap (λ b. record (after_held (state_after s m) left) { spent = b })
      (own_spent s m)
      ∙ sym (after_other left s.spent (state_after s m) left) ∙ ap (λ x. after_held x left) (sym (same_spent s m left))

  -- and what the first sends stands before what the others send
  pub one_posts : posts_of_held s s.held ≡ posts_for s m ++ posts_of_held next left
  one_posts =
      ap (posts_of_held s) first ∙ ap (λ t. cond t (posts_for s m ++ posts_of_held (state_after s m) left) []) up
      ∙ ap (λ posts. posts_for s m ++ posts) (sym (posts_other left s.spent (state_after s m) left)
      ∙ ap (λ x. posts_of_held x left) (sym (same_spent s m left)))

-- ---- none taken

module _ (s : FeederState) (stuck : IsStuck s) where
  down : (m : ToFeeder) (ms : List ToFeeder) → s.held ≡ m ∷ ms → can_take s m ≡ false
  down m ms at = elim (cases_Bool (can_take s m)) [
    | inl can ↦ absurd (stuck m ms at (takes_from s m can))
    | inr kept ↦ kept
  ]

  rests : (ms : List ToFeeder) → s.held ≡ ms → after_held s ms ≡ s
  rests [] at = ap (λ held. record s { held = held }) (sym at)
  rests (m ∷ ms) at = ap (λ t. cond t (after_held (state_after s m) ms) (record s { held = m ∷ ms })) (down m ms at)
      ∙ ap (λ held. record s { held = held }) (sym at)

  -- a machine that can take none of what it holds stays as it is
  pub stays_stuck : after_held s s.held ≡ s
  stays_stuck = rests s.held refl

  silent : (ms : List ToFeeder) → s.held ≡ ms → posts_of_held s ms ≡ []
  silent [] at = refl
  silent (m ∷ ms) at = ap (λ t. cond t (posts_for s m ++ posts_of_held (state_after s m) ms) []) (down m ms at)

  -- and sends nothing
  pub sends_nothing : posts_of_held s s.held ≡ []
  sends_nothing = silent s.held refl

-- ---- a whole call: it begins spent, with these held, and ends well

module _ (s new : FeederState) (held : List ToFeeder) (added : List Post) (stuck : IsStuck new) where
  -- where the steps of the call lead to the last machine, so does all that it holds
  pub whole_state : after_held (record s { held = held; spent = true }) held ≡ after_held new new.held
      → record new { spent = false } ≡ record (after_held s held) { spent = false }
  whole_state state = ap (λ (x : FeederState). record x { spent = false }) (sym (stays_stuck new stuck) ∙ sym state
      ∙ after_other held true s held)

  -- and what was added is all that this sends
  pub whole_posts : posts_of_held (record s { held = held; spent = true }) held ≡ added ++ posts_of_held new new.held
      → added ≡ posts_of_held s held
  whole_posts posts = sym (append-nil added) ∙ ap (λ ps. added ++ ps) (sym (sends_nothing new stuck)) ∙ sym posts
      ∙ posts_other held true s held
