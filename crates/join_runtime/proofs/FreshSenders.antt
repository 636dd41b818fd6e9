-- Members of lists, and the senders of a new inbox by their names.
use Rattle.std.proofs.Common.{◌≡◌, ℕ, zero, suc, ◌<◌, refl, sym, ap, subst, ◌∙◌, Bool, true, false, List, [], ◌∷◌}
use Rattle.std.proofs.Common.{get_or, map, length, arith, true≢false, eqb, cond, eq-eqb, eqb-true}
use Rattle.std.specs.Prelude.{Contains}
use Rattle.std.proofs.lemmas.List.{length-map, get_or-map, get_or_default}
use Rattle.epoch_tags.specs.declared.actor.Actor.{Actor}
use Rattle.ruled_links.specs.Delivery.{number_of}
use Rattle.ruled_links.specs.Inboxes.{is_sender, fresh}
use Rattle.ruled_links.proofs.PartsLemmas.{name_once}
use Rattle.join_runtime.specs.Joins.{Knows}

-- a member of what a function makes of a list is made of a member of that list
pub contains_map : {X Y : Type 0} (g : X → Y) (xs : List X) (y : Y) → Contains (map g xs) y → (x : X) × Contains xs x
    × (g x ≡ y)
contains_map g [] y has = absurd (let low = has.1 in omega (arith, low))
contains_map g (x ∷ xs) y has = go has.0 has.1 has.2
  where
    go : (k : ℕ) → k < length (map g (x ∷ xs)) → get_or (map g (x ∷ xs)) k y ≡ y → (z : _) × Contains (x ∷ xs) z
        × (g z ≡ y)
    go k low is =
        let low' : k < length (x ∷ xs) = subst (λ n. k < n) (length-map (x ∷ xs) g) low in
        let z = get_or (x ∷ xs) k x in
        (z, (k, low', get_or_default (x ∷ xs) k z x low'), sym (get_or-map g (x ∷ xs) k x y low') ∙ is)

-- and what the function makes of a member is a member of what it makes of the list
pub map_contains : {X Y : Type 0} (g : X → Y) (xs : List X) (x : X) → Contains xs x → Contains (map g xs) (g x)
map_contains g xs x has = (
  has.0,
  subst (λ n. has.0 < n) (sym (length-map xs g)) has.1,
  get_or-map g xs has.0 x (g x) has.1 ∙ ap g has.2,
)

-- a sender of a new inbox is one of the names
pub named : (a : Actor) (names : List Actor) → is_sender a (map fresh names) ≡ true → Contains names a
named a [] is = absurd (true≢false (sym is))
named a (x ∷ names) is = go (eqb (number_of x) (number_of a)) refl is (λ is'. named a names is')
  where
    go : (b : Bool) → eqb (number_of x) (number_of a) ≡ b → cond b true (is_sender a (map fresh names)) ≡ true
        → (is_sender a (map fresh names) ≡ true → Contains names a) → Contains (x ∷ names) a
    go true e is' rest = (0, omega arith, name_once x a (eqb-true (number_of x) (number_of a) e))
    go false e is' rest = let later = rest is' in (suc later.0, omega (arith, later.1), later.2)

-- and each name is a sender
pub is_named : (a : Actor) (names : List Actor) → Contains names a → is_sender a (map fresh names) ≡ true
is_named a [] has = absurd (let low = has.1 in omega (arith, low))
is_named a (x ∷ names) has = go has.0 has.1 has.2 (λ rest. is_named a names rest)
  where
    go : (k : ℕ) → k < length (x ∷ names) → get_or (x ∷ names) k a ≡ a
        → (Contains names a → is_sender a (map fresh names) ≡ true)
        → cond (eqb (number_of x) (number_of a)) true (is_sender a (map fresh names)) ≡ true
    go zero low is rest = ap (λ b. cond b true (is_sender a (map fresh names)))
        (eq-eqb (number_of x) (number_of a) (ap number_of is))
    go (suc k) low is rest = later (eqb (number_of x) (number_of a)) (rest (k, omega arith, is))
      where
        later : (b : Bool) → is_sender a (map fresh names) ≡ true → cond b true (is_sender a (map fresh names)) ≡ true
        later true e = refl
        later false e = e

-- a new inbox knows of nothing left of any sender
pub knows_fresh : (from : Actor) (names : List Actor) → Knows from 0 (map fresh names)
knows_fresh from [] = tt
knows_fresh from (x ∷ names) = ((λ e. refl), knows_fresh from names)
