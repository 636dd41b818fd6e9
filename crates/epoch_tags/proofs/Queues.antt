-- Queues in a list of queues.
use Rattle.std.proofs.Common.{◌≡◌, ℕ, ◌<◌, refl, sym, ◌∙◌, ap, arith, List, [], ◌∷◌, ◌++◌, length, get_or, set}
use Rattle.std.proofs.Common.{get_or-set_same, Option, Some, None}
use Rattle.std.specs.Prelude.{map, MatchOption, OnErr, Result, Ok, Err, option_to_list, drop}
use Rattle.std.proofs.lemmas.List.{map-set, get_or-map, length-map}
use Rattle.epoch_tags.specs.Held.{held_at}

-- one queue is put in place of another
pub put-queue : {Q M : Type 0} (f : Q → List M) (qs : List Q) (i : ℕ) (q : Q) (now : List (List M)) → map f qs ≡ now
    → map f (set qs i q) ≡ set now i (f q)
put-queue f qs i q now is = map-set f qs i q ∙ ap (λ z. set z i (f q)) is

-- a queue as it stands
pub at-queue : {Q M : Type 0} (f : Q → List M) (qs : List Q) (i : ℕ) (q d : Q) (now : List (List M)) → map f qs ≡ now
    → i < length now → q ≡ get_or qs i d → f q ≡ held_at now i
at-queue f qs i q d now is low here =
    let within : i < length qs = let same = ap length is in let n = length-map qs f in omega arith in
    ap f here ∙ sym (get_or-map f qs i d [] within) ∙ ap (λ z. get_or z i []) is

-- what a pop gives is the first, and the rest is left
pub popped : {M : Type 0} (r : Option M) (old new : List M) → old ≡ option_to_list r ++ new → new ≡ drop 1 old
    → MatchOption r (old ≡ []) (λ m. old ≡ m ∷ new)
popped None [] new is rest = refl
popped None (x ∷ xs) new is rest = let a = ap length is in let b : length new ≡ length xs = ap length rest in
    absurd (omega arith)
popped (Some m) old new is rest = is

-- so it is of equal lists
pub same-popped : {M : Type 0} (r : Option M) (old new a b : List M) → old ≡ a → new ≡ b
    → MatchOption r (old ≡ []) (λ m. old ≡ m ∷ new) → MatchOption r (a ≡ []) (λ m. a ≡ m ∷ b)
same-popped None old new a b one two is = sym one ∙ is
same-popped (Some m) old new a b one two is = sym one ∙ is ∙ ap (λ zs. m ∷ zs) two

-- the queue that was put is the one that is held
pub new-queue : {Q M : Type 0} (f : Q → List M) (qs : List Q) (i : ℕ) (q : Q) (now : List (List M)) → map f qs ≡ now
    → i < length now → held_at (map f (set qs i q)) i ≡ f q
new-queue f qs i q now is low = ap (λ z. held_at z i) (put-queue f qs i q now is) ∙ get_or-set_same now i (f q) [] low

-- the first is gone where there was one
pub rest-left : {M : Type 0} (r : Option M) (m : M) (old new rest : List M)
    → MatchOption r (old ≡ []) (λ x. old ≡ x ∷ new) → old ≡ m ∷ rest → new ≡ rest
rest-left None m old new rest is begins = let a : length old ≡ 0 = ap length is in
    let b : length old ≡ length (m ∷ rest) = ap length begins in absurd (omega arith)
rest-left (Some x) m old new rest is begins = ap (drop 1) (sym is ∙ begins)

-- what holds anyhow holds of an error
pub on-err : {T E P : Type 0} (r : Result T E) → P → OnErr r P
on-err (Ok x) p = tt
on-err (Err e) p = p
