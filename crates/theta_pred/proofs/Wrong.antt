-- The first wrong name of two lists, one behind the other.
use Rattle.std.proofs.Common.{◌≡◌, ℕ, suc, ◌+◌, ◌<◌, List, [], ◌∷◌, ◌++◌, length, Bool, true, false, cond, refl, sym}
use Rattle.std.proofs.Common.{◌∙◌, ap, subst, append_assoc, zero-add, arith}
use Rattle.std.specs.Prelude.{All}
use Rattle.std.specs.Str.{bytes_eq}
use Rattle.std.proofs.lemmas.List.Elements.{All-nil, All-append, All-cons, All-head, All-weaker}
use Rattle.row_cells.specs.declared.table.Side.{Side}
use Rattle.row_cells.specs.declared.table.Side.TheVariants.{R, S}
use Rattle.theta_tree.specs.declared.tree.Name.{Name}
use Rattle.theta_pred.specs.declared.fault.ResolveFault.{ResolveFault}
use Rattle.theta_pred.specs.declared.fault.ResolveFault.TheVariants.{NoColumn, TwoColumns, Memory}
use Rattle.theta_pred.specs.Names.{places_from, StandsOnce, IsFirstWrong}
use Rattle.theta_pred.specs.Resolved.{Tells}
use Rattle.theta_pred.specs.Sums.{of_side}

-- a name that stands alone is the first wrong one, if it is wrong
pub IsFirstWrong-one : (names_r names_s : List (List ℕ)) (name : Name) → IsFirstWrong names_r names_s (name ∷ []) name
IsFirstWrong-one names_r names_s name =
    record { before = []; after = []; splits = refl; once = All-nil (StandsOnce names_r names_s) }

IsFirstWrong-right : (names_r names_s : List (List ℕ)) (xs ys : List Name) (name : Name)
    → All (StandsOnce names_r names_s) xs
    → IsFirstWrong names_r names_s ys name → IsFirstWrong names_r names_s (xs ++ ys) name
IsFirstWrong-right names_r names_s xs ys name once wrong = record {
  before = xs ++ wrong.before;
  after = wrong.after;
  splits = ap (λ zs. xs ++ zs) wrong.splits ∙ sym (append_assoc xs wrong.before (name ∷ wrong.after));
  once = All-append (StandsOnce names_r names_s) xs wrong.before once wrong.once;
}

-- a fault told of the names behind is that of all names, where those in front each stand in their header once
pub Tells-right : (names_r names_s : List (List ℕ)) (xs ys : List Name) (fault : ResolveFault)
    → All (StandsOnce names_r names_s) xs → Tells names_r names_s ys fault → Tells names_r names_s (xs ++ ys) fault
Tells-right names_r names_s xs ys (NoColumn side word) once tells =
    (IsFirstWrong-right names_r names_s xs ys (record { side = side; word = word }) once tells.0, tells.1)
Tells-right names_r names_s xs ys (TwoColumns side word) once tells =
    (IsFirstWrong-right names_r names_s xs ys (record { side = side; word = word }) once tells.0, tells.1)
Tells-right names_r names_s xs ys Memory once tells = tells

abbrev Under : ℕ → ℕ → Type 0
Under limit place = place < limit

next_places : (place : ℕ) (same : Bool) (limit : ℕ) (others : List ℕ) → place < limit → All (Under limit) others
    → All (Under limit) ((cond same (place ∷ []) []) ++ others)
next_places place true limit others below within = All-cons (Under limit) place others below within
next_places place false limit others below within = within

places_from-within : (place : ℕ) (word : List ℕ) (names : List (List ℕ))
    → All (Under (place + length names)) (places_from place word names)
places_from-within place word [] = All-nil (Under (place + 0))
places_from-within place word (name ∷ names) =
    let limit = place + suc (length names) in
    let behind = places_from-within (place + 1) word names in
    next_places place (bytes_eq name word) limit _ (omega arith)
    (All-weaker (Under (place + 1 + length names)) (Under limit) (λ x h. omega arith) _ behind)

-- the width of a side is the number of names in its header
pub of_side-length : (names_r names_s : List (List ℕ)) (side : Side)
    → of_side (length names_r) (length names_s) side ≡ length (of_side names_r names_s side)
of_side-length names_r names_s R = refl
of_side-length names_r names_s S = refl

-- where a word stands just once, that place is one of the header's
pub only_place-within : (names_r names_s : List (List ℕ)) (side : Side) (word : List ℕ) (place : ℕ)
    → places_from 0 word (of_side names_r names_s side) ≡ place ∷ []
    → place < of_side (length names_r) (length names_s) side
only_place-within names_r names_s side word place is =
    let names = of_side names_r names_s side in
    rw of_side-length (All-head (Under (length names)) place []
    (subst (All (Under (length names))) is
    (subst (λ limit. All (Under limit) (places_from 0 word names)) (zero-add (length names))
    (places_from-within 0 word names))))

-- what is left of the names leads to all of them: those before stand once
pub record Leads (names_r names_s : List (List ℕ)) (left whole : List Name) : Type 0 where
  pub once : All (StandsOnce names_r names_s) left → All (StandsOnce names_r names_s) whole
  pub told : (fault : ResolveFault) → Tells names_r names_s left fault → Tells names_r names_s whole fault

-- the names behind the next ones still lead to all, where each of the next stands in its header once
pub Leads-next : (names_r names_s : List (List ℕ)) (xs rest whole : List Name)
    → Leads names_r names_s (xs ++ rest) whole
    → All (StandsOnce names_r names_s) xs → Leads names_r names_s rest whole
Leads-next names_r names_s xs rest whole leads once = record {
  once = λ h. leads.once (All-append (StandsOnce names_r names_s) xs rest once h);
  told = λ fault h. leads.told fault (Tells-right names_r names_s xs rest fault once h);
}
