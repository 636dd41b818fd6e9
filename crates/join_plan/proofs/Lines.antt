-- How a name is told.
use Rattle.std.proofs.Common.{◌≡◌, List, ℕ, Bool, true, false, codes, refl}
use Rattle.std.proofs.lemmas.Str.{IsUtf8-from_is_utf8, is_utf8-from_IsUtf8}
use Rattle.std.specs.Str.{IsUtf8, is_utf8}
use Rattle.join_plan.specs.Lines.{name_line}

-- a name that is UTF-8 is told as it is
pub name_told : (name text : List ℕ) → text ≡ name → IsUtf8 name → text ≡ name_line name
name_told name text same utf8 = rw (is_utf8-from_IsUtf8 name utf8) same

-- and another by a question mark
pub name_untold : (name : List ℕ) → (IsUtf8 name → ⊥) → codes "?" ≡ name_line name
name_untold name not = by (is_utf8 name) refl
  where
    by : (is : Bool) → is_utf8 name ≡ is → codes "?" ≡ name_line name
    by true e = absurd (not (IsUtf8-from_is_utf8 name e))
    by false e = rw e refl
