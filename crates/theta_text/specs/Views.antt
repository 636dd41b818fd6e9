-- What a part of the parser answers.
use Rattle.std.specs.Prelude.{◌≡◌, List, ◌∷◌, Option, Some, None, Result, Ok, Err, ⊤}
use Rattle.std.specs.Borrow.{Bor}
use Rattle.theta_text.specs.Machine.{Verdict, wrong, syntax, deep, wide, literal}
use Rattle.theta_tree.specs.declared.token.Token.{Token}
use Rattle.theta_tree.specs.declared.token.Placed.{Placed}
use Rattle.theta_tree.specs.declared.fault.PredFault.{PredFault}
use Rattle.theta_tree.specs.declared.fault.PredFault.TheVariants as faults

-- this fault is what is wrong
abbrev pub IsFault : Verdict → PredFault → Type 0
IsFault v (faults.Syntax place) = v ≡ wrong syntax place
IsFault v (faults.Deep place) = v ≡ wrong deep place
IsFault v (faults.Wide place) = v ≡ wrong wide place
IsFault v (faults.Literal place) = v ≡ wrong literal place
IsFault v faults.Memory = ⊤

-- a fault is what is wrong, and a value leaves the verdict to what comes after it
abbrev pub Leads : {A : Type 0} → Verdict → (A → Verdict) → Result A PredFault → Type 0
Leads v go (Ok x) = v ≡ go x
Leads v go (Err fault) = IsFault v fault

-- the first token is none of this kind
abbrev pub BeginsOff : (Token → Type 0) → List Placed → Type 0
BeginsOff IsOf ps = (p : Placed) (rest : List Placed) → ps ≡ p ∷ rest → IsOf p.token → ⊥

-- the tokens behind one of this kind, where it comes first
abbrev pub IsPast : (Token → Type 0) → List Placed → Option (Bor (List Placed)) → Type 0
IsPast IsOf ps None = BeginsOff IsOf ps
IsPast IsOf ps (Some rest) = (p : Placed) × (ps ≡ p ∷ rest.now) × IsOf p.token

-- it succeeds so, or memory runs out
abbrev pub OnlyMemory : {A : Type 0} → Result A PredFault → (A → Type 0) → Type 0
OnlyMemory (Ok x) P = P x
OnlyMemory (Err fault) P = fault ≡ faults.Memory
