-- Rows of ends by the numbers of actors.
use Rattle.std.proofs.Common.{◌≡◌, ◌<◌, ◌≤◌, inl, inr, ℕ, ap, ◌∙◌, Option, None, List, get_or, set, map, length, arith}
use Rattle.std.proofs.Math.Seq.{map-set_same}
use Rattle.std.proofs.lemmas.Bool.{cases_lt}
use Rattle.std.proofs.lemmas.List.{get_or_past}
use Rattle.ring_links.specs.Outlets.{OutletView}
use Rattle.ring_runtime.specs.Seats.{NoneWaits, waiting_at}

-- a row in which one place changed has the addresses that it had
pub addresses-set : {X Y : Type 0} (address : X → Y) (slots : List X) (place : ℕ) (slot new : X)
    → slot ≡ get_or slots place slot
    → address new ≡ address slot → map address (set slots place new) ≡ map address slots
addresses-set address slots place slot new is same = map-set_same address slots place new slot (same ∙ ap address is)

-- where nothing waits in any outlet of a row, nothing waits
pub none_waits : (outs : List (Option OutletView)) (count : ℕ) → length outs ≤ count
    → ((n : ℕ) → n < count → waiting_at (get_or outs n None) ≡ 0) → NoneWaits outs
none_waits outs count all none n = elim (cases_lt n (length outs)) [
  | inl low ↦ none n (omega arith)
  | inr past ↦ ap waiting_at (get_or_past outs n None past)
]
