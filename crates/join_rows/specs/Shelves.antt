-- What a shelf of files tells, and what its calls do.
use Rattle.std.specs.Prelude.{◌≡◌, ◌⊎◌, ◌≤◌, ◌<◌, ◌+◌, ◌-◌, ◌^◌, ℕ, List, length, take, drop, Option, None, Some, ⊤}
use Rattle.std.specs.Prelude.{nat_lt, if◌then◌else◌}

-- the bytes under each name, where a shelf tells its files
abbrev pub Told : Type 0
Told = Option (List ℕ → Option (List ℕ))

-- the told files have these bytes under the name
abbrev pub Tells : Told → List ℕ → List ℕ → Type 0
Tells None name bytes = ⊥
Tells (Some files) name bytes = files name ≡ Some bytes

-- the told files have no such name
abbrev pub Lacks : Told → List ℕ → Type 0
Lacks None name = ⊥
Lacks (Some files) name = files name ≡ None

-- the picked name, and the place in its file
abbrev pub Spot : Type 0
Spot = Option (List ℕ × ℕ)

-- the place, some bytes further on
abbrev pub moved : ℕ → Spot → Spot
moved n None = None
moved n (Some p) = Some (p.0, p.1 + n)

-- the last value of a count of faults
abbrev pub last_fault : ℕ
last_fault = 2 ^ 64 - 1

-- one more, up to the last value
abbrev pub raised : ℕ → ℕ
raised count = if nat_lt count last_fault then count + 1 else count

-- a count of faults rose, or stood at its last value before
abbrev pub Faulted : ℕ → ℕ → Type 0
Faulted old new = (old < new) ⊎ (last_fault ≤ old)

-- the n bytes at the front of a buffer are the next ones of the picked file
abbrev pub Nexts : Told → Spot → ℕ → List ℕ → Type 0
Nexts told None n buffer = n ≡ 0
Nexts told (Some p) n buffer = (bytes : List ℕ) → Tells told p.0 bytes → (n ≤ length bytes - p.1)
    × (take n buffer ≡ take n (drop p.1 bytes))

-- the picked file has no more bytes
abbrev pub AtEnd : Told → Spot → Type 0
AtEnd told None = ⊤
AtEnd told (Some p) = (bytes : List ℕ) → Tells told p.0 bytes → length bytes ≤ p.1
