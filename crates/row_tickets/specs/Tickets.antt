-- A row's ticket: the top byte of a word of PCG's 32-bit generator (XSH RR, 64 bits of state).
use Rattle.std.specs.Prelude.{ℕ, ◌/◌, ◌^◌}
use Rattle.row_cells.specs.declared.table.Side.{Side}
use Rattle.row_cells.specs.declared.table.Side.TheVariants.{R, S}
use Rattle.rand_pcg.specs.Lcg.{Lcg, advance, started, increment_of}
use Rattle.rand_pcg.specs.Pcg.{multiplier_64, pcg32}

-- each side has a stream of its own
abbrev pub stream_of : Side → ℕ
stream_of R = 54
stream_of S = 55

-- the generator of a side, before its word of this index
abbrev pub before_word : ℕ → Side → ℕ → Lcg
before_word seed side index =
    advance 64 multiplier_64 index (started 64 multiplier_64 seed (increment_of 64 (stream_of side)))

-- the highest eight of a word's 32 bits
abbrev pub top_byte : ℕ → ℕ
top_byte word = word / 2 ^ 24

-- the ticket of the row of this index, counted from 0
abbrev pub ticket_of : ℕ → Side → ℕ → ℕ
ticket_of seed side index = top_byte (pcg32 (before_word seed side index)).0
