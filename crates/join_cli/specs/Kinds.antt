-- The kinds of run that are in waves.
use Rattle.std.specs.Prelude.{◌≡◌, ◌≢◌, ℕ, [], Option}
use Rattle.join_words.specs.declared.kind.Kind.{Kind}
use Rattle.join_words.specs.declared.kind.Kind.TheVariants.{Waves}

-- in one wave
abbrev pub IsOneWave : Kind → Type 0
IsOneWave (Waves grid replay later grow) = later.items ≡ []
IsOneWave _ = ⊥

-- in several, with a growth behind so many of them, or without one
abbrev pub AreSeveralWaves : Option ℕ → Kind → Type 0
AreSeveralWaves growth (Waves grid replay later grow) = (later.items ≢ []) × (grow ≡ growth)
AreSeveralWaves growth _ = ⊥
