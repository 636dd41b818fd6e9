-- The verdict on the tokens of a text says how it reads.
use Rattle.std.proofs.Common.{◌≡◌, ℕ, List, [], ◌∷◌, true, false, Bool, cond, Ok, Err, refl}
use Rattle.theta_tree.specs.declared.token.Placed.{Placed}
use Rattle.theta_tree.specs.Grammar.{Limits}
use Rattle.theta_tree.specs.Faults.{words}
use Rattle.theta_text.specs.Machine.{Symbol, unit, tail, close, open', dot, field, name}
use Rattle.theta_text.specs.Machine.{term, sum, more, op, bound, side}
use Rattle.theta_text.specs.Machine.{Step, step, go_on, is_done, syntax, verdict, fine, wrong}
use Rattle.theta_text.proofs.MachineLaws.{Back, GivesAll, push}

-- where nothing more has to come, no token does
done_gives : (L : Limits) (s : List Symbol) → is_done s ≡ true → GivesAll L s []
done_gives L [] done = refl
done_gives L (tail d ∷ s) done = ([], ([], [], [], refl, refl), done_gives L s done)
done_gives L (more n ∷ s) done = ([], ([], refl), done_gives L s done)
done_gives L (unit d ∷ s) done = let bad : ⊥ = cc in absurd bad
done_gives L (close ∷ s) done = let bad : ⊥ = cc in absurd bad
done_gives L (open' ∷ s) done = let bad : ⊥ = cc in absurd bad
done_gives L (dot ∷ s) done = let bad : ⊥ = cc in absurd bad
done_gives L (field ∷ s) done = let bad : ⊥ = cc in absurd bad
done_gives L (name ∷ s) done = let bad : ⊥ = cc in absurd bad
done_gives L (term ∷ s) done = let bad : ⊥ = cc in absurd bad
done_gives L (sum ∷ s) done = let bad : ⊥ = cc in absurd bad
done_gives L (op ∷ s) done = let bad : ⊥ = cc in absurd bad
done_gives L (bound ∷ s) done = let bad : ⊥ = cc in absurd bad
done_gives L (side ∷ s) done = let bad : ⊥ = cc in absurd bad

-- tokens with which nothing is wrong are those that were to come
pub fine_gives : (L : Limits) (end : ℕ) (tokens : List Placed) (s : List Symbol)
    → verdict L end s tokens ≡ fine → GivesAll L s (words tokens)
fine_gives L end [] s is = go (is_done s) refl is
  where
    go : (done : Bool) → is_done s ≡ done → cond done fine (wrong syntax end) ≡ fine → GivesAll L s []
    go true e h = done_gives L s e
    go false e h = let bad : ⊥ = cc in absurd bad
fine_gives L end (p ∷ ps) s is =
    go (λ s' e. fine_gives L end ps s' e) (step L s p.token) (push L s p.token (words ps)) is
  where
    go : ((s' : List Symbol) → verdict L end s' ps ≡ fine → GivesAll L s' (words ps))
        → (next : Step) → Back L next (words ps) s (p.token ∷ words ps)
        → go_on p.place (λ s'. verdict L end s' ps) next ≡ fine → GivesAll L s (p.token ∷ words ps)
    go ih (Ok s') back h = back (ih s' h)
    go ih (Err k) back h = let bad : ⊥ = cc in absurd bad
