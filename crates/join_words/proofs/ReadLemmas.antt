-- What a parse by the command gives.
use Rattle.std.proofs.Common.{◌≡◌, ◌∙◌, arith, inl, inr, List, [], ◌∷◌, true, refl, ap, sym, subst, codes}
use Rattle.std.specs.Prelude.{Err, Result}
use Rattle.clap.specs.Matches.{found_of}
use Rattle.clap.specs.Values.{kind_of}
use Rattle.clap.specs.Walk.{Row, Text, first_of, rows_of}
use Rattle.clap.specs.Simple.{App, HasMatchesOf, is_simple, matches_of}
use Rattle.clap.specs.Faults.{fault_of, is_simple_and_free}
use Rattle.clap.specs.Kinds.{HasKind, Kinds}
use Rattle.clap.specs.declared.error.Error.{Error}
use Rattle.clap.specs.declared.error.kind.ErrorKind.TheVariants.{OutOfMemory}
use Rattle.clap.specs.declared.parser.matches.ArgMatches.{ArgMatches}
use Rattle.clap.proofs.OnLiterals.{clap_on_literals}
use Rattle.clap.proofs.WalkLemmas.{first_value-rows}
use Rattle.join_words.specs.Command.{IsCommand, jm_command}
use Rattle.join_words.specs.Words.{Asked, Gives, IsMatch, asked_by, asked_of, asked_unless}
use Rattle.join_words.specs.declared.options.WordsError.{WordsError}
use Rattle.join_words.specs.declared.options.WordsError.TheVariants.{Fault, Memory}
use Rattle.join_words.specs.declared.options.WordsFault.{WordsFault}
use Rattle.join_words.specs.declared.options.WordsFault.TheVariants.{NoMatch}
use Rattle.join_words.proofs.NumberReads.{number_between, number_within}
use Rattle.join_words.proofs.RangeLemmas.{AreIn}

-- the fault that an answer tells
pub same_fault : (told fault : WordsFault) → Fault told ≡ Fault fault → told ≡ fault
same_fault told fault is = cc

-- the error of an answer
pub same_error : {T : Type 0} (told error : WordsError) → ◌≡◌ {A = Result T WordsError} (Err told) (Err error)
    → told ≡ error
same_error told error is = cc

-- the fault that an answer of the checks tells
pub gives_fault : (wanted : Result Asked WordsFault) (error : WordsError) (fault : WordsFault)
    → Gives wanted (Err error) → error ≡ Fault fault → wanted ≡ Err fault
gives_fault wanted error fault gives is = subst (λ (e : WordsError). Gives wanted (Err e)) is gives

simple_command : is_simple jm_command ≡ true
unfolding clap_on_literals jm_command
simple_command = refl

free_command : is_simple_and_free jm_command ≡ true
unfolding clap_on_literals jm_command
free_command = refl

-- the command of `jm` is simple, so clap's definitions give its matches
pub simple : (app : App) → IsCommand app → is_simple app ≡ true
simple app command = ap is_simple command.is ∙ simple_command

-- and no argument of it has a rule on another, so they give its faults
pub free : (app : App) → IsCommand app → is_simple_and_free app ≡ true
free app command = ap is_simple_and_free command.is ∙ free_command

-- a parse that failed, and not for memory
no_match : (app : App) (words : List Text) (error : Error) → IsCommand app → HasKind (fault_of app words) error
    → (kind_of error ≡ OutOfMemory → ⊥)
    → asked_of words ≡ Err NoMatch
unfolding asked_of
no_match app words error command kinds other = go (fault_of jm_command words)
    (subst (λ (a : App). HasKind (fault_of a words) error) command.is kinds)
  where
    go : (found : Kinds) → HasKind found error → asked_unless found (matches_of jm_command words) ≡ Err NoMatch
    go [] (inl memory) = absurd (other memory)
    go [] (inr among) = absurd among
    go (kind ∷ rest) has = refl

-- what a parse that failed tells
pub tells : (app : App) (words : List Text) (error : Error) (told : WordsError) (fault : WordsFault) → IsCommand app
    → HasKind (fault_of app words) error
    → (kind_of error ≡ OutOfMemory → told ≡ Memory) → ((kind_of error ≡ OutOfMemory → ⊥) → told ≡ Fault NoMatch)
    → told ≡ Fault fault → asked_of words ≡ Err fault
tells app words error told fault command kinds memory others is =
    no_match app words error command kinds no_memory ∙ ap Err (same_fault NoMatch fault (sym (others no_memory) ∙ is))
  where
    differ : Memory ≡ Fault fault → ⊥
    differ e = cc

    no_memory : kind_of error ≡ OutOfMemory → ⊥
    no_memory e = differ (sym (memory e) ∙ is)

-- a parse that gave a match
pub is_match : (app : App) (words : List Text) (matches : ArgMatches) → IsCommand app → fault_of app words ≡ []
    → HasMatchesOf app words matches
    → AreIn matches → IsMatch words (rows_of (found_of matches))
is_match app words matches command none has are = record {
  no_fault = subst (λ (a : App). fault_of a words ≡ []) command.is none;
  rows_are = (has (simple app command)).0 ∙ ap (λ (a : App). matches_of a words) command.is;
  bounded = record {
    joiners = number_between 1 64 4 (first_of (codes "joiners") (rows_of (found_of matches)))
        (λ text is. are.joiners text (first_value-rows (found_of matches) (codes "joiners") ∙ is)) (
          omega arith,
          omega arith,
        );
    feeders = number_between 1 8 2 (first_of (codes "feeders") (rows_of (found_of matches)))
        (λ text is. are.feeders text (first_value-rows (found_of matches) (codes "feeders") ∙ is)) (
          omega arith,
          omega arith,
        );
    workers = number_between 1 16 4 (first_of (codes "workers") (rows_of (found_of matches)))
        (λ text is. are.workers text (first_value-rows (found_of matches) (codes "workers") ∙ is)) (
          omega arith,
          omega arith,
        );
    batch = number_between 1 4096 64 (first_of (codes "batch") (rows_of (found_of matches)))
        (λ text is. are.batch text (first_value-rows (found_of matches) (codes "batch") ∙ is)) (
          omega arith,
          omega arith,
        );
    weights =
        let r = number_between 1 1024 1 (first_of (codes "weight-r") (rows_of (found_of matches)))
        (λ text is. are.weight_r text (first_value-rows (found_of matches) (codes "weight-r") ∙ is)) (
          omega arith,
          omega arith,
        ) in
        let s = number_between 1 1024 1 (first_of (codes "weight-s") (rows_of (found_of matches)))
        (λ text is. are.weight_s text (first_value-rows (found_of matches) (codes "weight-s") ∙ is)) (
          omega arith,
          omega arith,
        ) in
        record { some_r = r.0; few_r = r.1; some_s = s.0; few_s = s.1 };
    make = number_within 1 65536 (first_of (codes "make") (rows_of (found_of matches)))
        (λ text is. are.make text (first_value-rows (found_of matches) (codes "make") ∙ is));
    grow = number_within 1 3 (first_of (codes "grow") (rows_of (found_of matches)))
        (λ text is. are.grow text (first_value-rows (found_of matches) (codes "grow") ∙ is));
  };
}

-- what the words ask for, where there is a match
pub asked_of-match : (words : List Text) (rows : List Row) → IsMatch words rows → asked_of words ≡ asked_by rows
unfolding asked_of
asked_of-match words rows match = ap (λ found. asked_unless found (matches_of jm_command words)) match.no_fault
    ∙ ap asked_by (sym match.rows_are)
