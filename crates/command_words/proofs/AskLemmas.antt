-- What words ask for, by a parse for the command that they name.
use Rattle.std.proofs.Common.{◌≡◌, ◌≢◌, ◌∙◌, ap, refl, sym, true, ◌∷◌, List, [], Some, None}
use Rattle.std.specs.Prelude.{slice_get}
use Rattle.clap.specs.Words.{App, Kinds, Row, Text, fault_of, is_simple_and_free, matches_of}
use Rattle.command_words.specs.Apps.{app_for, name_of}
use Rattle.command_words.specs.Words.{◌>>=◌, Fails, asked, command_of, rows_if}
use Rattle.command_words.specs.declared.fault.WordsFault.{WordsFault}
use Rattle.command_words.specs.declared.fault.WordsFault.TheVariants.{OutOfMemory, Refused}
use Rattle.command_words.specs.declared.apps.Name.{Name}
use Rattle.command_words.specs.declared.apps.Name.TheVariants.{Batch, Check, Follow, Gen, Goal, Lanes, Prove, Serve, Single, Verify}

-- each command's arguments are of the kind whose matches are a function of the words
pub apps_simple : (word : Text) (name : Name) → is_simple_and_free (app_for word name) ≡ true
apps_simple word (Single kind) = refl
apps_simple word Goal = refl
apps_simple word Check = refl
apps_simple word Batch = refl
apps_simple word Gen = refl
apps_simple word Lanes = refl
apps_simple word Serve = refl
apps_simple word Prove = refl
apps_simple word Verify = refl
apps_simple word Follow = refl

-- the rows of a command whose arguments take the words
taken_rows : (faults : Kinds) (rows : List Row) → faults ≡ [] → rows_if faults rows ≡ Some rows
taken_rows [] rows none = refl
taken_rows (fault ∷ faults) rows none = cc

refused_rows : (faults : Kinds) (rows : List Row) → faults ≢ [] → rows_if faults rows ≡ None
refused_rows [] rows some = absurd (some refl)
refused_rows (fault ∷ faults) rows some = refl

module _ (words : List Text) (word : Text) (name : Name) (app : App) (first : slice_get words 0 ≡ Some word) (names : name_of word ≡ Some name)
    (is_app : app ≡ app_for word name) where
  by_rows : asked words ≡ (rows_if (fault_of app words) (matches_of app words) >>= command_of name)
  unfolding asked
  by_rows = rw (first, names, is_app) refl

  -- the arguments take the words, so these ask for what the values say
  pub asked_by : (rows : List Row) → fault_of app words ≡ [] → rows ≡ matches_of app words → asked words ≡ command_of name rows
  asked_by rows none is = by_rows ∙ ap (λ r. r >>= command_of name) (taken_rows (fault_of app words) (matches_of app words) none) ∙ ap (command_of name) (sym is)

  -- where the arguments refuse the words, these ask for nothing
  pub fails_by : (fault : WordsFault) → (fault ≡ Refused → fault_of app words ≢ []) → Fails fault (asked words)
  fails_by Refused refuses = by_rows ∙ ap (λ r. r >>= command_of name) (refused_rows (fault_of app words) (matches_of app words) (refuses refl))
  fails_by (OutOfMemory want) refuses = tt
