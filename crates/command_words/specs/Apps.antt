-- The commands by name, and what `clap` is told of each.
use Rattle.std.specs.Prelude.{Bool, true, false, List, [], ◌∷◌, Option, Some, None, codes, fold, if◌then◌else◌}
use Rattle.std.specs.Str.{bytes_eq}
use Rattle.clap.specs.Words.{App, Rule, Text, new_app, new_rule, with_rule}
use Rattle.clap.specs.declared.builder.action.ArgAction.TheVariants.{Append, Set, SetTrue}
use Rattle.road_network.specs.declared.query.AnswerKind.TheVariants.{Costs, Walks}
use Rattle.command_words.specs.declared.apps.Name.{Name}
use Rattle.command_words.specs.declared.apps.Name.TheVariants.{Batch, Check, Follow, Gen, Goal, Lanes, Prove, Serve, Single, Verify}

-- the command that a word names
abbrev pub name_of : Text → Option Name
name_of word =
    if bytes_eq word (codes "costs") then Some (Single Costs)
    else if bytes_eq word (codes "one") then Some (Single Walks)
    else if bytes_eq word (codes "goal") then Some Goal
    else if bytes_eq word (codes "check") then Some Check
    else if bytes_eq word (codes "batch") then Some Batch
    else if bytes_eq word (codes "gen") then Some Gen
    else if bytes_eq word (codes "lanes") then Some Lanes
    else if bytes_eq word (codes "serve") then Some Serve
    else if bytes_eq word (codes "prove") then Some Prove
    else if bytes_eq word (codes "verify") then Some Verify
    else if bytes_eq word (codes "follow") then Some Follow
    else None

-- an option with one value, `--name value` or `--name=value`, given at most once
abbrev pub option_rule : Text → Bool → Rule
option_rule name is_required = record (new_rule name) {
  long = Some name;
  action = Some Set;
  required = is_required;
}

-- a flag, `--name`, given at most once
abbrev pub flag_rule : Text → Rule
flag_rule name = record (new_rule name) { long = Some name; action = Some SetTrue }

-- the words that are no option and no value of one, of which there is at least one
abbrev pub files_rule : Rule
files_rule = record (new_rule (codes "files")) { action = Some Append; required = true }

-- a command with no arguments, not even the flags for help and the version
abbrev pub bare_app : Text → App
bare_app name = record (new_app name) {
  top = record (new_app name).top { disable_help_flag = true; disable_version_flag = true };
}

-- the options that a command needs
abbrev pub needed_of : Name → List Text
needed_of (Single kind) = codes "from" ∷ codes "to" ∷ []
needed_of Goal = codes "from" ∷ codes "to" ∷ []
needed_of Check = []
needed_of Batch = codes "pairs" ∷ []
needed_of Gen = codes "start" ∷ codes "side" ∷ codes "criteria" ∷ codes "pairs" ∷ []
needed_of Lanes = codes "operator" ∷ codes "sessions" ∷ []
needed_of Serve = codes "listen" ∷ codes "operator" ∷ []
needed_of Prove = codes "from" ∷ codes "to" ∷ []
needed_of Verify = codes "cert" ∷ []
needed_of Follow = []

-- the options that a command takes besides
abbrev pub taken_of : Name → List Text
taken_of (Single kind) = codes "budget" ∷ codes "workers" ∷ []
taken_of Goal = codes "budget" ∷ []
taken_of Check = []
taken_of Batch = codes "budget" ∷ codes "workers" ∷ []
taken_of Gen = codes "file" ∷ codes "budget" ∷ codes "workers" ∷ []
taken_of Lanes = codes "lanes" ∷ codes "epoch" ∷ codes "budget" ∷ codes "workers" ∷ []
taken_of Serve = codes "lanes" ∷ codes "links" ∷ codes "epoch" ∷ codes "budget" ∷ codes "workers" ∷ []
taken_of Prove = codes "budget" ∷ codes "workers" ∷ []
taken_of Verify = []
taken_of Follow =
    codes "write" ∷ codes "feeds" ∷ codes "sessions" ∷ codes "links"
    ∷ codes "lanes" ∷ codes "epoch" ∷ codes "budget" ∷ codes "workers" ∷ []

-- a command with options of these names besides, each of which is required or none is
abbrev pub with_options : Bool → App → List Text → App
with_options is_required = fold (λ app name. with_rule app (option_rule name is_required))

-- a command's options, behind the word that names it
abbrev pub options_app : Text → Name → App
options_app word name = with_options false (with_options true (bare_app word) (needed_of name)) (taken_of name)

-- the arguments of a command: its options, of `batch` the flag `--goal`, and, except for `gen`, the names of files
abbrev pub app_for : Text → Name → App
app_for word Gen = options_app word Gen
app_for word Batch = with_rule (with_rule (options_app word Batch) (flag_rule (codes "goal"))) files_rule
app_for word name = with_rule (options_app word name) files_rule
