-- What the words of a command line ask for.
use Rattle.std.specs.Prelude.{◌≡◌, ◌++◌, ◌∷◌, ◌&&◌, ℕ, Bool, false, List, [], Option, Some, None, Result, Ok, Err, codes, decimal, length, map}
use Rattle.std.specs.Prelude.{if◌then◌else◌, is_none, nat_le, nat_lt, option_map, slice_get, String}
use Rattle.std.specs.List.{range_with_len}
use Rattle.std.specs.Str.{bytes_eq}
use Rattle.std.specs.String.{string_bytes}
use Rattle.clap.specs.Words.{Kinds, Row, Text, all_of, fault_of, first_of, matches_of}
use Rattle.command_words.specs.Apps.{app_for, name_of}
use Rattle.command_words.specs.declared.apps.Name.{Name}
use Rattle.command_words.specs.declared.apps.Name.TheVariants.{Batch, Check, Follow, Gen, Goal, Lanes, Prove, Serve, Single, Verify}
use Rattle.command_words.specs.declared.fault.WordsFault.{WordsFault}
use Rattle.command_words.specs.declared.fault.WordsFault.TheVariants.{OutOfMemory, Refused}
use Rattle.command_words.specs.declared.limits.SearchLimits.{SearchLimits}
use Rattle.command_words.specs.declared.commands.BatchWords.{BatchWords}
use Rattle.command_words.specs.declared.commands.Command.{Command}
use Rattle.command_words.specs.declared.commands.Command.TheVariants.{Still, Waiting}
use Rattle.command_words.specs.declared.commands.FollowWords.{FollowWords}
use Rattle.command_words.specs.declared.commands.FollowWords.TheVariants.{Take, Write}
use Rattle.command_words.specs.declared.commands.GenWords.{GenWords}
use Rattle.command_words.specs.declared.commands.GoalWords.{GoalWords}
use Rattle.command_words.specs.declared.commands.LanesWords.{LanesWords}
use Rattle.command_words.specs.declared.commands.ProveWords.{ProveWords}
use Rattle.command_words.specs.declared.commands.ServeWords.{ServeWords}
use Rattle.command_words.specs.declared.commands.SingleWords.{SingleWords}
use Rattle.command_words.specs.declared.commands.StillCommand.{StillCommand}
use Rattle.command_words.specs.declared.commands.StillCommand.TheVariants as still
use Rattle.command_words.specs.declared.commands.TakeWords.{TakeWords}
use Rattle.command_words.specs.declared.commands.VerifyWords.{VerifyWords}
use Rattle.command_words.specs.declared.commands.WaitingCommand.TheVariants as waiting
use Rattle.command_words.specs.declared.commands.WriteWords.{WriteWords}
use Rattle.graph_gen.specs.declared.GenPlan.{GenPlan}
use Rattle.graph_gen.specs.Plans.{max_pairs, max_side, min_pairs, min_side}
use Rattle.line_text.specs.Numerals.{numeral_of}
use Rattle.line_text.specs.declared.numerals.Numeral.{Numeral}
use Rattle.line_text.specs.declared.numerals.Numeral.TheVariants.{Value}
use Rattle.ranged_number.specs.Ranges.{in_range}
use Rattle.road_network.specs.Limits.{max_budget, max_epoch}
use Rattle.road_network.specs.declared.query.AnswerKind.{AnswerKind}
use Rattle.road_network.specs.declared.query.Query.{Query}
use Rattle.command_words.specs.Ranges.{default_budget, default_epoch, default_feeds, default_lanes, default_links, default_listed, default_workers}
use Rattle.command_words.specs.Ranges.{max_feeds, max_files, max_lanes, max_links, max_listed, max_node, max_start, max_workers, min_files}

-- a step of reading: where it gives none, the whole gives none
infixl 10 ◌>>=◌
abbrev pub ◌>>=◌ : {A B : Type 0} → Option A → (A → Option B) → Option B
(Some x) >>= f = f x
None >>= f = None

-- ---- the numbers and names that options give, by rows that name the arguments; none where they don't fit

-- a number that was read
abbrev pub number_of : Numeral → Option ℕ
number_of (Value n) = Some n
number_of other = None

-- the number that a text says in digits, from the least to the greatest
abbrev pub number_in : ℕ → ℕ → Text → Option ℕ
number_in least greatest text = do
  n ← number_of (numeral_of text greatest)
  in_range least greatest n

-- such a number, where an option that isn't given stands for a number of its own
abbrev pub number_or : ℕ → ℕ → ℕ → Option Text → Option ℕ
number_or other least greatest None = Some other
number_or other least greatest (Some text) = number_in least greatest text

-- such a number, or none, where an option may be left out
abbrev pub number_if : ℕ → ℕ → Option Text → Option (Option ℕ)
number_if least greatest None = Some None
number_if least greatest (Some text) = option_map Some (number_in least greatest text)

-- a flag is given
abbrev pub is_set : Option Text → Bool
is_set (Some text) = bytes_eq text (codes "true")
is_set None = false

-- the names of the weight files, as many as a network may have criteria
abbrev pub names_in_range : List Text → Option (List Text)
names_in_range names = if nat_le min_files (length names) && nat_le (length names) max_files then Some names else None

-- the words that are neither options nor their values, and name the weight files
abbrev pub files_of : List Row → Option (List Text)
files_of rows = do
  names ← all_of (codes "files") rows
  names_in_range names

-- an option that must be given
abbrev pub required : ℕ → ℕ → Text → List Row → Option ℕ
required least greatest option rows = do
  text ← first_of option rows
  number_in least greatest text

-- `--workers`
abbrev pub workers_of : List Row → Option ℕ
workers_of rows = number_or default_workers 1 max_workers (first_of (codes "workers") rows)

-- `--lanes`
abbrev pub lane_count_of : List Row → Option ℕ
lane_count_of rows = number_or default_lanes 1 max_lanes (first_of (codes "lanes") rows)

-- `--epoch`
abbrev pub epoch_of : List Row → Option ℕ
epoch_of rows = number_or default_epoch 0 max_epoch (first_of (codes "epoch") rows)

-- `--budget` and `--workers`
abbrev pub limits_of : List Row → Option SearchLimits
limits_of rows = do
  budget ← number_or default_budget 1 max_budget (first_of (codes "budget") rows)
  workers ← workers_of rows
  Some (record { budget = budget; workers = workers })

-- `--from`, `--to` and `--budget`, which is at most the greatest, and `other` where it isn't given; the query has no limit
abbrev pub query_of : ℕ → ℕ → List Row → Option Query
query_of other greatest rows = do
  from ← required 0 max_node (codes "from") rows
  to ← required 0 max_node (codes "to") rows
  budget ← number_or other 1 greatest (first_of (codes "budget") rows)
  Some (record { from = from; to = to; limit = None; budget = budget })

-- the file of a plan of so many criteria: 0 is that of pairs, and each other one the weight file of a criterion
abbrev pub file_in : ℕ → Option ℕ → Option (Option ℕ)
file_in criteria None = Some None
file_in criteria (Some number) = if nat_lt criteria number then None else Some (Some number)

-- the plan of `gen`
abbrev pub plan_of : List Row → Option GenPlan
plan_of rows = do
  start ← required 0 max_start (codes "start") rows
  side ← required min_side max_side (codes "side") rows
  criteria ← required min_files max_files (codes "criteria") rows
  pairs ← required min_pairs max_pairs (codes "pairs") rows
  Some (record { start = start; side = side; criteria = criteria; pairs = pairs })

-- ---- the values of each command, which works over these weight files

-- `costs` and `one`
unfoldable pub single_of : AnswerKind → List Row → List Text → Option SingleWords
single_of kind rows files = do
  query ← query_of default_budget max_budget rows
  workers ← workers_of rows
  Some (record { kind = kind; query = query; workers = workers; files = files })

-- `goal`
unfoldable pub goal_of : List Row → List Text → Option GoalWords
goal_of rows files = do
  query ← query_of default_budget max_budget rows
  Some (record { query = query; files = files })

-- `batch`
unfoldable pub batch_of : List Row → List Text → Option BatchWords
batch_of rows files = do
  pairs ← first_of (codes "pairs") rows
  limits ← limits_of rows
  Some (record { pairs = pairs; goal = is_set (first_of (codes "goal") rows); limits = limits; files = files })

-- `gen`, which reads no weight files
unfoldable pub gen_of : List Row → Option GenWords
gen_of rows = do
  plan ← plan_of rows
  number ← number_if 0 max_files (first_of (codes "file") rows)
  file ← file_in plan.criteria number
  limits ← limits_of rows
  Some (record { plan = plan; file = file; limits = limits })

-- `lanes`
unfoldable pub lanes_of : List Row → List Text → Option LanesWords
lanes_of rows files = do
  operator ← first_of (codes "operator") rows
  stem ← first_of (codes "sessions") rows
  count ← lane_count_of rows
  epoch ← epoch_of rows
  limits ← limits_of rows
  Some (record { operator = operator; stem = stem; count = count; epoch = epoch; limits = limits; files = files })

-- `serve`
unfoldable pub serve_of : List Row → List Text → Option ServeWords
serve_of rows files = do
  listen ← first_of (codes "listen") rows
  operator ← first_of (codes "operator") rows
  lanes ← lane_count_of rows
  links ← number_or default_links 1 max_links (first_of (codes "links") rows)
  epoch ← epoch_of rows
  limits ← limits_of rows
  Some (record {
    listen = listen;
    operator = operator;
    lanes = lanes;
    links = links;
    epoch = epoch;
    limits = limits;
    files = files;
  })

-- `prove`
unfoldable pub prove_of : List Row → List Text → Option ProveWords
prove_of rows files = do
  query ← query_of default_listed max_listed rows
  workers ← workers_of rows
  Some (record { query = query; workers = workers; files = files })

-- `verify`
unfoldable pub verify_of : List Row → List Text → Option VerifyWords
verify_of rows files = do
  cert ← first_of (codes "cert") rows
  Some (record { cert = cert; files = files })

-- no option is given that only a follower which takes feeds has
abbrev pub takes_none : List Row → Bool
takes_none rows = is_none (first_of (codes "feeds") rows) && is_none (first_of (codes "sessions") rows)
    && is_none (first_of (codes "links") rows) && is_none (first_of (codes "lanes") rows)
    && is_none (first_of (codes "budget") rows) && is_none (first_of (codes "workers") rows)

-- `follow --write`
unfoldable pub write_of : Text → List Row → List Text → Option WriteWords
write_of operator rows files = do
  epoch ← epoch_of rows
  if takes_none rows then Some (record { operator = operator; epoch = epoch; files = files }) else None

-- `follow --feeds`
unfoldable pub take_of : List Row → List Text → Option TakeWords
take_of rows files = do
  feeds ← first_of (codes "feeds") rows
  links ← number_or default_feeds 1 max_feeds (first_of (codes "links") rows)
  stem ← first_of (codes "sessions") rows
  count ← lane_count_of rows
  epoch ← epoch_of rows
  limits ← limits_of rows
  Some (record { feeds = feeds; links = links; stem = stem; count = count; epoch = epoch; limits = limits; files = files })

-- `follow` writes where an operator's script is given, and takes feeds where none is
abbrev pub follow_by : Option Text → List Row → List Text → Option FollowWords
follow_by (Some operator) rows files = option_map Write (write_of operator rows files)
follow_by None rows files = option_map Take (take_of rows files)

-- the command of this name, where it works over these weight files
abbrev pub command_over : Name → List Row → List Text → Option Command
command_over (Single kind) rows files = option_map (λ c. Still (still.Single c)) (single_of kind rows files)
command_over Goal rows files = option_map (λ c. Still (still.Goal c)) (goal_of rows files)
command_over Check rows files = Some (Still (still.Check files))
command_over Batch rows files = option_map (λ c. Still (still.Batch c)) (batch_of rows files)
command_over Gen rows files = None
command_over Lanes rows files = option_map (λ c. Waiting (waiting.Lanes c)) (lanes_of rows files)
command_over Serve rows files = option_map (λ c. Waiting (waiting.Serve c)) (serve_of rows files)
command_over Prove rows files = option_map (λ c. Still (still.Prove c)) (prove_of rows files)
command_over Verify rows files = option_map (λ c. Still (still.Verify c)) (verify_of rows files)
command_over Follow rows files = option_map (λ c. Waiting (waiting.Follow c)) (follow_by (first_of (codes "write") rows) rows files)

-- the command of this name, by the values of its arguments
abbrev pub command_of : Name → List Row → Option Command
command_of Gen rows = option_map (λ c. Still (still.Gen c)) (gen_of rows)
command_of name rows = do
  files ← files_of rows
  command_over name rows files

-- ---- the words

-- the words as texts
abbrev pub texts_of : {Alloc : Type 0} → List (String Alloc) → List Text
texts_of = map string_bytes

-- the values that the words give to arguments, where these have no fault
abbrev pub rows_if : Kinds → List Row → Option (List Row)
rows_if [] rows = Some rows
rows_if faults rows = None

-- what the words ask for, or none where they are those of no command: the first names the command, its arguments take the
-- others, and the values fit
unfoldable pub asked : List Text → Option Command
asked words = do
  first ← slice_get words 0
  name ← name_of first
  rows ← rows_if (fault_of (app_for first name) words) (matches_of (app_for first name) words)
  command_of name rows

-- the words ask for this
abbrev pub Asks : List Text → Command → Type 0
Asks words command = asked words ≡ Some command

-- the words are those of some command
abbrev pub AreWords : List Text → Type 0
AreWords words = (command : Command) × Asks words command

-- ---- what reading answers

-- a fault: nothing is asked for, or memory ran out
abbrev pub Fails : {X : Type 0} → WordsFault → Option X → Type 0
Fails Refused asked = asked ≡ None
Fails (OutOfMemory want) asked = Unit {0}

-- just what is asked for, or a fault
abbrev pub Gives : {X : Type 0} → Result X WordsFault → Option X → Type 0
Gives (Ok x) asked = asked ≡ Some x
Gives (Err fault) asked = Fails fault asked

-- ---- the files that a command reads

-- the name of a session's script: the stem and the session's number
abbrev pub session_name : Text → ℕ → Text
session_name stem number = stem ++ decimal number

-- the names of the scripts of lanes, the operator's first, and then those of the sessions from number 1 on
abbrev pub scripts_of : LanesWords → List Text
scripts_of words = words.operator ∷ map (session_name words.stem) (range_with_len 1 words.count)

-- the names of the feeds, from number 1 on
abbrev pub feeds_of : TakeWords → List Text
feeds_of words = map (session_name words.feeds) (range_with_len 1 words.links)

-- the names of the sessions' scripts beside feeds, from number 1 on
abbrev pub sessions_of : TakeWords → List Text
sessions_of words = map (session_name words.stem) (range_with_len 1 words.count)

-- the names of all files that a follower reads, in the order of its work
abbrev pub names_of_follow : FollowWords → List Text
names_of_follow (Write words) = words.files ++ words.operator ∷ []
names_of_follow (Take words) = words.files ++ feeds_of words ++ sessions_of words

-- the same of a command that waits for nobody
abbrev pub names_of_still : StillCommand → List Text
names_of_still (still.Single words) = words.files
names_of_still (still.Goal words) = words.files
names_of_still (still.Check files) = files
names_of_still (still.Batch words) = words.files ++ words.pairs ∷ []
names_of_still (still.Gen words) = []
names_of_still (still.Prove words) = words.files
names_of_still (still.Verify words) = words.files ++ words.cert ∷ []

-- the same of each command
abbrev pub names_of : Command → List Text
names_of (Still command) = names_of_still command
names_of (Waiting (waiting.Lanes words)) = words.files ++ scripts_of words
names_of (Waiting (waiting.Serve words)) = words.files
names_of (Waiting (waiting.Follow words)) = names_of_follow words
