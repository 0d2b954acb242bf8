-- How a run ends, with its status and its note.
use Rattle.std.specs.Prelude.{ℕ, List, [], ◌++◌, Bool, true, false, Option, Some, None, codes}
use Rattle.gr_reader.specs.declared.fault.LineKind.{LineKind}
use Rattle.gr_reader.specs.Kinds.{kind_number}
use Rattle.arc_graph.specs.declared.join.Disagreement.{Disagreement}
use Rattle.arc_graph.specs.declared.join.Disagreement.TheVariants.{Sizes, Ends, ZeroArc}
use Rattle.answer_writer.specs.Replies.{and_number, end_line}
use Rattle.cert_rules.specs.Rules.{rule_number}
use Rattle.cert_rules.specs.declared.rule.Rule.{Rule}

-- the ways in which a run ends, each with what its note names
pub data Outcome : Type 0 where
  -- what is asked for was sent
  done : Outcome
  -- the words are no command's words
  bad_words : Outcome
  -- the folder failed; the note names this file
  folder_failed : List ℕ → Outcome
  -- the sink of replies failed
  out_failed : Outcome
  -- this weight file has a faulty line
  bad_file : List ℕ → ℕ → LineKind → Outcome
  -- the files don't agree
  bad_files : Disagreement → Outcome
  -- this file of pairs has a faulty line
  bad_pairs : List ℕ → ℕ → LineKind → Outcome
  -- this script has more bytes than a script may have
  script_too_long : List ℕ → Outcome
  -- this certificate has a faulty line
  bad_cert : List ℕ → ℕ → Outcome
  -- a rule fails at a label of this certificate
  failed_rule : List ℕ → Rule → ℕ → Outcome
  -- the town failed, or one of its doors
  town_failed : Outcome
  -- the query was refused by a reply of its own
  refused : Outcome
  -- memory ran out
  no_memory : Outcome
  -- the sink of replies itself wanted memory
  out_wanted : Outcome

-- the exit status
abbrev pub status_of : Outcome → ℕ
status_of done = 0
status_of bad_words = 2
status_of (folder_failed name) = 3
status_of out_failed = 4
status_of (bad_file name line kind) = 5
status_of (bad_files way) = 6
status_of (bad_pairs name line kind) = 7
status_of (script_too_long name) = 7
status_of refused = 8
status_of town_failed = 10
status_of (bad_cert name line) = 11
status_of (failed_rule name rule label) = 12
status_of no_memory = 9
status_of out_wanted = 9

-- the file at which the folder failed, where that ended the run
abbrev pub failed_file : Outcome → Option (List ℕ)
failed_file (folder_failed name) = Some name
failed_file outcome = None

-- the sink of replies itself wanted memory
abbrev pub out_has_wanted : Outcome → Bool
out_has_wanted out_wanted = true
out_has_wanted outcome = false

-- how files don't agree
abbrev pub disagreement : Disagreement → List ℕ
disagreement (Sizes file) = codes "sizes file" ++ and_number file
disagreement (Ends arc file) = codes "ends arc" ++ and_number arc ++ codes " file" ++ and_number file
disagreement (ZeroArc arc) = codes "zero arc" ++ and_number arc

-- the place and the kind of a line's fault
abbrev pub fault_line : List ℕ → ℕ → LineKind → List ℕ
fault_line name line kind =
    name ++ codes " line" ++ and_number line ++ codes " kind" ++ and_number (kind_number kind)

-- the place of a certificate's fault
abbrev pub cert_line : List ℕ → ℕ → List ℕ
cert_line name line = name ++ codes " line" ++ and_number line

-- the rule that fails at a label of a certificate
abbrev pub cert_rule : List ℕ → Rule → ℕ → List ℕ
cert_rule name rule label = name ++ codes " rule" ++ and_number (rule_number rule) ++ codes " label" ++ and_number label

-- a note of these words, as a line
abbrev pub noted : List ℕ → List ℕ
noted words = codes "route: " ++ words ++ end_line

-- the note for `err`, empty where the reply says all
abbrev pub note_of : Outcome → List ℕ
note_of done = []
note_of bad_words = noted (codes "words")
note_of (folder_failed name) = noted (codes "folder " ++ name)
note_of out_failed = noted (codes "out")
note_of (bad_file name line kind) = noted (codes "file " ++ fault_line name line kind)
note_of (bad_files way) = noted (codes "files " ++ disagreement way)
note_of (bad_pairs name line kind) = noted (codes "pairs " ++ fault_line name line kind)
note_of (script_too_long name) = noted (codes "script " ++ name ++ codes " too long")
note_of (bad_cert name line) = noted (codes "cert " ++ cert_line name line)
note_of (failed_rule name rule label) = noted (codes "cert " ++ cert_rule name rule label)
note_of refused = []
note_of town_failed = noted (codes "town")
note_of no_memory = noted (codes "memory")
note_of out_wanted = noted (codes "memory")
