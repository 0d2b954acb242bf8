-- What the command `gen` sends.
use Rattle.std.specs.Prelude.{◌≡◌, ℕ, List, [], MatchOption}
use Rattle.graph_gen.specs.declared.GenPlan.{GenPlan}
use Rattle.graph_gen.specs.Texts.{file_text}
use Rattle.command_words.specs.declared.commands.GenWords.{GenWords}
use Rattle.still_commands.specs.Outcome.{Outcome, done, no_memory}
use Rattle.still_commands.specs.Summary.{IsSummary}

-- What is sent is this file of the plan, unless memory runs out before it is made.
abbrev pub SendsFile : GenPlan → ℕ → Outcome → List ℕ → Type 0
SendsFile plan number done text = text ≡ file_text plan number
SendsFile plan number no_memory text = text ≡ []
SendsFile plan number outcome text = ⊥

-- What is sent is the summary of all files of the plan, unless memory runs out before it is made.
abbrev pub SendsSummary : GenWords → Outcome → List ℕ → Type 0
SendsSummary asked done text = IsSummary asked text
SendsSummary asked no_memory text = text ≡ []
SendsSummary asked outcome text = ⊥

-- The file that is asked for is sent, or the summary of all where none is.
abbrev pub GenEnds : GenWords → Outcome → List ℕ → Type 0
GenEnds asked outcome text =
    MatchOption asked.file (SendsSummary asked outcome text) (λ number. SendsFile asked.plan number outcome text)
