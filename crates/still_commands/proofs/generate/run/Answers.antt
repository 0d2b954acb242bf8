use Rattle.std.proofs.Common.{◌≡◌, ℕ, List, Some, None, subst, sym}
use Rattle.std.specs.Prelude.{Option, MatchOption}
use Rattle.route_io.specs.Sinks.{SinkState}
use Rattle.command_words.specs.declared.commands.GenWords.{GenWords}
use Rattle.still_commands.specs.Gen.{GenEnds, SendsFile, SendsSummary}
use Rattle.still_commands.specs.Outcome.{Outcome}
use Rattle.still_commands.specs.Stops.{Replies}
use Rattle.still_commands.proofs.generate.run.Goals as goal

module _ (asked : GenWords) (out replied : SinkState) (outcome : Outcome) where
  abbrev EndsBy : Option ℕ → Outcome → List ℕ → Type 0
  EndsBy file end text = MatchOption file (SendsSummary asked end text) (λ number. SendsFile asked.plan number end text)

  -- a file is asked for
  file_sent : (number : ℕ) → asked.file ≡ Some number → Replies (SendsFile asked.plan number) out replied outcome
      → Replies (GenEnds asked) out replied outcome
  file_sent number is sends = subst (λ file. Replies (EndsBy file) out replied outcome) (sym is) sends

  -- none is
  summary_sent : asked.file ≡ None → Replies (SendsSummary asked) out replied outcome → Replies (GenEnds asked) out replied outcome
  summary_sent is sends = subst (λ file. Replies (EndsBy file) out replied outcome) (sym is) sends

pub returns-in-Some : goal.returns-in-Some
returns-in-Some g c = file_sent c.args.asked.now _ _ _ c.in-Some.number c.in-Some.is (rw c.get.ensures.value at c.send_file.ensures)

pub returns-in-None : goal.returns-in-None
returns-in-None g c = summary_sent c.args.asked.now _ _ _ c.in-None.is c.send_summary.ensures
