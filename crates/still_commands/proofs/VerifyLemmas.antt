-- The runs of `verify`.
use Rattle.std.proofs.Common.{◌≡◌, ℕ, List, None, Some, IfSome, Ok, Option, false, refl, subst}
use Rattle.std.specs.Prelude.{◌==◌}
use Rattle.cost_vector.specs.Costs.{no_limit}
use Rattle.road_network.specs.Answers.{IsAnswer, Route}
use Rattle.road_network.specs.Network.{IsNetwork, Network}
use Rattle.road_network.proofs.AnswerLaws.{has_answer, some_list}
use Rattle.road_network.specs.declared.query.AnswerKind.TheVariants.{Walks}
use Rattle.route_io.specs.Files.{FileMap, Opens}
use Rattle.route_io.specs.Sinks.{SinkState}
use Rattle.route_io.specs.Sources.{SourceState, ReadsFiles}
use Rattle.cert_rules.specs.Certificates.{Certificate, IsCertificate}
use Rattle.cert_rules.specs.Rules.{IsFirstFailure}
use Rattle.cert_rules.specs.declared.rule.Rule.{Rule}
use Rattle.front_cert.specs.Text.{read_text}
use Rattle.answer_writer.specs.Replies.{reply_of}
use Rattle.command_words.specs.declared.commands.StillCommand.TheVariants.{Verify}
use Rattle.command_words.specs.declared.commands.VerifyWords.{VerifyWords}
use Rattle.still_commands.specs.FilesRead.{ReadAs, Tells}
use Rattle.still_commands.specs.Outcome.{Outcome, failed_file}
use Rattle.still_commands.specs.Output.{RunsCommand, StillEnds}
use Rattle.still_commands.specs.Stops.{Replies}
use Rattle.still_commands.specs.Verify.{CertReplies, CertStop, FailsFirst, HasItsAnswer, HoldsAt, VerifyEnds, cert_holds, cert_stops, query_of}
use Rattle.still_commands.specs.Verify.{failed, faulty, refuted, starved}
use Rattle.still_commands.proofs.FilesReadLemmas.{ends_over, tells}
use Rattle.still_commands.proofs.RunsLemmas.{LeavesOut, nothing_sent, runs_then}

-- the answer to it, as its text
pub its_answer : (net : Network) → IsNetwork net → (cert : Certificate) → (routes : List Route)
    × IsAnswer net cert.start cert.target (no_limit net.criteria) routes × HasItsAnswer net cert (reply_of Walks 0 (query_of cert) routes)
its_answer net is cert =
    let limit = no_limit net.criteria in
    let best = some_list net cert.start cert.target is limit in
    let answer = has_answer net cert.start cert.target is limit best.0 best.1 in
    (answer.0, answer.1, record { routes = answer.0; answer = answer.1; reply = refl })

some_fails : (left : Option (List ℕ)) (net : Network) (rule : Rule) (label : ℕ)
    → IfSome left (λ bytes. (cert : Certificate) × (read_text net bytes ≡ Ok cert) × IsFirstFailure net cert rule label)
    → IfSome left (FailsFirst net rule label)
some_fails None net rule label checks = tt
some_fails (Some bytes) net rule label (cert, reads, fails) = record { cert = cert; reads = reads; fails = fails }

-- a rule fails at the certificate in the file that was opened
pub fails_first : (files : Option FileMap) (name : List ℕ) (left : Option (List ℕ)) (net : Network) (rule : Rule) (label : ℕ) → Opens files name left
    → IfSome left (λ bytes. (cert : Certificate) × (read_text net bytes ≡ Ok cert) × IsFirstFailure net cert rule label)
    → Tells files name (FailsFirst net rule label)
fails_first files name left net rule label opens checks =
    tells files name left (FailsFirst net rule label) opens (some_fails left net rule label checks)

cert_leaves_out : {files : Option FileMap} {net : Network} {name : List ℕ} {outcome : Outcome} → CertStop files net name outcome → LeavesOut outcome
cert_leaves_out failed = record { no_fault = refl; no_want = refl }
cert_leaves_out (faulty tells) = record { no_fault = refl; no_want = refl }
cert_leaves_out (refuted tells) = record { no_fault = refl; no_want = refl }
cert_leaves_out starved = record { no_fault = refl; no_want = refl }

-- the network was read, and the run goes on to the certificate
module _ (asked : VerifyWords) (folder mid after : SourceState) (net : Network) (read : ReadAs folder.files asked.files net)
    (reads : ReadsFiles folder mid None) where
  goes_on_to_cert : (out replied : SinkState) (outcome : Outcome) → RunsCommand (VerifyEnds mid.files asked.cert net) mid after out replied outcome
      → RunsCommand (StillEnds folder.files (Verify asked)) folder after out replied outcome
  goes_on_to_cert out replied outcome runs =
      ends_over (VerifyEnds folder.files asked.cert) asked.files folder after net mid out replied outcome read reads
      (subst (λ files. RunsCommand (VerifyEnds files asked.cert net) mid after out replied outcome) reads.files runs)

  -- the certificate ends it
  pub ends_at_cert : {outcome : Outcome} (out : SinkState) → CertStop mid.files net asked.cert outcome → ReadsFiles mid after (failed_file outcome)
      → RunsCommand (StillEnds folder.files (Verify asked)) folder after out out outcome
  ends_at_cert {outcome} out stop more = goes_on_to_cert out out outcome
      (nothing_sent (VerifyEnds mid.files asked.cert net) outcome mid after out (cert_leaves_out stop) (cert_stops stop) more)

  -- no rule fails at it, and the run only replies
  pub ends_over_cert : (cert : Certificate) (out replied : SinkState) (outcome : Outcome) → IsCertificate net cert
      → Tells mid.files asked.cert (HoldsAt net cert) → ReadsFiles mid after None → Replies (CertReplies net cert) out replied outcome
      → RunsCommand (StillEnds folder.files (Verify asked)) folder after out replied outcome
  ends_over_cert cert out replied outcome is says more replies = goes_on_to_cert out replied outcome
      (runs_then (CertReplies net cert) (VerifyEnds mid.files asked.cert net) (λ o text then. cert_holds cert is says then) mid after after
      out replied outcome more (replies after))
