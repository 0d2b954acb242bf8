-- What the command `verify` does over a network: it reads a certificate, checks it, and replies with the answer that it shows.
-- What is said of the certificate's bytes holds where the folder tells its files.
use Rattle.std.specs.Prelude.{◌≡◌, ℕ, List, [], Option, None, Ok, Err}
use Rattle.route_io.specs.Files.{FileMap}
use Rattle.cost_vector.specs.Costs.{no_limit}
use Rattle.road_network.specs.Answers.{IsAnswer, Route}
use Rattle.road_network.specs.Network.{Network}
use Rattle.road_network.specs.declared.query.AnswerKind.TheVariants.{Walks}
use Rattle.road_network.specs.declared.query.Query.{Query}
use Rattle.cert_rules.specs.Certificates.{Certificate, IsCertificate}
use Rattle.cert_rules.specs.Rules.{HasNoFailure, IsFirstFailure}
use Rattle.cert_rules.specs.declared.rule.Rule.{Rule}
use Rattle.front_cert.specs.Text.{read_text}
use Rattle.answer_writer.specs.Replies.{reply_of}
use Rattle.still_commands.specs.FilesRead.{Tells}
use Rattle.still_commands.specs.Outcome.{Outcome, done, bad_cert, failed_rule, folder_failed, no_memory}

-- the first faulty line of the certificate of this name
abbrev pub HasFaultyLine : Option FileMap → Network → List ℕ → ℕ → Type 0
HasFaultyLine files net name line = Tells files name (λ bytes. read_text net bytes ≡ Err line)

-- this is the certificate that the text is, and the rule fails first at this label of it
pub record FailsFirst (net : Network) (rule : Rule) (label : ℕ) (bytes : List ℕ) : Type 0 where
  pub cert : Certificate
  pub reads : read_text net bytes ≡ Ok cert
  pub fails : IsFirstFailure net cert rule label

-- how the reading and the check of the certificate of this name end a run
pub data CertStop (files : Option FileMap) (net : Network) (name : List ℕ) : Outcome → Type 0 where
  -- the folder failed
  failed : CertStop files net name (folder_failed name)
  -- a line is faulty
  faulty : {line : ℕ} → HasFaultyLine files net name line → CertStop files net name (bad_cert name line)
  -- no line is, but a rule fails
  refuted : {rule : Rule} {label : ℕ} → Tells files name (FailsFirst net rule label) → CertStop files net name (failed_rule name rule label)
  -- memory ran out
  starved : CertStop files net name no_memory

-- the text is this certificate, at which no rule fails
pub record HoldsAt (net : Network) (cert : Certificate) (bytes : List ℕ) : Type 0 where
  pub reads : read_text net bytes ≡ Ok cert
  pub holds : HasNoFailure net cert

-- the query whose answer a certificate shows; nothing is searched for it, and its budget is 0
abbrev pub query_of : Certificate → Query
query_of cert = record { from = cert.start; to = cert.target; limit = None; budget = 0 }

-- The reply at epoch 0 is the answer from the certificate's start to its target: all best costs, each with its backward-least
-- walk, whoever wrote the certificate.
pub record HasItsAnswer (net : Network) (cert : Certificate) (text : List ℕ) : Type 0 where
  pub routes : List Route
  pub answer : IsAnswer net cert.start cert.target (no_limit net.criteria) routes
  pub reply : text ≡ reply_of Walks 0 (query_of cert) routes

-- the reply to a certificate is its answer, unless memory runs out before the first byte
abbrev pub CertReplies : Network → Certificate → Outcome → List ℕ → Type 0
CertReplies net cert done text = HasItsAnswer net cert text
CertReplies net cert no_memory text = text ≡ []
CertReplies net cert outcome text = ⊥

-- how a check of the certificate of this name ends over a network, and what it sends
pub data VerifyEnds (files : Option FileMap) (name : List ℕ) (net : Network) : Outcome → List ℕ → Type 0 where
  -- the certificate isn't accepted, and nothing is sent
  cert_stops : {outcome : Outcome} → CertStop files net name outcome → VerifyEnds files name net outcome []
  -- it is
  cert_holds : {outcome : Outcome} {text : List ℕ} (cert : Certificate) → IsCertificate net cert → Tells files name (HoldsAt net cert)
      → CertReplies net cert outcome text → VerifyEnds files name net outcome text
