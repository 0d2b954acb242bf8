-- What the command `prove` replies of a network.
use Rattle.std.specs.Prelude.{◌≡◌, ℕ, List, [], Result}
use Rattle.road_network.specs.Network.{Network}
use Rattle.road_network.specs.Queries.{HaveNodes, IsTooLarge}
use Rattle.road_network.specs.declared.query.AnswerKind.TheVariants.{Walks}
use Rattle.road_network.specs.declared.query.Query.{Query}
use Rattle.cert_rules.specs.Certificates.{Certificate, IsCertificate}
use Rattle.cert_rules.specs.Meaning.{ListsRelevant}
use Rattle.front_cert.specs.Listing.{Listing}
use Rattle.front_cert.specs.Reads.{ChecksText}
use Rattle.front_cert.specs.declared.fault.CertFault.{CertFault}
use Rattle.cert_writer.specs.Text.{Accepts, cert_text}
use Rattle.session_core.specs.declared.reply.Reply.TheVariants.{Refusal}
use Rattle.session_core.specs.Queries.{RepliesToQuery}
use Rattle.session_core.specs.declared.mode.SearchMode.TheVariants.{Plain}
use Rattle.still_commands.specs.Outcome.{Outcome, done, refused, no_memory}

-- The text is that of the certificate of the query's relevant pairs, each with the last arc of its backward-least walk, and a
-- check over the same network accepts it. The query is within its budget.
pub record HasCertificate (net : Network) (query : Query) (text : List ℕ) : Type 0 where
  pub nodes : HaveNodes net query
  pub within : ¬ IsTooLarge net query
  pub cert : Certificate
  pub start : cert.start ≡ query.from
  pub target : cert.target ≡ query.to
  pub is : IsCertificate net cert
  pub lists : ListsRelevant net cert
  pub reply : text ≡ cert_text net.criteria cert
  pub accepted : (result : Result Listing CertFault) → ChecksText net text result → Accepts cert result

-- The reply is the certificate, or the refusal that the query for an answer with walks gets at epoch 0, unless memory runs
-- out before its first byte.
abbrev pub ProveReplies : Query → Network → Outcome → List ℕ → Type 0
ProveReplies query net done text = HasCertificate net query text
ProveReplies query net refused text = RepliesToQuery net Plain 0 Walks query Refusal text
ProveReplies query net no_memory text = text ≡ []
ProveReplies query net outcome text = ⊥
