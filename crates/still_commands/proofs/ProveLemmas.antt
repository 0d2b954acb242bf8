-- The runs of `prove`.
use Rattle.std.proofs.Common.{◌≡◌, ◌≤◌, None, ap, arith, inl, inr, refl, subst}
use Rattle.road_network.specs.Network.{Network}
use Rattle.road_network.specs.Queries.{HaveNodes, IsQuery, IsTooLarge}
use Rattle.road_network.specs.declared.query.Query.{Query}
use Rattle.cert_rules.specs.Certificates.{IsCertificate}
use Rattle.cert_rules.specs.Meaning.{ListsRelevant}
use Rattle.arc_graph.specs.Graph.{IsRoadNetwork}
use Rattle.cert_rules.proofs.CompleteLaws.{no_failure}
use Rattle.cert_writer.specs.Text.{cert_text}
use Rattle.cert_writer.proofs.WrittenLemmas.{accepts, text_back}
use Rattle.front_cert.specs.Reads.{ChecksText}
use Rattle.front_cert.specs.Listing.{IsListingOf, Listing}
use Rattle.route_io.specs.Sinks.{SinkState}
use Rattle.answer_writer.specs.Replies.{budget_refusal, node_refusal}
use Rattle.command_words.specs.Ranges.{max_listed}
use Rattle.still_commands.specs.Outcome.{Outcome, refused}
use Rattle.still_commands.specs.Prove.{HasCertificate, ProveReplies}
use Rattle.still_commands.specs.Stops.{IsReply, Replies}
use Rattle.still_commands.proofs.QueryLemmas.{is_query_unlimited}
use Rattle.still_commands.proofs.RunsLemmas.{replies_so}

module _ (query : Query) (net : Network) where
  -- a query without a limit that may be listed can be searched
  pub is_query : query.limit ≡ None → query.budget ≤ max_listed → HaveNodes net query → IsQuery net query
  is_query unlimited most nodes = is_query_unlimited query net unlimited (omega (arith, most)) nodes

  -- a list of the relevant pairs is the certificate
  pub has_certificate : IsRoadNetwork net → (l : Listing) → HaveNodes net query → ¬ IsTooLarge net query → IsListingOf net l
      → (l.cert.start ≡ query.from) × (l.cert.target ≡ query.to) → IsCertificate net l.cert → ListsRelevant net l.cert
      → HasCertificate net query (cert_text l.criteria l.cert)
  has_certificate road l nodes within of ends is lists = record {
    nodes = nodes;
    within = within;
    cert = l.cert;
    start = ends.0;
    target = ends.1;
    is = is;
    lists = lists;
    reply = ap (λ d. cert_text d l.cert) of.criteria;
    accepted = λ result checks. accepts net l.cert (text_back net road l.cert is) (no_failure net road.network l.cert lists is) result
        (subst (λ d. ChecksText net (cert_text d l.cert) result) of.criteria checks);
  }

  module _ (out replied : SinkState) (outcome : Outcome) where
    -- an end isn't a node, and that was said
    pub lacks_node : ¬ HaveNodes net query → Replies (IsReply refused (node_refusal 0 query.from query.to)) out replied outcome
        → Replies (ProveReplies query net) out replied outcome
    lacks_node none sends = replies_so (ProveReplies query net) refused _ out replied outcome (inl (record { no_nodes = none; reply = refl })) sends

    -- the query passes its budget, and that was said
    pub passes_budget : HaveNodes net query → IsTooLarge net query → Replies (IsReply refused (budget_refusal 0 query.from query.to)) out replied outcome
        → Replies (ProveReplies query net) out replied outcome
    passes_budget nodes passes sends =
        replies_so (ProveReplies query net) refused _ out replied outcome (inr (record { nodes = nodes; passes = passes; reply = refl })) sends
