use Rattle.std.proofs.Common.{ap, ap₂, map, subst, sym, ◌∙◌}
use Rattle.road_network.specs.Network.{IsNode}
use Rattle.cert_rules.specs.Certificates.{Certificate, IsCertificate}
use Rattle.cert_rules.specs.Meaning.{ListsRelevant}
use Rattle.front_cert.specs.Listing.{line_of}
use Rattle.cert_writer.proofs.LabelLemmas.{are_kept, is_certificate, is_whole, lists_relevant}
use Rattle.cert_writer.proofs.label_list.list_labels.Goals as goal

pub settled_labels-requires : goal.settled_labels-requires
settled_labels-requires g c =
    record { whole = is_whole c.args.network.now c.nodes.ensures.network c.args.query.now (g.F.FoundCosts.state c.args.found.now) c.requires.of_query c.requires.unlimited c.requires.relevant }

pub of_labels-requires-clause-start : goal.of_labels-requires-clause-start
of_labels-requires-clause-start g c =
    rw c.start.ensures (subst (λ n. IsNode n (g.F.FoundCosts.state c.args.found.now).start) c.requires.of_query.nodes c.count-count.ensures.found.start)

pub of_labels-requires-clause-target : goal.of_labels-requires-clause-target
of_labels-requires-clause-target g c =
    rw c.target.ensures (subst (λ n. IsNode n (g.F.FoundCosts.state c.args.found.now).target) c.requires.of_query.nodes c.count-count.ensures.found.target)

pub of_labels-requires-clause-kept : goal.of_labels-requires-clause-kept
of_labels-requires-clause-kept g c =
    are_kept c.args.network.now c.nodes.ensures.network c.args.query.now (g.F.FoundCosts.state c.args.found.now) c.requires.of_query c.requires.unlimited c.requires.relevant
    c.in_ok-labels.labels.items c.in_ok-labels.ensures

pub returns-clause-of : goal.returns-clause-of
returns-clause-of g c = c.of_labels.ensures.of

pub returns-clause-ends : goal.returns-clause-ends
returns-clause-ends g c = (
  ap (λ (x : Certificate). x.start) c.of_labels.ensures.says ∙ c.start.ensures ∙ c.requires.of_query.start,
  ap (λ (x : Certificate). x.target) c.of_labels.ensures.says ∙ c.target.ensures ∙ c.requires.of_query.target,
)

pub returns-clause-relevant : goal.returns-clause-relevant
returns-clause-relevant g c =
    let f = g.F.FoundCosts.state c.args.found.now in let labels = c.in_ok-labels.labels.items in
    let says = c.of_labels.ensures.says ∙ ap₂ (λ s t. record { start = s; target = t; labels = map line_of labels }) c.start.ensures c.target.ensures in
    subst (ListsRelevant c.args.network.now) (sym says)
    (lists_relevant c.args.network.now c.nodes.ensures.network c.args.query.now f c.requires.of_query c.requires.unlimited c.requires.relevant labels c.in_ok-labels.ensures)

pub returns-clause-certificate : goal.returns-clause-certificate
returns-clause-certificate g c =
    let f = g.F.FoundCosts.state c.args.found.now in let labels = c.in_ok-labels.labels.items in
    let says = c.of_labels.ensures.says ∙ ap₂ (λ s t. record { start = s; target = t; labels = map line_of labels }) c.start.ensures c.target.ensures in
    subst (IsCertificate c.args.network.now) (sym says)
    (is_certificate c.args.network.now c.nodes.ensures.network c.args.query.now f c.requires.of_query c.requires.unlimited c.requires.relevant labels c.in_ok-labels.ensures
    c.count-count.ensures.found c.requires.budget c.requires.in_budget)
