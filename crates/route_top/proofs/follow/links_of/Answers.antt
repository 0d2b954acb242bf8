use Rattle.std.proofs.Common.{◌≡◌, ◌∙◌, ◌++◌, ◌∷◌, ℕ, List, [], ap, ap₂, map, map-id, rules, sym, subst}
use Rattle.std.proofs.lemmas.Iterator.Adapters.{YieldsList-from_vec}
use Rattle.std.proofs.lemmas.Iterator.Consumers.{YieldsList-end}
use Rattle.std.proofs.lemmas.List.{map-append}
use Rattle.std.proofs.lemmas.List.Elements.{All-append, All-cons, All-nil}
use Rattle.std.specs.List.{All}
use Rattle.route_io.specs.Forms.{SureSink as Sink}
use Rattle.route_io.specs.declared.link.Link.{Link}
use Rattle.route_io.specs.declared.sure.SureSink.{SureSink}
use Rattle.route_io.specs.declared.sure.SureSource.{SureSource}
use Rattle.route_top.proofs.follow.links_of.Goals as goal

-- nothing was sent on the link
abbrev IsUnsent : Link SureSource SureSink → Type 0
IsUnsent link = link.to ≡ record { sent = []; wants = 0 }

-- a sink of so much
abbrev sink_with : List ℕ → ℕ → Sink
sink_with sent wants = record { sent = sent; wants = wants }

pub loop-from-preserved : goal.loop-from-preserved
loop-from-preserved c =
    let links = c.loop-from.links.items in
    let link : Link SureSource SureSink = record { from = c.in-Some.from; to = c.new-to.result } in
    let grown : c.push.new.self.items ≡ links ++ link ∷ [] = search rules in
    let unsent = All-append IsUnsent links (link ∷ []) c.loop-from.invariant.unsent (All-cons IsUnsent link [] (ap₂ sink_with c.new-to.ensures.sent c.new-to.ensures.wants) (All-nil IsUnsent)) in record {
      from = ap (map (λ l. l.from)) grown ∙ map-append (λ l. l.from) links (link ∷ []) ∙ ap (λ xs. xs ++ c.in-Some.from ∷ []) c.loop-from.invariant.from;
      unsent = subst (All IsUnsent) (sym grown) unsent;
    }

pub returns-clause-from : goal.returns-clause-from
returns-clause-from c =
    let loop = c.loop-from in
    let road = YieldsList-from_vec {s = c.into_iter-from-iterator.result} c.args.scripts.items (search rules) (search rules) in
    let end = YieldsList-end road loop.yielded loop.from-iterator loop.yielded_by c.next.result c.next.new.self c.in-None.is c.next.ensures.steps in
    loop.invariant.from ∙ sym (map-id loop.yielded) ∙ end.0
