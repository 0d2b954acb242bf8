use Rattle.std.proofs.Common.{◌≡◌, ℕ, List, [], refl}
use Rattle.session_requests.specs.declared.line.Line.TheVariants as line
use Rattle.session_core.specs.Answering.{scene_of}
use Rattle.session_core.specs.Sessions.{line_refusal}
use Rattle.session_core.proofs.AnswersLineLemmas.{sends_nothing}
use Rattle.session_core.proofs.RunLemmas.{answers_request, answers_unnamed, of_criteria, tells_unnamed}
use Rattle.session_core.proofs.session.Session.answer.Goals as goal

pub returns-in-Blank : goal.returns-in-Blank
returns-in-Blank g c first exchanges raw is goes =
    let context = c.args.context.now in
    let scene = scene_of context.graph.now g.T.Store.origin context.budget in
    let blank = of_criteria _ context.graph.now.criteria raw line.Blank c.criteria.ensures.count (c.in-Blank.ensures.line raw is) in
    tells_unnamed scene first c.args.self.now exchanges raw [] line.Blank _ _ _ goes blank (refl, refl) (sends_nothing _)

pub returns-in-Other : goal.returns-in-Other
returns-in-Other g c first exchanges raw is goes =
    let context = c.args.context.now in
    let scene = scene_of context.graph.now g.T.Store.origin context.budget in
    let other = of_criteria _ context.graph.now.criteria raw line.Other c.criteria.ensures.count (c.in-Other.ensures.line raw is) in
    let P : List ℕ → Type 0 = λ text. text ≡ line_refusal in
    rw c.answered.ensures (answers_unnamed scene first c.args.self.now exchanges raw line.Other P _ _ _ goes other (λ text same. (refl, same)) c.refuse_line.ensures)

pub returns-in-Request : goal.returns-in-Request
returns-in-Request g c first exchanges raw is goes =
    let context = c.args.context.now in
    let scene = scene_of context.graph.now g.T.Store.origin context.budget in
    let r = c.in-Request.request in
    let asked = of_criteria _ context.graph.now.criteria raw (line.Request r) c.criteria.ensures.count (c.in-Request.ensures.line raw is) in
    rw c.answered-in-Request.ensures (answers_request scene first c.args.self.now c.reply.new.self exchanges raw r _ _ _ goes asked c.reply.ensures)
