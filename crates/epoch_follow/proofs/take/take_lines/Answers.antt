use Rattle.std.proofs.Common.{◌≡◌, ap, false, refl, sym, true, Err, IfSome, IsSomeAnd, Ok, ◌∙◌, subst}
use Rattle.std.specs.Io.KnownBytes.{prepend_known}
use Rattle.std.proofs.lemmas.Result.{err_from_is_err_and}
use Rattle.line_text.specs.Fields.{fields_of}
use Rattle.line_text.specs.Reading.{Lines}
use Rattle.epoch_follow.specs.declared.due.Due.TheVariants as due
use Rattle.epoch_follow.specs.Reads.{HasRun, LineTells, state_of}
use Rattle.epoch_follow.specs.Text.{head_of}
use Rattle.epoch_store.proofs.PrefixLemmas.{prefix_self, prefix_trans}
use Rattle.epoch_follow.proofs.TakeLemmas.{ends_next, goes_on, known_begun, stops_line, stops_next}
use Rattle.epoch_follow.proofs.take.take_lines.Goals as goal

pub lines-init : goal.lines-init
lines-init g c =
    let head = head_of c.args.graph.now g.T.Store.origin.first in
    let old = c.args.operator.now.published in
    let total = c.args.lines.limits.total in
    let left = (g.S.Source.state c.args.source.now).left in
    let begun = c.requires.begun in
    let Known : Lines → Type 0 = λ l. IfSome left (λ bytes. IsSomeAnd (prepend_known l.held left)
    (HasRun head total old bytes (state_of c.args.operator.now due.First l) l.ended)) in
    record {
      limits = ap (λ (l : Lines). l.limits) begun;
      goes_on = ap (λ (l : Lines). l.fault) begun;
      knows_end = λ ended. absurd (let both : true ≡ false = sym ended ∙ ap (λ (l : Lines). l.ended) begun in cc);
      awaits = c.requires.nothing_pending;
      begins = prefix_self old;
      source = record { cause = refl; files = refl; selected = refl };
      known = subst Known (sym begun) (known_begun head total old left);
    }

pub returns-clause-takes : goal.returns-clause-takes
returns-clause-takes g c =
    let state = g.S.Source.state in
    let reads = rw c.if-branch.false at c.in_ok-next_line.ensures.reads in
    ends_next (head_of c.args.graph.now g.T.Store.origin.first) c.args.lines.limits.total c.args.operator.now.published c.lines.lines c.lines.operator
    c.lines.due c.lines.invariant.limits (state c.args.source.now).left c.lines.lines.held (state c.lines.source).left c.lines.invariant.known
    c.next_line.new.lines reads.in_limits reads.limits (state c.next_line.new.source).left reads.tells

pub returns-in_err-next_line-clause-takes : goal.returns-in_err-next_line-clause-takes
returns-in_err-next_line-clause-takes g c =
    let p = err_from_is_err_and c.from_residual.result c.from_residual.ensures.1 in
    let state = g.S.Source.state in
    let reads = c.in_err-next_line.ensures.reads in
    rw (p.1, p.2) (stops_next (head_of c.args.graph.now g.T.Store.origin.first) c.args.lines.limits.total c.args.operator.now.published c.lines.lines c.lines.operator
    c.lines.due c.lines.invariant.limits (state c.args.source.now).left c.lines.lines.held (state c.lines.source).left c.lines.invariant.known
    c.next_line.new.lines reads.in_limits reads.limits (state c.next_line.new.source).left c.in_err-next_line.field-0.0 reads.tells)

pub returns-in_err-due-clause-takes : goal.returns-in_err-due-clause-takes
returns-in_err-due-clause-takes g c =
    let p = err_from_is_err_and c.from_residual-in_err-due.result c.from_residual-in_err-due.ensures.1 in
    let state = g.S.Source.state in
    let head = head_of c.args.graph.now g.T.Store.origin.first in
    let end = c.in_err-due.field-0.0 in
    let reads = rw c.if-branch.true at c.in_ok-next_line.ensures.reads in
    let shown : LineTells head c.number.result c.lines.operator c.lines.due (fields_of c.text.result.now) c.take.new.operator (Err end) = c.in_err-due.ensures.tells in
    let tells = subst (λ n. LineTells head n c.lines.operator c.lines.due (fields_of c.next_line.new.lines.text) c.take.new.operator (Err end)) c.number.ensures.value
    (subst (λ t. LineTells head c.number.result c.lines.operator c.lines.due (fields_of t) c.take.new.operator (Err end)) c.text.ensures.value shown) in
    rw (p.1, p.2) (stops_line head c.args.lines.limits.total c.args.operator.now.published c.lines.lines c.lines.operator
    c.lines.due c.lines.invariant.limits (state c.args.source.now).left c.lines.lines.held (state c.lines.source).left c.lines.invariant.known
    c.next_line.new.lines reads.in_limits reads.limits (state c.next_line.new.source).left reads.tells
    (rw c.if-branch.true at c.in_ok-next_line.ensures.counts) c.take.new.operator end tells)

pub lines-preserved : goal.lines-preserved
lines-preserved g c =
    let state = g.S.Source.state in
    let head = head_of c.args.graph.now g.T.Store.origin.first in
    let next = c.in_ok-due.due in
    let reads = rw c.if-branch.true at c.in_ok-next_line.ensures.reads in
    let shown : LineTells head c.number.result c.lines.operator c.lines.due (fields_of c.text.result.now) c.take.new.operator (Ok next) = c.in_ok-due.ensures.tells in
    let tells = subst (λ n. LineTells head n c.lines.operator c.lines.due (fields_of c.next_line.new.lines.text) c.take.new.operator (Ok next)) c.number.ensures.value
    (subst (λ t. LineTells head c.number.result c.lines.operator c.lines.due (fields_of t) c.take.new.operator (Ok next)) c.text.ensures.value shown) in
    let source = c.in_ok-next_line.ensures.source in
    let so_far = c.lines.invariant in
    record {
      limits = reads.limits ∙ so_far.limits;
      goes_on = c.in_ok-next_line.ensures.goes_on;
      knows_end = reads.knows_end;
      awaits = tells.1;
      begins = prefix_trans _ _ _ so_far.begins c.take.ensures.begins;
      source = record { cause = source.cause ∙ so_far.source.cause; files = source.files ∙ so_far.source.files; selected = source.selected ∙ so_far.source.selected };
      known = goes_on head c.args.lines.limits.total c.args.operator.now.published c.lines.lines c.lines.operator c.lines.due so_far.limits
          (state c.args.source.now).left c.lines.lines.held (state c.lines.source).left so_far.known
          c.next_line.new.lines reads.in_limits reads.limits (state c.next_line.new.source).left reads.tells
          (rw c.if-branch.true at c.in_ok-next_line.ensures.counts) c.take.new.operator next tells.0;
    }
