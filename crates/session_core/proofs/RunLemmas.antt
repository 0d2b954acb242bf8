-- A session goes on: it sees more, and one line more is told.
use Rattle.std.proofs.Common.{◌≡◌, ℕ, ◌≤◌, inl, inr, List, [], ◌∷◌, ◌++◌, Some, None, Result, Ok, Err, refl, ap, sym, subst, ◌∙◌, arith, append_assoc}
use Rattle.std.specs.Prelude.{All, AllPairs, Contains}
use Rattle.std.proofs.lemmas.List.{append-nil}
use Rattle.std.proofs.lemmas.List.Elements.{All-push, filter_map-append}
use mathlib.Core.List.{IsPrefix}
use Rattle.list_laws.proofs.Members.{each_in}
use Rattle.list_laws.proofs.Pairs.{pairs_push}
use Rattle.route_io.specs.Sinks.{SinkState, Sends}
use Rattle.route_io.specs.declared.fault.WriteFault.{WriteFault}
use Rattle.arc_graph.specs.History.{History}
use Rattle.session_core.specs.declared.fault.ReplyFault.{ReplyFault}
use Rattle.session_core.specs.declared.fault.ReplyFault.TheVariants as fault
use Rattle.epoch_store.specs.Origin.{Origin, last_number}
use Rattle.epoch_store.proofs.PrefixLemmas.{prefix_self, prefix_trans}
use Rattle.session_requests.specs.Requests.{AsksOfSession}
use Rattle.session_requests.specs.declared.line.Line.{Line}
use Rattle.session_requests.specs.declared.line.Line.TheVariants as line
use Rattle.session_requests.specs.declared.session.SessionRequest.{SessionRequest}
use Rattle.session_core.specs.Answering.{AnswersRequest, RepliesLast, RepliesOneOf, SeesOn, answer_by}
use Rattle.session_core.specs.Lines.{IsLine}
use Rattle.session_core.specs.Handlers.{AnswersLine, TellsOne}
use Rattle.session_core.specs.Sessions.{IsReplied, IsSessionBye, RepliesToLine, Scene, Session, SessionGoes, SessionRun}
use Rattle.session_core.specs.Exchanges.{Exchange, numbers_named}
use Rattle.session_core.proofs.StayLemmas.{last_grows, run_stays}

-- what was seen from then on, in two steps
pub sees_more : (o : Origin) (a b c : History) → SeesOn o a b → SeesOn o b c → SeesOn o a c
sees_more o a b c first (inl same) = subst (λ (h : History). SeesOn o a h) (sym same) first
sees_more o a b c (inl same) (inr more) = inr (subst (λ (h : History). IsPrefix h c) same more.0, more.1)
sees_more o a b c (inr first) (inr more) = inr (prefix_trans a b c first.0 more.0, more.1)

-- lines with their replies stay a run where more is seen
pub run_sees : (scene : Scene) (h0 h1 g1 : History) (exchanges : List Exchange) → SessionRun scene h0 h1 exchanges → SeesOn scene.origin h1 g1
    → SessionRun scene h0 g1 exchanges
run_sees scene h0 h1 g1 exchanges run (inl same) = subst (λ (h : History). SessionRun scene h0 h exchanges) (sym same) run
run_sees scene h0 h1 g1 exchanges run (inr more) = run_stays scene h0 h0 h1 g1 exchanges run (prefix_self h0) more.0 more.1.history

-- a session that has seen more, and named no further epoch
pub sees_and_goes : (scene : Scene) (first old new : Session) (exchanges : List Exchange) → SessionGoes scene first exchanges old
    → SeesOn scene.origin old.seen new.seen → new.named ≡ old.named → SessionGoes scene first exchanges new
sees_and_goes scene first old new exchanges goes seen named = record {
  run = run_sees scene first.seen old.seen new.seen exchanges goes.run seen;
  named = named ∙ goes.named;
}

-- the numbers of lines to which one is added that names an epoch
numbers_with_named : (exchanges : List Exchange) (t : Exchange) (k : ℕ) → t.named ≡ Some k → numbers_named (exchanges ++ t ∷ []) ≡ numbers_named exchanges ++ k ∷ []
numbers_with_named exchanges t k is = filter_map-append (λ (u : Exchange). u.named) exchanges (t ∷ []) ∙ rw is refl

-- and one that names none
numbers_unnamed : (exchanges : List Exchange) (t : Exchange) → t.named ≡ None → numbers_named (exchanges ++ t ∷ []) ≡ numbers_named exchanges
numbers_unnamed exchanges t is = filter_map-append (λ (u : Exchange). u.named) exchanges (t ∷ []) ∙ rw is (append-nil (numbers_named exchanges))

-- one line more, whose reply names the last epoch that was seen
run_named : (scene : Scene) (h0 h1 : History) (exchanges : List Exchange) (t : Exchange) → SessionRun scene h0 h1 exchanges
    → t.named ≡ Some (last_number scene.origin h1) → IsReplied scene h1 t → SessionRun scene h0 h1 (exchanges ++ t ∷ [])
run_named scene h0 h1 exchanges t run is replied =
    let k = last_number scene.origin h1 in
    let numbers = sym (numbers_with_named exchanges t k is) in
    let grows = last_grows scene.origin h0 h1 run.begins in
    let most : (n : ℕ) → Contains (numbers_named exchanges) n → n ≤ k = λ n in_all. each_in (λ m. m ≤ k) (numbers_named exchanges) run.below n in_all in record {
      begins = run.begins;
      each = All-push (IsReplied scene h1) exchanges t run.each replied;
      ascending = subst (AllPairs ◌≤◌) numbers (pairs_push ◌≤◌ (numbers_named exchanges) k run.ascending most);
      above = subst (All (λ n. last_number scene.origin h0 ≤ n)) numbers
          (All-push (λ n. last_number scene.origin h0 ≤ n) (numbers_named exchanges) k run.above grows);
      below = subst (All (λ n. n ≤ k)) numbers (All-push (λ n. n ≤ k) (numbers_named exchanges) k run.below (omega arith));
    }

-- one line more, which names no epoch
run_unnamed : (scene : Scene) (h0 h1 : History) (exchanges : List Exchange) (t : Exchange) → SessionRun scene h0 h1 exchanges → t.named ≡ None
    → IsReplied scene h1 t → SessionRun scene h0 h1 (exchanges ++ t ∷ [])
run_unnamed scene h0 h1 exchanges t run is replied =
    let numbers = sym (numbers_unnamed exchanges t is) in record {
      begins = run.begins;
      each = All-push (IsReplied scene h1) exchanges t run.each replied;
      ascending = subst (AllPairs ◌≤◌) numbers run.ascending;
      above = subst (All (λ n. last_number scene.origin h0 ≤ n)) numbers run.above;
      below = subst (All (λ n. n ≤ last_number scene.origin h1)) numbers run.below;
    }

-- a request that has its reply at the last epoch that was seen then is told
pub tells_request : (scene : Scene) (first old new : Session) (exchanges : List Exchange) (raw : List ℕ) (r : SessionRequest)
    (to replied : SinkState) (result : Result (Unit {0}) WriteFault) → SessionGoes scene first exchanges old
    → IsLine (AsksOfSession scene.graph.criteria) raw (line.Request r) → RepliesLast scene r old new to replied result
    → TellsOne (λ more. SessionGoes scene first more new) exchanges raw to replied result
tells_request scene first old new exchanges raw r to replied result goes is last =
    let k = last_number scene.origin new.seen in
    let one : Exchange = record { line = raw; named = Some k; reply = last.sent.text } in
    let has_reply : IsReplied scene new.seen one = record { what = line.Request r; is = is; replied = last.sent.is } in
    let run = run_sees scene first.seen old.seen new.seen exchanges goes.run last.seen in
    let front : new.named ≡ (first.named ++ numbers_named exchanges) ++ k ∷ [] = last.named ∙ ap (λ ks. ks ++ k ∷ []) goes.named in
    let named = append_assoc first.named (numbers_named exchanges) (k ∷ []) ∙ ap (λ ks. first.named ++ ks) (sym (numbers_with_named exchanges one k refl)) in record {
      one = one;
      line = refl;
      led = record { run = run_named scene first.seen new.seen exchanges one run refl has_reply; named = front ∙ named };
      sent = last.sent.sent;
    }

-- a line that names no epoch is told with its reply, and the session stays
pub tells_unnamed : (scene : Scene) (first old : Session) (exchanges : List Exchange) (raw text : List ℕ) (what : Line SessionRequest)
    (to replied : SinkState) (result : Result (Unit {0}) WriteFault) → SessionGoes scene first exchanges old
    → IsLine (AsksOfSession scene.graph.criteria) raw what → RepliesToLine scene old.seen what None text → Sends to replied text result
    → TellsOne (λ more. SessionGoes scene first more old) exchanges raw to replied result
tells_unnamed scene first old exchanges raw text what to replied result goes is reply sent =
    let one : Exchange = record { line = raw; named = None; reply = text } in
    let has_reply : IsReplied scene old.seen one = record { what = what; is = is; replied = reply } in
    let named = ap (λ ks. first.named ++ ks) (sym (numbers_unnamed exchanges one refl)) in record {
      one = one;
      line = refl;
      led = record { run = run_unnamed scene first.seen old.seen exchanges one goes.run refl has_reply; named = goes.named ∙ named };
      sent = sent;
    }

-- a line is the same where there are as many criteria
pub of_criteria : (d e : ℕ) (raw : List ℕ) (what : Line SessionRequest) → d ≡ e → IsLine (AsksOfSession d) raw what → IsLine (AsksOfSession e) raw what
of_criteria d e raw what same is = let P : ℕ → Type 0 = λ n. IsLine (AsksOfSession n) raw what in subst P same is

-- a line that names no epoch is answered
pub answers_unnamed : (scene : Scene) (first old : Session) (exchanges : List Exchange) (raw : List ℕ) (what : Line SessionRequest)
    (IsReply : List ℕ → Type 0) (to replied : SinkState) (sent : Result (Unit {0}) ReplyFault) → SessionGoes scene first exchanges old
    → IsLine (AsksOfSession scene.graph.criteria) raw what → ((text : List ℕ) → IsReply text → RepliesToLine scene old.seen what None text)
    → RepliesOneOf IsReply to replied sent
    → AnswersLine (λ more. SessionGoes scene first more old) (IsSessionBye scene) exchanges raw to replied (answer_by sent)
answers_unnamed scene first old exchanges raw what IsReply to replied (Ok whole) goes is reply one =
    tells_unnamed scene first old exchanges raw one.text what to replied _ goes is (reply one.text one.is) one.sent
answers_unnamed scene first old exchanges raw what IsReply to replied (Err (fault.Out cut)) goes is reply one =
    tells_unnamed scene first old exchanges raw one.text what to replied _ goes is (reply one.text one.is) one.sent
answers_unnamed scene first old exchanges raw what IsReply to replied (Err (fault.OutOfMemory want)) goes is reply unsent = (goes, unsent)

-- a request is answered
pub answers_request : (scene : Scene) (first old new : Session) (exchanges : List Exchange) (raw : List ℕ) (r : SessionRequest)
    (to replied : SinkState) (sent : Result (Unit {0}) ReplyFault) → SessionGoes scene first exchanges old
    → IsLine (AsksOfSession scene.graph.criteria) raw (line.Request r) → AnswersRequest scene r old new to replied sent
    → AnswersLine (λ more. SessionGoes scene first more new) (IsSessionBye scene) exchanges raw to replied (answer_by sent)
answers_request scene first old new exchanges raw r to replied (Ok whole) goes is last = tells_request scene first old new exchanges raw r to replied _ goes is last
answers_request scene first old new exchanges raw r to replied (Err (fault.Out cut)) goes is last =
    tells_request scene first old new exchanges raw r to replied _ goes is last
answers_request scene first old new exchanges raw r to replied (Err (fault.OutOfMemory want)) goes is none =
    (sees_and_goes scene first old new exchanges goes none.seen none.named, none.unsent)

-- a session of which nothing was asked yet
pub goes_nowhere : (scene : Scene) (s : Session) → SessionGoes scene s [] s
goes_nowhere scene s = record {
  run = record {
    begins = prefix_self s.seen;
    each = λ k d within. absurd (omega arith);
    ascending = λ i j d before within. absurd (omega arith);
    above = λ k d within. absurd (omega arith);
    below = λ k d within. absurd (omega arith);
  };
  named = sym (append-nil s.named);
}
