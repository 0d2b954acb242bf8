-- What is read of a session's line is the one request that it asks.
use Rattle.std.proofs.Common.{◌≡◌, ◌↔◌, ℕ, List, [], ◌∷◌, Some, refl, subst}
use Rattle.std.specs.Prelude.{codes}
use Rattle.std.specs.List.{AllZip}
use Rattle.line_text.specs.Fields.{fields_of}
use Rattle.session_requests.specs.declared.session.SessionRequest.{SessionRequest}
use Rattle.session_requests.specs.declared.session.SessionRequest.TheVariants as session
use Rattle.session_requests.specs.Readings.{one_from, session_alone, session_behind, session_other, two_from, within_from}
use Rattle.session_requests.specs.Requests.{AsksOfSession, LimitsEach, session_tokens}
use Rattle.session_requests.specs.Tokens.{Writes}
use Rattle.session_requests.proofs.WritesLemmas.{chosen, mapped, reads_one, reads_two, reads_within, writes_one, writes_two, writes_within}

-- the fields ask this of a session
abbrev SessionAsked : ℕ → List (List ℕ) → SessionRequest → Type 0
SessionAsked d fields r = AllZip Writes fields (session_tokens r) × LimitsEach d r

alone_asked : (d : ℕ) (word : List ℕ) (fields : List (List ℕ)) (r : SessionRequest) → session_alone word fields ≡ Some r → SessionAsked d (word ∷ fields) r
alone_asked d word (field ∷ fields) r e = absurd cc
alone_asked d word [] r e =
    let Asked = SessionAsked d (word ∷ []) in
    chosen (Asked r) word (codes "e") _ _ r e
    (λ is some. subst Asked (let same : session.Epoch ≡ r = cc in same) ((is, tt), tt))
    (λ e. chosen (Asked r) word (codes "bye") _ _ r e
    (λ is some. subst Asked (let same : session.Bye ≡ r = cc in same) ((is, tt), tt))
    (λ none. absurd cc))

other_asked : (d : ℕ) (word : List ℕ) (fields : List (List ℕ)) (r : SessionRequest) → session_other d word fields ≡ Some r → SessionAsked d (word ∷ fields) r
other_asked d word fields r e =
    let Asked = SessionAsked d (word ∷ fields) in
    chosen (Asked r) word (codes "l") _ _ r e
    (λ is some. mapped (λ parts. session.Within parts.0 parts.1 parts.2) Asked (within_from d fields) r some
    (λ parts read. let writes = writes_within d fields parts read in ((is, writes.0), writes.1)))
    (λ e. chosen (Asked r) word (codes "h") _ _ r e
    (λ is some. mapped (λ parts. session.GoalWithin parts.0 parts.1 parts.2) Asked (within_from d fields) r some
    (λ parts read. let writes = writes_within d fields parts read in ((is, writes.0), writes.1)))
    (λ e. chosen (Asked r) word (codes "w") _ _ r e
    (λ is some. mapped session.Wait Asked (one_from fields) r some (λ n one. ((is, writes_one fields n one), tt)))
    (λ e. alone_asked d word fields r e)))

session_asked : (d : ℕ) (word : List ℕ) (fields : List (List ℕ)) (r : SessionRequest) → session_behind d word fields ≡ Some r → SessionAsked d (word ∷ fields) r
session_asked d word fields r e =
    let Asked = SessionAsked d (word ∷ fields) in
    chosen (Asked r) word (codes "q") _ _ r e
    (λ is some. mapped (λ ends. session.Walks ends.0 ends.1) Asked (two_from fields) r some (λ ends two. ((is, writes_two fields ends two), tt)))
    (λ e. chosen (Asked r) word (codes "c") _ _ r e
    (λ is some. mapped (λ ends. session.Costs ends.0 ends.1) Asked (two_from fields) r some (λ ends two. ((is, writes_two fields ends two), tt)))
    (λ e. chosen (Asked r) word (codes "g") _ _ r e
    (λ is some. mapped (λ ends. session.Goal ends.0 ends.1) Asked (two_from fields) r some (λ ends two. ((is, writes_two fields ends two), tt)))
    (λ e. other_asked d word fields r e)))

session_read : (d : ℕ) (word : List ℕ) (fields : List (List ℕ)) (r : SessionRequest) → SessionAsked d (word ∷ fields) r → session_behind d word fields ≡ Some r
session_read d word fields (session.Costs from to) asked = rw (asked.0.0, reads_two fields from to asked.0.1) refl
session_read d word fields (session.Walks from to) asked = rw (asked.0.0, reads_two fields from to asked.0.1) refl
session_read d word fields (session.Goal from to) asked = rw (asked.0.0, reads_two fields from to asked.0.1) refl
session_read d word fields (session.Within from to limit) asked = rw (asked.0.0, reads_within d fields from to limit asked.0.1 asked.1) refl
session_read d word fields (session.GoalWithin from to limit) asked = rw (asked.0.0, reads_within d fields from to limit asked.0.1 asked.1) refl
session_read d word fields (session.Wait epoch) asked = rw (asked.0.0, reads_one fields epoch asked.0.1) refl
session_read d word [] session.Epoch asked = rw asked.0.0 refl
session_read d word (field ∷ fields) session.Epoch asked = absurd asked.0.1
session_read d word [] session.Bye asked = rw asked.0.0 refl
session_read d word (field ∷ fields) session.Bye asked = absurd asked.0.1

-- what is read of a session's line is what it asks
pub asks_session : (d : ℕ) (text word : List ℕ) (fields : List (List ℕ)) → fields_of text ≡ word ∷ fields
    → (r : SessionRequest) → (session_behind d word fields ≡ Some r) ↔ AsksOfSession d text r
asks_session d text word fields e r = (
  λ some. let asked = session_asked d word fields r some in record { written = rw e asked.0; each = asked.1 },
  λ asks. session_read d word fields r (rw e at asks.written, asks.each),
)
