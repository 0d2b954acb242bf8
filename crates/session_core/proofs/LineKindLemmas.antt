-- What is read of a line's text is what the line is, whichever the requests are.
use Rattle.std.proofs.Common.{◌≡◌, ◌↔◌, ℕ, List, [], refl, sym, subst, arith}
use Rattle.line_text.specs.Fields.{fields_of}
use Rattle.line_text.specs.declared.limits.Request.TheVariants.{Whole, Long}
use Rattle.session_requests.specs.declared.line.Line.{Line}
use Rattle.session_requests.specs.declared.line.Line.TheVariants.{Blank, Request, Other}
use Rattle.session_core.specs.Lines.{IsBlank, IsLine, IsRequest, IsText}

module _ {R : Type 0} (Asks : List ℕ → R → Type 0) (raw : List ℕ) where
  -- a line that is too long for a request is neither blank nor a request
  pub long_is_other : (text : List ℕ) → IsText Long text raw → IsLine Asks raw Other
  long_is_other text long = (λ blank. absurd (omega arith), λ r asked. absurd (omega arith))

  -- a line is what was read of its text, where that is blank exactly where it has no field, and a request exactly where
  -- that is asked
  pub whole_is_read : (found : Line R) (text : List ℕ) → ((found ≡ Blank) ↔ (fields_of text ≡ []))
      → ((r : R) → (found ≡ Request r) ↔ Asks text r) → IsText Whole text raw → IsLine Asks raw found
  whole_is_read Blank text blank request (within, is) =
      (within, let P : List ℕ → Type 0 = λ t. fields_of t ≡ [] in subst P is (blank.0 refl))
  whole_is_read (Request r) text blank request (within, is) =
      (within, let P : List ℕ → Type 0 = λ t. Asks t r in subst P is ((request r).0 refl))
  whole_is_read Other text blank request (within, is) = (not_blank, not_asked) where
    not_blank : ¬ IsBlank raw
    not_blank (_, none) = absurd (let e : Other ≡ Blank = blank.1 (rw is none) in cc)

    not_asked : (r : R) → ¬ IsRequest Asks raw r
    not_asked r (_, asks) =
        let P : List ℕ → Type 0 = λ t. Asks t r in
        absurd (let e : Other ≡ Request r = (request r).1 (subst P (sym is) asks) in cc)
