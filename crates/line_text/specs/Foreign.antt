-- Which lines are those of another protocol, and what is seen of them while their bytes come.
use Rattle.std.specs.Prelude.{◌≡◌, ℕ, ◌==◌, ◌||◌, Bool, Option, Some, None, List, []}
use Rattle.std.specs.List.{list_any}
use Rattle.line_text.specs.Http.{is_http}
use Rattle.line_text.specs.LastFields.{Shows}
use Rattle.line_text.specs.declared.foreign.LineSeen.{LineSeen}

-- the test that a byte 0 is among these, as in the first bytes of each TLS connection
abbrev pub holds_zero : List ℕ → Bool
holds_zero bytes = list_any (λ byte. byte == 0) bytes

-- the test that a line is one of HTTP, or holds a byte 0
abbrev pub is_foreign : List ℕ → Bool
is_foreign line = holds_zero line || is_http line

-- This is seen of a line whose bytes so far are these.
pub record Sees (seen : LineSeen) (text : List ℕ) : Type 0 where
  pub zero : seen.holds_zero ≡ holds_zero text
  pub last : Shows seen.last text

-- this was skipped of a line, and so it is seen, if a part was skipped
abbrev pub IsSkipped : Option LineSeen → List ℕ → Type 0
IsSkipped None front = front ≡ []
IsSkipped (Some seen) front = Sees seen front
