-- Texts that are gathered on a page before they are sent.
use Rattle.std.specs.Prelude.{◌≡◌, ℕ, ◌<◌, ◌≤◌, List, ◌++◌, length, Result, Ok, Err, MatchResult}
use Rattle.route_io.specs.declared.fault.WriteFault.{WriteFault}
use Rattle.route_io.specs.Sinks.{OffersWhole, SinkState, Sends}

-- A text of at most 4,096 bytes is one write, and more follow only where the sink took a part of it.
abbrev pub IsOneWrite : SinkState → SinkState → List ℕ → Type 0
IsOneWrite old new text = length text ≤ 4096 → OffersWhole old new text

-- Of what the page held and the text behind it, a part from the front was sent, and the page holds the rest. Where both are
-- at most 4,096 bytes together, the page holds both, and the sink wasn't called.
pub record Holds (old new : SinkState) (text held : List ℕ) : Type 0 where
  pub front : List ℕ
  pub whole : text ≡ front ++ held
  pub sent : Sends {T = Unit {0}} old new front (Ok tt)
  pub waits : length text ≤ 4096 → (new ≡ old) × (held ≡ text)

-- A fault cut what the page held and the text behind it, which are more than a page together.
pub record Cuts (old new : SinkState) (text : List ℕ) (fault : WriteFault) : Type 0 where
  pub long : 4096 < length text
  pub sends : Sends {T = Unit {0}} old new text (Err fault)

-- A text was put on a page that held `before`, and at Ok holds `after`. At a fault what the page held and the text have
-- been sent in part.
abbrev pub Gathers : SinkState → SinkState → List ℕ → List ℕ → List ℕ → Result (Unit {0}) WriteFault → Type 0
Gathers old new before after text result =
    MatchResult result (λ _. Holds old new (before ++ text) after) (λ fault. Cuts old new (before ++ text) fault)
