-- What a sink shows to contracts, and what its calls do to it.
use Rattle.std.specs.Prelude.{◌≡◌, ℕ, ◌<◌, ◌≤◌, List, [], ◌∷◌, ◌++◌, Bool, true, false, Option, Some, Result, Ok, Err, length, take, All}
use Rattle.std.specs.Prelude.{IfOk, IfSome, MatchResult}
use Rattle.std.specs.Io.KnownBytes.{Appends, WriteAppends}
use Rattle.route_io.specs.declared.fault.WriteFault.{WriteFault}
use Rattle.route_io.specs.declared.fault.WriteFault.TheVariants as write
use Rattle.route_io.specs.Causes.{IsCounted}

-- what a sink was sent, the pieces that it was offered, its faults and its wants of memory
pub record SinkState : Type 0 where
  -- the bytes that were sent, where the sink tells them
  pub sent : Option (List ℕ)
  -- the piece of each write in order, where the sink tells them, whether it took all of it, a part, or nothing
  pub offered : Option (List (List ℕ))
  -- how often the sink has failed: a count that never falls
  pub faults : ℕ
  -- how often the sink itself wanted memory and had none: a count that never falls
  pub wants : ℕ

-- What calls did to the counts of a sink: a failure was counted, or a want of memory, and nothing else.
pub record WritesTo (old new : SinkState) (failed wanted : Bool) : Type 0 where
  pub faults : IsCounted failed old.faults new.faults
  pub wants : IsCounted wanted old.wants new.wants

-- what the answer of a call that writes says of the counts
abbrev pub WriteHasCause : {T : Type 0} → SinkState → SinkState → Result T WriteFault → Type 0
WriteHasCause old new (Ok n) = WritesTo old new false false
WriteHasCause old new (Err write.Failed) = WritesTo old new true false
WriteHasCause old new (Err (write.OutOfMemory want)) = WritesTo old new false true

-- These pieces were offered, one a write, behind those from before, where the sink tells them.
abbrev pub Offers : SinkState → SinkState → List (List ℕ) → Type 0
Offers old new pieces = IfSome old.offered (λ before. new.offered ≡ Some (before ++ pieces))

-- One write, which offers the piece: the sink took at least one byte from its front, or at a fault nothing.
pub record Writes (old new : SinkState) (piece : List ℕ) (result : Result ℕ WriteFault) : Type 0 where
  pub some : IfOk result (λ n. 0 < n)
  pub within : IfOk result (λ n. n ≤ length piece)
  pub bytes : WriteAppends old.sent new.sent result piece
  pub cause : WriteHasCause old new result
  pub offered : Offers old new (piece ∷ [])

-- What is sent grew by the text at Ok, and at a fault by a part of it from the front, short of the whole.
abbrev pub SendsOrPrefix : {T E : Type 0} → Option (List ℕ) → Option (List ℕ) → List ℕ → Result T E → Type 0
SendsOrPrefix old new text result =
    MatchResult result (λ _. Appends old new text) (λ _. (n : ℕ) × (n < length text) × Appends old new (take n text))

-- A text was sent: the sink took it whole, or took a part of it from the front and failed or wanted memory.
pub record Sends {T : Type 0} (old new : SinkState) (text : List ℕ) (result : Result T WriteFault) : Type 0 where
  pub bytes : SendsOrPrefix old.sent new.sent text result
  pub cause : WriteHasCause old new result

-- What is left of a text behind a front that isn't empty.
pub record IsRest (text rest : List ℕ) : Type 0 where
  pub front : List ℕ
  pub some : 0 < length front
  pub whole : text ≡ front ++ rest

-- a text as the first piece before others, and of an empty one no piece
abbrev pub whole_before : List ℕ → List (List ℕ) → List (List ℕ)
whole_before [] rests = []
whole_before (byte ∷ bytes) rests = (byte ∷ bytes) ∷ rests

-- A text was offered whole, by one write, and after that at most rests of it, where the sink took a part.
pub record OffersWhole (old new : SinkState) (text : List ℕ) : Type 0 where
  pub rests : List (List ℕ)
  pub are_rests : All (IsRest text) rests
  pub offered : Offers old new (whole_before text rests)
