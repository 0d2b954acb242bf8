-- Texts that are sent one after another.
use Rattle.std.proofs.Common.{◌≡◌, ℕ, ◌<◌, ◌+◌, Bool, false, List, ◌++◌, Option, Some, None, Result, Ok, Err, length, take, drop, sym, ◌∙◌, ap, subst}
use Rattle.std.proofs.Common.{append_assoc, append-nil, arith, length-append}
use Rattle.std.proofs.lemmas.List.{take-append-drop, take-append-le, nil_from_length}
use Rattle.std.proofs.Math.Seq.{take-append-add}
use Rattle.std.specs.Io.KnownBytes.{Appends, Keeps}
use Rattle.route_io.specs.declared.fault.WriteFault.{WriteFault}
use Rattle.route_io.specs.declared.fault.WriteFault.TheVariants as write
use Rattle.route_io.specs.Causes.{IsCounted}
use Rattle.route_io.specs.Sinks.{SinkState, WritesTo, WriteHasCause, SendsOrPrefix, Writes, Sends}

-- a text was sent whole
abbrev pub Sent : SinkState → SinkState → List ℕ → Type 0
Sent old new text = Sends {T = Unit {0}} old new text (Ok tt)

-- one piece after another
Appends-trans : (old mid new : Option (List ℕ)) (a b : List ℕ) → Appends old mid a → Appends mid new b → Appends old new (a ++ b)
Appends-trans None mid new a b p q = tt
Appends-trans (Some xs) None new a b p q = absurd p
Appends-trans (Some xs) (Some ys) None a b p q = absurd q
Appends-trans (Some xs) (Some ys) (Some zs) a b p q = q ∙ ap (λ w. w ++ b) p ∙ append_assoc xs a b

-- what stays grew by nothing
Keeps-appends : (old new : Option (List ℕ)) (text : List ℕ) → Keeps old new → Appends old new (take 0 text)
Keeps-appends None new text p = tt
Keeps-appends (Some xs) None text p = absurd p
Keeps-appends (Some xs) (Some ys) text p = p ∙ sym (append-nil xs)

module _ (old mid new : SinkState) where
  WritesTo-then : (failed wanted : Bool) → WritesTo old mid false false → WritesTo mid new failed wanted → WritesTo old new failed wanted
  WritesTo-then failed wanted first second = record {
    faults = subst (λ n. IsCounted failed n new.faults) first.faults second.faults;
    wants = subst (λ n. IsCounted wanted n new.wants) first.wants second.wants;
  }

  cause-then : {T : Type 0} (result : Result T WriteFault) → WritesTo old mid false false → WriteHasCause mid new result → WriteHasCause old new result
  cause-then (Ok value) first second = WritesTo-then false false first second
  cause-then (Err write.Failed) first second = WritesTo-then _ _ first second
  cause-then (Err (write.OutOfMemory want)) first second = WritesTo-then _ _ first second

  bytes-then : {T : Type 0} (a b : List ℕ) (result : Result T WriteFault) → Appends old.sent mid.sent a → SendsOrPrefix mid.sent new.sent b result
      → SendsOrPrefix old.sent new.sent (a ++ b) result
  bytes-then a b (Ok value) first second = Appends-trans old.sent mid.sent new.sent a b first second
  bytes-then a b (Err fault) first part = (
    length a + part.0,
    omega (arith, part.1, length-append a b),
    rw take-append-add (Appends-trans old.sent mid.sent new.sent a (take part.0 b) first part.2),
  )

  -- a text whole, and then another or a part of it
  pub Sends-then : {T : Type 0} (a b : List ℕ) (result : Result T WriteFault) → Sent old mid a → Sends mid new b result → Sends old new (a ++ b) result
  Sends-then a b result first second = record {
    bytes = bytes-then a b result first.bytes second.bytes;
    cause = cause-then result first.cause second.cause;
  }

-- a fault cut a text, and so any longer one
pub Sends-cut : {T : Type 0} (old new : SinkState) (a b : List ℕ) (fault : WriteFault) → Sends {T = T} old new a (Err fault)
    → Sends {T = T} old new (a ++ b) (Err fault)
Sends-cut old new a b fault cut =
    let n = cut.bytes.0 in
    let within : n < length a = cut.bytes.1 in
    record {
      bytes = (n, omega (arith, length-append a b), rw (take-append-le n a b (omega arith)) cut.bytes.2);
      cause = cut.cause;
    }

-- a front of the text was sent, and this is the rest
pub record SentUpTo (old new : SinkState) (text rest : List ℕ) : Type 0 where
  pub front : List ℕ
  pub whole : text ≡ front ++ rest
  pub sent : Sent old new front

-- after a piece that was taken in part or whole
pub more_sent : (old mid new : SinkState) (text rest after : List ℕ) (n : ℕ) → SentUpTo old mid text rest
    → Writes mid new rest (Ok n) → after ≡ drop n rest → SentUpTo old new text after
more_sent old mid new text rest after n before piece is_after = record {
  front = before.front ++ take n rest;
  whole = before.whole ∙ ap (λ w. before.front ++ w) (sym (take-append-drop n rest))
      ∙ sym (append_assoc before.front (take n rest) (drop n rest)) ∙ ap (λ w. (before.front ++ take n rest) ++ w) (sym is_after);
  sent = Sends-then old mid new before.front (take n rest) (Ok tt) before.sent (record { bytes = piece.bytes; cause = piece.cause });
}

-- what a refusal of the rest leaves
sent_part-by : (old mid new : SinkState) (text rest : List ℕ) (fault : WriteFault) → 0 < length rest → SentUpTo old mid text rest
    → Keeps mid.sent new.sent → WriteHasCause {T = Unit {0}} mid new (Err fault) → Sends {T = Unit {0}} old new text (Err fault)
sent_part-by old mid new text rest fault some before kept cause =
    let none : Sends {T = Unit {0}} mid new rest (Err fault) = record { bytes = (0, some, Keeps-appends mid.sent new.sent rest kept); cause = cause } in
    rw before.whole (Sends-then old mid new before.front rest (Err fault) before.sent none)

pub sent_part : (old mid new : SinkState) (text rest : List ℕ) (fault : WriteFault) → 0 < length rest → SentUpTo old mid text rest
    → Writes mid new rest (Err fault) → Sends {T = Unit {0}} old new text (Err fault)
sent_part old mid new text rest write.Failed some before refusal = sent_part-by old mid new text rest write.Failed some before refusal.bytes refusal.cause
sent_part old mid new text rest (write.OutOfMemory want) some before refusal =
    sent_part-by old mid new text rest (write.OutOfMemory want) some before refusal.bytes refusal.cause

-- the whole text was sent, where nothing is left of it
pub sent_whole : (old new : SinkState) (text rest : List ℕ) → length rest ≡ 0 → SentUpTo old new text rest → Sent old new text
sent_whole old new text rest none before =
    let front : text ≡ before.front = before.whole ∙ ap (λ w. before.front ++ w) (nil_from_length rest none) ∙ append-nil before.front in
    rw front before.sent
