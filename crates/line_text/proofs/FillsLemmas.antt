-- Bytes that are read behind a part of a buffer.
use Rattle.std.proofs.Common.{◌≡◌, ℕ, zero, suc, ◌+◌, ◌<◌, ◌≤◌, List, [], ◌++◌, Option, Ok, Err, length, take, drop, slice_range, nat_lt, refl, sym, ap, subst, ◌∙◌, arith}
use Rattle.std.specs.Io.KnownBytes.{IsAtEnd}
use Rattle.std.proofs.KnownBytes.{Consumes-nil, Consumes-kept}
use Rattle.std.proofs.Math.Seq.{take-add}
use Rattle.std.proofs.lemmas.Bool.{lt-ltb}
use Rattle.std.proofs.lemmas.List.{append-nil, drop-append-le, drop-drop, length-append, length-take, length-drop}
use Rattle.std.proofs.lemmas.Slice.{between_is}
use Rattle.route_io.specs.declared.fault.Failed.{Failed}
use Rattle.route_io.specs.Sources.{SourceState, Reads}
use Rattle.line_text.specs.declared.lines.Span.{Span}
use Rattle.line_text.specs.Pieces.{Fills, LiesIn, Took, part_of}

-- a part without its first bytes
pub drop-part : (xs : List ℕ) (a b n : ℕ) → drop n (slice_range xs a b) ≡ slice_range xs (a + n) b
drop-part xs a b n = ap (drop n) (between_is xs a b) ∙ drop-drop n a (take b xs) ∙ sym (between_is xs (a + n) b)

-- The part was moved within the buffer, and then what stands before its end stayed.
module _ (moved new was : List ℕ) (held : Span) (kept : part_of moved held ≡ was) (place : LiesIn (length moved) held)
    (front : take held.end new ≡ take held.end moved) where
  grown : (end n : ℕ) → end ≡ held.end + n → slice_range new held.start end ≡ was ++ take n (drop held.end new)
  grown end n more =
      ap (slice_range new held.start) more ∙ between_is new held.start (held.end + n)
      ∙ ap (drop held.start) (take-add held.end n new ∙ ap (λ xs. xs ++ take n (drop held.end new)) front)
      ∙ drop-append-le held.start (take held.end moved) (take n (drop held.end new)) (omega (arith, length-take held.end moved))
      ∙ ap (λ xs. xs ++ take n (drop held.end new)) (sym (between_is moved held.start held.end) ∙ kept)

  -- what the number of bytes that were read says of them
  took : (n : ℕ) (left : Option (List ℕ)) → n ≤ length (drop held.end new) → (n ≡ 0 → IsAtEnd left)
      → Took was (slice_range new held.start (held.end + n)) left (Ok (nat_lt 0 n))
  took zero left within end = (grown (held.end + 0) 0 refl ∙ append-nil was, end refl)
  took (suc n) left within end =
      subst (λ some. Took was (slice_range new held.start (held.end + suc n)) left (Ok some)) (sym (lt-ltb 0 (suc n) (omega arith)))
      (omega (arith, ap length (grown _ (suc n) refl), length-append was (take (suc n) (drop held.end new)), length-take (suc n) (drop held.end new)))

  pub fills_none : (before after : SourceState) (e : Failed) → Reads before after (Err e) (drop held.end new)
      → Fills was (part_of new held) before after (Err e)
  fills_none before after e reads = record {
    more = [];
    grown = grown held.end 0 (omega arith);
    taken = Consumes-kept before.left before.left after.left [] (Consumes-nil before.left) reads.bytes;
    answer = grown held.end 0 (omega arith) ∙ append-nil was;
    source = reads.source;
  }

  pub fills_some : (before after : SourceState) (n : ℕ) → held.end < length new → Reads before after (Ok n) (drop held.end new)
      → Fills was (slice_range new held.start (held.end + n)) before after (Ok (nat_lt 0 n))
  fills_some before after n room reads = record {
    more = take n (drop held.end new);
    grown = grown (held.end + n) n refl;
    taken = reads.bytes.0;
    answer = took n after.left reads.within.0 (λ none. reads.bytes.1 none (omega (arith, length-drop held.end new)));
    source = reads.source;
  }
