-- The lines of a text that breaks off: the first ones are whole, and one more may be cut.
use Rattle.std.proofs.Common.{◌≡◌, ℕ, zero, suc, ◌≤◌, Bool, true, false, List, [], ◌∷◌, ◌++◌, ◌⊎◌, inl, inr, length, take, refl, sym, ap, subst, ◌∙◌, arith, append_assoc}
use Rattle.std.specs.Prelude.{if◌then◌else◌}
use Rattle.std.specs.List.{All, flat_map, onto_first}
use Rattle.std.proofs.lemmas.Bool.Decides.{nat_tests}
use Rattle.std.proofs.lemmas.List.Elements.{All-head, All-tail, All-take}
use Rattle.std.proofs.Math.Seq.{take-append_seam, take-nil}
use mathlib.Core.List.{IsPrefix}
use Rattle.line_text.specs.Lines.{is_lf, lines_of}
use Rattle.line_text.proofs.WrittenLineLemmas.{IsLineText, lines_of-line}
use Rattle.epoch_follow.proofs.WrittenLemmas.{ended}

-- of these lines the first ones are there, and one more line may be
pub data BreaksOff : List (List ℕ) → List (List ℕ) → Type 0 where
  nothing : {whole : List (List ℕ)} → BreaksOff whole []
  cut : {whole : List (List ℕ)} (line : List ℕ) → BreaksOff whole (line ∷ [])
  more : {whole lines : List (List ℕ)} (line : List ℕ) → BreaksOff whole lines → BreaksOff (line ∷ whole) (line ∷ lines)

-- fewer of them
pub fewer : {whole lines : List (List ℕ)} (n : ℕ) → BreaksOff whole lines → BreaksOff whole (take n lines)
fewer zero broken = nothing
fewer (suc n) nothing = nothing
fewer (suc n) (cut line) = rw (take-nil {A = List ℕ} n) (cut line)
fewer (suc n) (more line broken) = more line (fewer n broken)

-- all of them
pub all_of : (whole : List (List ℕ)) → BreaksOff whole whole
all_of [] = nothing
all_of (line ∷ whole) = more line (all_of whole)

at_most_one : (byte : ℕ) (lines : List (List ℕ)) → length lines ≤ 1 → length (onto_first byte lines) ≤ 1
at_most_one byte [] few = omega arith
at_most_one byte (line ∷ lines) few = few

not_lf : (byte : ℕ) → 32 ≤ byte → is_lf byte ≡ false
not_lf byte above = grind (arith, nat_tests)

one_more : (byte : ℕ) (lines : List (List ℕ)) (test : Bool) → test ≡ false → length lines ≤ 1
    → length (if test then [] ∷ lines else onto_first byte lines) ≤ 1
one_more byte lines true e few = absurd cc
one_more byte lines false e few = at_most_one byte lines few

-- a part of a line is one line at most
part_of_line : (text : List ℕ) → IsLineText text → length (lines_of text) ≤ 1
part_of_line [] all = omega arith
part_of_line (byte ∷ text) all =
    one_more byte (lines_of text) (is_lf byte) (not_lf byte (All-head (λ b. 32 ≤ b) byte text all))
    (part_of_line text (All-tail (λ b. 32 ≤ b) byte text all))

one_or_none : (whole lines : List (List ℕ)) → length lines ≤ 1 → BreaksOff whole lines
one_or_none whole [] few = nothing
one_or_none whole (line ∷ []) few = cut line
one_or_none whole (line ∷ other ∷ lines) few = absurd (omega (arith, few))

-- Where a text begins with the bytes, they are a part of its first line, or that line with its LF and more.
front_of : (line bytes behind rest : List ℕ) → bytes ++ behind ≡ line ++ 10 ∷ rest
    → IsPrefix bytes line ⊎ ((others : List ℕ) × (bytes ≡ line ++ 10 ∷ others) × (others ++ behind ≡ rest))
front_of [] [] behind rest e = inl ([], refl)
front_of [] (byte ∷ bytes) behind rest e = inr (bytes, let same : byte ≡ 10 = cc in ap (λ b. b ∷ bytes) same, cc)
front_of (x ∷ line) [] behind rest e = inl (x ∷ line, refl)
front_of (x ∷ line) (byte ∷ bytes) behind rest e =
    let same : byte ≡ x = cc in
    let tails : bytes ++ behind ≡ line ++ 10 ∷ rest = cc in
    elim (front_of line bytes behind rest tails) [
      | inl part ↦ inl (part.0, rw same (ap (λ l. x ∷ l) part.1))
      | inr whole ↦ inr (whole.0, rw same (ap (λ l. x ∷ l) whole.1), whole.2)
    ]

front_text : (bytes line : List ℕ) → IsPrefix bytes line → IsLineText line → IsLineText bytes
front_text bytes line part all =
    let same : take (length bytes) line ≡ bytes = ap (take (length bytes)) (sym part.1) ∙ take-append_seam bytes part.0 in
    subst IsLineText same (All-take (λ byte. 32 ≤ byte) (length bytes) line all)

-- the lines of what a text of such lines begins with
pub breaks_off : (whole : List (List ℕ)) (bytes : List ℕ) → All IsLineText whole → IsPrefix bytes (flat_map ended whole) → BreaksOff whole (lines_of bytes)
breaks_off [] [] all front = nothing
breaks_off [] (byte ∷ bytes) all front = absurd (cc (front.1))
breaks_off (line ∷ whole) bytes all front =
    let parts : bytes ++ front.0 ≡ line ++ 10 ∷ flat_map ended whole = front.1 ∙ append_assoc line (10 ∷ []) (flat_map ended whole) in
    let text = All-head IsLineText line whole all in
    elim (front_of line bytes front.0 (flat_map ended whole) parts) [
      | inl part ↦ one_or_none (line ∷ whole) (lines_of bytes) (part_of_line bytes (front_text bytes line part text))
      | inr there ↦
          let lines : lines_of bytes ≡ line ∷ lines_of there.0 = ap lines_of there.1 ∙ lines_of-line line there.0 text in
          rw lines (more line (breaks_off whole there.0 (All-tail IsLineText line whole all) (front.0, there.2)))
    ]
