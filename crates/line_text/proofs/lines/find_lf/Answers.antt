use Rattle.std.proofs.Common.{◌≡◌, ℕ, ◌+◌, ◌<◌, ◌≤◌, true, List, length, drop, get_or, ap, ◌∙◌, arith}
use Rattle.std.proofs.lemmas.Bool.{false_from_ne_true}
use Rattle.std.proofs.lemmas.List.{take_rest, length-drop}
use Rattle.std.proofs.lemmas.List.Sums.{position_or_len_is}
use Rattle.memchr.specs.Find.{Nowhere, Passes, is_byte}
use Rattle.line_text.specs.Lines.{is_lf, first_lf}
use Rattle.line_text.proofs.LineLemmas.{first_lf-le, first_lf-behind}
use Rattle.line_text.proofs.lines.find_lf.Goals as goal

-- the place up to which a search finds no LF
place_is : (bytes : List ℕ) (searched at : ℕ) → searched ≤ first_lf bytes → at ≤ length (drop searched bytes)
    → Nowhere (Passes (is_byte 10) (drop searched bytes)) 0 at → (at < length (drop searched bytes) → is_lf (get_or (drop searched bytes) at 0) ≡ true)
    → first_lf bytes ≡ searched + at
place_is bytes searched at none within nowhere here =
    first_lf-behind bytes searched none ∙ ap (λ n. searched + n) (position_or_len_is is_lf (drop searched bytes) at 0 within
    (λ k below. false_from_ne_true (is_lf (get_or (drop searched bytes) k 0)) (nowhere k (omega arith) below)) here)

pub returns-in-Some : goal.returns-in-Some
returns-in-Some c =
    let found = rw take_rest at c.in-Some.ensures in (
      place_is c.args.bytes.now c.args.searched c.in-Some.at c.requires (omega (arith, found.0.high)) found.0.before (λ _. found.1),
      omega (arith, found.0.high, length-drop c.args.searched c.args.bytes.now),
    )

pub returns-in-None : goal.returns-in-None
returns-in-None c =
    place_is c.args.bytes.now c.args.searched _ c.requires (omega arith) (rw take_rest at c.in-None.ensures) (λ past. absurd (omega arith))
    ∙ omega (arith, length-drop c.args.searched c.args.bytes.now, first_lf-le c.args.bytes.now)
