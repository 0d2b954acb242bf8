use Rattle.std.proofs.Common.{◌≡◌, ℕ, ◌+◌, ◌-◌, ◌≤◌, List, length, take, drop, slice_range, refl, sym, ap, ◌∙◌, arith}
use Rattle.std.proofs.lemmas.List.{take-take, length-take}
use Rattle.line_text.specs.Lines.{without_cr}
use Rattle.line_text.proofs.FillsLemmas.{drop-part}
use Rattle.line_text.proofs.lines.Lines.pass.Goals as goal

take-part : (xs : List ℕ) (a b n : ℕ) → a + n ≤ b → take n (slice_range xs a b) ≡ slice_range xs a (a + n)
take-part xs a b n within =
    let size : n ≡ a + n - a = omega arith in
    take-take n (b - a) (drop a xs) (omega arith) ∙ ap (λ m. take m (drop a xs)) size

pub returns : goal.returns
returns c =
    let bytes = c.self.inside.buffer.items in
    let start = c.self.inside.held.start in
    let end = c.self.inside.held.end in
    let line = rw c.deref.ensures.value at c.text_len.ensures in
    let within : start + c.args.size ≤ end = omega (arith, ap (λ lines. length lines.held) c.self.view_is, length-take (end - start) (drop start bytes)) in
    let short : c.text_len.result ≤ c.args.raw = omega (arith, line.within, length-take (start + c.args.raw - start) (drop start bytes)) in
    let text = sym (take-part bytes start (start + c.args.raw) c.text_len.result (omega arith)) ∙ line.text
    ∙ sym (ap without_cr (take-part bytes start end c.args.raw (omega arith))) in
    rw (← c.self.view_is, drop-part bytes start end c.args.size, text) refl
