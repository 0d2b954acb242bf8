use Rattle.std.proofs.Common.{◌≡◌, ℕ, ◌+◌, ◌<◌, List, [], ◌∷◌, ◌++◌, length, take, get_or, sym, ap, ◌∙◌, add-one, append_assoc}
use Rattle.std.proofs.Math.Seq.{take-suc}
use Rattle.line_text.proofs.http.LastField.behind.Goals as goal

-- the bytes up to the next one
one_more : (text bytes : List ℕ) (i : ℕ) → i < length bytes
    → (text ++ take i bytes) ++ get_or bytes i 0 ∷ [] ≡ text ++ take (i + 1) bytes
one_more text bytes i lt =
    append_assoc text (take i bytes) (get_or bytes i 0 ∷ [])
    ∙ ap (λ l. text ++ l) (sym (ap (λ n. take n bytes) (add-one i) ∙ take-suc bytes i 0 lt))

pub loop-byte-preserved : goal.loop-byte-preserved
loop-byte-preserved c text shows =
    rw (← one_more text c.args.bytes.now c.loop-byte.byte-index c.loop-byte-test.true)
    (c.behind_one-last.ensures (text ++ take c.loop-byte.byte-index c.args.bytes.now) (c.loop-byte.invariant text shows))
