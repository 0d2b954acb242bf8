-- The highest bit, which marks differences that wrap.
use Rattle.std.proofs.Common.{◌≡◌, ℕ, ◌+◌, ◌-◌, ◌%◌, ◌/◌, ◌^◌, ◌<◌, ◌≤◌, ◌↔◌, ◌⊎◌, inl, inr, bit_or, arith}
use Rattle.std.specs.Int.{bit_at}
use Rattle.std.proofs.lemmas.Bool.{cases_lt}
use Rattle.std.proofs.lemmas.Nat.Bits.{bit_at_or, bit_at-lt}

-- a difference that wraps has 1 as its highest bit, and else 0
abbrev pub Tells : ℕ → ℕ → ℕ → Type 0
Tells x than bit = ((x < than) × (bit ≡ 1)) ⊎ ((than ≤ x) × (bit ≡ 0))

pub tells_narrow : (x than : ℕ) → x < 2 ^ 31 → than < 2 ^ 31 → Tells x than ((x + (2 ^ 32 - than)) % 2 ^ 32 / 2 ^ 31)
tells_narrow x than f g = elim (cases_lt x than) [ inl less ↦ inl (less, omega arith) | inr above ↦ inr (above, omega arith) ]

pub tells_wide : (x than : ℕ) → x < 2 ^ 63 → than < 2 ^ 63 → Tells x than ((x + (2 ^ 64 - than)) % 2 ^ 64 / 2 ^ 63)
tells_wide x than f g = elim (cases_lt x than) [ inl less ↦ inl (less, omega arith) | inr above ↦ inr (above, omega arith) ]

-- so it marks what is less
pub marks_less : (i self x than difference : ℕ) → Tells x than (difference / 2 ^ i)
    → (bit_at (bit_or self difference) i ≡ 1) ↔ ((bit_at self i ≡ 1) ⊎ (x < than))
marks_less i self x than difference tells =
    let either = bit_at_or self difference i in
    let low = bit_at-lt self i in
    elim tells [
      | inl wraps ↦ let one = wraps.1 in (λ _. inr wraps.0, λ _. omega arith)
      | inr not_less ↦
          let none = not_less.1 in
          (λ h. inl (omega arith), λ h. elim h [ inl before ↦ omega arith | inr less ↦ absurd (omega (arith, not_less.0)) ])
    ]
