-- Lanes as the bits of a number.
use Rattle.std.proofs.Common.{Fits, ◌≡◌, ◌≢◌, ◌↔◌, ℕ, zero, suc, ◌*◌, ◌<◌, ◌≤◌, ◌^◌, ◌%◌, List, length, get_or, map, replicate, Bool, false, cond, ltb, bit_and}
use Rattle.std.proofs.Common.{◌-◌, inl, inr, sym, ap, subst, ◌∙◌, arith, IsTrue, w16, w32, lt-ltb, le-ltb, ltb-true}
use Rattle.std.specs.Int.Count.{trailing_of_zero}
use Rattle.std.specs.Int.{bit_at, trailing_zeros}
use lib.Lanes.{mask_l, top, zip2}
use Rattle.std.proofs.lemmas.Bool.{cases_lt, cases_eq}
use Rattle.std.proofs.lemmas.List.{get_or-map, length-map}
use Rattle.std.proofs.lemmas.Nat.{and_le_l}
use Rattle.std.proofs.lemmas.Nat.Bits.{bit_at-trailing_zeros, bit_at-zero, bit_at_clear_same, bit_at_clear_other}
use Rattle.std.proofs.lemmas.Simd.{bit_mask_l, bitmask_splat, mask_l-lt}
use Rattle.settled_front.specs.Blocks.{AreUnmarked, HasOneBefore, TakesLane, block_size}

-- the lowest bit is cleared: its lane is taken out
pub lowest_taken : (n : ℕ) → 0 < n → n < 2 ^ 16
    → TakesLane n (trailing_zeros w16 n) (bit_and n (65535 - 1 * 2 ^ trailing_zeros w16 n % 65536))
lowest_taken n some fits =
    let lane = trailing_zeros w16 n in
    let after : ℕ = bit_and n (65535 - 1 * 2 ^ lane % 65536) in
    let lowest = bit_at-trailing_zeros w16 n some fits in
    let cleared : bit_at after lane ≡ 0 = bit_at_clear_same w16 n lane lowest.0 in
    let differs : after ≢ n = λ same. omega (arith, cleared, ap (λ m. bit_at m lane) same, lowest.1) in
    record {
      within = lowest.0;
      had = lowest.1;
      fewer = omega (arith, differs, and_le_l n (65535 - 1 * 2 ^ lane % 65536));
      others = λ other within. elim (cases_eq other lane) [
        | inl here ↦ (λ h. absurd (omega (arith, h, ap (bit_at after) here, cleared)), λ h. absurd (h.1 here))
        | inr apart ↦
            let same = bit_at_clear_other w16 n lane lowest.0 other within apart in (λ h. (sym same ∙ h, apart), λ h. same ∙ h.0)
      ];
    }

-- a lane before the count is there, if the first one stands before it
pub one_before : (n count : ℕ) → n < 2 ^ 16 → count ≤ 16 → IsTrue (ltb (trailing_zeros w16 n) count) ↔ HasOneBefore n count
one_before zero count fits few = (
  λ h. absurd (omega (arith, ltb-true (trailing_zeros w16 0) count h, trailing_of_zero 16, few)),
  λ h. absurd (omega (arith, h.has, bit_at-zero h.lane)),
)
one_before (suc m) count fits few =
    let lowest = bit_at-trailing_zeros w16 (suc m) (omega arith) fits in
    let first = trailing_zeros w16 (suc m) in (
      λ h. record { lane = first; before = ltb-true first count h; has = lowest.1 },
      λ h. elim (cases_lt h.lane first) [
        | inl low ↦ absurd (omega (arith, h.has, lowest.2 h.lane low))
        | inr high ↦ lt-ltb first count (omega (arith, high, h.before))
      ],
    )

-- what a comparison with the first marked number gives is a mask of the places without a mark
module _ (marks : List ℕ) (long : length marks ≡ block_size) where
  abbrev is_low : ℕ → Bool
  is_low x = ltb x (2 ^ 31)

  abbrev mask : ℕ
  mask = mask_l (map (top 31) (zip2 (λ a b. cond (ltb a b) (2 ^ 32 - 1) 0) marks (replicate block_size (2 ^ 31)))) % 2 ^ 64

  mask_is : mask ≡ mask_l (map is_low marks)
  mask_is = bitmask_splat w32 ltb marks block_size (2 ^ 31) long (omega arith)

  -- it has sixteen bits
  pub mask_fits : Fits w16 mask
  mask_fits = record { fits = rw mask_is (subst (λ n. mask_l (map is_low marks) < 2 ^ n) (length-map marks is_low ∙ long) (mask_l-lt (map is_low marks))) }

  pub mask_unmarked : ((k : ℕ) → get_or marks k 0 < 2 ^ 32) → AreUnmarked marks mask
  mask_unmarked fits lane within = rw mask_is (
      let x = get_or marks lane 0 in
      let fits_here = fits lane in
      let at = bit_mask_l (map is_low marks) lane ∙ ap (λ b. cond b 1 0) (get_or-map is_low marks lane 0 false (omega (arith, within, long))) in
      elim (cases_lt x (2 ^ 31)) [
        | inl low ↦ (λ _ mark. omega (arith, low, mark), λ _. at ∙ ap (λ b. cond b 1 0) (lt-ltb x (2 ^ 31) low))
        | inr high ↦ (λ h. absurd (omega (arith, h, at ∙ ap (λ b. cond b 1 0) (le-ltb x (2 ^ 31) high))), λ unmarked. absurd (unmarked (omega arith)))
      ])
