-- The weights of a criterion, which are drawn from a sequence of numbers: a linear congruential generator, as in D. H. Lehmer,
-- "Mathematical methods in large-scale computing units", 1949, and W. E. Thomson, "A modified congruence method of generating
-- pseudo-random numbers", The Computer Journal 1, 1958.
use Rattle.std.specs.Prelude.{ℕ, suc, zero, ◌+◌, ◌*◌, ◌%◌, List, map}
use Rattle.std.specs.List.{range_with_len}

-- the modulus, a prime
abbrev pub modulus : ℕ
modulus = 65537

-- the number that follows another
abbrev pub next_number : ℕ → ℕ
next_number x = (75 * x + 74) % modulus

-- the n-th number behind another
abbrev pub nth_behind : ℕ → ℕ → ℕ
nth_behind x zero = x
nth_behind x (suc n) = next_number (nth_behind x n)

-- the number that a criterion begins with, by the plan's start
abbrev pub first_number : ℕ → ℕ → ℕ
first_number start criterion = (start + 1000 * criterion) % modulus

-- the weight that is drawn by a number, 1 to 100
abbrev pub weight_by : ℕ → ℕ
weight_by x = 1 + x % 100

-- so many weights, by the numbers behind this one
abbrev pub weights_behind : ℕ → ℕ → List ℕ
weights_behind x count = map (λ n. weight_by (nth_behind x n)) (range_with_len 1 count)
