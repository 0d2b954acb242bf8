-- Files whose names are a stem and a number.
use Rattle.std.proofs.Common.{◌≡◌, ◌<◌, ◌+◌, ℕ, List, [], arith, get_or, length, sym}
use Rattle.std.proofs.lemmas.List.FromFn.{get_or-map-range_with_len, length-map-range_with_len}
use Rattle.command_words.specs.Words.{session_name}
use Rattle.route_top.specs.Follow.{numbered}

-- the one at a place
pub numbered_at : (stem : List ℕ) (count n : ℕ) → n < count → session_name stem (n + 1) ≡ get_or (numbered stem count) n []
numbered_at stem count n within =
    sym (get_or-map-range_with_len (session_name stem) 1 count n (n + 1) [] within (omega arith))

-- so many there are
pub count_numbered : (stem : List ℕ) (count : ℕ) → length (numbered stem count) ≡ count
count_numbered stem count = length-map-range_with_len (session_name stem) 1 count
