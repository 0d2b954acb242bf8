-- How the numbers of pieces are drawn from one counter: what always holds of the counter and of what was drawn.
use Rattle.std.specs.Prelude.{◌≡◌, ℕ, ◌+◌, ◌-◌, ◌<◌, ◌≤◌, ◌==◌, List, [], ◌∷◌, ◌++◌, Option, IfSome, IfNone, length, slice_index, filter, if◌then◌else◌}
use Rattle.std.specs.Bool.{nat_lt, nat_le}
use Rattle.std.specs.List.{count_by, range_with_len, sum_by}
use Rattle.atomic_table.specs.Table.{Me}
use Rattle.atomic_table.specs.Seated.{TableId}
use Rattle.list_laws.specs.Sets.{ListsOnce}

-- the numbers that a seat has drawn, and for how many workers it draws
pub record Draws : Type 0 where
  pub numbers : List ℕ
  pub workers : ℕ

-- how often x stands in the list
abbrev pub times : ℕ → List ℕ → ℕ
times x numbers = count_by (λ y. y == x) numbers

-- how many of the numbers are past the pieces
abbrev pub past : ℕ → List ℕ → ℕ
past pieces numbers = count_by (λ x. nat_le pieces x) numbers

-- those of the numbers that are pieces'
abbrev pub pieces_among : ℕ → List ℕ → List ℕ
pieces_among pieces numbers = filter (λ x. nat_lt x pieces) numbers

-- these are the numbers of all pieces, each once
abbrev pub EachOnce : ℕ → List ℕ → Type 0
EachOnce pieces = ListsOnce (λ i. i < pieces)

-- each piece stands once among the numbers
abbrev pub HoldsEachPieceOnce : ℕ → List ℕ → Type 0
HoldsEachPieceOnce pieces numbers = EachOnce pieces (pieces_among pieces numbers)

-- the seat has drawn one number more
abbrev pub with_drawn : ℕ → Draws → Draws
with_drawn x s = record s { numbers = s.numbers ++ x ∷ [] }

-- a claim draws the number that was found, which is no less than the count of those drawn before
pub record Claims (before : Me (Unit {0}) Draws) (found : ℕ) (after : Me (Unit {0}) Draws) : Type 0 where
  pub drawn : after ≡ (with_drawn found before.0, before.1)
  pub ahead : length before.0.numbers ≤ found

-- what stays with a seat that one of its workers leaves
abbrev pub without_one : Draws → Draws
without_one s = record s { workers = s.workers - 1 }

-- what a new seat has, for one worker
abbrev pub for_one : Draws
for_one = record { numbers = []; workers = 1 }

-- what two seats have together
abbrev pub joined : Draws → Draws → Draws
joined s t = record { numbers = s.numbers ++ t.numbers; workers = s.workers + t.workers }

-- what is left of a seat that another took in
abbrev pub spent : Draws
spent = record { numbers = []; workers = 0 }

-- what adds up over seats: how many numbers of a kind were drawn, and how many workers there are
pub record AddsUp (f : Draws → ℕ) : Type 0 where
  pub none : f spent ≡ 0
  pub both : (s t : Draws) → f (joined s t) ≡ f s + f t

-- the numbers below the counter, and all workers
abbrev pub all_draws : ℕ → ℕ → Draws
all_draws counter workers = record { numbers = range_with_len 0 counter; workers = workers }

-- how many numbers past the pieces the seat may draw yet, one for each worker
abbrev pub unused : ℕ → Draws → ℕ
unused pieces s = s.workers - past pieces s.numbers

-- how many numbers the seat has drawn for nobody
abbrev pub for_nobody : Draws → ℕ
for_nobody s = if s.workers == 0 then length s.numbers else 0

-- The rule: all seats together have drawn the numbers below the counter, each once, and draw for so many workers. For each worker
-- one number past the pieces may be drawn, so the counter goes no further than pieces and workers together. A seat that draws for
-- nobody has drawn nothing.
pub record AreClaims (pieces workers : ℕ) (words : List ℕ) (seats : List Draws) : Type 0 where
  pub one : length words ≡ 1
  pub shared : (f : Draws → ℕ) → AddsUp f → sum_by f seats ≡ f (all_draws (slice_index words 0) workers)
  pub left : sum_by (unused pieces) seats + (slice_index words 0 - pieces) ≤ workers
  pub idle : sum_by for_nobody seats ≡ 0

-- a counter, as its callers see it: which one it is, how many pieces there are, and how many workers
pub record Counter : Type 0 where
  pub table : TableId
  pub pieces : ℕ
  pub workers : ℕ

-- a seat, as its callers see it: of which counter, and what it has drawn
pub record WorkerSeat : Type 0 where
  pub table : TableId
  pub draws : Draws

-- A number was drawn. The piece of this number is found, or none where it is past the pieces.
pub record DrawsNext (pieces : ℕ) (before after : WorkerSeat) (piece : Option ℕ) : Type 0 where
  pub number : ℕ
  pub drawn : after ≡ record before { draws = with_drawn number before.draws }
  pub ahead : length before.draws.numbers ≤ number
  pub found : IfSome piece (λ i. (i ≡ number) × (number < pieces))
  pub none : IfNone piece (pieces ≤ number)

-- a seat of this counter for so many workers, none of whom has drawn yet
pub record IsFresh (workers : ℕ) (counter : Counter) (seat : WorkerSeat) : Type 0 where
  pub some : 1 ≤ workers
  pub seated : seat.table ≡ counter.table
  pub draws : seat.draws ≡ record { numbers = []; workers = workers }
