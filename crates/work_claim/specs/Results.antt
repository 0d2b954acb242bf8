-- What comes of numbered pieces of work.
use Rattle.std.specs.Prelude.{◌≡◌, ℕ, List, Some, IsPermutation, Result, IfOk, length, map, slice_get, All}
use Rattle.std.specs.Global.{Vec}
use Rattle.std.specs.List.Sorted.{IsNonDecreasingBy}
use Rattle.out_of_memory.specs.declared.OutOfMemory.{OutOfMemory}
use Rattle.work_claim.specs.declared.done.Done.{Done}
use Rattle.work_claim.specs.Claims.{WorkerSeat, Counter, past, pieces_among}

module _ {Out : Type 0} where
  -- one result for each piece, in their order, each one that may come of its piece
  pub record GivesAll (gives : ℕ → Out → Type 0) (pieces : ℕ) (outs : List Out) : Type 0 where
    pub count : length outs ≡ pieces
    pub each : (piece : ℕ) (out : Out) → slice_get outs piece ≡ Some out → gives piece out

  -- the numbers of the pieces that were done
  abbrev pub pieces_of : List (Done Out) → List ℕ
  pieces_of done = map (λ d. d.piece) done

  -- what came of the pieces among these numbers, as they were drawn
  pub record AreDone (gives : ℕ → Out → Type 0) (pieces : ℕ) (numbers : List ℕ) (done : List (Done Out)) : Type 0 where
    pub drawn : pieces_of done ≡ pieces_among pieces numbers
    pub each : All (λ d. gives d.piece d.out) done

  -- these results are those of what was done, in the order of its pieces
  pub record AreInOrder (done : List (Done Out)) (outs : List Out) : Type 0 where
    pub sorted : List (Done Out)
    pub moved : IsPermutation done sorted
    pub rises : IsNonDecreasingBy (λ d. d.piece) sorted
    pub results : outs ≡ map (λ d. d.out) sorted

  -- So many workers have come to their end at this counter: each has drawn one number past the pieces, and what came of the
  -- pieces that they drew is there, unless memory ran out.
  pub record HaveEnded (gives : ℕ → Out → Type 0) (counter : Counter) (workers : ℕ)
      (seat : WorkerSeat) (done : Result (Vec (Done Out)) OutOfMemory) : Type 0 where
    pub seated : seat.table ≡ counter.table
    pub all : seat.draws.workers ≡ workers
    pub ended : past counter.pieces seat.draws.numbers ≡ workers
    pub results : IfOk done (λ d. AreDone gives counter.pieces seat.draws.numbers d.items)
