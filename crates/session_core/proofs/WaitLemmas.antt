-- Waiting, look by look.
use Rattle.std.proofs.Common.{arith}
use Rattle.epoch_store.specs.Readers.{EpochReader, HasLooked}
use Rattle.session_core.specs.Answering.{LooksAnew, Waits}

-- it waits on
pub waits_on : (first mid last : EpochReader) → Waits first mid → Waits mid last → Waits first last
waits_on first mid last before on unclosed =
    let so_far = before unclosed in
    let now = on so_far.0 in (now.0, omega (arith, so_far.1, now.1))

-- a look ends the wait
pub looks_anew : (first mid last : EpochReader) → Waits first mid → HasLooked mid last → LooksAnew first last
looks_anew first mid last before looked unclosed =
    let so_far = before unclosed in
    omega (arith, so_far.1, (looked so_far.0).epochs)
