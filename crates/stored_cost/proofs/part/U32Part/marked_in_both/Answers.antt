use Rattle.std.proofs.Common.{arith}
use Rattle.std.proofs.lemmas.Nat.Bits.{bit_at_and}
use Rattle.stored_cost.proofs.part.U32Part.marked_in_both.Goals as goal

pub returns : goal.returns
returns c = let both = bit_at_and c.args.self c.args.other 31 in (λ h. (omega arith, omega arith), λ h. omega (arith, h.0, h.1))
