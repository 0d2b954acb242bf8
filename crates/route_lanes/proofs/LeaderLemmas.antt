-- How the link of a leader's operator ended.
use Rattle.std.proofs.Common.{◌≡◌, false, refl}
use Rattle.out_of_memory.specs.declared.OutOfMemory.{OutOfMemory}
use Rattle.session_core.specs.declared.end.SessionEnd.{SessionEnd}
use Rattle.session_core.specs.declared.end.SessionEnd.TheVariants as ended
use Rattle.session_core.specs.Links.{is_starved}

-- an end other than want of memory
pub not_starved : (end : SessionEnd) → ((want : OutOfMemory) → end ≡ ended.OutOfMemory want → ⊥) → is_starved end ≡ false
not_starved ended.Ended other = refl
not_starved ended.ReadFault other = refl
not_starved ended.WriteFault other = refl
not_starved ended.TooLong other = refl
not_starved (ended.OutOfMemory want) other = absurd (other want refl)
