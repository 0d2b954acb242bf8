use Rattle.std.proofs.Common.{⊎_elim}
use Rattle.gen_laws.proofs.AgreeLemmas.{no_zero_arc, same_ends, same_sizes}
use Rattle.gen_laws.proofs.weight_files_agree.Goals as goal

pub returns : goal.returns
returns c = λ plan is. record {
  sizes = same_sizes plan is;
  arcs = λ a faulty. ⊎_elim (λ ends. same_ends plan is a ends.0 ends.1) (no_zero_arc plan is a) faulty;
}
