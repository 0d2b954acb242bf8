-- A weight file that was taken whole.
use Rattle.std.proofs.Common.{◌≡◌, ℕ, List, Option, Result, Ok, Err, length, ap, ◌∙◌}
use Rattle.std.proofs.lemmas.Option.{IfSome_then}
use Rattle.arc_graph.specs.declared.file.ArcLine.{ArcLine}
use Rattle.arc_graph.specs.Files.{ArcFile}
use Rattle.gr_reader.specs.declared.fault.FileFault.{FileFault}
use Rattle.line_text.specs.declared.limits.LineLimits.{LineLimits}
use Rattle.gr_reader.specs.declared.weights.Sizes.{Sizes}
use Rattle.gr_reader.specs.Grammar.{IsGrFile, weights}
use Rattle.gr_reader.specs.Reader.{ReadsWhole, TakesWhole, IsSound, IsComplete}
use Rattle.gr_reader.specs.Sinks.{ReadsInto, TakesFile}
use Rattle.gr_reader.proofs.LawsLemmas.{is_decided, complete}

abbrev with_arcs : ℕ → ℕ → Sizes
with_arcs nodes arcs = record { nodes = nodes; arcs = arcs }

module _ (limits : LineLimits) (text : Option (List ℕ)) (HasTaken : Sizes → List ArcLine → Type 0) where
  -- the records of a weight file are its arcs
  takes_file : TakesWhole weights limits text HasTaken → TakesFile limits text (λ arcs file. HasTaken (with_arcs file.nodes arcs) file.arcs)
  takes_file takes =
      let count : with_arcs takes.problem.nodes (length takes.records) ≡ takes.problem = ap (with_arcs takes.problem.nodes) takes.counted in
      record {
        file = record { nodes = takes.problem.nodes; arcs = takes.records };
        taken = rw count takes.taken;
        is_gr = IfSome_then text takes.is_file (λ bytes is_file. rw count is_file);
      }

  -- a weight file was taken, or the fault is the text's
  pub reads_into : {T : Type 0} (result : Result T FileFault) → ReadsWhole weights limits text HasTaken result
      → ReadsInto limits text (λ arcs file. HasTaken (with_arcs file.nodes arcs) file.arcs) result
  reads_into (Ok done) reads = takes_file reads
  reads_into (Err fault) reads = reads

-- a text is of one file
one_gr : (limits : LineLimits) (bytes : List ℕ) (file other : ArcFile) → IsGrFile limits bytes file → IsGrFile limits bytes other → file ≡ other
one_gr limits bytes file other is second =
    let same = (is_decided weights limits bytes).one_file _ _ file.arcs other.arcs is second in
    let at : ℕ → List ArcLine → ArcFile = λ n a. record { nodes = n; arcs = a } in
    ap (λ (sizes : Sizes). at sizes.nodes file.arcs) same.0 ∙ ap (at other.nodes) same.1

-- what is sound of a weight file is complete
pub gr_complete : (limits : LineLimits) (bytes : List ℕ) (result : Result ArcFile FileFault) → IsSound weights (IsGrFile limits bytes) limits bytes result
    → IsComplete weights (IsGrFile limits bytes) limits bytes result
gr_complete limits bytes result sound =
    complete weights limits bytes (IsGrFile limits bytes) (one_gr limits bytes) (λ file is. (with_arcs file.nodes (length file.arcs), file.arcs, is)) result
    sound
