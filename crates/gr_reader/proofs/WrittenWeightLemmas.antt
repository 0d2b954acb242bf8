-- The lines of weight files that are written, and what they say.
use Rattle.std.proofs.Common.{ℕ, ◌<◌, ◌^◌, List, [], ◌∷◌, Some, None, codes, decimal, ap, ◌∙◌, arith}
use Rattle.std.specs.Prelude.{if◌then◌else◌}
use Rattle.std.specs.List.{All}
use Rattle.std.proofs.lemmas.List.Elements.{All-cons}
use Rattle.arc_graph.specs.declared.file.ArcLine.{ArcLine}
use Rattle.line_text.proofs.WrittenLineLemmas.{IsField, IsShortField, byte_more, fields_are, fields_of-line, length-line, line_of_fields, line_text, none_short, numbers_more, one_byte}
use Rattle.gr_reader.specs.Grammar.{problem_of, weights, weights_form}
use Rattle.gr_reader.specs.Grammar as gr
use Rattle.gr_reader.specs.Rules.{is_ignored, number_of}
use Rattle.gr_reader.specs.Rules.LineForm.{Problem, Record}
use Rattle.gr_reader.proofs.WrittenFileLemmas.{SaysForm, number_of-decimal}

pub is_a : IsField (codes "a")
is_a = one_byte 97 (omega arith)

pub is_p : IsField (codes "p")
is_p = one_byte 112 (omega arith)

pub is_sp : IsField (codes "sp")
is_sp = byte_more 115 (112 ∷ []) (omega arith) (one_byte 112 (omega arith))

-- the fields of an arc's line behind its word
abbrev pub arc_fields : ArcLine → List (List ℕ)
arc_fields arc = decimal arc.tail ∷ decimal arc.head ∷ decimal arc.weight ∷ []

-- the line of an arc says it
pub says_arc : (arc : ArcLine) → arc.tail < 10 ^ 16 → arc.head < 10 ^ 16 → arc.weight < 10 ^ 16
    → SaysForm weights (line_of_fields (codes "a") (arc_fields arc)) (Record arc)
says_arc arc tail head weight =
    let all : All IsShortField (arc_fields arc) =
    numbers_more arc.tail (decimal arc.head ∷ decimal arc.weight ∷ []) tail
    (numbers_more arc.head (decimal arc.weight ∷ []) head (numbers_more arc.weight [] weight none_short)) in
    record {
      text = line_text (codes "a") (arc_fields arc) is_a (fields_are (arc_fields arc) all);
      short = omega (arith, length-line (codes "a") (arc_fields arc) all);
      says = ap (λ fs. if is_ignored fs then None else Some (weights_form fs)) (fields_of-line (codes "a") (arc_fields arc) is_a
          (fields_are (arc_fields arc) all))
          ∙ ap (λ n. Some (gr.arc_of n (number_of (decimal arc.head)) (number_of (decimal arc.weight)))) (number_of-decimal arc.tail (omega arith))
          ∙ ap (λ n. Some (gr.arc_of (Some arc.tail) n (number_of (decimal arc.weight)))) (number_of-decimal arc.head (omega arith))
          ∙ ap (λ n. Some (gr.arc_of (Some arc.tail) (Some arc.head) n)) (number_of-decimal arc.weight (omega arith));
    }

-- the fields of a weight file's first line behind its word
abbrev pub size_fields : ℕ → ℕ → List (List ℕ)
size_fields nodes arcs = codes "sp" ∷ decimal nodes ∷ decimal arcs ∷ []

-- that line says the sizes
pub says_sizes : (nodes arcs : ℕ) → nodes < 10 ^ 16 → arcs < 10 ^ 16
    → SaysForm weights (line_of_fields (codes "p") (size_fields nodes arcs)) (Problem (record { nodes = nodes; arcs = arcs }))
says_sizes nodes arcs few_nodes few_arcs =
    let sp : IsShortField (codes "sp") = record { is = is_sp; short = omega arith } in
    let all : All IsShortField (size_fields nodes arcs) =
    All-cons IsShortField (codes "sp") (decimal nodes ∷ decimal arcs ∷ []) sp
    (numbers_more nodes (decimal arcs ∷ []) few_nodes (numbers_more arcs [] few_arcs none_short)) in
    record {
      text = line_text (codes "p") (size_fields nodes arcs) is_p (fields_are (size_fields nodes arcs) all);
      short = omega (arith, length-line (codes "p") (size_fields nodes arcs) all);
      says = ap (λ fs. if is_ignored fs then None else Some (weights_form fs)) (fields_of-line (codes "p") (size_fields nodes arcs) is_p
          (fields_are (size_fields nodes arcs) all))
          ∙ ap (λ n. Some (problem_of n (number_of (decimal arcs)))) (number_of-decimal nodes (omega arith))
          ∙ ap (λ n. Some (problem_of (Some nodes) n)) (number_of-decimal arcs (omega arith));
    }
