-- The text of a certificate. Fields are separated by one space, numbers are decimal without leading zeros, and each line
-- ends by LF.
use Rattle.std.specs.Prelude.{◌≡◌, ⊤, ℕ, List, ◌++◌, length, codes, Result, Ok, Err}
use Rattle.std.specs.List.{flat_map}
use Rattle.answer_writer.specs.Replies.{and_number, end_line}
use Rattle.road_network.specs.Labels.{Label}
use Rattle.cert_rules.specs.Certificates.{Certificate}
use Rattle.front_cert.specs.Listing.{Listing}
use Rattle.front_cert.specs.declared.fault.CertFault.{CertFault}
use Rattle.front_cert.specs.declared.fault.CertFault.TheVariants.{Line, Rule, Read, OutOfMemory}

-- `z D S T L`: the number of criteria, both ends, and how many labels there are
abbrev pub heading_line : ℕ → Certificate → List ℕ
heading_line criteria cert =
    codes "z" ++ and_number criteria ++ and_number cert.start ++ and_number cert.target
    ++ and_number (length cert.labels) ++ end_line

-- `b V A C1 .. CD`: the node of a label, its arc or 0, and its cost
abbrev pub label_line : Label → List ℕ
label_line l = codes "b" ++ and_number l.node ++ and_number l.arc ++ flat_map and_number l.cost ++ end_line

-- the text of a certificate in so many criteria: its first line, and then a line for each label
abbrev pub cert_text : ℕ → Certificate → List ℕ
cert_text criteria cert = heading_line criteria cert ++ flat_map label_line cert.labels

-- a check accepts this certificate, but for the source's failures and want of memory
abbrev pub Accepts : Certificate → Result Listing CertFault → Type 0
Accepts cert (Ok listing) = listing.cert ≡ cert
Accepts cert (Err (Line line)) = ⊥
Accepts cert (Err (Rule rule label)) = ⊥
Accepts cert (Err Read) = ⊤
Accepts cert (Err (OutOfMemory want)) = ⊤
