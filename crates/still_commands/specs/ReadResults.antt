-- What the calls that read the named files answer.
use Rattle.std.specs.Prelude.{◌≡◌, ℕ, List, Option, Result, Ok, Err, length}
use Rattle.std.specs.List.{AllZip}
use Rattle.std.specs.Global.{Vec}
use Rattle.route_io.specs.Files.{FileMap}
use Rattle.arc_graph.specs.declared.graph.Graph.{Graph}
use Rattle.arc_graph.specs.declared.weights.Weights.{Weights}
use Rattle.arc_graph.specs.Files.{ArcFile}
use Rattle.arc_graph.specs.Graph.{network}
use Rattle.arc_graph.specs.declared.join.NetworkSizes.{NetworkSizes}
use Rattle.arc_graph.specs.Joiner.{Joiner}
use Rattle.arc_graph.specs.JoinerHolds.{JoinerHolds}
use Rattle.arc_graph.specs.Sizes.{sizes_of}
use Rattle.road_network.specs.Network.{Network}
use Rattle.front_cert.specs.Listing.{Listing}
use Rattle.gr_reader.specs.Sinks.{JoinerHasTaken}
use Rattle.query_reader.specs.declared.pairs.Pair.{Pair}
use Rattle.still_commands.specs.declared.stop.Stop.{Stop}
use Rattle.still_commands.specs.Batch.{PairsStop, SaysPairs}
use Rattle.still_commands.specs.FilesRead.{Says, ReadAs, FileStop, FilesStop, Tells}
use Rattle.still_commands.specs.Stops.{outcome_of}
use Rattle.still_commands.specs.Verify.{CertStop, HoldsAt}

-- The joiner stands for the files of these names.
pub record HasRead (files : Option FileMap) (names : List (List ℕ)) (joiner : Joiner) : Type 0 where
  pub contents : List ArcFile
  pub read : AllZip (Says files) names contents
  pub stands : JoinerHolds joiner contents

-- all files were read, and the joiner stands for them, or why not
abbrev pub FilesAreRead : Option FileMap → List (List ℕ) → Result Joiner Stop → Type 0
FilesAreRead files names (Ok joiner) = HasRead files names joiner
FilesAreRead files names (Err stop) = FilesStop files names (outcome_of stop)

-- the sizes of the network that the files say, or why they say none
abbrev pub SizesRead : Option FileMap → List (List ℕ) → Result NetworkSizes Stop → Type 0
SizesRead files names (Ok sizes) = (net : Network) × ReadAs files names net × (sizes ≡ sizes_of net)
SizesRead files names (Err stop) = FilesStop files names (outcome_of stop)

-- the network that the files say, or why they say none
abbrev pub NetworkRead : Option FileMap → List (List ℕ) → Result (Graph × Weights) Stop → Type 0
NetworkRead files names (Ok r) = ReadAs files names (network r.0 r.1)
NetworkRead files names (Err stop) = FilesStop files names (outcome_of stop)

-- The joiner has taken one file more, which is that of this name.
pub record TakesNamed (files : Option FileMap) (name : List ℕ) (before now : Joiner) : Type 0 where
  pub contents : ArcFile
  pub says : Says files name contents
  pub taken : JoinerHasTaken before now (length contents.arcs) contents

-- the joiner has taken the file of this name, or why it hasn't
abbrev pub FileRead : {T : Type 0} → Option FileMap → List ℕ → Joiner → Joiner → Result T Stop → Type 0
FileRead files name before now (Ok value) = TakesNamed files name before now
FileRead files name before now (Err stop) = FileStop files name (outcome_of stop)

-- the pairs that the file of this name says, or why it says none
abbrev pub PairsRead : Option FileMap → List ℕ → Result (Vec Pair) Stop → Type 0
PairsRead files name (Ok pairs) = SaysPairs files name pairs.items
PairsRead files name (Err stop) = PairsStop files name (outcome_of stop)

-- the certificate of this name, at which no rule fails, or why there is none
abbrev pub CertRead : Option FileMap → Network → List ℕ → Result Listing Stop → Type 0
CertRead files net name (Ok listing) = Tells files name (HoldsAt net listing.cert)
CertRead files net name (Err stop) = CertStop files net name (outcome_of stop)
