-- How contracts see the forms of a door and a town.
use Rattle.std.specs.Prelude.{◌≡◌, ℕ, ◌+◌, Bool, List, [], ◌∷◌, ◌++◌, map, length, take, get_or, Option, Some, None, Result, Ok, Err}
use Rattle.std.specs.List.{range_with_len}
use Rattle.route_io.specs.declared.fault.Failed.{Failed}
use Rattle.route_io.specs.declared.link.Link.{Link}
use Rattle.route_io.specs.Calls.{CallList, counted, faulted, none_made}
use Rattle.route_io.specs.Forms.{MemorySource, MemorySink, memory_source_state, memory_sink_state, reader_state, writer_state}
use Rattle.link_doors.specs.declared.town.TownFault.{TownFault}
use Rattle.link_doors.specs.declared.town.TownFault.TheVariants as town
use Rattle.link_doors.specs.Doors.{DoorState}
use Rattle.link_doors.specs.Links.{LinkState, state_of}
use Rattle.link_doors.specs.Towns.{TownState}

-- a link in memory
abbrev pub MemoryLink : Type 0
MemoryLink = Link MemorySource MemorySink

-- what it shows as a link
abbrev pub memory_link_state : MemoryLink → LinkState
memory_link_state = state_of memory_source_state memory_sink_state

-- a door in memory: its place, the links that it is yet to give, those that it gave, those given back, and its calls
pub record MemoryDoor : Type 0 where
  pub place : ℕ
  pub rest : List MemoryLink
  pub gave : List MemoryLink
  pub took : List MemoryLink
  pub calls : CallList

-- what it shows as a door
abbrev pub memory_door_state : MemoryDoor → DoorState
memory_door_state door = record {
  place = door.place;
  faults = door.calls.faults;
  links = length door.gave + length door.rest;
  given = length door.gave;
  returned = length door.took;
  gave = Some (map memory_link_state door.gave);
  took = Some (map memory_link_state door.took);
}

-- what its call for the next link leaves: the first of the rest was given, or there was none, or the call was to fail
abbrev pub MemoryGives : MemoryDoor → MemoryDoor → Result (Option MemoryLink) Failed → Type 0
MemoryGives old new (Ok (Some link)) = (old.rest ≡ link ∷ new.rest)
    × (new ≡ record old { rest = new.rest; gave = old.gave ++ link ∷ []; calls = counted old.calls })
MemoryGives old new (Ok None) = (old.rest ≡ []) × (new ≡ record old { calls = counted old.calls })
MemoryGives old new (Err fault) = new ≡ record old { calls = faulted old.calls }

-- The door has given no link and has not failed.
pub record IsUnused (door : MemoryDoor) : Type 0 where
  pub gave_none : door.gave ≡ []
  pub took_none : door.took ≡ []
  pub no_faults : door.calls.faults ≡ 0

-- a door that has these links to give, whose calls of these numbers are to fail
abbrev pub door_with : List MemoryLink → List ℕ → MemoryDoor
door_with links fails = record { place = 0; rest = links; gave = []; took = []; calls = none_made fails }

-- the same door, with at most so many links left to give, and at this place
abbrev pub placed : ℕ → ℕ → MemoryDoor → MemoryDoor
placed links place door = record door { place = place; rest = take links door.rest }

-- so many doors, each at its place: those that wait, and doors without links where there are fewer
abbrev pub handed_out : ℕ → ℕ → List MemoryDoor → List MemoryDoor
handed_out links count waiting =
    map (λ place. placed links place (get_or waiting place (door_with [] []))) (range_with_len 0 count)

-- a town in memory: the doors that it is yet to hand out, those that it took back, and its calls
pub record MemoryTown : Type 0 where
  pub waiting : List MemoryDoor
  pub asked : Bool
  pub lent : ℕ
  pub doors : List MemoryDoor
  pub calls : CallList

-- what it shows as a town
abbrev pub memory_town_state : MemoryTown → TownState
memory_town_state town = record {
  faults = town.calls.faults;
  asked = town.asked;
  lent = town.lent;
  doors = map memory_door_state town.doors;
}

-- its calls after it was asked to listen, with this answer
abbrev pub after_listen : {T : Type 0} → CallList → Result T TownFault → CallList
after_listen calls (Ok doors) = counted calls
after_listen calls (Err town.Failed) = faulted calls
after_listen calls (Err (town.OutOfMemory want)) = calls

-- what a connection shows as a link: the faults of its reads and of its writes
abbrev pub host_link_state : Link ℕ ℕ → LinkState
host_link_state = state_of (reader_state None) (writer_state None)

-- a door of the host: its place, its faults, the connections that it is yet to give, those that it gave and has back
pub record HostDoor : Type 0 where
  pub place : ℕ
  pub faults : ℕ
  pub left : ℕ
  pub given : ℕ
  pub returned : ℕ

-- what it shows as a door: it doesn't tell its links
abbrev pub host_door_state : HostDoor → DoorState
host_door_state door = record {
  place = door.place;
  faults = door.faults;
  links = door.given + door.left;
  given = door.given;
  returned = door.returned;
  gave = None;
  took = None;
}

-- a door of the host at this place that gave none of its links yet
abbrev pub new_host_door : ℕ → ℕ → HostDoor
new_host_door links place = record { place = place; faults = 0; left = links; given = 0; returned = 0 }

-- so many of them, each at its place
abbrev pub new_host_doors : ℕ → ℕ → List HostDoor
new_host_doors links count = map (new_host_door links) (range_with_len 0 count)

-- a town of the host
pub record HostTown : Type 0 where
  pub faults : ℕ
  pub asked : Bool
  pub lent : ℕ
  pub doors : List HostDoor

-- what it shows as a town
abbrev pub host_town_state : HostTown → TownState
host_town_state town = record {
  faults = town.faults;
  asked = town.asked;
  lent = town.lent;
  doors = map host_door_state town.doors;
}
