-- The adapters of the samples, and who speaks to them.
use Rattle.std.specs.Prelude.{ℕ, [], ◌∷◌, Some, None}
use Rattle.cip_types.specs.declared.names.Node.{Node}
use Rattle.cip_types.specs.declared.names.Triad.{Triad}
use Rattle.adapter_table.specs.declared.profile.Action.{Action}
use Rattle.adapter_table.specs.declared.profile.Action.TheVariants.{Zero}
use Rattle.adapter_table.specs.declared.profile.OutputPoint.{OutputPoint}
use Rattle.adapter_table.specs.declared.profile.InputPoint.{InputPoint}
use Rattle.adapter_table.specs.declared.profile.Profile.{Profile}
use Rattle.adapter_table.specs.Profiles.{no_limits}
use Rattle.cip_tables.specs.declared.table.DeviceTable.{DeviceTable}
use Rattle.cip_tables.specs.declared.table.DeviceTable.TheVariants.{Adapter}
use Rattle.adapter_table.specs.Step.{adapter_table}

-- an output, with its idle action and its fault action
abbrev pub output : ℕ → ℕ → Action → Action → OutputPoint
output instance len idle fault = record { instance = instance; len = len; idle = idle; fault = fault }

-- an input, or a configuration
abbrev pub input : ℕ → ℕ → InputPoint
input instance len = record { instance = instance; len = len }

-- an adapter at 192.168.1.10 with the output 150 and the input 100 of 4 bytes, and a configuration of none
abbrev pub common : Profile
common = record {
  incarnation = 0x10;
  node = record { 0 = 0xC0A8010A };
  mask = 0xFFFFFF00;
  identity = record { vendor = 1; device_type = 12; product = 7; major = 2; minor = 3 };
  outputs = output 150 4 Zero Zero ∷ [];
  inputs = input 100 4 ∷ [];
  config = Some (input 151 0);
  input_only = 152;
  listen_only = 153;
  description = None;
  limits = no_limits;
  objects = [];
  ids = None;
}

-- the same with two bytes of configuration
abbrev pub configured : Profile
configured = record common { config = Some (input 151 2) }

-- the same with the idle action and the fault action of its output
abbrev pub acting : Action → Action → Profile
acting idle fault = record common { outputs = output 150 4 idle fault ∷ [] }

-- the same with two outputs and two inputs
abbrev pub double : Profile
double = record common {
  outputs = output 150 4 Zero Zero ∷ output 160 2 Zero Zero ∷ [];
  inputs = input 100 4 ∷ input 110 2 ∷ [];
}

-- a device of a profile, with no connections
abbrev pub fresh : Profile → DeviceTable
fresh profile = Adapter (adapter_table profile)

-- an originator at 192.168.1.20
abbrev pub peer : Node
peer = record { 0 = 0xC0A80114 }

-- another one, at 192.168.1.21
abbrev pub other : Node
other = record { 0 = 0xC0A80115 }

-- where the datagrams of the common adapter's multicast producer go: 239.192.2.32
abbrev pub group : Node
group = record { 0 = 0xEFC00220 }

-- a connection of the originators by its serial number and the originator's
abbrev pub triad : ℕ → ℕ → Triad
triad serial originator = record { serial = serial; vendor = 0x1234; originator = originator }

-- a connection of the first of them
abbrev pub own : ℕ → Triad
own serial = triad serial 0x12345678
