-- Readers of the lines of a profile, behind their keywords; those of limits are in Limits.
use Rattle.std.specs.Prelude.{ℕ, List, Option}
use Rattle.cip_types.specs.declared.ids.IdBlock.{IdBlock}
use Rattle.adapter_table.specs.declared.profile.OutputPoint.{OutputPoint}
use Rattle.adapter_table.specs.declared.profile.InputPoint.{InputPoint}
use Rattle.adapter_table.specs.declared.profile.Description.{Description}
use Rattle.adapter_table.specs.declared.maker_limits.MakerLimits.{MakerLimits}
use Rattle.adapter_table.specs.declared.profile.Profile.{Profile}
use Rattle.trace_lines.specs.declared.forms.AdapterLine.{AdapterLine}
use Rattle.trace_lines.specs.declared.forms.HeartbeatLine.{HeartbeatLine}
use Rattle.trace_lines.specs.declared.shapes.TheConstants.{ADAPTER, OUTPUT, POINT, DESCRIBE, NUMBER, HEARTBEAT}
use Rattle.trace_words.specs.Reader.{Reader, ends}
use Rattle.trace_lines.specs.Shapes.{shaped}

-- incarnation, address, network mask and identity
abbrev pub adapter_reader : Reader AdapterLine
adapter_reader = shaped ADAPTER (λ incarnation node mask vendor device_type product major minor. ends (record {
  incarnation = incarnation;
  node = node;
  mask = mask.0;
  identity = record { vendor = vendor; device_type = device_type; product = product; major = major; minor = minor };
}))

-- instance, length, and the actions when the owner is idle and when it is lost
abbrev pub output_reader : Reader OutputPoint
output_reader = shaped OUTPUT (λ instance len idle lost. ends (record { instance = instance; len = len; idle = idle; fault = lost }))

-- instance and length
abbrev pub point_reader : Reader InputPoint
point_reader = shaped POINT (λ instance len. ends (record { instance = instance; len = len }))

-- what a device says of itself to tools: serial number, name, TCP port, speed and flags of the link, physical address,
-- and the seconds after which it ends a silent stream
abbrev pub description_reader : Reader Description
description_reader = shaped DESCRIBE (λ serial name port speed flags mac inactivity. ends (record {
  serial = serial;
  name = name;
  port = port;
  speed = speed;
  flags = flags;
  mac = mac;
  inactivity = inactivity;
}))

-- a class of the maker's own objects
abbrev pub object_reader : Reader ℕ
object_reader = shaped NUMBER (λ class. ends class)

-- the points of input-only and of listen-only connections
abbrev pub heartbeat_reader : Reader HeartbeatLine
heartbeat_reader = shaped HEARTBEAT (λ input_only listen_only. ends (record { input_only = input_only; listen_only = listen_only }))

-- the profile with the values of its lines
abbrev pub profile_with : AdapterLine → List OutputPoint → List InputPoint → Option InputPoint → Option Description → MakerLimits → List ℕ → Option IdBlock → HeartbeatLine → Profile
profile_with adapter outputs inputs config description limits objects ids heartbeat = record {
  incarnation = adapter.incarnation;
  node = adapter.node;
  mask = adapter.mask;
  identity = adapter.identity;
  outputs = outputs;
  inputs = inputs;
  config = config;
  input_only = heartbeat.input_only;
  listen_only = heartbeat.listen_only;
  description = description;
  limits = limits;
  objects = objects;
  ids = ids;
}
