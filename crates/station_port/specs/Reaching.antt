-- How far a station sends.
use Rattle.std.specs.Prelude.{ℕ}

-- a datagram to a group passes so many networks: only the station's own
abbrev pub group_hops : ℕ
group_hops = 1
