-- Names and times that pass the derived test for equal values are equal, and equal ones pass it.
use Rattle.std.proofs.Common.{◌≡◌, Option, rules}
use Rattle.std.specs.Bool.{Decides}
use Rattle.std.specs.Option.{option_eq}
use Rattle.cip_types.specs.declared.names.Ms.{Ms}
use Rattle.cip_types.specs.declared.names.Triad.{Triad}
use Rattle.cip_types.specs.declared.names.Node.{Node}
use Rattle.cip_types.specs.declared.names.ConnId.{ConnId}
use Rattle.cip_types.specs.contracts.names.MsPartialEq.TheImpl as ms
use Rattle.cip_types.specs.contracts.names.NodePartialEq.TheImpl as node
use Rattle.cip_types.specs.contracts.names.ConnIdPartialEq.TheImpl as id
use Rattle.cip_types.specs.contracts.names.TriadPartialEq.TheImpl as triad

pub ms_decides : (a b : Ms) → Decides ((ms.ghosts).eq a b) (a ≡ b)
ms_decides a b = search rules

pub time_decides : (a b : Option Ms) → Decides (option_eq (ms.ghosts).eq a b) (a ≡ b)
time_decides a b = search rules

pub node_decides : (a b : Node) → Decides ((node.ghosts).eq a b) (a ≡ b)
node_decides a b = search rules

pub id_decides : (a b : ConnId) → Decides ((id.ghosts).eq a b) (a ≡ b)
id_decides a b = search rules

pub triad_decides : (a b : Triad) → Decides ((triad.ghosts).eq a b) (a ≡ b)
triad_decides a b = search rules
