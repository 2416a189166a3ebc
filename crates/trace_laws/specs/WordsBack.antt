-- A value that is written as a word is read as the same value: laws of the definitions alone, which `reads_back`
-- promises.
use Rattle.std.specs.Prelude.{ℕ, ◌≡◌, ◌<◌, ◌^◌, List, decimal, Option, Some, IfSome}
use Rattle.std.specs.List.{All}
use Rattle.hex.specs.Hex.{IsBytes}
use Rattle.cip_types.specs.declared.names.Node.{Node}
use Rattle.cip_types.specs.declared.names.ConnId.{ConnId}
use Rattle.adapter_table.specs.declared.profile.Action.{Action}
use Rattle.trace_words.specs.Words.{number_of, node_word, node_of, nodes_word, nodes_of, bytes_word, bytes_of, id_word, id_of, general_word, general_of, extended_word, extended_of}
use Rattle.trace_lines.specs.Kinds.{action_word, action_of}

-- a number of at most so many bits
abbrev pub NumbersReadBack : Type 0
NumbersReadBack = (bits n : ℕ) → n < 2 ^ bits → n < 2 ^ 64 → number_of bits (decimal n) ≡ Some n

-- an address, and a list of addresses
abbrev pub NodesReadBack : Type 0
NodesReadBack = (node : Node) → node.0 < 2 ^ 32 → node_of (node_word node) ≡ Some node

abbrev pub NodeListsReadBack : Type 0
NodeListsReadBack = (nodes : List Node) → All (λ node. node.0 < 2 ^ 32) nodes → nodes_of (nodes_word nodes) ≡ Some nodes

abbrev pub BytesReadBack : Type 0
BytesReadBack = (bytes : List ℕ) → IsBytes bytes → bytes_of (bytes_word bytes) ≡ Some bytes

-- a connection id
abbrev pub IdsReadBack : Type 0
IdsReadBack = (id : ConnId) → id.0 < 2 ^ 32 → id_of (id_word id) ≡ Some id

-- a general status, and an extended one
abbrev pub GeneralReadsBack : Type 0
GeneralReadsBack = (general : ℕ) → general < 2 ^ 8 → general_of (general_word general) ≡ Some general

abbrev pub ExtendedReadsBack : Type 0
ExtendedReadsBack = (extended : Option ℕ) → IfSome extended (λ status. status < 2 ^ 16) → extended_of (extended_word extended) ≡ Some extended

-- an action for an output
abbrev pub ActionsReadBack : Type 0
ActionsReadBack = (action : Action) → action_of (action_word action) ≡ Some action
