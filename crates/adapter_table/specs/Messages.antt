-- A table with other class 3 connections and other requests that wait for the application: all else stays
-- (Volume 1, chapter 3, transport class 3).
use Rattle.std.specs.Prelude.{ℕ}
use Rattle.messaging.specs.declared.table.Messaging.{Messaging}
use Rattle.adapter_table.specs.declared.table.AdapterTable.{AdapterTable}

-- with another counter of connection ids
unfoldable pub messages_table : AdapterTable → (next_id : ℕ) → Messaging → AdapterTable
messages_table t next_id m = record t { next_id = next_id; messaging = m }

-- with the same one
abbrev pub with_messages : AdapterTable → Messaging → AdapterTable
with_messages t m = messages_table t t.next_id m
