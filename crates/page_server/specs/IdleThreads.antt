-- Where a page is served, and who is served by threads that each serve one browser at a time.
use Rattle.std.specs.Prelude.{ℕ, ◌≡◌, ◌+◌, ◌-◌, ◌^◌, min, nat_lt, unwrap_or, Bool, true, false, List, [], ◌∷◌, ◌++◌, length, Option, Some, None}
use Rattle.cip_types.specs.declared.names.Node.{Node}
use Rattle.page_server.specs.declared.idle_threads.Offered.{Offered}
use Rattle.page_server.specs.declared.idle_threads.Offered.TheVariants as offered

-- WHERE

-- this host alone: 127.0.0.1
abbrev pub this_host : Node
this_host = record { 0 = 0x7F000001 }

-- the address that was chosen, or else that of this host alone
abbrev pub page_node : Option Node → Node
page_node chosen = unwrap_or chosen this_host

-- WHO

-- how many threads wait for somebody, and who waits for one of them, in the order in which they came
pub record IdleThreads (T : Type 0) : Type 0 where
  pub idle : ℕ
  pub waiting : List T

abbrev pub fresh_threads : {T : Type 0} → IdleThreads T
fresh_threads = record { idle = 0; waiting = [] }

-- a thread waits that nobody waits for
abbrev pub has_thread : {T : Type 0} → IdleThreads T → Bool
has_thread threads = nat_lt (length threads.waiting) threads.idle

-- What became of somebody who came: it waits behind the others, or is turned away and nothing changes. For want of a thread it is
-- turned away only if no thread waits that nobody waits for.
abbrev pub WasOffered : {T : Type 0} → IdleThreads T → T → Offered T → IdleThreads T → Type 0
WasOffered old one offered.Taken new = (has_thread old ≡ true) × (new ≡ record old { waiting = old.waiting ++ one ∷ [] })
WasOffered old one (offered.Full back) new = (has_thread old ≡ false) × ((back ≡ one) × (new ≡ old))
WasOffered old one (offered.OutOfMemory back) new = (back ≡ one) × (new ≡ old)

-- a thread begins to wait
abbrev pub with_idle : {T : Type 0} → IdleThreads T → IdleThreads T
with_idle threads = record threads { idle = min (threads.idle + 1) (2 ^ 64 - 1) }

-- who came first
abbrev pub first_of : {T : Type 0} → List T → Option T
first_of [] = None
first_of (one ∷ others) = Some one

abbrev pub after_of : {T : Type 0} → IdleThreads T → List T → IdleThreads T
after_of threads [] = threads
after_of threads (one ∷ others) = record { idle = threads.idle - 1; waiting = others }

-- a thread that waits takes it
abbrev pub after_call : {T : Type 0} → IdleThreads T → IdleThreads T
after_call threads = after_of threads threads.waiting
