-- What is known of one history among several.
use Rattle.std.proofs.Common.{◌≡◌, ℕ, zero, suc, cond, List, [], ◌∷◌, map, length, position, set, slice_get, slice_index, get_or, not, nat_lt, ◌+◌, ◌<◌, Option, Some, None, refl, sym, ◌∙◌, ap, arith}
use Rattle.std.specs.List.{prefix_len}
use Rattle.device_lock.specs.Histories.{HistoryValue}
use Rattle.cip_events.specs.declared.profile_fault.ProfileFault.{ProfileFault}
use Rattle.cip_tables.specs.Step.{config_fault}
use Rattle.segment_world.specs.Configs.{fault_or, first_fault}
use Rattle.settling.specs.Search.Histories.{byte_in, bytes_of, configs_of, events_in, events_of_all, has_node, nodes_of}
use Rattle.settling.specs.Search.Openings.{has_address}
use Rattle.settling.specs.Search.Schedules.{history}
use Rattle.settling.specs.Search.Lemmas.Cases.{some_is, none_some}

pub history_none : (hs : List HistoryValue) (i : ℕ) → slice_get hs i ≡ None → history (events_of_all hs) i ≡ []
history_none [] i is = refl
history_none (h ∷ hs) zero is = absurd (let e = is in cc)
history_none (h ∷ hs) (suc i) is = history_none hs i is

pub history_some : (hs : List HistoryValue) (i : ℕ) (h : HistoryValue) → slice_get hs i ≡ Some h → history (events_of_all hs) i ≡ h.events
history_some [] i h is = none_some h is
history_some (x ∷ hs) zero h is = ap (λ (x : HistoryValue). x.events) (some_is x h is)
history_some (x ∷ hs) (suc i) h is = history_some hs i h is

pub byte_none : (hs : List HistoryValue) (i : ℕ) → slice_get hs i ≡ None → slice_index (bytes_of hs) i ≡ 0
byte_none [] i is = refl
byte_none (h ∷ hs) zero is = absurd (let e = is in cc)
byte_none (h ∷ hs) (suc i) is = byte_none hs i is

pub byte_some : (hs : List HistoryValue) (i : ℕ) (h : HistoryValue) → slice_get hs i ≡ Some h → slice_index (bytes_of hs) i ≡ byte_in h
byte_some [] i h is = none_some h is
byte_some (x ∷ hs) zero h is = ap byte_in (some_is x h is)
byte_some (x ∷ hs) (suc i) h is = byte_some hs i h is

pub length_all : {X Y : Type 0} (f : X → Y) (xs : List X) → length (map f xs) ≡ length xs
length_all f [] = refl
length_all f (x ∷ xs) = ap suc (length_all f xs)

pub length_set : {X : Type 0} (xs : List X) (i : ℕ) (x : X) → length (set xs i x) ≡ length xs
length_set [] i x = refl
length_set (y ∷ ys) zero x = refl
length_set (y ∷ ys) (suc i) x = ap suc (length_set ys i x)

pub listed : (hs : List HistoryValue) (i : ℕ) → i < length hs → i < length (events_of_all hs)
listed hs i lt = omega (arith, length_all events_in hs, lt)

pub history_at : (hs : List HistoryValue) (i : ℕ) (h : HistoryValue) → i < length hs → h ≡ get_or hs i h → history (events_of_all hs) i ≡ h.events
history_at [] i h lt is = absurd (omega arith)
history_at (x ∷ hs) zero h lt is = ap (λ (y : HistoryValue). y.events) (sym is)
history_at (x ∷ hs) (suc i) h lt is = history_at hs i h (omega arith) is

none_or : (first later : Option ProfileFault) → fault_or first later ≡ None → (first ≡ None) × (later ≡ None)
none_or None later is = (refl, is)
none_or (Some fault) later is = none_some fault (sym is)

pub valid_at : (hs : List HistoryValue) (i : ℕ) (h : HistoryValue) → first_fault (configs_of hs) ≡ None → i < length hs → h ≡ get_or hs i h → config_fault h.config ≡ None
unfolding first_fault
valid_at [] i h none lt is = absurd (omega arith)
valid_at (x ∷ hs) zero h none lt is = ap (λ (y : HistoryValue). config_fault y.config) is ∙ (none_or (config_fault x.config) (first_fault (configs_of hs)) none).0
valid_at (x ∷ hs) (suc i) h none lt is = valid_at hs i h (none_or (config_fault x.config) (first_fault (configs_of hs)) none).1 (omega arith) is

-- the device of an address, among the addresses
first_node : (address : ℕ) (hs : List HistoryValue) → prefix_len (λ h. not (has_node address h)) hs ≡ prefix_len (λ n. not (has_address address n)) (nodes_of hs)
first_node address [] = refl
first_node address (h ∷ hs) = ap (λ k. cond (not (has_node address h)) (1 + k) 0) (first_node address hs)

length_nodes : (hs : List HistoryValue) → length hs ≡ length (nodes_of hs)
length_nodes [] = refl
length_nodes (h ∷ hs) = ap suc (length_nodes hs)

pub position_node : (address : ℕ) (hs : List HistoryValue) → position (has_node address) hs ≡ position (has_address address) (nodes_of hs)
position_node address hs =
    let found = prefix_len (λ n. not (has_address address n)) (nodes_of hs) in
    ap (λ k. cond (nat_lt k (length hs)) (Some k) None) (first_node address hs) ∙ ap (λ n. cond (nat_lt found n) (Some found) None) (length_nodes hs)
