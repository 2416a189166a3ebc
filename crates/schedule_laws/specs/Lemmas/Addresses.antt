-- The devices of a world keep the nodes of their profiles, and each production has a device that made it.
use Rattle.std.proofs.Common.{◌≡◌, ◌≢◌, ℕ, zero, suc, ◌==◌, List, [], ◌∷◌, ◌++◌, map, slice_get, slice_index_or, Some, refl, sym, ◌∙◌, ap, subst, false}
use Rattle.std.specs.List.{AllByRecursion, list_any}
use Rattle.std.proofs.lemmas.Bool.{or_parts, eqb-false}
use Rattle.std.proofs.lemmas.Option.{same_Some}
use Rattle.cip_types.specs.declared.names.Node.{Node}
use Rattle.cip_tables.specs.declared.table.Config.{Config}
use Rattle.cip_tables.specs.declared.table.DeviceTable.{DeviceTable}
use Rattle.cip_tables.specs.Step.{opening_table, node_of}
use Rattle.segment_world.specs.Configs.{node_of_config, opening_world, any_twice, key_in}
use Rattle.segment_world.specs.declared.configs.DeviceKey.TheVariants.{Address}
use Rattle.segment_world.specs.World.{World, node_at}
use Rattle.device_laws.specs.Lemmas.Lists.{all_both, all_more}
use Rattle.device_laws.specs.Made.{Made}
use Rattle.device_laws.specs.Productions.{Production, numbered, produced_more}
use Rattle.schedule_laws.specs.Lives.{DifferInAddress}
use Rattle.schedule_laws.specs.Lemmas.Entries.{nodes_same, Later, IsDeviceIn, device_later}

-- each device has the node of its profile, and each production a device that made it
pub record HaveNodes (w : World) (produced : List Production) : Type 0 where
  pub named : (a : ℕ) (t : DeviceTable) → slice_get w.tables a ≡ Some t → slice_get w.nodes a ≡ Some (node_of t)
  pub makers : AllByRecursion (λ (p : Production). IsDeviceIn w p.producer.device) produced

-- ---- later on

makers_more : (w : World) (device : ℕ) (ms : List Made) (produced : List Production) → IsDeviceIn w device → AllByRecursion (λ (p : Production). IsDeviceIn w p.producer.device) produced → AllByRecursion (λ (p : Production). IsDeviceIn w p.producer.device) (produced_more device produced ms)
makers_more w device [] produced there all = all
makers_more w device (m ∷ ms) produced there all =
    makers_more w device ms (produced ++ numbered device produced m ∷ []) there (all_both (λ (p : Production). IsDeviceIn w p.producer.device) produced (numbered device produced m ∷ []) all (there, tt))

pub nodes_later : (w new : World) (produced : List Production) → Later w new → HaveNodes w produced → HaveNodes new produced
nodes_later w new produced later have = record {
  named = λ a t at.
      let x = later.back a t at in
      ap (λ (nodes : List Node). slice_get nodes a) later.nodes ∙ have.named a x.0 x.1 ∙ ap Some (sym (nodes_same x.0 t x.2));
  makers = all_more (λ (p : Production). IsDeviceIn w p.producer.device) (λ (p : Production). IsDeviceIn new p.producer.device) (λ p is. device_later w new p.producer.device later is) produced have.makers;
}

pub nodes_more : (w : World) (device : ℕ) (ms : List Made) (produced : List Production) → IsDeviceIn w device → HaveNodes w produced → HaveNodes w (produced_more device produced ms)
nodes_more w device ms produced there have = record { named = have.named; makers = makers_more w device ms produced there have.makers }

-- ---- at the beginning

named_all : (configs : List Config) (a : ℕ) (t : DeviceTable) → slice_get (map opening_table configs) a ≡ Some t → slice_get (map node_of_config configs) a ≡ Some (node_of t)
named_all [] a t at = absurd (let e = at in cc)
named_all (made ∷ configs) zero t at = ap (λ (x : DeviceTable). Some (node_of x)) (same_Some (opening_table made) t at)
named_all (made ∷ configs) (suc a) t at = named_all configs a t at

pub opening_nodes : (configs : List Config) → HaveNodes (opening_world configs) []
opening_nodes configs = record { named = λ a t at. named_all configs a t at; makers = tt }

-- ---- what it says

node_there : (nodes : List Node) (a : ℕ) (n other : Node) → slice_get nodes a ≡ Some n → slice_index_or nodes a other ≡ n
node_there [] a n other at = absurd (let e = at in cc)
node_there (node ∷ nodes) zero n other at = same_Some node n at
node_there (node ∷ nodes) (suc a) n other at = node_there nodes a n other at

-- the node at a device's place is that of its profile
pub own_node : (w : World) (produced : List Production) (a : ℕ) (t : DeviceTable) → HaveNodes w produced → slice_get w.tables a ≡ Some t → node_at w a ≡ node_of t
own_node w produced a t have at = node_there w.nodes a (node_of t) (record { 0 = 0 }) (have.named a t at)

-- no later configuration has the address of this one
none_later : (made : Config) (configs : List Config) (device : ℕ) (n : Node) → list_any (λ other. key_in Address other == key_in Address made) configs ≡ false → slice_get (map node_of_config configs) device ≡ Some n → n.0 ≢ (node_of_config made).0
none_later made [] device n none at = absurd (let e = at in cc)
none_later made (other ∷ configs) zero n none at =
    let parts = or_parts (key_in Address other == key_in Address made) (list_any (λ x. key_in Address x == key_in Address made) configs) none in
    subst (λ (x : Node). x.0 ≢ (node_of_config made).0) (same_Some (node_of_config other) n at) (eqb-false _ _ parts.0)
none_later made (other ∷ configs) (suc device) n none at =
    none_later made configs device n (or_parts (key_in Address other == key_in Address made) (list_any (λ x. key_in Address x == key_in Address made) configs) none).1 at

nodes_differ : (configs : List Config) (a b : ℕ) (n m : Node) → DifferInAddress configs → slice_get (map node_of_config configs) a ≡ Some n → slice_get (map node_of_config configs) b ≡ Some m → n.0 ≡ m.0 → a ≡ b
unfolding any_twice
nodes_differ [] a b n m once at_a at_b same = absurd (let e = at_a in cc)
nodes_differ (made ∷ configs) zero zero n m once at_a at_b same = refl
nodes_differ (made ∷ configs) zero (suc b) n m once at_a at_b same =
    let parts = or_parts (list_any (λ other. key_in Address other == key_in Address made) configs) (any_twice Address configs) once in
    absurd (none_later made configs b m parts.0 at_b (sym same ∙ sym (ap (λ (x : Node). x.0) (same_Some (node_of_config made) n at_a))))
nodes_differ (made ∷ configs) (suc a) zero n m once at_a at_b same =
    let parts = or_parts (list_any (λ other. key_in Address other == key_in Address made) configs) (any_twice Address configs) once in
    absurd (none_later made configs a n parts.0 at_a (same ∙ sym (ap (λ (x : Node). x.0) (same_Some (node_of_config made) m at_b))))
nodes_differ (made ∷ configs) (suc a) (suc b) n m once at_a at_b same =
    let parts = or_parts (list_any (λ other. key_in Address other == key_in Address made) configs) (any_twice Address configs) once in
    ap suc (nodes_differ configs a b n m parts.1 at_a at_b same)

-- where no two configurations have one address, no two devices of a later world have one
pub tables_differ : (configs : List Config) (w : World) (produced : List Production) (a b : ℕ) (t u : DeviceTable) → DifferInAddress configs → w.nodes ≡ (opening_world configs).nodes → HaveNodes w produced → slice_get w.tables a ≡ Some t → slice_get w.tables b ≡ Some u → (node_of t).0 ≡ (node_of u).0 → a ≡ b
tables_differ configs w produced a b t u once nodes have at_a at_b same =
    nodes_differ configs a b (node_of t) (node_of u) once
    (ap (λ (ns : List Node). slice_get ns a) (sym nodes) ∙ have.named a t at_a)
    (ap (λ (ns : List Node). slice_get ns b) (sym nodes) ∙ have.named b u at_b) same
