-- The connections by the values of the index of triads.
use Rattle.std.proofs.Common.{◌≡◌, ℕ, List, [], ◌∷◌, Option, Some, None, refl, sym, ap, subst}
use Rattle.std.specs.List.{AllByRecursion, filter_map, cons_option}
use Rattle.std.specs.Map.{values_of}
use Rattle.slab.specs.Slab.{Slab, get}
use Rattle.mcast_pool.specs.declared.group.Group.{Group}
use Rattle.conn_slab.specs.declared.record.TriadKey.{TriadKey}
use Rattle.conn_slab.specs.declared.record.Source.{Source}
use Rattle.conn_slab.specs.Index.{IsNamed, items_of}
use Rattle.conn_slab.specs.Records.{Record, key_of, same_key, source_of, same_source}
use Rattle.conn_slab.specs.Layout.{IsConsistent, IsServed, IsStored, Leads, LeadsTo}
use Rattle.conn_slab.proofs.RowLemmas.{live}

pub values_items : (slab : Slab Record) (triads : List (TriadKey × ℕ)) → filter_map (get slab) (values_of triads) ≡ items_of slab triads
values_items slab [] = refl
values_items slab (e ∷ es) = ap (cons_option (get slab e.1)) (values_items slab es)

leads : (slab : Slab Record) (sources : List (Source × ℕ)) (pool : List Group) (triads : List (TriadKey × ℕ)) → AllByRecursion (IsNamed key_of same_key source_of same_source slab sources) triads → AllByRecursion (IsServed pool) (items_of slab triads) → AllByRecursion (Leads slab pool) (values_of triads)
leads slab sources pool [] named served = tt
leads slab sources pool (e ∷ es) named served =
    let here : AllByRecursion (IsServed pool) (named.0.item ∷ items_of slab es) = rw named.0.stored at served in
    (subst (LeadsTo pool) (sym named.0.stored) (live pool named.0.item named.0.item.state here.0), leads slab sources pool es named.1 here.1)

pub all_lead : (slab : Slab Record) (triads : List (TriadKey × ℕ)) (sources : List (Source × ℕ)) (pool : List Group) → IsConsistent slab triads sources pool → AllByRecursion (Leads slab pool) (values_of triads)
all_lead slab triads sources pool consistent = leads slab sources pool triads consistent.filed.by_name consistent.balanced.served

lead_stored : (slab : Slab Record) (pool : List Group) (key : ℕ) (found : Option Record) → get slab key ≡ found → LeadsTo pool found → IsStored slab key
lead_stored slab pool key None is leads = absurd leads
lead_stored slab pool key (Some r) is leads = rw is refl

stored : (slab : Slab Record) (pool : List Group) (keys : List ℕ) → AllByRecursion (Leads slab pool) keys → AllByRecursion (IsStored slab) keys
stored slab pool [] lead = tt
stored slab pool (key ∷ keys) lead = (lead_stored slab pool key (get slab key) refl lead.0, stored slab pool keys lead.1)

pub all_stored : (slab : Slab Record) (triads : List (TriadKey × ℕ)) (sources : List (Source × ℕ)) (pool : List Group) → IsConsistent slab triads sources pool → AllByRecursion (IsStored slab) (values_of triads)
all_stored slab triads sources pool consistent = stored slab pool (values_of triads) (all_lead slab triads sources pool consistent)
