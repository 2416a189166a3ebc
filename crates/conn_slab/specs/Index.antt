-- Items under the keys of a slab, and two indexes that lead to them: their names, in an order, and their
-- places. Each entry of an index leads to an item that leads back to it.
use Rattle.std.specs.Prelude.{◌≡◌, ℕ, Bool, true, List, Some}
use Rattle.std.specs.List.{AllByRecursion, IsDistinct, filter_map}
use Rattle.std.specs.Map.{lookup, keys_of}
use Rattle.slab.specs.Slab.{Slab, get}

module _ {Item Name Source : Type 0} (name_of : Item → Name) (same_name : Name → Name → Bool) (source_of : Item → Source) (same_source : Source → Source → Bool) where
  -- an entry of the names leads to an item of this name, whose place leads to the same key
  pub record IsNamed (slab : Slab Item) (sources : List (Source × ℕ)) (entry : Name × ℕ) : Type 0 where
    pub item : Item
    pub stored : get slab entry.1 ≡ Some item
    pub named : name_of item ≡ entry.0
    pub placed : lookup (same_source (source_of item)) sources ≡ Some entry.1

  -- a key under a place leads to an item of this place, whose name leads to the same key
  pub record IsPlaced (slab : Slab Item) (names : List (Name × ℕ)) (place : Source) (key : ℕ) : Type 0 where
    pub item : Item
    pub stored : get slab key ≡ Some item
    pub placed : source_of item ≡ place
    pub named : lookup (same_name (name_of item)) names ≡ Some key

  pub record IsIndexed (slab : Slab Item) (names : List (Name × ℕ)) (sources : List (Source × ℕ)) : Type 0 where
    pub distinct : IsDistinct same_name (keys_of names)
    pub by_name : AllByRecursion (IsNamed slab sources) names
    pub by_source : (place : Source) (key : ℕ) → lookup (same_source place) sources ≡ Some key → IsPlaced slab names place key

-- the items, in the order of their names
abbrev pub items_of : {Item Name : Type 0} → Slab Item → List (Name × ℕ) → List Item
items_of slab names = filter_map (λ entry. get slab entry.1) names

-- a test that holds of equal values alone, and of all of them
pub record IsExact {X : Type 0} (same : X → X → Bool) : Type 0 where
  pub only : (a b : X) → same a b ≡ true → a ≡ b
  pub all : (a : X) → same a a ≡ true
