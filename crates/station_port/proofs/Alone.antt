-- A walk over the items behind a request, and a message that has none.
use Rattle.std.proofs.Common.{◌≡◌, ℕ, ◌+◌, ◌-◌, ◌<◌, ◌≤◌, Bool, true, false, cond, List, drop, Option, Some, None, suc, refl, ap, ◌∙◌, arith}
use Rattle.std.specs.Int.{w16}
use Rattle.cip_types.specs.Parts.{number_in}
use Rattle.cip_encap.specs.AnyItems.{behind_item}
use Rattle.station_port.specs.declared.named_ports.named.NamedPort.{NamedPort}
use Rattle.station_port.specs.NamedPorts.Naming.{any_opening_len, named_after, named_among, named_behind, named_first, named_port, or_else}

-- one of the items is at the front
at_front : (n i : ℕ) (bytes : List ℕ) → i < n → named_among (n - i) bytes ≡ or_else (named_first bytes) (named_after (named_among (n - (i + 1))) (behind_item bytes))
unfolding named_among
at_front n i bytes lt = let one : n - i ≡ suc (n - (i + 1)) = omega (arith, lt) in ap (λ (k : ℕ). named_among k bytes) one

or_none : (x y other : Option NamedPort) → x ≡ None → y ≡ other → or_else x y ≡ other
or_none x y other none is = rw none is

or_some : (x y : Option NamedPort) (named : NamedPort) → x ≡ Some named → or_else x y ≡ x
or_some x y named is = rw is refl

-- the item at the front names a port
pub among_first : (n i : ℕ) (bytes : List ℕ) (named : NamedPort) → i < n → named_first bytes ≡ Some named → named_among (n - i) bytes ≡ named_first bytes
among_first n i bytes named lt is = at_front n i bytes lt ∙ or_some _ _ named is

-- it names none, and others are behind it
pub among_more : (n i : ℕ) (bytes after : List ℕ) → i < n → named_first bytes ≡ None → behind_item bytes ≡ Some after → named_among (n - i) bytes ≡ named_among (n - (i + 1)) after
among_more n i bytes after lt none is =
    at_front n i bytes lt ∙ or_none (named_first bytes) _ _ none (ap (named_after (named_among (n - (i + 1)))) is)

-- it names none, and is none
pub among_stop : (n i : ℕ) (bytes : List ℕ) → i < n → named_first bytes ≡ None → behind_item bytes ≡ None → named_among (n - i) bytes ≡ None
among_stop n i bytes lt none is =
    at_front n i bytes lt ∙ or_none (named_first bytes) _ _ none (ap (named_after (named_among (n - (i + 1)))) is)

-- no item is left
pub among_end : (n i : ℕ) (bytes : List ℕ) → n ≤ i → named_among (n - i) bytes ≡ None
unfolding named_among
among_end n i bytes le = let none : n - i ≡ 0 = omega (arith, le) in ap (λ (k : ℕ). named_among k bytes) none

none_behind : (message : List ℕ) (len : Option ℕ) → number_in w16 message 30 ≡ 2 → named_behind message len ≡ None
unfolding named_among
none_behind message None two = refl
none_behind message (Some len) two = ap (λ (n : ℕ). named_among (n - 2) (drop len (drop 40 message))) two

either_none : (far : Bool) (x : Option NamedPort) → x ≡ None → cond far None x ≡ None
either_none true x none = refl
either_none false x none = none

-- a message with two items names no port
pub no_port : (message : List ℕ) → number_in w16 message 30 ≡ 2 → named_port message ≡ None
unfolding named_port
no_port message two = either_none _ _ (none_behind message (any_opening_len message) two)
