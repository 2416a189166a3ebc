-- A stream that makes room is one of a group that may do so.
use Rattle.std.proofs.Common.{◌≡◌, ℕ, ◌&&◌, ◌||◌, nat_eq, not, Bool, true, false, cond, List, slice_index_or, Option, Some, None, refl, subst}
use Rattle.std.proofs.lemmas.List.Quantifiers.{position-Some}
use Rattle.cip_types.specs.declared.names.Node.{Node}
use Rattle.socket_port.specs.declared.rules.keeper.KeptStream.{KeptStream}
use Rattle.socket_port.specs.declared.rules.keeper.Place.{Place}
use Rattle.socket_port.specs.declared.rules.keeper.Place.TheVariants.{Free, Instead, Refused}
use Rattle.socket_port.specs.declared.rules.choice.Candidates.{Candidates}
use Rattle.socket_port.specs.declared.rules.choice.Candidates.TheVariants.{OwnWithoutSession, Own, WithoutSession, WithoutConnection, WithoutOutput}
use Rattle.socket_port.specs.Rules.Keeping.{count_of, earliest, first_at, last_in, instead_of, is_among, is_at, is_in, is_of, longest_silent, place_among, place_of_others}
use Rattle.socket_port.specs.Rules.Laws.{OwnersStay, may_make_room}

-- what may make room, by what is known of a stream and of the new one
abbrev may : (own registered owner connected first : Bool) → Bool
may own registered owner connected first = own || (not registered || (not owner && (not connected || first)))

own_first : (own registered owner connected first : Bool) → own && not registered ≡ true → may own registered owner connected first ≡ true
own_first true registered owner connected first is = refl
own_first false registered owner connected first is = absurd (let e = is in cc)

own_all : (own registered owner connected first : Bool) → own ≡ true → may own registered owner connected first ≡ true
own_all true registered owner connected first is = refl
own_all false registered owner connected first is = absurd (let e = is in cc)

no_session : (own registered owner connected first : Bool) → not registered ≡ true → may own registered owner connected first ≡ true
no_session true registered owner connected first is = refl
no_session false false owner connected first is = refl
no_session false true owner connected first is = absurd (let e = is in cc)

no_connection : (own registered owner connected first : Bool) → not connected && not owner ≡ true → may own registered owner connected first ≡ true
no_connection true registered owner connected first is = refl
no_connection false false owner connected first is = refl
no_connection false true false false first is = refl
no_connection false true true false first is = absurd (let e = is in cc)
no_connection false true owner true first is = absurd (let e = is in cc)

no_output : (own registered owner connected first : Bool) → not owner ≡ true → first ≡ true → may own registered owner connected first ≡ true
no_output true registered owner connected first is one = refl
no_output false false owner connected first is one = refl
no_output false true false false true is one = refl
no_output false true false true true is one = refl
no_output false true true connected first is one = absurd (let e = is in cc)
no_output false true false connected false is one = absurd (let e = one in cc)

-- a group may make room: the last one only for the first stream of an address
abbrev MayMakeRoom : Candidates → Bool → Type 0
MayMakeRoom WithoutOutput first = first ≡ true
MayMakeRoom group first = Unit

-- a stream of each group that may make room may do so
may_in : (group : Candidates) (peer : Node) (connected owners : List Node) (streams : List (Option KeptStream)) (stream : KeptStream) → MayMakeRoom group (nat_eq (count_of peer 0 streams) 0) → is_in group peer connected owners stream ≡ true → may_make_room peer connected owners streams stream ≡ true
may_in OwnWithoutSession peer connected owners streams stream allowed is = own_first (is_of peer stream) stream.registered (is_among owners stream) (is_among connected stream) (nat_eq (count_of peer 0 streams) 0) is
may_in Own peer connected owners streams stream allowed is = own_all (is_of peer stream) stream.registered (is_among owners stream) (is_among connected stream) (nat_eq (count_of peer 0 streams) 0) is
may_in WithoutSession peer connected owners streams stream allowed is = no_session (is_of peer stream) stream.registered (is_among owners stream) (is_among connected stream) (nat_eq (count_of peer 0 streams) 0) is
may_in WithoutConnection peer connected owners streams stream allowed is = no_connection (is_of peer stream) stream.registered (is_among owners stream) (is_among connected stream) (nat_eq (count_of peer 0 streams) 0) is
may_in WithoutOutput peer connected owners streams stream allowed is = no_output (is_of peer stream) stream.registered (is_among owners stream) (is_among connected stream) (nat_eq (count_of peer 0 streams) 0) is allowed

last_if : (b : Bool) (ms last : ℕ) → is_at ms (cond b (Some last) None) ≡ true → b ≡ true
last_if true ms last is = refl
last_if false ms last is = absurd (let e = is in cc)

first_in : (group : Candidates) (peer : Node) (connected owners : List Node) (streams : List (Option KeptStream)) (number : ℕ) (stream : KeptStream) (best : Option ℕ) → first_at (last_in group peer connected owners) best streams ≡ Some number → slice_index_or streams number None ≡ Some stream → is_in group peer connected owners stream ≡ true
first_in group peer connected owners streams number stream None found is = absurd (let e = found in cc)
first_in group peer connected owners streams number stream (Some ms) found is =
    let there = position-Some (λ slot. is_at ms (last_in group peer connected owners slot)) streams number None found in
    last_if (is_in group peer connected owners stream) ms stream.last_ms (subst (λ slot. is_at ms (last_in group peer connected owners slot) ≡ true) is there.1)

-- the stream that was chosen of a group is one of it
chosen_in : (group : Candidates) (peer : Node) (connected owners : List Node) (streams : List (Option KeptStream)) (number : ℕ) (stream : KeptStream) → MayMakeRoom group (nat_eq (count_of peer 0 streams) 0) → slice_index_or streams number None ≡ Some stream → longest_silent group peer connected owners streams ≡ Some number → may_make_room peer connected owners streams stream ≡ true
chosen_in group peer connected owners streams number stream allowed is found =
    may_in group peer connected owners streams stream allowed (first_in group peer connected owners streams number stream (earliest (last_in group peer connected owners) None streams) found is)

-- one of two choices, or a place that is one
either : (P : Type 0) (first : Option ℕ) (other : Place) (number : ℕ) → (first ≡ Some number → P) → (other ≡ Instead number → P) → instead_of first other ≡ Instead number → P
either P (Some n) other number f g is = f (let e = is in cc)
either P None other number f g is = g is

place_in : (P : Type 0) (many free first : Bool) (own newcomer more : Place) (number : ℕ) → (own ≡ Instead number → P) → (first ≡ true → newcomer ≡ Instead number → P) → (more ≡ Instead number → P) → cond many own (cond free Free (cond first newcomer more)) ≡ Instead number → P
place_in P true free first own newcomer more number f g h is = f is
place_in P false true first own newcomer more number f g h is = absurd (let e = is in cc)
place_in P false false true own newcomer more number f g h is = g refl is
place_in P false false false own newcomer more number f g h is = h is

among_may : (first second : Candidates) (peer : Node) (connected owners : List Node) (streams : List (Option KeptStream)) (number : ℕ) (stream : KeptStream) → MayMakeRoom first (nat_eq (count_of peer 0 streams) 0) → MayMakeRoom second (nat_eq (count_of peer 0 streams) 0) → slice_index_or streams number None ≡ Some stream → place_among first second peer connected owners streams ≡ Instead number → may_make_room peer connected owners streams stream ≡ true
among_may first second peer connected owners streams number stream one two is placed =
    either (may_make_room peer connected owners streams stream ≡ true) (longest_silent first peer connected owners streams) (instead_of (longest_silent second peer connected owners streams) Refused) number
    (chosen_in first peer connected owners streams number stream one is)
    (either (may_make_room peer connected owners streams stream ≡ true) (longest_silent second peer connected owners streams) Refused number
    (chosen_in second peer connected owners streams number stream two is)
    (λ refused. absurd (let e = refused in cc)))
    placed

others_may : (last : Candidates) (peer : Node) (connected owners : List Node) (streams : List (Option KeptStream)) (number : ℕ) (stream : KeptStream) → MayMakeRoom last (nat_eq (count_of peer 0 streams) 0) → slice_index_or streams number None ≡ Some stream → place_of_others last peer connected owners streams ≡ Instead number → may_make_room peer connected owners streams stream ≡ true
others_may last peer connected owners streams number stream allowed is placed =
    either (may_make_room peer connected owners streams stream ≡ true) (longest_silent WithoutSession peer connected owners streams) (place_among WithoutConnection last peer connected owners streams) number
    (chosen_in WithoutSession peer connected owners streams number stream tt is)
    (among_may WithoutConnection last peer connected owners streams number stream tt allowed is)
    placed

pub owners_stay : OwnersStay
owners_stay peer connected owners streams number stream placed is =
    place_in (may_make_room peer connected owners streams stream ≡ true) _ _ (nat_eq (count_of peer 0 streams) 0)
    (place_among OwnWithoutSession Own peer connected owners streams)
    (place_of_others WithoutOutput peer connected owners streams)
    (place_of_others WithoutConnection peer connected owners streams)
    number
    (among_may OwnWithoutSession Own peer connected owners streams number stream tt tt is)
    (λ first. others_may WithoutOutput peer connected owners streams number stream first is)
    (others_may WithoutConnection peer connected owners streams number stream tt is)
    placed
