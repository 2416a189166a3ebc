-- The connection of a message after a change of it: a message that was executed is a repetition from then on, and has the
-- reply that it had.
use Rattle.std.proofs.Common.{◌≡◌, ℕ, Bool, true, false, cond, List, [], ◌∷◌, find, Option, Some, refl, sym, ◌∙◌, ap, subst, arith}
use Rattle.std.proofs.lemmas.Bool.{and_parts}
use Rattle.std.proofs.lemmas.Bool.Decides.{nat_tests}
use Rattle.std.proofs.lemmas.Option.{same_Some}
use Rattle.base_lemmas.specs.Lists.{found_passes}
use Rattle.cip_types.specs.declared.names.ConnId.{ConnId}
use Rattle.cip_types.specs.declared.names.Ms.{Ms}
use Rattle.messaging.specs.declared.class3.Class3Connection.{Class3Connection}
use Rattle.messaging.specs.declared.table.Messaging.{Messaging}
use Rattle.messaging.specs.Changes.{executed, repeated}
use Rattle.messaging.specs.Class3Connections.{has_class3_id, is_on_stream, is_class3, first_changed, executed_class3, repeated_class3}
use Rattle.messaging.specs.Sound.{EachOf, EachTwoOf, IdsDiffer}

-- ---- the one that is found is the one that is changed

unlike : (id : ConnId) (first x : Class3Connection) → has_class3_id id first ≡ true → IdsDiffer first x → has_class3_id id x ≡ false
unlike id first x here apart = grind (arith, nat_tests)

none_later : (stream : ℕ) (id : ConnId) (first : Class3Connection) (rest : List Class3Connection) (d : Class3Connection) → has_class3_id id first ≡ true → EachOf (IdsDiffer first) rest → find (is_class3 stream id) rest ≡ Some d → has_class3_id id d ≡ false
none_later stream id first [] d here differ is = absurd cc
none_later stream id first (x ∷ rest) d here differ is =
    later_step (is_class3 stream id x) x d (find (is_class3 stream id) rest) (unlike id first x here differ.0) is (none_later stream id first rest d here differ.1)
  where
    later_step : (b : Bool) (x d : Class3Connection) (found : Option Class3Connection) → has_class3_id id x ≡ false → cond b (Some x) found ≡ Some d → (found ≡ Some d → has_class3_id id d ≡ false) → has_class3_id id d ≡ false
    later_step true x d found apart is later = subst (λ (y : Class3Connection). has_class3_id id y ≡ false) (same_Some x d is) apart
    later_step false x d found apart is later = later is

changed_step : (b c : Bool) (p test : Class3Connection → Bool) (f : Class3Connection → Class3Connection) (x d : Class3Connection) (rest new : List Class3Connection) → test x ≡ b → p x ≡ c → p (f x) ≡ p x → test d ≡ true → cond c (Some x) (find p rest) ≡ Some d → (find p rest ≡ Some d → find p new ≡ Some (f d)) → (test x ≡ true → find p rest ≡ Some d → true ≡ false) → find p (cond b (f x ∷ rest) (x ∷ new)) ≡ Some (f d)
changed_step true true p test f x d rest new tested passes same found is later never =
    rw (same ∙ passes) (ap (λ (y : Class3Connection). Some (f y)) (same_Some x d is))
changed_step true false p test f x d rest new tested passes same found is later never = absurd (let no = never tested is in cc)
changed_step false true p test f x d rest new tested passes same found is later never =
    let other : test d ≡ false = subst (λ (y : Class3Connection). test y ≡ false) (same_Some x d is) tested in
    absurd (let yes = found in cc)
changed_step false false p test f x d rest new tested passes same found is later never = rw passes (later is)

changed_found_by : (stream : ℕ) (id : ConnId) (test : Class3Connection → Bool) (f : Class3Connection → Class3Connection) → ((d : Class3Connection) → test d ≡ true → has_class3_id id d ≡ true) → ((d : Class3Connection) → is_class3 stream id (f d) ≡ is_class3 stream id d) → (class3_connections : List Class3Connection) (d : Class3Connection) → EachTwoOf IdsDiffer class3_connections → test d ≡ true → find (is_class3 stream id) class3_connections ≡ Some d → find (is_class3 stream id) (first_changed test f class3_connections) ≡ Some (f d)
changed_found_by stream id test f named keeps [] d differ tested is = absurd cc
changed_found_by stream id test f named keeps (x ∷ rest) d differ tested is =
    changed_step (test x) (is_class3 stream id x) (is_class3 stream id) test f x d rest (first_changed test f rest) refl refl (keeps x) tested is
    (changed_found_by stream id test f named keeps rest d differ.1 tested)
    (λ here found. sym (named d tested) ∙ none_later stream id x rest d (named x here) differ.0 found)

has_its_id : (stream : ℕ) (id : ConnId) (class3_connections : List Class3Connection) (d : Class3Connection) → find (is_class3 stream id) class3_connections ≡ Some d → has_class3_id id d ≡ true
has_its_id stream id class3_connections d is =
    let passes = and_parts (is_on_stream stream d) (has_class3_id id d) (found_passes (is_class3 stream id) class3_connections d is) in
    passes.1

-- ---- messages

-- a message that was executed is the last one, with its reply
pub executed_found : (m : Messaging) (stream : ℕ) (id : ConnId) (count : ℕ) (reply : List ℕ) (deadline : Ms) (d : Class3Connection) → EachTwoOf IdsDiffer m.class3_connections → find (is_class3 stream id) m.class3_connections ≡ Some d → find (is_class3 stream id) (executed m id count reply deadline).class3_connections ≡ Some (executed_class3 count reply deadline d)
unfolding executed
executed_found m stream id count reply deadline d differ is =
    changed_found_by stream id (has_class3_id id) (executed_class3 count reply deadline) (λ x has. has) (λ x. refl) m.class3_connections d differ (has_its_id stream id m.class3_connections d is) is

-- a repetition moves the deadline alone
pub repeated_found : (m : Messaging) (stream : ℕ) (id : ConnId) (deadline : Ms) (d : Class3Connection) → EachTwoOf IdsDiffer m.class3_connections → find (is_class3 stream id) m.class3_connections ≡ Some d → find (is_class3 stream id) (repeated m id deadline).class3_connections ≡ Some (repeated_class3 deadline d)
unfolding repeated
repeated_found m stream id deadline d differ is =
    changed_found_by stream id (has_class3_id id) (repeated_class3 deadline) (λ x has. has) (λ x. refl) m.class3_connections d differ (has_its_id stream id m.class3_connections d is) is
