-- Streams open, and end, and sessions are registered on them: their numbers differ, and they stay few.
use Rattle.std.proofs.Common.{◌≡◌, ◌≤◌, ℕ, ◌+◌, Bool, true, false, cond, ◌||◌, nat_le, List, [], ◌∷◌, ◌++◌, length, map, filter, refl, ap, arith, length-append}
use Rattle.std.specs.List.{list_any}
use Rattle.std.proofs.lemmas.Bool.Decides.{nat_tests}
use Rattle.std.proofs.lemmas.Bool.{or_parts}
use Rattle.std.proofs.lemmas.Grind.{common_steps}
use Rattle.std.proofs.lemmas.List.Folds.{list_any-append}
use Rattle.base_lemmas.specs.Numbers.{other_number}
use Rattle.adapter_table.specs.declared.table.Stream.{Stream}
use Rattle.adapter_table.specs.Streams.{is_stream, is_taken, registered_stream}
use Rattle.adapter_table.specs.Sound.{StreamsDiffer}

-- ---- a stream opens

-- a stream of this number can be opened
pub record HasCapacity (streams : List Stream) (number : ℕ) : Type 0 where
  pub free : list_any (is_stream number) streams ≡ false
  pub capacity : length streams + 1 ≤ 16

pub has_capacity : (streams : List Stream) (number : ℕ) → is_taken streams number ≡ false → HasCapacity streams number
has_capacity streams number free =
    let parts = or_parts (list_any (is_stream number) streams) (nat_le 16 (length streams)) free in
    record { free = parts.0; capacity = grind (arith, nat_tests, parts.1) }

pub few_with : (streams : List Stream) (stream : Stream) → length streams + 1 ≤ 16 → length (streams ++ stream ∷ []) ≤ 16
few_with streams stream capacity = simp length-append (omega arith)

pub differ_with : (streams : List Stream) (new : Stream) → StreamsDiffer streams → list_any (is_stream new.number) streams ≡ false → StreamsDiffer (streams ++ new ∷ [])
differ_with [] new differ none = (refl, tt)
differ_with (stream ∷ streams) new differ none =
    let parts = or_parts (is_stream new.number stream) (list_any (is_stream new.number) streams) none in
    (rw (list_any-append (is_stream stream.number) streams (new ∷ []), differ.0, other_number stream.number new.number parts.0) refl, differ_with streams new differ.1 parts.1)

-- ---- a stream ends

pub few_left : (p : Stream → Bool) (streams : List Stream) → length (filter p streams) ≤ length streams
few_left p [] = omega arith
few_left p (stream ∷ streams) = grind (arith, common_steps, few_left p streams)

any_left : (p q : Stream → Bool) (streams : List Stream) → list_any q streams ≡ false → list_any q (filter p streams) ≡ false
any_left p q [] none = refl
any_left p q (stream ∷ streams) none =
    let parts = or_parts (q stream) (list_any q streams) none in
    grind (arith, common_steps, parts, any_left p q streams parts.1)

pub differ_left : (p : Stream → Bool) (streams : List Stream) → StreamsDiffer streams → StreamsDiffer (filter p streams)
differ_left p [] differ = tt
differ_left p (stream ∷ streams) differ =
    elim (p stream) as (λ b. StreamsDiffer (cond b (stream ∷ filter p streams) (filter p streams))) [
      | true ↦ (any_left p (is_stream stream.number) streams differ.0, differ_left p streams differ.1)
      | false ↦ differ_left p streams differ.1
    ]

-- ---- a session begins

same_number : (b : Bool) (stream : Stream) → (cond b (record stream { registered = true }) stream).number ≡ stream.number
same_number true stream = refl
same_number false stream = refl

any_registered : (number other : ℕ) (streams : List Stream) → list_any (is_stream other) (map (registered_stream number) streams) ≡ list_any (is_stream other) streams
any_registered number other [] = refl
any_registered number other (stream ∷ streams) =
    rw (same_number (is_stream number stream) stream) (ap (λ b. is_stream other stream || b) (any_registered number other streams))

pub differ_registered : (number : ℕ) (streams : List Stream) → StreamsDiffer streams → StreamsDiffer (map (registered_stream number) streams)
differ_registered number [] differ = tt
differ_registered number (stream ∷ streams) differ =
    (rw (same_number (is_stream number stream) stream, any_registered number stream.number streams) differ.0, differ_registered number streams differ.1)
