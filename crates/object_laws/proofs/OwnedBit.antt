-- The owned bit of the status word.
use Rattle.std.proofs.Common.{◌≡◌, ◌≤◌, ℕ, ◌+◌, ◌*◌, ◌%◌, ◌==◌, ◌&&◌, ◌||◌, Bool, true, false, cond, List, [], ◌∷◌, length, find, is_some, refl, sym, ◌∙◌, arith}
use Rattle.std.specs.List.{list_any}
use Rattle.std.proofs.lemmas.Bool.{and_parts, or_right}
use Rattle.base_lemmas.specs.Numbers.{number_same}
use Rattle.cip_productions.specs.Kinds.{is_owner}
use Rattle.adapter_table.specs.Connections.{Row}
use Rattle.adapter_table.specs.declared.profile.Profile.{Profile}
use Rattle.adapter_table.specs.declared.table.AdapterTable.{AdapterTable}
use Rattle.adapter_table.specs.Objects.{bit, is_owning, io_state_of, connection_status, is_configured, status_word}
use Rattle.adapter_table.specs.Profiles.{is_output_at}
use Rattle.adapter_table.specs.Rows.{is_established, drives, drivers}
use Rattle.adapter_table.specs.Whole.{ConsumesOutput, OwnersConsume, IsWhole}
use Rattle.object_laws.specs.Identities.{HasOwner, OwnedBitSaysOwners}

-- ---- the bit

lowest_bit : (owned configured : Bool) (state : ℕ) → (bit owned 1 + (bit configured 4 + 16 * state)) % 2 ≡ bit owned 1
lowest_bit true true state = omega arith
lowest_bit true false state = omega arith
lowest_bit false true state = omega arith
lowest_bit false false state = omega arith

word_bit : (t : AdapterTable) → status_word t % 2 ≡ bit (list_any is_owning t.rows) 1
unfolding status_word
word_bit t = lowest_bit (list_any is_owning t.rows) (is_configured t) (connection_status (io_state_of t.rows))

bit_set : (b : Bool) → bit b 1 ≡ 1 → b ≡ true
bit_set true is = refl
bit_set false is = absurd (let e : 0 ≡ 1 = is in omega (arith, e))

-- ---- from the connections to an owner

-- an output with a driver
record Driven (profile : Profile) (rows : List Row) : Type 0 where
  point : ℕ
  output : is_some (find (is_output_at point) profile.outputs) ≡ true
  some : 1 ≤ length (drivers point rows)

longer : (b : Bool) (row : Row) (rows : List Row) → 1 ≤ length rows → 1 ≤ length (cond b (row ∷ rows) rows)
longer true row rows some = omega arith
longer false row rows some = some

owning_drives : (row : Row) → is_owning row ≡ true → drives row.consumed row ≡ true
owning_drives row is =
    let parts = and_parts (is_established row) (is_owner row.kind) is in
    rw (parts.0, parts.1, number_same row.consumed) refl

driven_first : (profile : Profile) (row : Row) (rows : List Row) → ConsumesOutput profile row → is_owning row ≡ true → Driven profile (row ∷ rows)
driven_first profile row rows consumes is =
    let drives_it : drives row.consumed row ≡ true = owning_drives row is in
    record {
      point = row.consumed;
      output = consumes (and_parts (is_established row) (is_owner row.kind) is).1;
      some = rw drives_it (omega arith);
    }

driven_later : (profile : Profile) (row : Row) (rows : List Row) → Driven profile rows → Driven profile (row ∷ rows)
driven_later profile row rows driven = record { point = driven.point; output = driven.output; some = longer (drives driven.point row) row (drivers driven.point rows) driven.some }

driven_by : (profile : Profile) (rows : List Row) → OwnersConsume profile rows → list_any is_owning rows ≡ true → Driven profile rows
driven_by profile [] consume is = absurd (let e = is in cc)
driven_by profile (row ∷ rows) consume is = split (is_owning row) refl is (λ later. driven_by profile rows consume.1 later) where
  split : (b : Bool) → is_owning row ≡ b → (b || list_any is_owning rows) ≡ true → (list_any is_owning rows ≡ true → Driven profile rows) → Driven profile (row ∷ rows)
  split true owns any rest = driven_first profile row rows consume.0 owns
  split false owns any rest = driven_later profile row rows (rest any)

-- ---- and back

drives_owning : (point : ℕ) (row : Row) → drives point row ≡ true → is_owning row ≡ true
drives_owning point row is =
    let parts = and_parts (is_established row) (is_owner row.kind && row.consumed == point) is in
    rw (parts.0, (and_parts (is_owner row.kind) (row.consumed == point) parts.1).0) refl

owning_by : (point : ℕ) (rows : List Row) → 1 ≤ length (drivers point rows) → list_any is_owning rows ≡ true
owning_by point [] some = absurd (omega (arith, some))
owning_by point (row ∷ rows) some = split (drives point row) refl some (λ later. owning_by point rows later) where
  split : (b : Bool) → drives point row ≡ b → 1 ≤ length (cond b (row ∷ drivers point rows) (drivers point rows)) → (1 ≤ length (drivers point rows) → list_any is_owning rows ≡ true) → (is_owning row || list_any is_owning rows) ≡ true
  split true is more rest = rw (drives_owning point row is) refl
  split false is more rest = or_right _ _ (rest more)

-- ---- the law

one_driver : (n : ℕ) → 1 ≤ n → n ≤ 1 → n ≡ 1
one_driver n some few = omega (arith, some, few)

owner_of_driven : (t : AdapterTable) → IsWhole t → Driven t.profile t.rows → HasOwner t
owner_of_driven t whole driven = record {
  point = driven.point;
  output = driven.output;
  driven = one_driver (length (drivers driven.point t.rows)) driven.some (whole.sound.one_owner driven.point);
}

owned_by : (t : AdapterTable) → HasOwner t → status_word t % 2 ≡ 1
owned_by t owner =
    let any : list_any is_owning t.rows ≡ true = owning_by owner.point t.rows (omega (arith, owner.driven)) in
    word_bit t ∙ rw any refl

pub owned_bit : OwnedBitSaysOwners
owned_bit t whole = record {
  owned = owned_by t;
  owner = λ is. owner_of_driven t whole (driven_by t.profile t.rows whole.consume (bit_set (list_any is_owning t.rows) (sym (word_bit t) ∙ is)));
}
