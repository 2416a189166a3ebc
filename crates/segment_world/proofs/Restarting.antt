-- A restart: the code's decisions are those of the definition.
use Rattle.std.proofs.Common.{◌≡◌, ◌≢◌, ◌<◌, ◌≤◌, ℕ, ◌==◌, ◌&&◌, not, Bool, true, false, List, length, get_or, slice_get, Option, Some, None, Ok, IsOk, refl, sym, ◌∙◌, ap, subst, arith}
use Rattle.std.proofs.lemmas.Bool.{and_parts, not-false}
use Rattle.std.proofs.lemmas.Bool.Decides.{nat_tests}
use Rattle.std.proofs.lemmas.Option.{slice_get_read, slice_get_within}
use Rattle.std.specs.Option.{IfSome}
use Rattle.std.specs.Prelude.{is_none}
use Rattle.cip_types.specs.declared.ids.IdBlock.{IdBlock}
use Rattle.cip_types.specs.Ids.{are_ids, is_block}
use Rattle.adapter_table.specs.Profiles as adapters
use Rattle.adapter_table.specs.Shaping.{all_pass}
use Rattle.scanner_table.specs.Profiles as scanners
use Rattle.cip_tables.specs.declared.table.Config.{Config}
use Rattle.cip_tables.specs.declared.table.Config.TheVariants.{Adapter, Scanner}
use Rattle.cip_tables.specs.Ids.{stated_ids, with_ids}
use Rattle.cip_tables.specs.Step.{config_fault}
use Rattle.segment_world.specs.Configs.{first_fault}
use Rattle.segment_world.specs.Lives.Plants.{Plant, life_of}
use Rattle.segment_world.specs.Lives.Restarts.{Restarted, ids_of_next, is_used, next_config, with_incarnation, restarted, restarts, restarts_at, restarts_as, restarts_unless}
use Rattle.segment_world.proofs.Naming.{byte_ids, good_at, none_next}

-- the configuration of a life was read, copied, and given another incarnation, and the ids that this life has left
pub record Next (p : Plant) (byte life : ℕ) (made : Config) : Type 0 where
  pub found : Config
  pub at : slice_get p.configs life ≡ Some found
  pub new : (is_none (stated_ids found) && is_used byte p.configs) ≡ false
  pub fits : IfSome (ids_of_next p life (stated_ids found)) (λ block. is_block block ≡ true)
  pub is : made ≡ next_config p byte life found

pub found_at : (configs read : List Config) (life : ℕ) (found : Config) → read ≡ configs → life < length read → found ≡ get_or read life found → slice_get configs life ≡ Some found
found_at configs read life found read_is lt found_is = ap (λ (l : List Config). slice_get l life) (sym read_is) ∙ slice_get_read read (length read) life found refl lt found_is

-- a byte that was tested over the configurations is a new one
pub free_at : (p : Plant) (again : List Config) (byte : ℕ) (found : Config) (used : Bool) → again ≡ p.configs → used ≡ (is_none (stated_ids found) && is_used byte again) → used ≡ false → (is_none (stated_ids found) && is_used byte p.configs) ≡ false
free_at p again byte found used again_is used_is free = ap (λ (l : List Config). is_none (stated_ids found) && is_used byte l) (sym again_is) ∙ sym used_is ∙ free

pub next_of : (p : Plant) (read again : List Config) (byte life : ℕ) (found copied named made : Config) (stated ids : Option IdBlock) (used : Bool) → read ≡ p.configs → again ≡ p.configs → life < length read → found ≡ get_or read life found → used ≡ (is_none (stated_ids found) && is_used byte again) → used ≡ false → copied ≡ found → stated ≡ stated_ids copied → ids ≡ ids_of_next p life stated → IfSome ids (λ block. is_block block ≡ true) → named ≡ with_incarnation byte copied → made ≡ with_ids ids named → Next p byte life made
next_of p read again byte life found copied named made stated ids used read_is again_is lt found_is used_is free copied_is stated_is ids_are fits named_is made_is = record {
  found = found;
  at = found_at p.configs read life found read_is lt found_is;
  new = free_at p again byte found used again_is used_is free;
  fits = subst (λ (i : Option IdBlock). IfSome i (λ block. is_block block ≡ true)) (ids_are ∙ ap (λ (i : Option IdBlock). ids_of_next p life i) (stated_is ∙ ap stated_ids copied_is)) fits;
  is = made_is
      ∙ ap (λ (c : Config). with_ids ids c) named_is
      ∙ ap (λ (i : Option IdBlock). with_ids i (with_incarnation byte copied)) (ids_are ∙ ap (λ (i : Option IdBlock). ids_of_next p life i) stated_is)
      ∙ ap (λ (c : Config). next_config p byte life c) copied_is;
}

-- the ids that a faultless configuration states are a block
of_first : (incarnation : ℕ) (ids : Option IdBlock) → are_ids incarnation ids ≡ true → IfSome ids (λ block. is_block block ≡ true)
of_first incarnation None are = tt
of_first incarnation (Some block) are = (and_parts (not (incarnation == 0)) (is_block block) are).1

stated_fits : (config : Config) → config_fault config ≡ None → IfSome (stated_ids config) (λ block. is_block block ≡ true)
unfolding adapters.profile_fault scanners.profile_fault
stated_fits (Adapter profile) none = of_first profile.incarnation profile.ids (not-false (are_ids profile.incarnation profile.ids) (all_pass (adapters.profile_tests profile) none).0)
stated_fits (Scanner profile) none = of_first profile.incarnation profile.ids (not-false (are_ids profile.incarnation profile.ids) (all_pass (scanners.profile_tests profile) none).0)

pub stated_is_block : (configs read : List Config) (life : ℕ) (found copied : Config) (stated : Option IdBlock) → read ≡ configs → life < length read → found ≡ get_or read life found → copied ≡ found → stated ≡ stated_ids copied → first_fault configs ≡ None → IfSome stated (λ block. is_block block ≡ true)
stated_is_block configs read life found copied stated read_is lt found_is copied_is stated_is good =
    subst (λ (i : Option IdBlock). IfSome i (λ block. is_block block ≡ true)) (sym (stated_is ∙ ap stated_ids copied_is)) (stated_fits found (good_at configs life found good (found_at configs read life found read_is lt found_is)))

begins : (zero_is block_is : Bool) → zero_is ≡ false → block_is ≡ true → not (not zero_is && block_is) ≡ false
begins zero_is block_is other is = rw (other, is) refl

-- a device can begin with the ids that are a block, or with those of a byte
can_begin : (byte : ℕ) (ids : Option IdBlock) → (byte == 0) ≡ false → byte ≤ 255 → IfSome ids (λ block. is_block block ≡ true) → not (are_ids byte ids) ≡ false
can_begin byte None other le is = byte_ids byte other le
can_begin byte (Some block) other le is = begins (byte == 0) (is_block block) other is

pub next_is_good : (p : Plant) (byte life : ℕ) (made : Config) (next : Next p byte life made) → first_fault p.configs ≡ None → (byte == 0) ≡ false → byte ≤ 255 → config_fault made ≡ None
next_is_good p byte life made next good other le =
    ap config_fault next.is
    ∙ none_next byte (ids_of_next p life (stated_ids next.found)) next.found (good_at p.configs life next.found good next.at) (can_begin byte (ids_of_next p life (stated_ids next.found)) other le next.fits)

-- a restart of a device whose life and configuration are found, with a byte that is not 0, and is a new one where no ids are stated
pub goes_so : (p : Plant) (device byte life : ℕ) (made : Config) → life_of p device ≡ Some life → (next : Next p byte life made) → (byte == 0) ≡ false → restarts p device byte ≡ Ok (restarted device life made p)
goes_so p device byte life made there next other =
    ap (restarts_at p device byte) there
    ∙ ap (restarts_as p device byte life) next.at
    ∙ ap (λ (used : Bool). restarts_unless p device byte life next.found used (byte == 0)) next.new
    ∙ ap (restarts_unless p device byte life next.found false) other
    ∙ ap (λ (c : Config). Ok (restarted device life c p)) (sym next.is)

-- so it has no fault
pub goes : (p : Plant) (device byte life : ℕ) (made : Config) → life_of p device ≡ Some life → (next : Next p byte life made) → (byte == 0) ≡ false → IsOk (restarts p device byte)
goes p device byte life made there next other = subst (λ (said : Restarted). IsOk said) (sym (goes_so p device byte life made there next other)) refl

-- a restart has no fault where the configuration is found and the byte is a new one, whatever ids are left
pub goes_found : (p : Plant) (device byte life : ℕ) (found : Config) → life_of p device ≡ Some life → slice_get p.configs life ≡ Some found → (is_none (stated_ids found) && is_used byte p.configs) ≡ false → (byte == 0) ≡ false → IsOk (restarts p device byte)
goes_found p device byte life found there at new other =
    let said : restarts p device byte ≡ Ok (restarted device life (next_config p byte life found) p) =
    ap (restarts_at p device byte) there
    ∙ ap (restarts_as p device byte life) at
    ∙ ap (λ (used : Bool). restarts_unless p device byte life found used (byte == 0)) new
    ∙ ap (restarts_unless p device byte life found false) other in
    subst (λ (r : Restarted). IsOk r) (sym said) refl

pub is_other : (byte : ℕ) → byte ≢ 0 → (byte == 0) ≡ false
is_other byte other = grind (arith, nat_tests)

pub device_within : (p : Plant) (device life : ℕ) → life_of p device ≡ Some life → device < length p.current
device_within p device life there = slice_get_within p.current device life there
