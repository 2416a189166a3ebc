-- What is within the limits that the maker states: the fifteen checks admit it, and it has a place.
use Rattle.std.proofs.Common.{◌≡◌, Bool, true, false, cond, Option, Result, Ok, Err, List, refl, subst}
use Rattle.cip_types.specs.declared.names.Node.{Node}
use Rattle.cip_fwdopen.specs.Open.{OpenFields}
use Rattle.cip_router.specs.declared.refusal.Refusal.{Refusal}
use Rattle.cip_router.specs.declared.refusal.Refusal.TheVariants as refusal
use Rattle.adapter_table.specs.declared.maker_limits.MakerLimits.{MakerLimits}
use Rattle.adapter_table.specs.Connections.{Row}
use Rattle.adapter_table.specs.declared.table.AdapterTable.{AdapterTable}
use Rattle.adapter_table.specs.Checks.{Admitted, admission}
use Rattle.adapter_table.specs.declared.profile.Description.{Description}
use Rattle.adapter_table.specs.Describing.{is_variable, fixed}
use Rattle.adapter_table.specs.Rates.{has_opened_enough_at}
use Rattle.adapter_table.specs.StatedLimits.{exceeds, limited, paced, limited_admission}

pub record IsLimited (limits : MakerLimits) (rows : List Row) (peer : Node) (said : Result Admitted Refusal) (found : Admitted) : Type 0 where
  pub admitted : said ≡ Ok found
  pub within : exceeds limits rows peer found.kind ≡ false

within_step : (b : Bool) (limits : MakerLimits) (rows : List Row) (peer : Node) (found admitted : Admitted) → exceeds limits rows peer found.kind ≡ b → ◌≡◌ {A = Result Admitted Refusal} (cond b (Err refusal.OutOfConnections) (Ok found)) (Ok admitted) → IsLimited limits rows peer (Ok found) admitted
within_step true limits rows peer found admitted is says = absurd cc
within_step false limits rows peer found admitted is says = record { admitted = says; within = let same : found ≡ admitted = cc in subst (λ (a : Admitted). exceeds limits rows peer a.kind ≡ false) same is }

pub limited_parts : (limits : MakerLimits) (rows : List Row) (peer : Node) (said : Result Admitted Refusal) (admitted : Admitted) → limited limits rows peer said ≡ Ok admitted → IsLimited limits rows peer said admitted
limited_parts limits rows peer (Err why) admitted is = absurd cc
limited_parts limits rows peer (Ok found) admitted is = within_step (exceeds limits rows peer found.kind) limits rows peer found admitted refl is

-- the node has not opened enough in its second
pub record IsPaced (enough : Bool) (said : Result Admitted Refusal) (admitted : Admitted) : Type 0 where
  pub limited : said ≡ Ok admitted
  pub paced : enough ≡ false

pub paced_parts : (enough : Bool) (said : Result Admitted Refusal) (admitted : Admitted) → paced enough said ≡ Ok admitted → IsPaced enough said admitted
paced_parts enough (Err why) admitted is = absurd cc
paced_parts true (Ok found) admitted is = absurd cc
paced_parts false (Ok found) admitted is = record { limited = is; paced = refl }

-- a described device admits data of a fixed size alone
fixed_step : (a b : Bool) (found admitted : Admitted) → ◌≡◌ {A = Result Admitted Refusal} (cond a (Err refusal.ConsumedSize) (cond b (Err refusal.ProducedSize) (Ok found))) (Ok admitted) → ◌≡◌ {A = Result Admitted Refusal} (Ok found) (Ok admitted)
fixed_step true b found admitted is = absurd cc
fixed_step false true found admitted is = absurd cc
fixed_step false false found admitted is = is

pub fixed_is : (description : Option Description) (request : OpenFields) (said : Result Admitted Refusal) (admitted : Admitted) → fixed description request said ≡ Ok admitted → said ≡ Ok admitted
fixed_is description request (Err why) admitted is = absurd cc
fixed_is description request (Ok found) admitted is = fixed_step (is_variable description request.o_t_params) (is_variable description request.t_o_params) found admitted is

with_admission : (limits : MakerLimits) (rows : List Row) (peer : Node) (description : Option Description) (request : OpenFields) (said : Result Admitted Refusal) (admitted : Admitted) → IsLimited limits rows peer (fixed description request said) admitted → IsLimited limits rows peer said admitted
with_admission limits rows peer description request said admitted is = record { admitted = fixed_is description request said admitted is.admitted; within = is.within }

-- the same at a table
pub limited_is : (t : AdapterTable) (peer : Node) (request : OpenFields) (admitted : Admitted) → limited_admission t peer request ≡ Ok admitted → IsLimited t.profile.limits t.rows peer (admission t request) admitted
limited_is t peer request admitted is =
    with_admission t.profile.limits t.rows peer t.profile.description request (admission t request) admitted
    (limited_parts t.profile.limits t.rows peer (fixed t.profile.description request (admission t request)) admitted (paced_parts (has_opened_enough_at t peer) _ admitted is).limited)

pub paced_is : (t : AdapterTable) (peer : Node) (request : OpenFields) (admitted : Admitted) → limited_admission t peer request ≡ Ok admitted → has_opened_enough_at t peer ≡ false
paced_is t peer request admitted is = (paced_parts (has_opened_enough_at t peer) _ admitted is).paced
