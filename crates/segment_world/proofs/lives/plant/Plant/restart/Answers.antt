use Rattle.std.proofs.Common.{◌≡◌, None, Ok, List, refl, subst, sym, ◌∙◌, ap, arith}
use Rattle.cip_tables.specs.declared.table.Config.{Config}
use Rattle.segment_world.specs.Configs.{first_fault}
use Rattle.segment_world.specs.Lives.Plants.{Plant}
use Rattle.segment_world.proofs.Restarting.{Next, found_at, free_at, next_of, next_is_good, stated_is_block, goes_found, goes_so, goes, is_other, device_within}
use Rattle.segment_world.proofs.lives.plant.Plant.restart.Goals as goal

pub ids_behind-requires : goal.ids_behind-requires
ids_behind-requires g c =
    let lookup = c.in-Some-get.ensures.lookup in
    stated_is_block c.self.inside.configs.items c.deref.result.now c.in-Some.life c.in-Some-get.config.now c.in-Ok.config c.stated_ids.result c.deref.ensures.value lookup.3.0 (lookup.3.1 c.in-Some-get.config.now) c.in-Ok.ensures c.stated_ids.ensures c.self.invariant

pub replace-requires-clause-good : goal.replace-requires-clause-good
replace-requires-clause-good g c =
    let lookup = c.in-Some-get.ensures.lookup in
    let all : c.self.inside.configs.items ≡ c.args.self.now.configs = ap (λ (p : Plant). p.configs) c.self.view_is in
    let next : Next c.args.self.now c.args.incarnation c.in-Some.life c.with_ids-config.result = next_of c.args.self.now c.deref.result.now c.deref-2.result.now c.args.incarnation c.in-Some.life c.in-Some-get.config.now c.in-Ok.config c.with_incarnation-named.result c.with_ids-config.result c.stated_ids.result c.in-Ok-ids_behind.ids c.is_taken.result (c.deref.ensures.value ∙ all) (c.deref-2.ensures.value ∙ all) lookup.3.0 (lookup.3.1 c.in-Some-get.config.now) c.is_taken.ensures c.if-is_taken.false c.in-Ok.ensures c.stated_ids.ensures c.in-Ok-ids_behind.ensures.value c.in-Ok-ids_behind.ensures.block c.with_incarnation-named.ensures c.with_ids-config.ensures in
    next_is_good c.args.self.now c.args.incarnation c.in-Some.life c.with_ids-config.result next (subst (λ (l : List Config). first_fault l ≡ None) all c.self.invariant) (is_other c.args.incarnation c.if-incarnation-eq0.false) (omega arith)

pub replace-requires-clause-there : goal.replace-requires-clause-there
replace-requires-clause-there g c = device_within c.args.self.now c.args.device c.in-Some.life (sym c.life.ensures ∙ c.in-Some.is)

pub returns-in-Ok-replace : goal.returns-in-Ok-replace
returns-in-Ok-replace g c =
    let lookup = c.in-Some-get.ensures.lookup in
    let all : c.self.inside.configs.items ≡ c.args.self.now.configs = ap (λ (p : Plant). p.configs) c.self.view_is in
    let next : Next c.args.self.now c.args.incarnation c.in-Some.life c.with_ids-config.result = next_of c.args.self.now c.deref.result.now c.deref-2.result.now c.args.incarnation c.in-Some.life c.in-Some-get.config.now c.in-Ok.config c.with_incarnation-named.result c.with_ids-config.result c.stated_ids.result c.in-Ok-ids_behind.ids c.is_taken.result (c.deref.ensures.value ∙ all) (c.deref-2.ensures.value ∙ all) lookup.3.0 (lookup.3.1 c.in-Some-get.config.now) c.is_taken.ensures c.if-is_taken.false c.in-Ok.ensures c.stated_ids.ensures c.in-Ok-ids_behind.ensures.value c.in-Ok-ids_behind.ensures.block c.with_incarnation-named.ensures c.with_ids-config.ensures in
    goes_so c.args.self.now c.args.device c.args.incarnation c.in-Some.life c.with_ids-config.result (sym c.life.ensures ∙ c.in-Some.is) next (is_other c.args.incarnation c.if-incarnation-eq0.false) ∙ ap Ok (sym c.in-Ok-replace.ensures.restarted)

pub returns-in_default-ids_behind : goal.returns-in_default-ids_behind
returns-in_default-ids_behind g c =
    let lookup = c.in-Some-get.ensures.lookup in
    let all : c.self.inside.configs.items ≡ c.args.self.now.configs = ap (λ (p : Plant). p.configs) c.self.view_is in
    let at = found_at c.args.self.now.configs c.deref.result.now c.in-Some.life c.in-Some-get.config.now (c.deref.ensures.value ∙ all) lookup.3.0 (lookup.3.1 c.in-Some-get.config.now) in
    let new = free_at c.args.self.now c.deref-2.result.now c.args.incarnation c.in-Some-get.config.now c.is_taken.result (c.deref-2.ensures.value ∙ all) c.is_taken.ensures c.if-is_taken.false in
    (goes_found c.args.self.now c.args.device c.args.incarnation c.in-Some.life c.in-Some-get.config.now (sym c.life.ensures ∙ c.in-Some.is) at new (is_other c.args.incarnation c.if-incarnation-eq0.false), refl)

pub returns-in-Err : goal.returns-in-Err
returns-in-Err g c =
    let lookup = c.in-Some-get.ensures.lookup in
    let all : c.self.inside.configs.items ≡ c.args.self.now.configs = ap (λ (p : Plant). p.configs) c.self.view_is in
    let next : Next c.args.self.now c.args.incarnation c.in-Some.life c.with_ids-config.result = next_of c.args.self.now c.deref.result.now c.deref-2.result.now c.args.incarnation c.in-Some.life c.in-Some-get.config.now c.in-Ok.config c.with_incarnation-named.result c.with_ids-config.result c.stated_ids.result c.in-Ok-ids_behind.ids c.is_taken.result (c.deref.ensures.value ∙ all) (c.deref-2.ensures.value ∙ all) lookup.3.0 (lookup.3.1 c.in-Some-get.config.now) c.is_taken.ensures c.if-is_taken.false c.in-Ok.ensures c.stated_ids.ensures c.in-Ok-ids_behind.ensures.value c.in-Ok-ids_behind.ensures.block c.with_incarnation-named.ensures c.with_ids-config.ensures in
    (goes c.args.self.now c.args.device c.args.incarnation c.in-Some.life c.with_ids-config.result (sym c.life.ensures ∙ c.in-Some.is) next (is_other c.args.incarnation c.if-incarnation-eq0.false), c.in-Err.ensures.kept)
