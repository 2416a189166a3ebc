use Rattle.std.proofs.Common.{◌≡◌, ◌+◌, ℕ, false, true, IfOk, List, [], ◌∷◌, ◌++◌, length, filter, flat_map, subst, ◌∙◌, ap}
use Rattle.adapter_table.specs.Objects.{Instance, is_other_class, most_connections, object_list, router_instance, single, u16, yielding_classes}
use Rattle.adapter_table.specs.declared.profile.Profile.{Profile}
use Rattle.adapter_replies.specs.Objects.Views.{requested, view_answer}
use Rattle.adapter_replies.proofs.Points.{objects_len}
use Rattle.adapter_replies.proofs.objects.router.router_answer.Goals as goal

-- the instance that the program makes
abbrev made : (count most connections : ℕ) (own : List ℕ) → Instance
made count most connections own = record {
  attributes = single 1 (u16 count ++ flat_map u16 (object_list own)) ∷ single 2 (u16 most) ∷ single 3 (u16 connections) ∷ [];
  gets_all = false;
  sets = true;
  resets = false;
}

made_is : (profile : Profile) (most connections : ℕ) (left own : List ℕ) → left ≡ filter (is_other_class own) yielding_classes → own ≡ profile.objects → most ≡ most_connections profile.limits → made (6 + length left + length own) most connections own ≡ router_instance profile connections
made_is profile most connections left own left_is own_is most_is =
    ap (λ (n : ℕ). made n most connections own) (ap (λ (l : List ℕ). 6 + length l + length own) left_is ∙ objects_len own)
    ∙ ap (λ (l : List ℕ). made (length (object_list l)) most connections l) own_is
    ∙ ap (λ (n : ℕ). made (length (object_list profile.objects)) n connections profile.objects) most_is

pub returns : goal.returns
returns c =
    subst (λ (o : Instance). IfOk c.instance_answer.result (λ answer. view_answer answer ≡ requested c.args.owned c.args.request o))
    (made_is c.args.profile.now c.most_connections.result c.args.connections c.left_classes.result.now c.as_slice-own.result.now c.left_classes.ensures c.as_slice-own.ensures c.most_connections.ensures)
    c.instance_answer.ensures
