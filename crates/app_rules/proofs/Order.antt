-- The groups of checks, one after another, are the list of checks from the top.
use Rattle.std.proofs.Common.{◌≡◌, ℕ, zero, suc, List, [], ◌∷◌, take, drop, Option, Some, None, Result, Ok, Err, refl, ◌∙◌, ap}
use Rattle.cip_epath.specs.declared.fault.PathFault.{PathFault}
use Rattle.cip_epath.specs.declared.fault.PathFault.TheVariants as path_fault
use Rattle.cip_epath.specs.Path.{PathFields}
use Rattle.cip_fwdopen.specs.Open.{OpenFields}
use Rattle.cip_router.specs.declared.refusal.Refusal.{Refusal}
use Rattle.adapter_table.specs.Checks.{View, Points, Check, first_of, checks, points_of, judged, judged_path, Admitted, admitted_at}
use Rattle.app_rules.specs.Stages.{after, and_then, path_read, readable, request_check, points_check, staged_points, staged_path, staged}

-- the first checks of a list, and then the others
judged_front : (n : ℕ) (request : OpenFields) (points : Result Points Refusal) (cs : List Check) → judged request points (first_of cs) ≡ after (first_of (take n cs)) (judged request points (first_of (drop n cs)))
judged_front zero request points cs = refl
judged_front (suc n) request points [] = refl
judged_front (suc n) request points (None ∷ cs) = judged_front n request points cs
judged_front (suc n) request points (Some why ∷ cs) = refl

-- checks 10 to 15
points_staged : (request : OpenFields) (points : Points) (c : Check) → judged request (Ok points) c ≡ after c (Ok (admitted_at request points))
points_staged request points None = refl
points_staged request points (Some why) = refl

-- checks 9 to 15
found_staged : (view : View) (request : OpenFields) (path : Option PathFields) (points : Result Points Refusal) → judged request points (first_of (drop 11 (checks view request (path_read path) points))) ≡ and_then points (staged_points view request)
unfolding points_check
found_staged view request path (Ok points) = points_staged request points (points_check view request points)
found_staged view request path (Err why) = refl

-- checks 3 to 15
path_staged : (view : View) (request : OpenFields) (path : Option PathFields) → judged request (points_of view request path) (first_of (drop 1 (checks view request (path_read path) (points_of view request path)))) ≡ staged_path view request path
unfolding request_check
path_staged view request path =
    judged_front 10 request (points_of view request path) (drop 1 (checks view request (path_read path) (points_of view request path)))
    ∙ ap (after (request_check view request path)) (found_staged view request path (points_of view request path))

pub verdict_is_staged : (view : View) (request : OpenFields) (path : Result PathFields PathFault) → judged_path view request path ≡ staged view request path
verdict_is_staged view request (Ok path) = path_staged view request (Some path)
verdict_is_staged view request (Err path_fault.Shape) = path_staged view request None
verdict_is_staged view request (Err path_fault.Truncated) = refl
verdict_is_staged view request (Err path_fault.Segment) = refl
verdict_is_staged view request (Err path_fault.KeyFormat) = refl

-- no check fails
pub all_passed : (view : View) (request : OpenFields) (path : Result PathFields PathFault) (found : Option PathFields) (points : Points) (admitted : Admitted) → readable path ≡ Ok found → request_check view request found ≡ None → points_of view request found ≡ Ok points → points_check view request points ≡ None → admitted ≡ admitted_at request points → judged_path view request path ≡ Ok admitted
all_passed view request path found points admitted reads first named last is_admitted =
    verdict_is_staged view request path ∙ rw (reads, first, named, last, is_admitted) refl

-- a check of the request fails
pub refused_request : (view : View) (request : OpenFields) (path : Result PathFields PathFault) (found : Option PathFields) (why : Refusal) → readable path ≡ Ok found → request_check view request found ≡ Some why → judged_path view request path ≡ Err why
refused_request view request path found why reads first =
    verdict_is_staged view request path ∙ rw (reads, first) refl

-- a point is not found
pub refused_points : (view : View) (request : OpenFields) (path : Result PathFields PathFault) (found : Option PathFields) (why : Refusal) → readable path ≡ Ok found → request_check view request found ≡ None → points_of view request found ≡ Err why → judged_path view request path ≡ Err why
refused_points view request path found why reads first named =
    verdict_is_staged view request path ∙ rw (reads, first, named) refl

-- a check of the points fails
pub refused_at_points : (view : View) (request : OpenFields) (path : Result PathFields PathFault) (found : Option PathFields) (points : Points) (why : Refusal) → readable path ≡ Ok found → request_check view request found ≡ None → points_of view request found ≡ Ok points → points_check view request points ≡ Some why → judged_path view request path ≡ Err why
refused_at_points view request path found points why reads first named last =
    verdict_is_staged view request path ∙ rw (reads, first, named, last) refl
