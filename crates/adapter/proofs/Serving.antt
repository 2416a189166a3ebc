-- A request that a route can bring, where it opens or closes a connection, did not come in a message of a class 3 connection.
use Rattle.std.proofs.Common.{◌≡◌, Bool, true, false, cond, Option, Some, None, refl}
use Rattle.adapter_table.specs.declared.table.AdapterTable.{AdapterTable}
use Rattle.adapter_table.specs.Requests.{Served}
use Rattle.cip_fwdopen.specs.Close.{CloseFields}
use Rattle.cip_fwdopen.specs.Open.{OpenFields}
use Rattle.cip_router.specs.Requests.{closing, opening}
use Rattle.adapter_replies.specs.declared.routes.Route.{Route}
use Rattle.adapter_replies.specs.RouteLaws.{unconnected}
use Rattle.adapter_replies.specs.Routes.{is_connected, routed}
use Rattle.adapter_replies.specs.Serving.{barred_service, finished}

not_there : {A : Type 0} (b : Bool) (x : A) → cond b (Some x) None ≡ None → b ≡ false
not_there true x none = absurd cc
not_there false x none = refl

pub closing_unbarred : (t : AdapterTable) (way : Route) (request : CloseFields) (s : Option Served) → barred_service way (closing request) ≡ None → finished t way s ≡ routed t way s
closing_unbarred t way request s none = unconnected t way s (not_there (is_connected way) _ none)

pub opening_unbarred : (t : AdapterTable) (way : Route) (large : Bool) (request : OpenFields) (s : Option Served) → barred_service way (opening large request) ≡ None → finished t way s ≡ routed t way s
opening_unbarred t way large request s none = unconnected t way s (not_there (is_connected way) _ none)
