-- Requests to the message router (Volume 1, chapter 2, message router request, and chapter 3, Connection Manager
-- services).
use Rattle.std.specs.Prelude.{ℕ, ◌==◌, ◌&&◌, Bool, true, false, List, [], ◌∷◌, Option, None, Result, Ok, Err}
use Rattle.cip_types.specs.Cases.{first_case_or}
use Rattle.cip_fwdopen.specs.declared.fault.ReadFault.{ReadFault}
use Rattle.cip_fwdopen.specs.declared.fault.ReadFault.TheVariants.{NotEnough, TooMuch, Path}
use Rattle.cip_epath.specs.declared.path.Target.{Target}
use Rattle.cip_fwdopen.specs.Open.{OpenFields, view_open, open_reading}
use Rattle.cip_fwdopen.specs.Close.{CloseFields, view_close, close_reading}
use Rattle.cip_fwdopen.specs.Request.{RequestFields, request_reading}
use Rattle.cip_fwdopen.specs.Services.{forward_close, forward_open, large_forward_open, is_large_open}
use Rattle.cip_router.specs.declared.refusal.Status.{Status}
use Rattle.cip_router.specs.declared.refusal.Status.TheVariants as status
use Rattle.cip_router.specs.declared.router_request.RouterRequest.{RouterRequest}
use Rattle.cip_router.specs.declared.router_request.RouterRequest.TheVariants as router_request

-- a request: nothing where there is no service, a service that the router refuses, the close of a connection, a
-- service of another object (its class, instance and attribute, and data), or the opening of a connection
pub data RouterRequestFields : Type 0 where
  nothing : RouterRequestFields
  refused : ℕ → Status → RouterRequestFields
  closing : CloseFields → RouterRequestFields
  object : ℕ → ℕ → ℕ → Option ℕ → List ℕ → RouterRequestFields
  opening : Bool → OpenFields → RouterRequestFields

-- the contents of a request of the program
abbrev pub view_router_request : RouterRequest → RouterRequestFields
view_router_request router_request.Nothing = nothing
view_router_request (router_request.Refused service why) = refused service why
view_router_request (router_request.Closing request) = closing (view_close request)
view_router_request (router_request.Object service class instance attribute lent) = object service class instance attribute lent.now
view_router_request (router_request.Opening service request) = opening (is_large_open service) (view_open request)

-- the status for unreadable data of a service
abbrev pub data_status : ReadFault → Status
data_status NotEnough = status.NotEnoughData
data_status TooMuch = status.TooMuchData
data_status (Path fault) = status.PathSegment

abbrev pub request_to_open : ℕ → Bool → Result OpenFields ReadFault → RouterRequestFields
request_to_open service large (Ok request) = opening large request
request_to_open service large (Err fault) = refused service (data_status fault)

abbrev pub request_to_close : ℕ → Result CloseFields ReadFault → RouterRequestFields
request_to_close service (Ok request) = closing request
request_to_close service (Err fault) = refused service (data_status fault)

-- the service that carries a request to a device behind a route
abbrev pub unconnected_send : ℕ
unconnected_send = 0x52

-- a service of the Connection Manager: its own, or those of every object
abbrev pub request_to_manager : ℕ → Option ℕ → List ℕ → RouterRequestFields
request_to_manager service attribute body = first_case_or (object service 6 1 attribute body) (
    (service == forward_open, request_to_open service false (open_reading false body))
    ∷ (service == large_forward_open, request_to_open service true (open_reading true body))
    ∷ (service == forward_close, request_to_close service (close_reading body))
    ∷ (service == unconnected_send, object service 6 1 None body)
    ∷ [])

-- the Connection Manager is class 6, instance 1
abbrev pub is_manager : Target → Bool
is_manager target = target.class == 6 && target.instance == 1

-- a service of an object: the Connection Manager's own, or those of other objects
abbrev pub request_to_object : RequestFields → RouterRequestFields
request_to_object request = first_case_or (object request.service request.target.class request.target.instance request.target.attribute request.body) (
    (is_manager request.target, request_to_manager request.service request.target.attribute request.body)
    ∷ [])

abbrev pub router_request_of : ℕ → Result RequestFields ReadFault → RouterRequestFields
router_request_of service (Err fault) = refused service (data_status fault)
router_request_of service (Ok request) = request_to_object request

unfoldable pub router_request_reading : List ℕ → RouterRequestFields
router_request_reading [] = nothing
router_request_reading (service ∷ rest) = router_request_of service (request_reading (service ∷ rest))
