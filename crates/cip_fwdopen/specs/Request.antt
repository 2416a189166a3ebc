-- Requests to the message router (Volume 1, chapter 2, message router request).
--
-- A request: service (1 byte), words of the path (1), the path, and the body, which is all bytes that are left.
use Rattle.std.specs.Prelude.{◌≡◌, ℕ, ◌*◌, List, [], ◌∷◌, slice_index, Option, Some, None, Result, Ok, Err}
use Rattle.std.specs.Int.{Width, w8}
use Rattle.cip_types.specs.Texts.{Lacks, Tailed, IsTailedText}
use Rattle.cip_epath.specs.declared.fault.PathFault.{PathFault}
use Rattle.cip_epath.specs.declared.path.Target.{Target}
use Rattle.cip_epath.specs.Path.{IsTarget, IsTextOf, HasFault}
use Rattle.cip_epath.specs.Reading.{target_reading}
use Rattle.cip_fwdopen.specs.declared.fault.ReadFault.{ReadFault}
use Rattle.cip_fwdopen.specs.declared.fault.ReadFault.TheVariants.{NotEnough, TooMuch, Path}
use Rattle.cip_fwdopen.specs.declared.message.Request.{Request}
use Rattle.cip_fwdopen.specs.Readings.{number}
use Rattle.cip_fwdopen.specs.Front.{Begins, front_at}

-- the contents of a request
pub record RequestFields : Type 0 where
  pub service : ℕ
  pub target : Target
  pub body : List ℕ

-- the contents of a request of the program
abbrev pub view_request : Request → RequestFields
view_request r = record { service = r.service; target = r.target; body = r.body.now }

-- service, words of the path
abbrev pub request_widths : List Width
request_widths = w8 ∷ w8 ∷ []

-- bytes of the path
abbrev pub request_path_len : List ℕ → ℕ
request_path_len numbers = 2 * slice_index numbers 1

-- the text is all of a request but its body: service, words of the path, and as many words of path
abbrev pub IsRequestFront : List ℕ → Tailed → Type 0
IsRequestFront = IsTailedText request_widths request_path_len

-- the text is a request, its path being one of the target
abbrev pub IsRequestText : List ℕ → RequestFields → Type 0
IsRequestText text r = (front : Tailed) × Begins IsRequestFront text front r.body × (r.service ≡ number front 0) × IsTextOf IsTarget front.1 r.target

-- the result is a reading of the bytes as a request; the faults: they end before the path does, or the path is none
abbrev pub IsRequestReading : List ℕ → Result RequestFields ReadFault → Type 0
IsRequestReading bytes (Ok r) = IsRequestText bytes r
IsRequestReading bytes (Err NotEnough) = Lacks IsRequestFront bytes
IsRequestReading bytes (Err TooMuch) = ⊥
IsRequestReading bytes (Err (Path f)) = (front : Tailed) × (body : List ℕ) × Begins IsRequestFront bytes front body × HasFault IsTarget front.1 f

-- the request of a service, a body and a read path
abbrev pub with_target : ℕ → List ℕ → Result Target PathFault → Result RequestFields ReadFault
with_target service body (Ok target) = Ok (record { service = service; target = target; body = body })
with_target service body (Err f) = Err (Path f)

-- the request of a front, and a body
abbrev pub request_of : Option (Tailed × List ℕ) → Result RequestFields ReadFault
request_of None = Err NotEnough
request_of (Some x) = with_target (number x.0 0) x.1 (target_reading x.0.1)

-- the reading of bytes as a request
unfoldable pub request_reading : List ℕ → Result RequestFields ReadFault
request_reading bytes = request_of (front_at request_widths request_path_len bytes)
