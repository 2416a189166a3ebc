-- A written value is read back: laws of the definitions alone, which `reads_back` promises
-- (Volume 1, chapter 3, Forward_Open and Forward_Close services; appendix A, Get_Attribute_Single service).
use Rattle.std.specs.Prelude.{◌≡◌, ℕ, Bool, List, Option, Ok}
use Rattle.cip_types.specs.declared.Fault.{Fault}
use Rattle.cip_types.specs.declared.Triad.{Triad}
use Rattle.cip_epath.specs.declared.path.Target.{Target}
use Rattle.cip_epath.specs.Written.{TargetFits}
use Rattle.cip_fwdopen.specs.declared.reply.Opened.{Opened}
use Rattle.cip_fwdopen.specs.Request.{request_reading}
use Rattle.cip_fwdopen.specs.Open.{OpenFields, OpenFits, open_text, open_reading}
use Rattle.cip_fwdopen.specs.Reply.{OpenedFits, opened_text, opened_reply, RefusedFits, refused_text, refused_reply, TriadFits, open_reply_reading}
use Rattle.cip_fwdopen.specs.Close.{CloseFields, CloseFits, close_text, close_reading, closed_text, closed_reply, refused_close, close_reply_reading}
use Rattle.cip_fwdopen.specs.Get.{get_text, get_request, got_text, got_reply, refused_get, get_reply_reading}

-- the data of a Forward_Open or of a Large_Forward_Open
abbrev pub OpenReadsBack : Type 0
OpenReadsBack = (large : Bool) (p : OpenFields) → OpenFits large p → open_reading large (open_text large p) ≡ Ok p

-- the reply to a successful open
abbrev pub OpenedReadsBack : Type 0
OpenedReadsBack = (large : Bool) (o : Opened) → OpenedFits o → open_reply_reading (opened_text large o) ≡ Ok (opened_reply large o)

-- the reply that refuses a request, read as a reply to a Forward_Open
abbrev pub RefusedReadsBack : Type 0
RefusedReadsBack = (service : ℕ) (fault : Fault) (named : Option Triad) → RefusedFits fault named → open_reply_reading (refused_text service fault named) ≡ Ok (refused_reply service fault named)

-- the same, read as a reply to a Forward_Close
abbrev pub RefusedCloseReadsBack : Type 0
RefusedCloseReadsBack = (service : ℕ) (fault : Fault) (named : Option Triad) → RefusedFits fault named → close_reply_reading (refused_text service fault named) ≡ Ok (refused_close service fault named)

-- the same, read as a reply to a request for a value
abbrev pub RefusedGetReadsBack : Type 0
RefusedGetReadsBack = (service : ℕ) (fault : Fault) (named : Option Triad) → RefusedFits fault named → get_reply_reading (refused_text service fault named) ≡ Ok (refused_get service fault)

-- the data of a Forward_Close
abbrev pub CloseReadsBack : Type 0
CloseReadsBack = (p : CloseFields) → CloseFits p → close_reading (close_text p) ≡ Ok p

-- the reply to a successful close
abbrev pub ClosedReadsBack : Type 0
ClosedReadsBack = (t : Triad) → TriadFits t → close_reply_reading (closed_text t) ≡ Ok (closed_reply t)

-- the request for a value
abbrev pub GetReadsBack : Type 0
GetReadsBack = (t : Target) → TargetFits t → request_reading (get_text t) ≡ Ok (get_request t)

-- the reply with a value
abbrev pub GotReadsBack : Type 0
GotReadsBack = (bytes : List ℕ) → get_reply_reading (got_text bytes) ≡ Ok (got_reply bytes)
