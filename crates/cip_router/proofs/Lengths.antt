-- The lengths of replies.
use Rattle.std.proofs.Common.{◌≡◌, ◌+◌, ℕ, Bool, List, length, Option, Some, refl, arith, length-append}
use Rattle.cip_types.specs.declared.names.Triad.{Triad}
use Rattle.cip_types.specs.declared.names.Fault.{Fault}
use Rattle.cip_fwdopen.specs.declared.reply.AcceptableIntervals.{AcceptableIntervals}
use Rattle.cip_fwdopen.specs.declared.reply.Opened.{Opened}
use Rattle.cip_fwdopen.specs.Reply.{opened_text, refused_text, intervals_words, intervals_text, extended_text, failure_text}
use Rattle.cip_fwdopen.specs.Close.{closed_text}
use Rattle.cip_router.specs.declared.object_service.ObjectService.{ObjectService}
use Rattle.cip_router.specs.Replies.{object_reply_text, own_reply_text}

pub opened_len : (large : Bool) (opened : Opened) → length (opened_text large opened) ≡ 30
unfolding opened_text
opened_len large opened = refl

pub closed_len : (triad : Triad) → length (closed_text triad) ≡ 14
unfolding closed_text
closed_len triad = refl

pub object_reply_len : (service : ObjectService) (value : List ℕ) → length (object_reply_text service value) ≡ 4 + length value
unfolding object_reply_text
object_reply_len service value = omega arith

pub refused_len : (service : ℕ) (fault : Fault) (triad : Option Triad) → length (refused_text service fault triad) ≡ 3 + (length (extended_text fault.extended) + length (failure_text triad))
unfolding refused_text
refused_len service fault triad = omega (arith, length-append (extended_text fault.extended) (failure_text triad))

pub intervals_len : (service : ℕ) (intervals : AcceptableIntervals) (triad : Triad) → length (intervals_text service intervals (Some triad)) ≡ 26
unfolding intervals_text intervals_words
intervals_len service intervals triad = refl

pub own_reply_len : (service status : ℕ) (content : List ℕ) → length (own_reply_text service status content) ≡ 4 + length content
unfolding own_reply_text
own_reply_len service status content = omega arith
