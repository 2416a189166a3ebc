-- A request is read one way.
use Rattle.std.proofs.Common.{◌≡◌, ℕ, ◌*◌, ◌<◌, ◌≤◌, List, [], ◌∷◌, length, take, drop, Option, Some, None, Result, Ok, Err, refl, sym, ap, subst, ◌∙◌}
use Rattle.std.specs.Int.{w8}
use Rattle.std.specs.List.{AllByRecursion}
use Rattle.std.proofs.lemmas.Bool.{lt-ltb, le-ltb}
use Rattle.cip_types.specs.Fields.{field_at, then_at, fields_at}
use Rattle.cip_types.specs.Texts.{Lacks, Tailed}
use Rattle.cip_types.specs.FieldLaws.{IsBytes, IsWide, wide8}
use Rattle.cip_epath.specs.declared.fault.PathFault.{PathFault}
use Rattle.cip_epath.specs.declared.path.Target.{Target}
use Rattle.cip_epath.specs.Path.{IsTarget, IsReading}
use Rattle.cip_epath.specs.Reading.{target_reading}
use Rattle.cip_epath.specs.Laws.PathLaws.{target_reads, target_reading_is, one_target_reading}
use Rattle.cip_fwdopen.specs.declared.fault.ReadFault.{ReadFault}
use Rattle.cip_fwdopen.specs.declared.fault.ReadFault.TheVariants.{NotEnough, TooMuch, Path}
use Rattle.cip_fwdopen.specs.Readings.{number}
use Rattle.cip_fwdopen.specs.Front.{Begins, front_at}
use Rattle.cip_fwdopen.specs.Request.{RequestFields, request_widths, request_path_len, IsRequestFront, IsRequestText, IsRequestReading, with_target, request_of, request_reading}
use Rattle.cip_fwdopen.proofs.FrontLaws.{Cuts, front_taken, front_lacks, front_again, begins_lacks}

wide : AllByRecursion IsWide request_widths
wide = (wide8, (wide8, tt))

abbrev cut : List ℕ → Option (Tailed × List ℕ)
cut bytes = front_at request_widths request_path_len bytes

-- ---- the reading of the bytes is one

target_read : (bytes : List ℕ) (x : Tailed × List ℕ) (r : Result Target PathFault) → Cuts request_widths request_path_len bytes x.0 x.1 → target_reading x.0.1 ≡ r → IsRequestReading bytes (with_target (number x.0 0) x.1 r)
target_read bytes x (Ok target) c e = (x.0, c.begins, refl, subst (IsReading IsTarget x.0.1) e (target_reading_is x.0.1 c.tail_fits))
target_read bytes x (Err f) c e = (x.0, x.1, c.begins, subst (IsReading IsTarget x.0.1) e (target_reading_is x.0.1 c.tail_fits))

front_read : (bytes : List ℕ) (found : Option (Tailed × List ℕ)) → IsBytes bytes → cut bytes ≡ found → IsRequestReading bytes (request_of found)
front_read bytes None fits e = front_lacks request_widths wide request_path_len bytes fits e
front_read bytes (Some x) fits e = target_read bytes x (target_reading x.0.1) (front_taken request_widths wide request_path_len bytes x fits e) refl

pub request_is_reading : (bytes : List ℕ) → IsBytes bytes → IsRequestReading bytes (request_reading bytes)
unfolding request_reading
request_is_reading bytes fits = front_read bytes (cut bytes) fits refl

-- ---- there is no other

-- what is read where a front stands there
begun : (bytes : List ℕ) (front : Tailed) (body : List ℕ) (r : Result Target PathFault) → Begins IsRequestFront bytes front body → target_reading front.1 ≡ r → request_reading bytes ≡ with_target (number front 0) body r
unfolding request_reading
begun bytes front body r is e = ap request_of (front_again request_widths wide request_path_len bytes front body is) ∙ ap (with_target (number front 0) body) e

lacking : (bytes : List ℕ) (found : Option (Tailed × List ℕ)) → IsBytes bytes → cut bytes ≡ found → Lacks IsRequestFront bytes → request_of found ≡ Err NotEnough
lacking bytes None fits e lacks = refl
lacking bytes (Some x) fits e lacks = begins_lacks request_widths wide request_path_len bytes x.0 x.1 (front_taken request_widths wide request_path_len bytes x fits e).begins lacks

lacking_reads : (bytes : List ℕ) → IsBytes bytes → Lacks IsRequestFront bytes → request_reading bytes ≡ Err NotEnough
unfolding request_reading
lacking_reads bytes fits lacks = lacking bytes (cut bytes) fits refl lacks

tail_fits : (bytes : List ℕ) (front : Tailed) (body : List ℕ) → IsBytes bytes → Begins IsRequestFront bytes front body → IsBytes front.1
tail_fits bytes front body fits is = (front_taken request_widths wide request_path_len bytes (front, body) fits (front_again request_widths wide request_path_len bytes front body is)).tail_fits

-- a text of a request reads as it
pub request_reads : (bytes : List ℕ) (r : RequestFields) → IsRequestText bytes r → request_reading bytes ≡ Ok r
request_reads bytes r is =
    begun bytes is.0 r.body (Ok r.target) is.1 (target_reads is.0.1 r.target is.3)
    ∙ ap (λ (service : ℕ). Ok (record { service = service; target = r.target; body = r.body })) (sym is.2)

pub one_request : (bytes : List ℕ) → IsBytes bytes → (r : Result RequestFields ReadFault) → IsRequestReading bytes r → request_reading bytes ≡ r
one_request bytes fits (Ok r) is = request_reads bytes r is
one_request bytes fits (Err NotEnough) is = lacking_reads bytes fits is
one_request bytes fits (Err TooMuch) is = absurd is
one_request bytes fits (Err (Path f)) is = begun bytes is.0 is.1 (Err f) is.2 (one_target_reading is.0.1 (tail_fits bytes is.0 is.1 fits is.2) (Err f) is.3)

-- ---- the ends of a reading

ends : (bytes : List ℕ) (found : Option (Tailed × List ℕ)) → cut bytes ≡ found → request_reading bytes ≡ request_of found
unfolding request_reading
ends bytes found e = ap request_of e

-- no service, or no number of words
pub lacks_service : (bytes : List ℕ) → field_at w8 bytes ≡ None → request_reading bytes ≡ Err NotEnough
lacks_service bytes e = let none : fields_at request_widths bytes ≡ None = ap (λ (r : Option (ℕ × List ℕ)). then_at r (λ n rest. then_at (fields_at (w8 ∷ []) rest) (λ ns after. Some (n ∷ ns, after)))) e in ends bytes None (rw none refl)

second : ℕ → Option (ℕ × List ℕ) → Option Tailed
second service r = then_at (then_at r (λ n rest. Some (n ∷ [], rest))) (λ ns after. Some (service ∷ ns, after))

fields_then : (bytes after : List ℕ) (service : ℕ) (r : Option (ℕ × List ℕ)) → field_at w8 bytes ≡ Some (service, after) → field_at w8 after ≡ r → fields_at request_widths bytes ≡ second service r
unfolding second
fields_then bytes after service r e f =
    ap (λ (r : Option (ℕ × List ℕ)). then_at r (λ n rest. then_at (fields_at (w8 ∷ []) rest) (λ ns after. Some (n ∷ ns, after)))) e
    ∙ ap (second service) f

pub lacks_words : (bytes after : List ℕ) (service : ℕ) → field_at w8 bytes ≡ Some (service, after) → field_at w8 after ≡ None → request_reading bytes ≡ Err NotEnough
unfolding second
lacks_words bytes after service e f = let none : fields_at request_widths bytes ≡ None = fields_then bytes after service None e f in ends bytes None (rw none refl)

both : (bytes after rest : List ℕ) (service words : ℕ) → field_at w8 bytes ≡ Some (service, after) → field_at w8 after ≡ Some (words, rest) → fields_at request_widths bytes ≡ Some (service ∷ words ∷ [], rest)
unfolding second
both bytes after rest service words e f = fields_then bytes after service (Some (words, rest)) e f

-- too few bytes for the path
pub lacks_path : (bytes after rest : List ℕ) (service words : ℕ) → field_at w8 bytes ≡ Some (service, after) → field_at w8 after ≡ Some (words, rest) → length rest < 2 * words → request_reading bytes ≡ Err NotEnough
lacks_path bytes after rest service words e f less = ends bytes None (rw (both bytes after rest service words e f, lt-ltb _ _ less) refl)

-- a whole path
path_stands : (bytes after rest : List ℕ) (service words : ℕ) (r : Result Target PathFault) → field_at w8 bytes ≡ Some (service, after) → field_at w8 after ≡ Some (words, rest) → 2 * words ≤ length rest → target_reading (take (2 * words) rest) ≡ r
    → request_reading bytes ≡ with_target service (drop (2 * words) rest) r
path_stands bytes after rest service words r e f enough read =
    ends bytes (Some ((service ∷ words ∷ [], take (2 * words) rest), drop (2 * words) rest)) (rw (both bytes after rest service words e f, le-ltb (length rest) (2 * words) enough) refl)
    ∙ ap (with_target service (drop (2 * words) rest)) read

pub ends_path : (bytes after rest path body : List ℕ) (service words n : ℕ) (r : Result Target PathFault) → field_at w8 bytes ≡ Some (service, after) → field_at w8 after ≡ Some (words, rest) → n ≡ words → 2 * n ≤ length rest → path ≡ take (2 * n) rest → body ≡ drop (2 * n) rest → r ≡ target_reading path
    → request_reading bytes ≡ with_target service body r
ends_path bytes after rest path body service words n r e f same enough front back read =
    path_stands bytes after rest service words r e f (rw same at enough) (ap target_reading (ap (λ (k : ℕ). take (2 * k) rest) (sym same) ∙ sym front) ∙ sym read)
    ∙ ap (λ (x : List ℕ). with_target service x r) (ap (λ (k : ℕ). drop (2 * k) rest) (sym same) ∙ sym back)
