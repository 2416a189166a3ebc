-- A word carries one value of the parameters, which is what its fields say.
use Rattle.std.proofs.Common.{◌≡◌, ℕ, ◌/◌, ◌%◌, ◌<◌, ◌^◌, Bool, true, false, Some, eqb, arith, refl, sym, ap, ◌∙◌}
use Rattle.std.specs.Int.{from_bool}
use Rattle.cip_netparams.specs.declared.NetParams.{NetParams}
use Rattle.cip_netparams.specs.declared.Priority.{Priority}
use Rattle.cip_netparams.specs.declared.Priority.TheVariants.{Low, High, Scheduled, Urgent}
use Rattle.cip_netparams.specs.declared.ConnectionType.{ConnectionType}
use Rattle.cip_netparams.specs.declared.ConnectionType.TheVariants.{Null, Multicast, PointToPoint, Reserved}
use Rattle.cip_netparams.specs.declared.Trigger.{Trigger}
use Rattle.cip_netparams.specs.declared.Trigger.TheVariants.{Cyclic, ChangeOfState}
use Rattle.cip_netparams.specs.Word.{priority_code, type_code, priority_of, type_of, IsWord16, IsWord32, word16, word32, params16, params32, trigger_of, trigger_byte}
use Rattle.cip_netparams.specs.Laws.Bits.{flag_below, fields_16, fields_32, sum_16, sum_32}

pub priority_below : (p : Priority) → priority_code p < 4
priority_below Low = omega arith
priority_below High = omega arith
priority_below Scheduled = omega arith
priority_below Urgent = omega arith

pub type_below : (k : ConnectionType) → type_code k < 4
type_below Null = omega arith
type_below Multicast = omega arith
type_below PointToPoint = omega arith
type_below Reserved = omega arith

-- ---- a field says what it was made of

flag_back : (b : Bool) → eqb (from_bool b) 1 ≡ b
flag_back true = refl
flag_back false = refl

priority_back : (p : Priority) → priority_of (priority_code p) ≡ p
priority_back Low = refl
priority_back High = refl
priority_back Scheduled = refl
priority_back Urgent = refl

type_back : (k : ConnectionType) → type_of (type_code k) ≡ k
type_back Null = refl
type_back Multicast = refl
type_back PointToPoint = refl
type_back Reserved = refl

flag_is : (b : Bool) (n : ℕ) → from_bool b ≡ n → eqb n 1 ≡ b
flag_is b n e = ap (λ (x : ℕ). eqb x 1) (sym e) ∙ flag_back b

priority_is : (p : Priority) (n : ℕ) → priority_code p ≡ n → priority_of n ≡ p
priority_is p n e = ap priority_of (sym e) ∙ priority_back p

type_is : (k : ConnectionType) (n : ℕ) → type_code k ≡ n → type_of n ≡ k
type_is k n e = ap type_of (sym e) ∙ type_back k

abbrev made : ℕ → Bool → Priority → ConnectionType → Bool → NetParams
made s v p k r = record { size = s; variable = v; priority = p; kind = k; redundant = r }

same_made : (s s' : ℕ) (v v' : Bool) (p p' : Priority) (k k' : ConnectionType) (r r' : Bool) → s ≡ s' → v ≡ v' → p ≡ p' → k ≡ k' → r ≡ r' → made s v p k r ≡ made s' v' p' k' r'
same_made s s' v v' p p' k k' r r' a b c d e = rw (a, b, c, d, e) refl

-- ---- what a word carries is what its fields say

pub params_of_16 : (w : ℕ) (a : NetParams) → IsWord16 w a → params16 w ≡ a
unfolding params16
params_of_16 w a is =
    let f = fields_16 w a.size (from_bool a.variable) (priority_code a.priority) is.1.0 (type_code a.kind) (from_bool a.redundant) is.0 (flag_below a.variable) (priority_below a.priority) is.1.1 (type_below a.kind) (flag_below a.redundant) is.1.2 in
    same_made _ _ _ _ _ _ _ _ _ _ (sym f.0) (flag_is a.variable _ f.1) (priority_is a.priority _ f.2) (type_is a.kind _ f.3) (flag_is a.redundant _ f.4)

pub params_of_32 : (w : ℕ) (a : NetParams) → IsWord32 w a → params32 w ≡ a
unfolding params32
params_of_32 w a is =
    let f = fields_32 w a.size is.1.0 (from_bool a.variable) (priority_code a.priority) is.1.1 (type_code a.kind) (from_bool a.redundant) is.0 is.1.2 (flag_below a.variable) (priority_below a.priority) is.1.3 (type_below a.kind) (flag_below a.redundant) is.1.4 in
    same_made _ _ _ _ _ _ _ _ _ _ (sym f.0) (flag_is a.variable _ f.1) (priority_is a.priority _ f.2) (type_is a.kind _ f.3) (flag_is a.redundant _ f.4)

-- ---- a word that is written carries the parameters

-- the parameters are read from the word of 16 bits that carries them
pub word16_reads : (p : NetParams) → p.size < 2 ^ 9 → params16 (word16 p 0) ≡ p
word16_reads p small = params_of_16 (word16 p 0) p (small, (0, omega arith, refl))

-- the parameters are read from the word of 32 bits that carries them
pub word32_reads : (p : NetParams) → p.size < 2 ^ 16 → params32 (word32 p 0 0) ≡ p
word32_reads p small = params_of_32 (word32 p 0 0) p (small, (0, 0, omega arith, omega arith, refl))

-- ---- fields that are cut from a word make it

pub carries_16 : (w : ℕ) (a : NetParams) → w < 2 ^ 16 → a.size ≡ w % 512 → from_bool a.variable ≡ w / 512 % 2 → priority_code a.priority ≡ w / 1024 % 4 → type_code a.kind ≡ w / 8192 % 4 → from_bool a.redundant ≡ w / 32768 → IsWord16 w a
carries_16 w a lt s v p k r = (omega arith, (w / 4096 % 2, omega arith, omega (arith, sum_16 w lt)))

pub carries_32 : (w : ℕ) (a : NetParams) → w < 2 ^ 32 → a.size ≡ w % 65536 → from_bool a.variable ≡ w / 2 ^ 25 % 2 → priority_code a.priority ≡ w / 2 ^ 26 % 4 → type_code a.kind ≡ w / 2 ^ 29 % 4 → from_bool a.redundant ≡ w / 2 ^ 31 → IsWord32 w a
carries_32 w a lt s v p k r = (omega arith, (w / 2 ^ 16 % 512, w / 2 ^ 28 % 2, omega arith, omega arith, omega (arith, sum_32 w lt)))

-- ---- a trigger's byte names it

-- the trigger is read from its byte
pub trigger_reads : (t : Trigger) → trigger_of (trigger_byte t) ≡ Some t
trigger_reads Cyclic = refl
trigger_reads ChangeOfState = refl
