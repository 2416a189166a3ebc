-- Words of connection parameters of either width.
use Rattle.std.proofs.Common.{◌≡◌, ℕ, ◌%◌, ◌/◌, ◌<◌, ◌≤◌, ◌^◌, Bool, true, false, bit_and, refl, arith}
use Rattle.std.specs.Int.{byte_len}
use Rattle.std.proofs.lemmas.Nat.{and_mask}
use Rattle.cip_types.specs.FieldLaws.{IsWide, wide16, wide32}
use Rattle.cip_netparams.specs.declared.NetParams.{NetParams}
use Rattle.cip_netparams.specs.Word.{params16}
use Rattle.cip_netparams.specs.Laws.Bits.{flag_below}
use Rattle.cip_netparams.specs.Laws.Words.{priority_below, type_below, word16_reads, word32_reads}
use Rattle.cip_fwdopen.specs.Open.{params_width, params_of, params_word, greatest_size}

pub wide_params : (large : Bool) → IsWide (params_width large)
wide_params true = wide32
wide_params false = wide16

-- the lower half of a word carries what the word does
low_half : (word low : ℕ) → low ≡ word % 65536 → params16 low ≡ params16 word
unfolding params16
low_half word low e =
    let size : low % 512 ≡ word % 512 = omega arith in
    let variable : low / 512 % 2 ≡ word / 512 % 2 = omega arith in
    let priority : low / 1024 % 4 ≡ word / 1024 % 4 = omega arith in
    let kind : low / 8192 % 4 ≡ word / 8192 % 4 = omega arith in
    let redundant : low / 32768 % 2 ≡ word / 32768 % 2 = omega arith in
    rw (size, variable, priority, kind, redundant) refl

pub masked_half : (word : ℕ) → params16 (bit_and word 65535) ≡ params16 word
masked_half word = low_half word (bit_and word 65535) (and_mask word 16)

pub params_back : (large : Bool) (p : NetParams) → p.size ≤ greatest_size large → params_of large (params_word large p) ≡ p
params_back true p small = word32_reads p (omega arith)
params_back false p small = word16_reads p (omega arith)

pub params_word_fits : (large : Bool) (p : NetParams) → p.size ≤ greatest_size large → params_word large p < 256 ^ byte_len (params_width large)
params_word_fits true p small = omega (arith, flag_below p.variable, flag_below p.redundant, priority_below p.priority, type_below p.kind)
params_word_fits false p small = omega (arith, flag_below p.variable, flag_below p.redundant, priority_below p.priority, type_below p.kind)
