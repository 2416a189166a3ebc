-- The number that is read of an option, and what clap's contracts say of the program's commands.
use Rattle.std.proofs.Common.{◌≡◌, ◌∙◌, ℕ, ◌<◌, ◌+◌, ◌^◌, Bool, true, false, cond, not, Option, Some, None, Result, Ok, Err, refl, sym, ap, subst, arith}
use Rattle.std.specs.Prelude.{unwrap_or, option_and_then, ◌&&◌}
use Rattle.std.specs.Str.Parse.{ParsesUnsigned, digits_value, without_leading_plus}
use Rattle.clap.specs.Matches.{ReadsOne, one_text}
use Rattle.clap.specs.ValueTests.{accepts}
use Rattle.clap.specs.Walk.{Text, rows_of}
use Rattle.clap.specs.declared.parser.matches.Found.{Found}
use Rattle.clap.specs.declared.builder.value_parser.ValueParser.TheVariants as vp
use Rattle.clap.proofs.ValueTestLemmas.{accepts-Accepts, Accepts-accepts}
use Rattle.clap.proofs.WalkLemmas.{one_text-rows}
use Rattle.command_lines.specs.LineCommands.{number_of, number_or}

abbrev choice : Text → Bool → Option ℕ
choice word b = cond b (Some (digits_value 10 (without_leading_plus word))) None

-- a number of k bits is read of a word exactly if the word writes one
module _ (E : Type 0) (k most : ℕ) (full : most + 1 ≡ 2 ^ k) (wide : most < 2 ^ 64) where
  read_some : (word : Text) (n : ℕ) → ParsesUnsigned {E = E} k 10 word (Ok n) → Some n ≡ number_of most word
  read_some word n h =
      let low : digits_value 10 (without_leading_plus word) < most + 1 = subst (λ m. digits_value 10 (without_leading_plus word) < m) (sym full) h.0.1 in
      let yes : accepts true (vp.Unsigned 0 most) word ≡ true = Accepts-accepts true (vp.Unsigned 0 most) word (h.0.0, omega (arith, low, wide), omega arith, omega (arith, low)) in
      ap Some h.1 ∙ sym (ap (choice word) yes)

  read_none : (word : Text) (e : E) → ParsesUnsigned {E = E} k 10 word (Err e) → (b : Bool) → accepts true (vp.Unsigned 0 most) word ≡ b → None ≡ choice word b
  read_none word e h false is = refl
  read_none word e h true is =
      let yes = accepts-Accepts true (vp.Unsigned 0 most) word is in
      let low : digits_value 10 (without_leading_plus word) < most + 1 = omega (arith, yes.3) in
      absurd (h (yes.0, subst (λ m. digits_value 10 (without_leading_plus word) < m) full low))

  read_word : (G : Text → Result ℕ E → Type 0) → ((u : Text) (x : Result ℕ E) → G u x → ParsesUnsigned k 10 u x) → (word : Text) (got : Option ℕ) → ReadsOne G word got → got ≡ number_of most word
  read_word G only word (Some n) h = read_some word n (only word (Ok n) h)
  read_word G only word None h = read_none word h.0 (only word (Err h.0) h.1) _ refl

  pub number_read : (G : Text → Result ℕ E → Type 0) → ((u : Text) (x : Result ℕ E) → G u x → ParsesUnsigned k 10 u x) → (f : Found) (name : Text) (usual : ℕ) (got : Option ℕ)
      → (one_text f name ≡ None → got ≡ None) → ((t : Text) → one_text f name ≡ Some t → ReadsOne G t got)
      → unwrap_or got usual ≡ number_or most usual name (rows_of f)
  number_read G only f name usual got none value = ap (λ o. unwrap_or o usual) (go (one_text f name) refl ∙ ap (option_and_then (number_of most)) (one_text-rows f name))
    where
      go : (o : Option Text) → one_text f name ≡ o → got ≡ option_and_then (number_of most) (one_text f name)
      go None is = none is ∙ sym (ap (option_and_then (number_of most)) is)
      go (Some t) is = read_word G only t got (value t is) ∙ sym (ap (option_and_then (number_of most)) is)

-- a plain command has no global option
pub no_globals : (a b c rest : Bool) → (a && (b && (not c && rest))) ≡ true → c ≡ false
no_globals false b c rest h = absurd (cc)
no_globals true false c rest h = absurd (cc)
no_globals true true true rest h = absurd (cc)
no_globals true true false rest h = refl
