-- Where a deadline waits, as time moves on.
use Rattle.std.proofs.Common.{◌≡◌, ◌≢◌, ℕ, ◌+◌, ◌/◌, ◌%◌, ◌^◌, ◌<◌, ◌≤◌, inl, inr, arith, eq-eqb, ne_eqb, sym, ◌∙◌}
use Rattle.std.proofs.lemmas.Bool.{cases_eq, cond-true, cond-false}
use Rattle.timer_wheel.specs.Levels.{slot_of}
use Rattle.timer_wheel.specs.Layout.{MovesDown}

-- the three levels
pub data IsIn (d n slot : ℕ) : Type 0 where
  low : d / 256 ≡ n / 256 → slot ≡ d % 256 → IsIn d n slot
  middle : d / 256 ≢ n / 256 → d / 65536 ≡ n / 65536 → slot ≡ 256 + d / 256 % 256 → IsIn d n slot
  high : d / 65536 ≢ n / 65536 → slot ≡ 512 + d / 65536 % 256 → IsIn d n slot

-- a block lies in one block of the level above
blocks : (d n : ℕ) → d / 256 ≡ n / 256 → d / 65536 ≡ n / 65536
blocks d n same = omega arith

pub slot_of_cases : (d n : ℕ) → IsIn d n (slot_of d n)
unfolding slot_of
slot_of_cases d n =
    elim (cases_eq (d / 256) (n / 256)) [
      | inl same ↦ low same (cond-true _ _ _ (eq-eqb _ _ same))
      | inr differs ↦
          elim (cases_eq (d / 65536) (n / 65536)) [
            | inl same ↦ middle differs same (cond-false _ _ _ (ne_eqb _ _ differs) ∙ cond-true _ _ _ (eq-eqb _ _ same))
            | inr apart ↦ high apart (cond-false _ _ _ (ne_eqb _ _ differs) ∙ cond-false _ _ _ (ne_eqb _ _ apart))
          ]
    ]

pub slot_of-low : (d n : ℕ) → d / 256 ≡ n / 256 → slot_of d n ≡ d % 256
unfolding slot_of
slot_of-low d n same = cond-true _ _ _ (eq-eqb _ _ same)

pub slot_of-middle : (d n : ℕ) → d / 256 ≢ n / 256 → d / 65536 ≡ n / 65536 → slot_of d n ≡ 256 + d / 256 % 256
unfolding slot_of
slot_of-middle d n differs same = cond-false _ _ _ (ne_eqb _ _ differs) ∙ cond-true _ _ _ (eq-eqb _ _ same)

pub slot_of-high : (d n : ℕ) → d / 65536 ≢ n / 65536 → slot_of d n ≡ 512 + d / 65536 % 256
unfolding slot_of
slot_of-high d n apart = cond-false _ _ _ (ne_eqb _ _ (λ same. apart (blocks d n same))) ∙ cond-false _ _ _ (ne_eqb _ _ apart)

pub slot_of-bound : (d n : ℕ) → slot_of d n < 768
slot_of-bound d n =
    elim (slot_of_cases d n) [
      | low same is ↦ omega arith
      | middle differs same is ↦ omega arith
      | high apart is ↦ omega arith
    ]

-- what waits in these slots stays there, and isn't due
abbrev pub Stays : (before now from to : ℕ) → Type 0
Stays before now from to =
    (d : ℕ) → before ≤ d → d < before + 2 ^ 24
    → from ≤ slot_of d before → slot_of d before < to → (now < d) × (slot_of d now ≡ slot_of d before)

module _ (before now : ℕ) (forward : before ≤ now) (short : now ≤ before + 60000) where
  -- nothing waits before the present slot of a level
  pub low_first : Stays before now 0 (before % 256)
  low_first d ahead reach from to =
      absurd (elim (slot_of_cases d before) [
        | low same is ↦ omega arith
        | middle differs same is ↦ omega arith
        | high apart is ↦ omega arith
      ])

  pub middle_first : Stays before now 256 (257 + before / 256 % 256)
  middle_first d ahead reach from to =
      absurd (elim (slot_of_cases d before) [
        | low same is ↦ omega arith
        | middle differs same is ↦ omega arith
        | high apart is ↦ omega arith
      ])

  -- within a block of the lowest level
  module _ (block : before / 256 ≡ now / 256) where
    pub low_down : MovesDown before now (before % 256) (now % 256 + 1)
    low_down d ahead reach from to later =
        absurd (elim (slot_of_cases d before) [
          | low same is ↦ omega arith
          | middle differs same is ↦ omega arith
          | high apart is ↦ omega arith
        ])

    pub low_rest : Stays before now (now % 256 + 1) 768
    low_rest d ahead reach from to =
        elim (slot_of_cases d before) [
          | low same is ↦ (omega arith, slot_of-low d now (same ∙ block) ∙ sym is)
          | middle differs same is ↦ (omega arith, slot_of-middle d now (λ e. differs (e ∙ sym block)) (same ∙ blocks before now block) ∙ sym is)
          | high apart is ↦ (omega arith, slot_of-high d now (λ e. apart (e ∙ sym (blocks before now block))) ∙ sym is)
        ]

  -- past the end of such a block
  module _ (past : before / 256 ≢ now / 256) where
    pub all_low : MovesDown before now (before % 256) 256
    all_low d ahead reach from to later =
        absurd (elim (slot_of_cases d before) [
          | low same is ↦ omega arith
          | middle differs same is ↦ omega arith
          | high apart is ↦ omega arith
        ])

    -- within a block of the middle level
    module _ (block : before / 65536 ≡ now / 65536) where
      pub middle_down : MovesDown before now (257 + before / 256 % 256) (257 + now / 256 % 256)
      middle_down d ahead reach from to later =
          elim (slot_of_cases d before) [
            | low same is ↦ absurd (omega arith)
            | middle differs same is ↦
                let here : d / 256 ≡ now / 256 = omega arith in
                omega (arith, slot_of-low d now here)
            | high apart is ↦ absurd (omega arith)
          ]

      pub middle_rest : Stays before now (257 + now / 256 % 256) 768
      middle_rest d ahead reach from to =
          elim (slot_of_cases d before) [
            | low same is ↦ absurd (omega arith)
            | middle differs same is ↦
                let beyond : now / 256 < d / 256 = omega arith in
                (omega arith, slot_of-middle d now (λ e. absurd (omega arith)) (same ∙ block) ∙ sym is)
            | high apart is ↦ (omega arith, slot_of-high d now (λ e. apart (e ∙ sym block)) ∙ sym is)
          ]

    -- past the end of a block of the middle level
    module _ (over : before / 65536 ≢ now / 65536) where
      pub all_middle : MovesDown before now (257 + before / 256 % 256) 512
      all_middle d ahead reach from to later =
          absurd (elim (slot_of_cases d before) [
            | low same is ↦ omega arith
            | middle differs same is ↦ omega arith
            | high apart is ↦ omega arith
          ])

      next_block : now / 65536 ≡ before / 65536 + 1
      next_block = omega arith

      pub high_first : Stays before now 512 (512 + now / 65536 % 256)
      high_first d ahead reach from to =
          let next = next_block in
          elim (slot_of_cases d before) [
            | low same is ↦ absurd (omega arith)
            | middle differs same is ↦ absurd (omega arith)
            | high apart is ↦
                let other : d / 65536 ≢ now / 65536 = λ e. absurd (omega arith) in
                (omega arith, slot_of-high d now other ∙ sym is)
          ]

      pub high_down : MovesDown before now (512 + now / 65536 % 256) (512 + now / 65536 % 256 + 1)
      high_down d ahead reach from to later =
          let next = next_block in
          elim (slot_of_cases d before) [
            | low same is ↦ absurd (omega arith)
            | middle differs same is ↦ absurd (omega arith)
            | high apart is ↦
                let here : d / 65536 ≡ now / 65536 = omega arith in
                elim (slot_of_cases d now) [
                  | low same at ↦ omega arith
                  | middle differs same at ↦ omega arith
                  | high other at ↦ absurd (other here)
                ]
          ]

      pub high_rest : Stays before now (512 + now / 65536 % 256 + 1) 768
      high_rest d ahead reach from to =
          let next = next_block in
          elim (slot_of_cases d before) [
            | low same is ↦ absurd (omega arith)
            | middle differs same is ↦ absurd (omega arith)
            | high apart is ↦
                let other : d / 65536 ≢ now / 65536 = λ e. absurd (omega arith) in
                (omega arith, slot_of-high d now other ∙ sym is)
          ]
