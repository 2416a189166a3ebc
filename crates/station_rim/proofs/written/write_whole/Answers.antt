use Rattle.std.proofs.Common.{◌≡◌, ℕ, List, [], ◌++◌, Result, Ok, Err, rules, take, sym, ap, ◌∙◌, subst, append-nil, drop_of_length-le}
use Rattle.std.specs.Prelude.{OnOk}
use Rattle.std.specs.Io.KnownBytes.{Appends}
use Rattle.station_rim.proofs.Appended.{more_is_appended, kept_behind, moves_front}
use Rattle.station_rim.proofs.written.write_whole.Goals as goal

whatever : {T E : Type 0} (said : Result T E) (P : Type 0) → P → OnOk said P
whatever (Ok value) P p = p
whatever (Err fault) P p = tt

pub loop-preserved : goal.loop-preserved
loop-preserved g c =
    let (done, split, appended) = c.loop.invariant in
    let rest = c.loop.rest.now in
    let n = c.in_ok-count.count in
    (done ++ take n rest, moves_front _ done rest n split, more_is_appended _ _ _ _ _ appended c.in_ok-count.ensures.bytes)

pub returns-then-is_empty : goal.returns-then-is_empty
returns-then-is_empty g c =
    let (done, split, appended) = c.loop.invariant in
    let rest = c.loop.rest.now in
    let empty : rest ≡ [] = drop_of_length-le rest {i = 0} (search rules) in
    let all : done ≡ c.args.text.now = sym (split ∙ ap (λ (l : List ℕ). done ++ l) empty ∙ append-nil done) in
    whatever c.flush.result _ (subst (Appends _ _) all (kept_behind _ _ _ done appended c.flush.ensures.bytes))
