-- The effect of statements has one count of touched rows for each of them.
use Rattle.std.proofs.Common.{◌≡◌, ◌∙◌, ℕ, ◌+◌, ◌≤◌, count_by, length, map, List, [], ◌∷◌, ◌++◌, Result, Ok, Err, refl, sym, ap, subst, arith}
use Rattle.std.specs.Prelude.{min, ◌-◌, ◌^◌}
use Rattle.std.proofs.lemmas.List.{length-append}
use Rattle.seata_types.specs.declared.errors.StmtError.{StmtError}
use Rattle.seata_types.specs.declared.limits.TheConstants.{CALL_ROWS}
use Rattle.seata_types.specs.declared.statements.Stmt.{Stmt}
use Rattle.local_tables.specs.Calls.{Call, Meaning, nothing, rows_seen, is_only_read, step, steps, effect, effect_of, image_of, to_effect}
use Rattle.local_tables.specs.Rows.{Database, put_all}
use Rattle.local_tables.specs.Touches.{touches}
use Rattle.local_tables.specs.declared.schemas.Effect.{Effect}
use Rattle.local_tables.proofs.MeaningLaws.{Oks, step_oks, with_step}

-- ---- a call, statement after statement

-- a call that counts n statements, and touches and reads no more rows than it may
record IsCounted (n : ℕ) (call : Call) : Type 0 where
  counts : length call.touched ≡ n
  few : length call.changes ≤ CALL_ROWS

few_seen : (call : Call) → rows_seen call ≤ CALL_ROWS → length call.changes ≤ CALL_ROWS
few_seen call e =
    let all : length call.changes + count_by (is_only_read call.changes) call.reads ≤ CALL_ROWS = e in omega (arith, all)

one_more : (ns : List ℕ) (n count : ℕ) → length ns ≡ n → length (ns ++ count ∷ []) ≡ n + 1
one_more ns n count e = length-append ns (count ∷ []) ∙ ap (λ (m : ℕ). m + 1) e

step_counts : (db : Database) (call : Call) (s : Stmt) (n : ℕ) → length call.touched ≡ n → Oks (IsCounted (n + 1)) (step db call s)
step_counts db call s n h =
    step_oks db call s (IsCounted (n + 1)) (λ def is. record {
      counts = one_more call.touched n (min (length (touches db.resource def s (put_all db.rows call.changes))) (2 ^ 32 - 1)) h;
      few = few_seen (with_step db call s def) is.few;
    })

steps_count : (db : Database) (ss : List Stmt) (i n : ℕ) (m : Meaning Call) (call : Call) → Oks (IsCounted n) m → steps db i m ss ≡ Ok call → IsCounted (n + length ss) call
steps_count db [] i n (Ok c) call h e =
    let same : c ≡ call = cc in
    let none : n + 0 ≡ n = omega arith in
    subst (λ (m : ℕ). IsCounted m call) (sym none) (subst (IsCounted n) same h)
steps_count db [] i n (Err f) call h e = absurd cc
steps_count db (s ∷ ss) i n (Ok c) call h e =
    let more : n + 1 + length ss ≡ n + length (s ∷ ss) = omega arith in
    subst (λ (m : ℕ). IsCounted m call) more (steps_count db ss (i + 1) (n + 1) (step db c s) call (step_counts db c s n h.counts) e)
steps_count db (s ∷ ss) i n (Err f) call h e = absurd cc

-- an effect of n statements
pub record IsCountedEffect (n : ℕ) (e : Effect) : Type 0 where
  pub counts : length e.touched ≡ n
  pub few : length e.images ≤ CALL_ROWS

mapped_length : {X Y : Type 0} (f : X → Y) (xs : List X) → length (map f xs) ≡ length xs
mapped_length f [] = refl
mapped_length f (x ∷ xs) = let rest = mapped_length f xs in omega (arith, rest)

effect_counts : (db : Database) (ss : List Stmt) (r : Result Call (ℕ × StmtError)) (e : Effect) → steps db 0 (Ok nothing) ss ≡ r → to_effect db r ≡ Ok e → IsCountedEffect (length ss) e
effect_counts db ss (Ok call) e is means =
    let same : effect_of db call ≡ e = cc in
    let counted = steps_count db ss 0 0 (Ok nothing) call (record { counts = refl; few = omega arith }) is in
    let none : 0 + length ss ≡ length ss = omega arith in
    let few : length (map (image_of db.rows) call.changes) ≤ CALL_ROWS = let k = mapped_length (image_of db.rows) call.changes in let f = counted.few in omega (arith, k, f) in
    subst (IsCountedEffect (length ss)) same (record { counts = counted.counts ∙ none; few = few })
effect_counts db ss (Err f) e is means = absurd cc

-- one count of touched rows for each statement, and no more rows than a call may touch
pub counted_effect : (db : Database) (ss : List Stmt) (e : Effect) → effect db ss ≡ Ok e → IsCountedEffect (length ss) e
unfolding effect
counted_effect db ss e means = effect_counts db ss (steps db 0 (Ok nothing) ss) e refl means
