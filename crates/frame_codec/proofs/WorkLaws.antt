-- Statements and work are read back, and what is read as such stands there.
use Rattle.std.proofs.Common.{◌≡◌, ℕ, Bool, true, false, cond, IsTrue, Option, Some, None, List, [], ◌∷◌, ◌++◌, Result, Ok, Err, refl, sym, ap, subst}
use lib.Pointwise.{bytes_decides}
use Rattle.seata_types.specs.Orders.{same_text}
use Rattle.seata_types.specs.declared.statements.Stmt.{Stmt}
use Rattle.seata_types.specs.declared.statements.Work.TheVariants as work
use Rattle.sql_reader.specs.declared.errors.SqlError.{SqlError}
use Rattle.sql_reader.specs.Answer.{reading}
use Rattle.sql_reader.specs.Readable.{IsReadable}
use Rattle.sql_reader.specs.Canonical.{canonical_text}
use Rattle.sql_reader.proofs.ReadBack.{reading_canonical, reading_readable}
use Rattle.byte_fields.specs.Layout.{any_order, may_come, FitsText, text_bytes}
use Rattle.byte_fields.specs.Reading.{Position, text_at, list_at}
use Rattle.byte_fields.specs.Exactness.{Stands, ReadsExactly}
use Rattle.byte_fields.proofs.Chains.{ReadsParts, part, last_part, step_ok, ok_is}
use Rattle.byte_fields.proofs.Texts.{text_exact}
use Rattle.byte_fields.proofs.KeyLaws.{in_no_order}
use Rattle.byte_fields.proofs.Sequences.{FollowsExactly, list_exact}
use Rattle.frame_codec.specs.Works.{stmt_bytes, FitsStmt, if_canonical, stmt_of, stmt_or_fault, stmt_at, FitsStmts, stmts_bytes, any_stmt, stmts_at, work_tag, work_rest, work_bytes, FitsWork, at_work_at, tcc_work_at, work_at}
use Rattle.byte_fields.proofs.Tables.{IsComplete, sound, tagged_exact}

-- ---- canonical texts

pub is_text : (s : Stmt) → IsReadable s → stmt_of (canonical_text s) ≡ Some s
unfolding stmt_of
is_text s readable =
    let same : same_text (canonical_text s) (canonical_text s) ≡ true = (bytes_decides (canonical_text s) (canonical_text s)).1 refl in
    rw (reading_canonical s readable, same) refl

kept : (text : List ℕ) (s t : Stmt) (b : Bool) → same_text (canonical_text s) text ≡ b → cond b (Some s) None ≡ Some t → (s ≡ t) × (canonical_text s ≡ text)
kept text s t true same e = (cc, (bytes_decides (canonical_text s) text).0 same)
kept text s t false same e = absurd cc

found : (text : List ℕ) (read : Result Stmt SqlError) (t : Stmt) → if_canonical text read ≡ Some t → (read ≡ Ok t) × (canonical_text t ≡ text)
found text (Ok s) t e =
    let k = kept text s t (same_text (canonical_text s) text) refl e in
    (ap (λ (x : Stmt). Ok x) k.0, rw k.0 at k.1)
found text (Err refused) t e = absurd cc

pub has_text : (text : List ℕ) (s : Stmt) → stmt_of text ≡ Some s → IsReadable s × (canonical_text s ≡ text)
unfolding stmt_of
has_text text s e =
    let f = found text (reading text) s e in
    (reading_readable text s f.0, f.1)

-- ---- a statement

given : (place : ℕ) (read : Option Stmt) (p : Position) (y : Stmt × Position) → stmt_or_fault place read p ≡ Ok y → (read ≡ Some y.0) × (p ≡ y.1)
given place (Some s) p y e = let same = ok_is (s, p) y e in (ap (λ (z : Stmt × Position). Some z.0) same, ap (λ (z : Stmt × Position). z.1) same)
given place None p y e = absurd cc

pub stmt_exact : ReadsExactly stmt_at stmt_bytes FitsStmt
unfolding stmt_at stmt_bytes
stmt_exact = record {
  back = λ s at rest fits. rw (text_exact.back (canonical_text s) at rest fits.text, is_text s fits.readable) refl;
  only = λ s place after all e.
      let a = step_ok (text_at place) (λ text. stmt_or_fault place.at (stmt_of text)) (s, after) e in
      let text = text_exact.only a.0.0 place a.0.1 all a.1 in
      let g = given place.at (stmt_of a.0.0) a.0.1 (s, after) a.2 in
      let has = has_text a.0.0 s g.0 in
      let there : Stands place (text_bytes a.0.0) after = subst (λ (p : Position). Stands place (text_bytes a.0.0) p) g.1 text.1 in
      (record { readable = has.0; text = subst FitsText (sym has.1) text.0 }, subst (λ (t : List ℕ). Stands place (text_bytes t) after) (sym has.1) there);
}

comes : (last : Option Stmt) (s : Stmt) → IsTrue (may_come any_order last s)
comes None s = refl
comes (Some last) s = refl

stmts_follow : FollowsExactly any_stmt stmt_bytes any_order FitsStmt
stmts_follow last = record {
  back = λ s at rest fits. stmt_exact.back s at rest fits.0;
  only = λ s place after all e.
      let f = stmt_exact.only s place after all e in
      ((f.0, comes last s), f.1);
}

pub stmts_exact : ReadsExactly stmts_at stmts_bytes FitsStmts
unfolding stmts_at list_at
stmts_exact = record {
  back = λ xs at rest fits. (list_exact any_order any_stmt stmt_bytes FitsStmt stmts_follow).back xs at rest (record { count = fits.count; each = fits.each; order = in_no_order None xs });
  only = λ xs place after all e.
      let f = (list_exact any_order any_stmt stmt_bytes FitsStmt stmts_follow).only xs place after all e in
      (record { count = f.0.count; each = f.0.each }, f.1);
}

-- ---- work

at_part : ReadsParts at_work_at work.At stmts_bytes FitsStmts
unfolding at_work_at
at_part = last_part work.At stmts_exact

tcc_part : ReadsParts tcc_work_at (λ (t : List Stmt × (List Stmt × List Stmt)). work.Tcc (record { tries = t.0; confirms = t.1.0; cancels = t.1.1 }))
    (λ t. stmts_bytes t.0 ++ (stmts_bytes t.1.0 ++ stmts_bytes t.1.1)) (λ t. FitsStmts t.0 × (FitsStmts t.1.0 × FitsStmts t.1.1))
unfolding tcc_work_at
tcc_part = part stmts_exact (λ tries. part stmts_exact (λ confirms. last_part (λ cancels. work.Tcc (record { tries = tries; confirms = confirms; cancels = cancels })) stmts_exact))

work_complete : IsComplete work_tag work_rest FitsWork ((0, at_work_at) ∷ (1, tcc_work_at) ∷ [])
work_complete (work.At stmts) fits = (at_work_at, refl, λ at rest. at_part.back stmts at rest fits)
work_complete (work.Tcc action) fits = (tcc_work_at, refl, λ at rest. tcc_part.back (action.tries, (action.confirms, action.cancels)) at rest (fits.0, (fits.1, fits.2)))

pub work_exact : ReadsExactly work_at work_bytes FitsWork
unfolding work_at
work_exact = tagged_exact work_tag work_rest FitsWork ((0, at_work_at) ∷ (1, tcc_work_at) ∷ []) work_complete (
  sound work_tag work_rest FitsWork 0 at_part (λ stmts fits. fits) (λ stmts. refl) (λ stmts. refl),
  (sound work_tag work_rest FitsWork 1 tcc_part (λ t fits. (fits.0, fits.1.0, fits.1.1)) (λ t. refl) (λ t. refl), tt),
)
