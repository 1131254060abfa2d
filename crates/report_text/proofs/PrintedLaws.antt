-- The lines of a report, put one section after the other.
use Rattle.std.proofs.Common.{◌≡◌, ℕ, List, [], ◌∷◌, ◌++◌, map, codes, refl, sym, ap, ◌∙◌, append_assoc, append-nil}
use Rattle.durable_records.specs.Fences.{Fence}
use Rattle.seata_types.specs.declared.ids.Leg.{Leg}
use Rattle.tcc_fence.specs.Meanings.{entry_of, fences_of}
use Rattle.tcc_fence.specs.declared.statuses.FenceStatus.{FenceStatus}
use Rattle.history_text.specs.declared.entries.Entry.{Entry}
use Rattle.history_text.specs.declared.entries.Names.{Names}
use Rattle.history_text.specs.Lines.{entry_text}
use Rattle.history_text.specs.Report.{line, lines, session_text, holder_text, table_row_text, fence_text}
use Rattle.report_text.specs.Keeping.{CoordinatorKept, ResourceKept}
use Rattle.report_text.specs.Sections.{line_in, locks_in, rows_kept, fences_kept, state_kept, text_kept}

-- ---- lines

lines_both : {A : Type 0} (text : A → List ℕ) (xs ys : List A) → lines text (xs ++ ys) ≡ lines text xs ++ lines text ys
lines_both text [] ys = refl
lines_both text (x ∷ xs) ys = ap (λ rest. line (text x) ++ rest) (lines_both text xs ys) ∙ sym (append_assoc (line (text x)) (lines text xs) (lines text ys))

-- with the lines of the first ones put, those of the rest are left
pub rest_left : {A : Type 0} (text : A → List ℕ) (xs rest : List A) (before after whole : List ℕ) → after ≡ before ++ lines text xs → before ++ lines text (xs ++ rest) ≡ whole
    → after ++ lines text rest ≡ whole
rest_left text xs rest before after whole put is =
    ap (λ out. out ++ lines text rest) put ∙ append_assoc before (lines text xs) (lines text rest) ∙ ap (λ behind. before ++ behind) (sym (lines_both text xs rest)) ∙ is

-- ---- fences

abbrev pub Numbered : Type 0
Numbered = ℕ × ((ℕ × ℕ) × Fence)

-- the branches that have a fence, behind the number of their resource
pub fences_numbered : (n : ℕ) (all : List (Leg × FenceStatus)) → map {B = Numbered} (λ f. (n, entry_of f)) all ≡ map {B = Numbered} (λ f. (n, f)) (fences_of all)
fences_numbered n [] = refl
fences_numbered n (f ∷ all) = ap (λ rest. (n, entry_of f) ∷ rest) (fences_numbered n all)

-- ---- sections

-- a section, and what comes behind it
section : (before after head body behind : List ℕ) → after ≡ before ++ (head ++ body) → after ++ behind ≡ before ++ (head ++ (body ++ behind))
section before after head body behind put =
    ap (λ out. out ++ behind) put ∙ append_assoc before (head ++ body) behind ∙ ap (λ rest. before ++ rest) (append_assoc head body behind)

-- what stands before more, where it ends in this
front : (head body rest more whole : List ℕ) → rest ++ more ≡ whole → (head ++ (body ++ rest)) ++ more ≡ head ++ (body ++ whole)
front head body rest more whole is = append_assoc head (body ++ rest) more ∙ ap (λ behind. head ++ behind) (append_assoc body rest more ∙ ap (λ behind. body ++ behind) is)

module _ (names : Names) (k : CoordinatorKept) (ks : List ResourceKept) where
  -- the sections of what stands, put one after the other
  pub state_printed : (out sessions held tables fences : List ℕ) → sessions ≡ out ++ (line (codes "sessions") ++ lines (session_text names) (map line_in k.known.sessions))
      → held ≡ sessions ++ (line (codes "locks") ++ lines (holder_text names) (locks_in k))
      → tables ≡ held ++ (line (codes "tables") ++ lines (table_row_text names) (rows_kept ks))
      → fences ≡ tables ++ (line (codes "fences") ++ lines (fence_text names) (fences_kept ks)) → fences ≡ out ++ state_kept names k ks []
  state_printed out sessions held tables fences a b c d =
      sym (append-nil fences)
      ∙ section tables fences (line (codes "fences")) (lines (fence_text names) (fences_kept ks)) [] d
      ∙ section held tables (line (codes "tables")) (lines (table_row_text names) (rows_kept ks)) _ c
      ∙ section sessions held (line (codes "locks")) (lines (holder_text names) (locks_in k)) _ b
      ∙ section out sessions (line (codes "sessions")) (lines (session_text names) (map line_in k.known.sessions)) _ a

  -- and more behind them
  state_front : (more : List ℕ) → state_kept names k ks [] ++ more ≡ state_kept names k ks more
  state_front more =
      front (line (codes "sessions")) (lines (session_text names) (map line_in k.known.sessions)) _ more _
      (front (line (codes "locks")) (lines (holder_text names) (locks_in k)) _ more _
      (front (line (codes "tables")) (lines (table_row_text names) (rows_kept ks)) _ more _
      (front (line (codes "fences")) (lines (fence_text names) (fences_kept ks)) [] more more refl)))

  pub text_printed : (es : List Entry) (reads out entries state heading whole : List ℕ) → entries ≡ out ++ (line (codes "entries") ++ lines (entry_text names) es)
      → state ≡ entries ++ state_kept names k ks [] → heading ≡ state ++ line (codes "reads") → whole ≡ heading ++ reads → whole ≡ out ++ text_kept names es k ks reads
  unfolding text_kept
  text_printed es reads out entries state heading whole a b c d =
      let more : List ℕ = line (codes "reads") ++ reads in
      d ∙ ap (λ text. text ++ reads) c ∙ append_assoc state (line (codes "reads")) reads
      ∙ ap (λ text. text ++ more) b ∙ append_assoc entries (state_kept names k ks []) more ∙ ap (λ text. entries ++ text) (state_front more)
      ∙ section out entries (line (codes "entries")) (lines (entry_text names) es) (state_kept names k ks more) a
