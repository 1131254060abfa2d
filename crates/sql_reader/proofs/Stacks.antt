-- A stack of tasks, with one more.
use Rattle.std.proofs.Common.{◌≡◌, ◌+◌, true, List, [], ◌∷◌, ◌++◌, refl, ap, sym, append_assoc, append-nil, arith}
use Rattle.sql_reader.specs.declared.tasks.Task.{Task}
use Rattle.sql_reader.specs.declared.symbols.Symbol.TheVariants as symbol
use Rattle.sql_reader.specs.Canonical.{Piece, Fixed, grouped}
use Rattle.sql_reader.specs.Pending.{task_pieces, stacked, task_turns, turns}

pub stacked_last : (ts : List Task) (t : Task) → stacked (ts ++ t ∷ []) ≡ task_pieces t ++ stacked ts
unfolding stacked
stacked_last [] t = sym (append-nil (task_pieces t))
stacked_last (u ∷ ts) t = rw (stacked_last ts t, append_assoc) refl

pub turns_last : (ts : List Task) (t : Task) → turns (ts ++ t ∷ []) ≡ task_turns t + turns ts
unfolding turns
turns_last [] t = omega arith
turns_last (u ∷ ts) t = omega (arith, turns_last ts t)

pub grouped_append : (ps qs : List Piece) → grouped true ps ++ qs ≡ Fixed symbol.Open ∷ (ps ++ Fixed symbol.Close ∷ qs)
grouped_append ps qs = ap (λ rest. Fixed symbol.Open ∷ rest) (append_assoc ps (Fixed symbol.Close ∷ []) qs)

pub stacked_none : stacked [] ≡ []
unfolding stacked
stacked_none = refl

pub stacked_one : (t : Task) → stacked (t ∷ []) ≡ task_pieces t
unfolding stacked
stacked_one t = refl
