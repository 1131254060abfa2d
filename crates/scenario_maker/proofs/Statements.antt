-- The statements of a made scenario are read.
use Rattle.std.proofs.Common.{◌≡◌, ◌≤◌, ◌<◌, ◌^◌, ℕ, true, nat_le, List, [], ◌∷◌, length, pos, codes, decimal, Some, Ok, refl, ap, sym, ◌∙◌, append-nil, length-append, le-leb, arith}
use Rattle.std.specs.Prelude.{FitsSigned}
use Rattle.std.specs.Int.{w64}
use Rattle.std.proofs.lemmas.Fmt.{decimal_digit}
use Rattle.std.proofs.lemmas.Int.{ints}
use Rattle.serde_json.specs.Data.{string}
use Rattle.seata_types.specs.declared.limits.TheConstants.{STATEMENT_BYTES}
use Rattle.seata_types.specs.declared.statements.Sign.{Sign}
use Rattle.seata_types.specs.declared.statements.Sign.TheVariants as sign
use Rattle.seata_types.specs.declared.statements.Stmt.{Stmt}
use Rattle.seata_types.specs.declared.statuses.BranchKind.{BranchKind}
use Rattle.local_tables.specs.declared.schemas.Schema.{Schema}
use Rattle.sql_reader.specs.Answer.{reading}
use Rattle.sql_reader.specs.Canonical.{canonical_text, pieces, expr_pieces, assignment_pieces, condition_pieces, filter_pieces, piece_text, spaced}
use Rattle.sql_reader.specs.Lexing.{keyword, has_name_form}
use Rattle.sql_reader.specs.Readable.{IsName, IsAssignment, IsReadable}
use Rattle.sql_reader.proofs.ReadBack.{reading_canonical}
use Rattle.scenario_reader.specs.Calls.{parsed, standing, statement, statements}
use Rattle.scenario_reader.specs.Faults.{list}
use Rattle.scenario_maker.specs.Scenarios.{set_by, payment, try, confirm, cancel}
use Rattle.scenario_maker.proofs.Numerals.{digits_few}
use Rattle.scenario_maker.proofs.Shapes.{alone, payment_sql, cancel_sql, confirm_sql, try_sql}

-- ---- their texts are canonical

abbrev pub sign_text : Sign → List ℕ
sign_text sign.Plus = codes "+"
sign_text sign.Minus = codes "-"

one : decimal 1 ≡ codes "1"
one = decimal_digit 1 (omega arith)

payment_canonical : (how : Sign) (amount account : ℕ) → canonical_text (payment how amount account) ≡ payment_sql (sign_text how) amount account
unfolding canonical_text pieces expr_pieces assignment_pieces condition_pieces filter_pieces piece_text spaced payment payment_sql
payment_canonical sign.Plus amount account = simp append-nil
payment_canonical sign.Minus amount account = simp append-nil

cancel_canonical : (stock : ℕ) → canonical_text (cancel stock) ≡ cancel_sql stock
unfolding canonical_text pieces expr_pieces assignment_pieces condition_pieces filter_pieces piece_text spaced cancel cancel_sql
cancel_canonical stock = simp (one, append-nil)

confirm_canonical : (stock : ℕ) → canonical_text (confirm stock) ≡ confirm_sql stock
unfolding canonical_text pieces expr_pieces assignment_pieces condition_pieces filter_pieces piece_text spaced confirm confirm_sql
confirm_canonical stock = simp (one, append-nil)

try_canonical : (stock : ℕ) → canonical_text (try stock) ≡ try_sql stock
unfolding canonical_text pieces expr_pieces assignment_pieces condition_pieces filter_pieces piece_text spaced try try_sql
try_canonical stock = simp one

-- ---- they can be read

acc_name : IsName (codes "acc")
unfolding keyword has_name_form
acc_name = record { form = refl; no_keyword = refl }

stock_name : IsName (codes "stock")
unfolding keyword has_name_form
stock_name = record { form = refl; no_keyword = refl }

id_name : IsName (codes "id")
unfolding keyword has_name_form
id_name = record { form = refl; no_keyword = refl }

m_name : IsName (codes "m")
unfolding keyword has_name_form
m_name = record { form = refl; no_keyword = refl }

free_name : IsName (codes "free")
unfolding keyword has_name_form
free_name = record { form = refl; no_keyword = refl }

held_name : IsName (codes "held")
unfolding keyword has_name_form
held_name = record { form = refl; no_keyword = refl }

fits : (n : ℕ) → n < 2 ^ 63 → FitsSigned w64 (pos n)
fits n small = omega (arith, ints)

set_is : (column : List ℕ) (how : Sign) (amount : ℕ) → IsName column → amount < 2 ^ 63 → IsAssignment (set_by column how amount)
set_is column how amount is small = (is, (is, (fits amount small, tt)))

payment_readable : (how : Sign) (amount account : ℕ) → amount < 2 ^ 63 → account < 2 ^ 63 → IsReadable (payment how amount account)
unfolding IsReadable payment
payment_readable how amount account a b =
    (acc_name, (set_is (codes "m") how amount m_name a, tt), ((id_name, fits account b), omega arith))

cancel_readable : (stock : ℕ) → stock < 2 ^ 63 → IsReadable (cancel stock)
unfolding IsReadable cancel
cancel_readable stock a =
    (stock_name, (set_is (codes "free") sign.Plus 1 free_name (omega arith), (set_is (codes "held") sign.Minus 1 held_name (omega arith), tt)), ((id_name, fits stock a), omega arith))

confirm_readable : (stock : ℕ) → stock < 2 ^ 63 → IsReadable (confirm stock)
unfolding IsReadable confirm
confirm_readable stock a = (stock_name, (set_is (codes "held") sign.Minus 1 held_name (omega arith), tt), ((id_name, fits stock a), omega arith))

try_readable : (stock : ℕ) → stock < 2 ^ 63 → IsReadable (try stock)
unfolding IsReadable try
try_readable stock a = (
  stock_name,
  (set_is (codes "free") sign.Minus 1 free_name (omega arith), (set_is (codes "held") sign.Plus 1 held_name (omega arith), tt)),
  (((id_name, fits stock a), (free_name, fits 1 (omega arith))), omega arith),
)

-- ---- they are short

payment_short : (how : Sign) (amount account : ℕ) → amount < 2 ^ 64 → account < 2 ^ 64 → length (payment_sql (sign_text how) amount account) ≤ STATEMENT_BYTES
unfolding payment_sql
payment_short sign.Plus amount account a b = let x = digits_few amount a in let y = digits_few account b in simp length-append (omega arith)
payment_short sign.Minus amount account a b = let x = digits_few amount a in let y = digits_few account b in simp length-append (omega arith)

cancel_short : (stock : ℕ) → stock < 2 ^ 64 → length (cancel_sql stock) ≤ STATEMENT_BYTES
unfolding cancel_sql
cancel_short stock a = let x = digits_few stock a in omega arith

confirm_short : (stock : ℕ) → stock < 2 ^ 64 → length (confirm_sql stock) ≤ STATEMENT_BYTES
unfolding confirm_sql
confirm_short stock a = let x = digits_few stock a in omega arith

try_short : (stock : ℕ) → stock < 2 ^ 64 → length (try_sql stock) ≤ STATEMENT_BYTES
unfolding try_sql
try_short stock a = let x = digits_few stock a in simp length-append (omega arith)

-- ---- a list of one statement

parsed_as : (text : List ℕ) (s : Stmt) → length text ≤ STATEMENT_BYTES → reading text ≡ Ok s → parsed text ≡ Ok s
unfolding parsed
parsed_as text s short reads = let few : nat_le (length text) STATEMENT_BYTES ≡ true = le-leb (length text) STATEMENT_BYTES short in rw (few, reads) refl

-- a statement that is read and stands is read as a list of its own
one_statement : (schema : Schema) (wanted : BranchKind) (text : List ℕ) (s : Stmt) → canonical_text s ≡ text → IsReadable s → length text ≤ STATEMENT_BYTES
    → standing schema wanted s ≡ Ok s → statements schema wanted (Some (alone (string text))) ≡ Ok (s ∷ [])
unfolding statements statement list
one_statement schema wanted text s is readable short stands =
    let reads : reading text ≡ Ok s = ap reading (sym is) ∙ reading_canonical s readable in
    rw (parsed_as text s short reads, stands) refl

pub payment_reads : (schema : Schema) (wanted : BranchKind) (how : Sign) (amount account : ℕ) → amount < 2 ^ 63 → account < 2 ^ 63
    → standing schema wanted (payment how amount account) ≡ Ok (payment how amount account)
    → statements schema wanted (Some (alone (string (payment_sql (sign_text how) amount account)))) ≡ Ok (payment how amount account ∷ [])
payment_reads schema wanted how amount account a b stands =
    one_statement schema wanted (payment_sql (sign_text how) amount account) (payment how amount account) (payment_canonical how amount account)
    (payment_readable how amount account a b) (payment_short how amount account (omega arith) (omega arith)) stands

pub cancel_reads : (schema : Schema) (wanted : BranchKind) (stock : ℕ) → stock < 2 ^ 63 → standing schema wanted (cancel stock) ≡ Ok (cancel stock)
    → statements schema wanted (Some (alone (string (cancel_sql stock)))) ≡ Ok (cancel stock ∷ [])
cancel_reads schema wanted stock a stands =
    one_statement schema wanted (cancel_sql stock) (cancel stock) (cancel_canonical stock) (cancel_readable stock a) (cancel_short stock (omega arith)) stands

pub confirm_reads : (schema : Schema) (wanted : BranchKind) (stock : ℕ) → stock < 2 ^ 63 → standing schema wanted (confirm stock) ≡ Ok (confirm stock)
    → statements schema wanted (Some (alone (string (confirm_sql stock)))) ≡ Ok (confirm stock ∷ [])
confirm_reads schema wanted stock a stands =
    one_statement schema wanted (confirm_sql stock) (confirm stock) (confirm_canonical stock) (confirm_readable stock a) (confirm_short stock (omega arith)) stands

pub try_reads : (schema : Schema) (wanted : BranchKind) (stock : ℕ) → stock < 2 ^ 63 → standing schema wanted (try stock) ≡ Ok (try stock)
    → statements schema wanted (Some (alone (string (try_sql stock)))) ≡ Ok (try stock ∷ [])
try_reads schema wanted stock a stands =
    one_statement schema wanted (try_sql stock) (try stock) (try_canonical stock) (try_readable stock a) (try_short stock (omega arith)) stands
