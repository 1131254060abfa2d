-- Keys, lock texts and rows: one piece each, which reads back.
use Rattle.std.proofs.Common.{◌≡◌, ℕ, true, List, [], ◌∷◌, ◌++◌, length, refl, ap, sym, ◌∙◌, append-nil, arith}
use Rattle.std.specs.Prelude.{nat_lt, codes, map}
use Rattle.std.specs.List.{AllByRecursion, list_all}
use Rattle.std.specs.Char.{is_ascii_lowercase}
use Rattle.std.proofs.lemmas.Bool.Decides.{nat_tests}
use Rattle.seata_types.specs.declared.rows.RowKey.{RowKey}
use Rattle.seata_types.specs.declared.rows.Value.{Value}
use Rattle.history_text.specs.Lines.{literal_text, more_values_text, values_text, parts_text, key_text, name_text}
use Rattle.history_text.specs.declared.entries.Names.{Names}
use Rattle.entry_reader.specs.declared.pieces.Separator.{Separator}
use Rattle.entry_reader.specs.declared.pieces.Separator.TheVariants as at
use Rattle.entry_reader.specs.declared.pieces.Inside.TheVariants as inside
use Rattle.entry_reader.specs.Cuts.{cut}
use Rattle.entry_reader.specs.Parts.{text_from}
use Rattle.entry_reader.specs.Values.{literal_of, parts_of, key_by, key_of}
use Rattle.entry_reader.specs.Types.{IsValue, IsKey}
use Rattle.entry_reader.specs.Writable.{AreNodeNames, is_named, is_name_byte, is_table_name, is_key}
use Rattle.entry_reader.proofs.Ascii.{both_left, both_right, ascii_text}
use Rattle.entry_reader.proofs.Closed.{goes, IsClosed, closed-nil, closed-append, closed-byte, closed-all}
use Rattle.entry_reader.proofs.Spells.{IsPiece}
use Rattle.entry_reader.proofs.Tests.{all-more}
use Rattle.entry_reader.proofs.TextBytes.{text_from_text}
use Rattle.entry_reader.proofs.Literals.{literal-closed, literal-back}
use Rattle.entry_reader.proofs.NodeNames.{resource-back, resource_form, name_piece, name-goes}

-- ---- the parts of a primary key

-- a part, and what follows it
part-then : (v : Value) (rest : List ℕ) → IsValue v → cut at.Part inside.Nothing (literal_text v ++ (95 ∷ rest)) ≡ literal_text v ∷ cut at.Part inside.Nothing rest
part-then v rest is = literal-closed at.Part v is (95 ∷ rest) ∙ ap (λ t. t ∷ cut at.Part inside.Nothing rest) (append-nil (literal_text v))

last-part : (v : Value) → IsValue v → cut at.Part inside.Nothing (literal_text v ++ []) ≡ literal_text v ∷ []
last-part v is = literal-closed at.Part v is [] ∙ ap (λ t. t ∷ []) (append-nil (literal_text v))

parts-cut : (v : Value) (vs : List Value) → IsValue v → AllByRecursion IsValue vs
    → cut at.Part inside.Nothing (literal_text v ++ more_values_text (codes "_") vs) ≡ literal_text v ∷ map literal_text vs
parts-cut v [] is all = last-part v is
parts-cut v (w ∷ ws) is all =
    part-then v (literal_text w ++ more_values_text (codes "_") ws) is ∙ ap (λ ps. literal_text v ∷ ps) (parts-cut w ws all.0 all.1)

literal-alone : (v : Value) → IsValue v → literal_of (literal_text v) ≡ v
literal-alone v is = ap literal_of (sym (append-nil (literal_text v))) ∙ literal-back v [] is (λ m. refl) refl

literals-back : (vs : List Value) → AllByRecursion IsValue vs → map literal_of (map literal_text vs) ≡ vs
literals-back [] all = refl
literals-back (v ∷ vs) all = ap (λ x. x ∷ map literal_of (map literal_text vs)) (literal-alone v all.0) ∙ ap (λ xs. v ∷ xs) (literals-back vs all.1)

pub parts-back : (vs : List Value) → nat_lt 0 (length vs) ≡ true → AllByRecursion IsValue vs → parts_of (parts_text vs) ≡ vs
unfolding parts_of
parts-back [] some all = cc
parts-back (v ∷ vs) some all = ap (λ ps. map literal_of ps) (parts-cut v vs all.0 all.1) ∙ literals-back (v ∷ vs) all

more_values-closed : (s : Separator) (between : List ℕ) → IsClosed s between → (vs : List Value) → AllByRecursion IsValue vs → IsClosed s (more_values_text between vs)
more_values-closed s between gap [] all = closed-nil s
more_values-closed s between gap (v ∷ vs) all =
    closed-append s (between ++ literal_text v) (more_values_text between vs) (closed-append s between (literal_text v) gap (literal-closed s v all.0))
    (more_values-closed s between gap vs all.1)

pub values-closed : (s : Separator) (between : List ℕ) → IsClosed s between → (vs : List Value) → AllByRecursion IsValue vs → IsClosed s (values_text between vs)
values-closed s between gap [] all = closed-nil s
values-closed s between gap (v ∷ vs) all =
    closed-append s (literal_text v) (more_values_text between vs) (literal-closed s v all.0) (more_values-closed s between gap vs all.1)

pub parts_space : (vs : List Value) → AllByRecursion IsValue vs → IsClosed at.Space (parts_text vs)
parts_space = values-closed at.Space (codes "_") (closed-all at.Space (codes "_") refl)

pub parts_bar : (vs : List Value) → AllByRecursion IsValue vs → IsClosed at.Bar (parts_text vs)
parts_bar = values-closed at.Bar (codes "_") (closed-all at.Bar (codes "_") refl)

pub parts_name : (vs : List Value) → AllByRecursion IsValue vs → IsClosed at.Name (parts_text vs)
parts_name = values-closed at.Name (codes "_") (closed-all at.Name (codes "_") refl)

pub parts_item : (vs : List Value) → AllByRecursion IsValue vs → IsClosed at.Item (parts_text vs)
parts_item = values-closed at.Item (codes "_") (closed-all at.Item (codes "_") refl)

-- ---- tables

table_bytes : (t : List ℕ) → is_table_name t ≡ true → list_all is_name_byte t ≡ true
unfolding is_table_name
table_bytes [] h = cc
table_bytes (c ∷ cs) h = both_left (list_all is_name_byte (c ∷ cs)) _ (both_right (is_ascii_lowercase c) _ h)

pub byte_space : (c : ℕ) → is_name_byte c ≡ true → goes at.Space c ≡ true
byte_space c h = grind (arith, nat_tests)

pub byte_bar : (c : ℕ) → is_name_byte c ≡ true → goes at.Bar c ≡ true
byte_bar c h = grind (arith, nat_tests)

pub byte_name : (c : ℕ) → is_name_byte c ≡ true → goes at.Name c ≡ true
byte_name c h = grind (arith, nat_tests)

pub byte_item : (c : ℕ) → is_name_byte c ≡ true → goes at.Item c ≡ true
byte_item c h = grind (arith, nat_tests)

byte_ascii : (c : ℕ) → is_name_byte c ≡ true → nat_lt c 128 ≡ true
byte_ascii c h = grind (arith, nat_tests)

pub table-closed : (s : Separator) → ((c : ℕ) → is_name_byte c ≡ true → goes s c ≡ true) → (t : List ℕ) → is_table_name t ≡ true → IsClosed s t
table-closed s each t h = closed-all s t (all-more is_name_byte (goes s) t each (table_bytes t h))

pub table-back : (t : List ℕ) → is_table_name t ≡ true → text_from t ≡ t
table-back t h = text_from_text t (ascii_text t (all-more is_name_byte (λ b. nat_lt b 128) t byte_ascii (table_bytes t h)))

-- ---- keys

pub key_resource : (names : Names) (key : RowKey) → is_key names key ≡ true → is_named names.resources key.resource ≡ true
unfolding is_key
key_resource names key h = both_left (is_named names.resources key.resource) _ h

pub key_table : (names : Names) (key : RowKey) → is_key names key ≡ true → is_table_name key.table ≡ true
unfolding is_key
key_table names key h = both_left (is_table_name key.table) _ (both_right (is_named names.resources key.resource) _ h)

pub key_parts : (names : Names) (key : RowKey) → is_key names key ≡ true → nat_lt 0 (length key.pk) ≡ true
unfolding is_key
key_parts names key h = both_left (nat_lt 0 (length key.pk)) _ (both_right (is_table_name key.table) _ (both_right (is_named names.resources key.resource) _ h))

-- a name, a mark, a table, a mark and the parts
key-closed : (s : Separator) (name table parts : List ℕ) → goes s 46 ≡ true → goes s 58 ≡ true → IsClosed s name → IsClosed s table → IsClosed s parts
    → IsClosed s (name ++ (46 ∷ (table ++ (58 ∷ parts))))
key-closed s name table parts dot colon first second third =
    closed-append s name (46 ∷ (table ++ (58 ∷ parts))) first
    (closed-append s (46 ∷ []) (table ++ (58 ∷ parts)) (closed-byte s 46 dot)
    (closed-append s table (58 ∷ parts) second (closed-append s (58 ∷ []) parts (closed-byte s 58 colon) third)))

pub key_piece : (names : Names) (key : RowKey) → AreNodeNames names → is_key names key ≡ true → IsKey key → IsPiece (key_text names key)
key_piece names key are is small =
    let name = name_text (codes "r") names.resources key.resource in
    let form = name_piece name (resource_form names key.resource are (key_resource names key is)) in
    let table = key_table names key is in
    record {
      spaces = key-closed at.Space name key.table (parts_text key.pk) refl refl form.spaces (table-closed at.Space byte_space key.table table) (parts_space key.pk small.1);
      bars = key-closed at.Bar name key.table (parts_text key.pk) refl refl form.bars (table-closed at.Bar byte_bar key.table table) (parts_bar key.pk small.1);
    }

-- the three pieces of a key
key-cut : (name table parts : List ℕ) → IsClosed at.Name name → IsClosed at.Name table → IsClosed at.Name parts
    → cut at.Name inside.Nothing (name ++ (46 ∷ (table ++ (58 ∷ parts)))) ≡ name ∷ table ∷ parts ∷ []
key-cut name table parts first second third =
    let one = first (46 ∷ (table ++ (58 ∷ parts))) in
    let two : cut at.Name inside.Nothing (table ++ (58 ∷ parts)) ≡ (table ++ []) ∷ cut at.Name inside.Nothing parts = second (58 ∷ parts) in
    let three : cut at.Name inside.Nothing parts ≡ parts ∷ [] =
    ap (λ t. cut at.Name inside.Nothing t) (sym (append-nil parts)) ∙ third [] ∙ ap (λ t. t ∷ []) (append-nil parts) in
    one ∙ ap (λ t. t ∷ cut at.Name inside.Nothing (table ++ (58 ∷ parts))) (append-nil name)
    ∙ ap (λ ps. name ∷ ps) (two ∙ ap (λ t. t ∷ cut at.Name inside.Nothing parts) (append-nil table) ∙ ap (λ ps. table ∷ ps) three)

pub key-back : (names : Names) (key : RowKey) → AreNodeNames names → is_key names key ≡ true → IsKey key → key_of names (key_text names key) ≡ key
unfolding key_of key_by
key-back names key are is small =
    let name = name_text (codes "r") names.resources key.resource in
    let form = name-goes name (resource_form names key.resource are (key_resource names key is)) in
    let table = key_table names key is in
    let three = key-cut name key.table (parts_text key.pk) (closed-all at.Name name form) (table-closed at.Name byte_name key.table table) (parts_name key.pk small.1) in
    ap (λ ps. key_by names ps) three
    ∙ ap (λ r. record { resource = r; table = text_from key.table; pk = parts_of (parts_text key.pk) }) (resource-back names key.resource are (key_resource names key is) small.0)
    ∙ ap (λ t. record { resource = key.resource; table = t; pk = parts_of (parts_text key.pk) }) (table-back key.table table)
    ∙ ap (λ ps. record { resource = key.resource; table = key.table; pk = ps }) (parts-back key.pk (key_parts names key is) small.1)
