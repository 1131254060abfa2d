-- Lock texts: one piece each, which reads back.
use Rattle.std.proofs.Common.{◌≡◌, ℕ, ◌==◌, Bool, true, false, List, [], ◌∷◌, ◌++◌, refl, ap, sym, subst, ◌∙◌, append_assoc, append-nil, nat_eq, arith}
use Rattle.std.specs.Prelude.{◌&&◌, codes}
use Rattle.std.specs.List.{list_all}
use Rattle.std.specs.Char.{is_ascii_lowercase}
use Rattle.std.proofs.lemmas.Bool.Decides.{nat_tests}
use Rattle.seata_types.specs.Orders.{same_text}
use Rattle.seata_types.specs.declared.rows.RowKey.{RowKey}
use Rattle.history_text.specs.Lines.{parts_text, more_keys_text, keys_text}
use Rattle.history_text.specs.declared.entries.Names.{Names}
use Rattle.entry_reader.specs.declared.pieces.Separator.{Separator}
use Rattle.entry_reader.specs.declared.pieces.Separator.TheVariants as at
use Rattle.entry_reader.specs.declared.pieces.Inside.TheVariants as inside
use Rattle.entry_reader.specs.Cuts.{prefixed, cut}
use Rattle.entry_reader.specs.Parts.{text_from}
use Rattle.entry_reader.specs.Values.{parts_of, lock_by, lock_of, locks_from, locks_of}
use Rattle.entry_reader.specs.Types.{IsKey, AreKeys}
use Rattle.entry_reader.specs.Writable.{is_table_name, is_key, is_key_of, are_locks, rises}
use Rattle.entry_reader.proofs.Ascii.{both_left, both_right}
use Rattle.entry_reader.proofs.Closed.{goes, IsClosed, closed-nil, closed-append, closed-byte}
use Rattle.entry_reader.proofs.Spells.{IsPiece}
use Rattle.entry_reader.proofs.Tests.{equal_texts}
use Rattle.entry_reader.proofs.Keys.{key_table, key_parts, table-closed, table-back, byte_space, byte_bar, byte_name, byte_item, parts_space, parts_bar, parts_name, parts_item, parts-back}

-- a key with its table
abbrev whole : RowKey → List ℕ
whole key = key.table ++ (58 ∷ parts_text key.pk)

-- a key behind one of this table
abbrev short : Bool → RowKey → List ℕ
short true key = parts_text key.pk
short false key = whole key

abbrev mark : Bool → ℕ
mark true = 44
mark false = 59

abbrev others : List ℕ → List RowKey → List (List ℕ)
others table [] = []
others table (key ∷ keys) = short (same_text table key.table) key ∷ others key.table keys

-- what a lock text says of one key
record Fits (names : Names) (resource : ℕ) (key : RowKey) : Type 0 where
  of : key.resource ≡ resource
  is : is_key names key ≡ true
  types : IsKey key

same_resource : (a b : ℕ) → (a == b) ≡ true → a ≡ b
same_resource a b h = grind (arith, nat_tests)

fits : (names : Names) (resource : ℕ) (key : RowKey) → is_key_of names resource key ≡ true → IsKey key → Fits names resource key
fits names resource key h types = record {
  of = same_resource key.resource resource (both_left (key.resource == resource) (is_key names key) h);
  is = both_right (key.resource == resource) (is_key names key) h;
  types = types;
}

-- ---- they are cut nowhere but between keys

whole-closed : (s : Separator) → goes s 58 ≡ true → (key : RowKey) → IsClosed s key.table → IsClosed s (parts_text key.pk) → IsClosed s (whole key)
whole-closed s colon key table parts = closed-append s key.table (58 ∷ parts_text key.pk) table (closed-append s (58 ∷ []) (parts_text key.pk) (closed-byte s 58 colon) parts)

short-closed : (s : Separator) → goes s 58 ≡ true → (b : Bool) (key : RowKey) → IsClosed s key.table → IsClosed s (parts_text key.pk) → IsClosed s (short b key)
short-closed s colon true key table parts = parts
short-closed s colon false key table parts = whole-closed s colon key table parts

more-text : (b : Bool) (table : List ℕ) (key : RowKey) (keys : List RowKey) → same_text table key.table ≡ b
    → more_keys_text table (key ∷ keys) ≡ mark b ∷ (short b key ++ more_keys_text key.table keys)
more-text true table key keys is = rw is refl
more-text false table key keys is = rw is refl

mark-closed : (s : Separator) → goes s 44 ≡ true → goes s 59 ≡ true → (b : Bool) → IsClosed s (mark b ∷ [])
mark-closed s comma semicolon true = closed-byte s 44 comma
mark-closed s comma semicolon false = closed-byte s 59 semicolon

more-closed : (s : Separator) → goes s 58 ≡ true → goes s 44 ≡ true → goes s 59 ≡ true
    → ((key : RowKey) (names : Names) → is_key names key ≡ true → IsClosed s key.table) → ((key : RowKey) → IsKey key → IsClosed s (parts_text key.pk))
    → (names : Names) (resource : ℕ) (table : List ℕ) (keys : List RowKey) → list_all (is_key_of names resource) keys ≡ true → AreKeys keys → IsClosed s (more_keys_text table keys)
more-closed s colon comma semicolon tables parts names resource table [] all types = closed-nil s
more-closed s colon comma semicolon tables parts names resource table (key ∷ keys) all types =
    let b = same_text table key.table in
    let fit = fits names resource key (both_left (is_key_of names resource key) (list_all (is_key_of names resource) keys) all) types.0 in
    let rest = more-closed s colon comma semicolon tables parts names resource key.table keys (both_right (is_key_of names resource key) (list_all (is_key_of names resource) keys) all) types.1 in
    let one = short-closed s colon b key (tables key names fit.is) (parts key fit.types) in
    subst (λ t. IsClosed s t) (sym (more-text b table key keys refl))
    (closed-append s (mark b ∷ []) (short b key ++ more_keys_text key.table keys) (mark-closed s comma semicolon b) (closed-append s (short b key) (more_keys_text key.table keys) one rest))

keys-closed : (s : Separator) → goes s 58 ≡ true → goes s 44 ≡ true → goes s 59 ≡ true → goes s 45 ≡ true
    → ((key : RowKey) (names : Names) → is_key names key ≡ true → IsClosed s key.table) → ((key : RowKey) → IsKey key → IsClosed s (parts_text key.pk))
    → (names : Names) (resource : ℕ) (keys : List RowKey) → list_all (is_key_of names resource) keys ≡ true → AreKeys keys → IsClosed s (keys_text keys)
keys-closed s colon comma semicolon dash tables parts names resource [] all types = closed-byte s 45 dash
keys-closed s colon comma semicolon dash tables parts names resource (key ∷ keys) all types =
    let fit = fits names resource key (both_left (is_key_of names resource key) (list_all (is_key_of names resource) keys) all) types.0 in
    closed-append s (whole key) (more_keys_text key.table keys) (whole-closed s colon key (tables key names fit.is) (parts key fit.types))
    (more-closed s colon comma semicolon tables parts names resource key.table keys (both_right (is_key_of names resource key) (list_all (is_key_of names resource) keys) all) types.1)

pub locks_piece : (names : Names) (resource : ℕ) (keys : List RowKey) → are_locks names resource keys ≡ true → AreKeys keys → IsPiece (keys_text keys)
unfolding are_locks
locks_piece names resource keys is types =
    let all = both_left (list_all (is_key_of names resource) keys) (rises keys) is in
    record {
      spaces = keys-closed at.Space refl refl refl refl (λ key ns h. table-closed at.Space byte_space key.table (key_table ns key h)) (λ key h. parts_space key.pk h.1) names resource keys all types;
      bars = keys-closed at.Bar refl refl refl refl (λ key ns h. table-closed at.Bar byte_bar key.table (key_table ns key h)) (λ key h. parts_bar key.pk h.1) names resource keys all types;
    }

-- ---- the pieces of a lock text

ended : (t : List ℕ) (m : ℕ) (rest : List ℕ) → IsClosed at.Item t → cut at.Item inside.Nothing (m ∷ rest) ≡ [] ∷ cut at.Item inside.Nothing rest
    → cut at.Item inside.Nothing (t ++ (m ∷ rest)) ≡ t ∷ cut at.Item inside.Nothing rest
ended t m rest closed ends =
    closed (m ∷ rest) ∙ ap (λ ps. prefixed t ps) ends ∙ ap (λ p. p ∷ cut at.Item inside.Nothing rest) (append-nil t)

mark-ends : (b : Bool) (rest : List ℕ) → cut at.Item inside.Nothing (mark b ∷ rest) ≡ [] ∷ cut at.Item inside.Nothing rest
mark-ends true rest = refl
mark-ends false rest = refl

locks-cut : (names : Names) (resource : ℕ) (t table : List ℕ) (keys : List RowKey) → IsClosed at.Item t → list_all (is_key_of names resource) keys ≡ true → AreKeys keys
    → cut at.Item inside.Nothing (t ++ more_keys_text table keys) ≡ t ∷ others table keys
locks-cut names resource t table [] closed all types = closed [] ∙ ap (λ p. p ∷ []) (append-nil t)
locks-cut names resource t table (key ∷ keys) closed all types =
    let b = same_text table key.table in
    let fit = fits names resource key (both_left (is_key_of names resource key) (list_all (is_key_of names resource) keys) all) types.0 in
    let one = short-closed at.Item refl b key (table-closed at.Item byte_item key.table (key_table names key fit.is)) (parts_item key.pk fit.types.1) in
    ap (λ more. cut at.Item inside.Nothing (t ++ more)) (more-text b table key keys refl)
    ∙ ended t (mark b) (short b key ++ more_keys_text key.table keys) closed (mark-ends b (short b key ++ more_keys_text key.table keys))
    ∙ ap (λ ps. t ∷ ps) (locks-cut names resource (short b key) key.table keys one (both_right (is_key_of names resource key) (list_all (is_key_of names resource) keys) all) types.1)

-- ---- they read back

alone : (t : List ℕ) → IsClosed at.Name t → cut at.Name inside.Nothing t ≡ t ∷ []
alone t closed = ap (λ z. cut at.Name inside.Nothing z) (sym (append-nil t)) ∙ closed [] ∙ ap (λ z. z ∷ []) (append-nil t)

whole-cut : (key : RowKey) → IsClosed at.Name key.table → IsClosed at.Name (parts_text key.pk) → cut at.Name inside.Nothing (whole key) ≡ key.table ∷ parts_text key.pk ∷ []
whole-cut key table parts =
    table (58 ∷ parts_text key.pk) ∙ ap (λ z. z ∷ cut at.Name inside.Nothing (parts_text key.pk)) (append-nil key.table)
    ∙ ap (λ ps. key.table ∷ ps) (alone (parts_text key.pk) parts)

record-back : (names : Names) (resource : ℕ) (table : List ℕ) (key : RowKey) → Fits names resource key → table ≡ key.table
    → record { resource = resource; table = table; pk = parts_of (parts_text key.pk) } ≡ key
record-back names resource table key fit same =
    ap (λ t. record { resource = resource; table = t; pk = parts_of (parts_text key.pk) }) same
    ∙ ap (λ r. record { resource = r; table = key.table; pk = parts_of (parts_text key.pk) }) (sym fit.of)
    ∙ ap (λ ps. record { resource = key.resource; table = key.table; pk = ps }) (parts-back key.pk (key_parts names key fit.is) fit.types.1)

whole-back : (names : Names) (resource : ℕ) (table : List ℕ) (key : RowKey) → Fits names resource key → lock_of resource table (whole key) ≡ key
unfolding lock_of
whole-back names resource table key fit =
    let parts = parts_name key.pk fit.types.1 in
    let named = table-closed at.Name byte_name key.table (key_table names key fit.is) in
    ap (λ ps. lock_by resource table ps) (whole-cut key named parts)
    ∙ record-back names resource (text_from key.table) key fit (table-back key.table (key_table names key fit.is))

short-back : (names : Names) (resource : ℕ) (table : List ℕ) (key : RowKey) (b : Bool) → same_text table key.table ≡ b → Fits names resource key → lock_of resource table (short b key) ≡ key
unfolding lock_of
short-back names resource table key true same fit =
    ap (λ ps. lock_by resource table ps) (alone (parts_text key.pk) (parts_name key.pk fit.types.1))
    ∙ record-back names resource table key fit (equal_texts table key.table same)
short-back names resource table key false same fit = whole-back names resource table key fit

others-back : (names : Names) (resource : ℕ) (table : List ℕ) (keys : List RowKey) → list_all (is_key_of names resource) keys ≡ true → AreKeys keys → locks_from resource table (others table keys) ≡ keys
others-back names resource table [] all types = refl
others-back names resource table (key ∷ keys) all types =
    let b = same_text table key.table in
    let fit = fits names resource key (both_left (is_key_of names resource key) (list_all (is_key_of names resource) keys) all) types.0 in
    ap (λ k. k ∷ locks_from resource k.table (others key.table keys)) (short-back names resource table key b refl fit)
    ∙ ap (λ ks. key ∷ ks) (others-back names resource key.table keys (both_right (is_key_of names resource key) (list_all (is_key_of names resource) keys) all) types.1)

letter : (c : ℕ) → is_ascii_lowercase c ≡ true → nat_eq c 45 ≡ false
letter c h = grind (arith, nat_tests)

no_dash : (table rest : List ℕ) → is_table_name table ≡ true → same_text (table ++ rest) (codes "-") ≡ false
unfolding is_table_name
no_dash [] rest h = cc
no_dash (c ∷ cs) rest h = ap (λ b. b && same_text (cs ++ rest) []) (letter c (both_left (is_ascii_lowercase c) _ h))

locks_of-text : (resource : ℕ) (text : List ℕ) → same_text text (codes "-") ≡ false → locks_of resource text ≡ locks_from resource [] (cut at.Item inside.Nothing text)
unfolding locks_of
locks_of-text resource text h = rw h refl

locks_of-none : (resource : ℕ) → locks_of resource (codes "-") ≡ []
unfolding locks_of
locks_of-none resource = refl

pub locks-back : (names : Names) (resource : ℕ) (keys : List RowKey) → are_locks names resource keys ≡ true → AreKeys keys → locks_of resource (keys_text keys) ≡ keys
unfolding are_locks
locks-back names resource [] is types = locks_of-none resource
locks-back names resource (key ∷ keys) is types =
    let all = both_left (list_all (is_key_of names resource) (key ∷ keys)) (rises (key ∷ keys)) is in
    let fit = fits names resource key (both_left (is_key_of names resource key) (list_all (is_key_of names resource) keys) all) types.0 in
    let further = both_right (is_key_of names resource key) (list_all (is_key_of names resource) keys) all in
    let text = whole key ++ more_keys_text key.table keys in
    let first = whole-closed at.Item refl key (table-closed at.Item byte_item key.table (key_table names key fit.is)) (parts_item key.pk fit.types.1) in
    let plain : same_text text (codes "-") ≡ false =
    ap (λ t. same_text t (codes "-")) (append_assoc key.table (58 ∷ parts_text key.pk) (more_keys_text key.table keys))
    ∙ no_dash key.table ((58 ∷ parts_text key.pk) ++ more_keys_text key.table keys) (key_table names key fit.is) in
    locks_of-text resource text plain
    ∙ ap (λ ps. locks_from resource [] ps) (locks-cut names resource (whole key) key.table keys first further types.1)
    ∙ ap (λ k. k ∷ locks_from resource k.table (others key.table keys)) (whole-back names resource [] key fit)
    ∙ ap (λ ks. key ∷ ks) (others-back names resource key.table keys further types.1)
