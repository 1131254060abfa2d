-- Names of nodes, tables and columns.
use Rattle.std.specs.Prelude.{ℕ, ◌==◌, ◌&&◌, ◌||◌, not, nat_le, Bool, false, List, [], ◌∷◌, codes}
use Rattle.std.specs.List.{list_all}
use Rattle.seata_types.specs.Orders.{same_text}

-- ---- nodes

-- a letter of ASCII, and what may stand behind one in a word: a letter, a digit or `_`
abbrev pub is_letter : ℕ → Bool
is_letter c = (nat_le 65 c && nat_le c 90) || (nat_le 97 c && nat_le c 122)

abbrev pub is_word_byte : ℕ → Bool
is_word_byte c = is_letter c || ((nat_le 48 c && nat_le c 57) || (c == 95))

-- a letter and then letters, digits and `_`
abbrev pub is_word : List ℕ → Bool
is_word [] = false
is_word (c ∷ cs) = is_letter c && list_all is_word_byte cs

-- a node's name is such a word, but neither that of the coordinator nor that of the network
unfoldable pub is_node_name : List ℕ → Bool
is_node_name name = is_word name && (not (same_text name (codes "tc")) && not (same_text name (codes "net")))

-- ---- tables and columns

-- a lower-case letter, what may stand behind one in a name, and a word of these
abbrev pub is_lower : ℕ → Bool
is_lower c = nat_le 97 c && nat_le c 122

abbrev pub is_name_byte : ℕ → Bool
is_name_byte c = is_lower c || ((nat_le 48 c && nat_le c 57) || (c == 95))

abbrev pub is_lower_word : List ℕ → Bool
is_lower_word [] = false
is_lower_word (c ∷ cs) = is_lower c && list_all is_name_byte cs

-- the words of statements
abbrev pub is_keyword : List ℕ → Bool
is_keyword name =
    same_text name (codes "insert") || (same_text name (codes "into") || (same_text name (codes "values") || (same_text name (codes "update")
    || (same_text name (codes "set") || (same_text name (codes "where") || (same_text name (codes "delete") || (same_text name (codes "from")
    || (same_text name (codes "select") || (same_text name (codes "for") || (same_text name (codes "and") || (same_text name (codes "or")
    || same_text name (codes "not"))))))))))))

-- a table's or column's name: a lower-case letter and then such letters, digits and `_`, but no word of statements
unfoldable pub is_table_name : List ℕ → Bool
is_table_name name = is_lower_word name && not (is_keyword name)
