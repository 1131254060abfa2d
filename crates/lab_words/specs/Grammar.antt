-- The grammar of the program's words: a word, and options behind it in any order, each at most once.
use Rattle.std.specs.Prelude.{ℕ, ◌^◌, ◌≤◌, ◌==◌, ◌&&◌, not, nat_le, nat_lt, Bool, true, false, if◌then◌else◌, List, [], ◌∷◌, length, Option, Some, None, is_some, option_map, option_and_then, unwrap_or, codes}
use Rattle.std.specs.List.{list_all, list_any, before_first, after_first}
use Rattle.std.specs.Char.{is_ascii_digit}
use Rattle.std.specs.Str.Parse.{digits_value}
use Rattle.seata_types.specs.Orders.{same_text}
use Rattle.lab_words.specs.declared.limits.TheConstants.{FOLDER_BYTES, MOST_SIZE, MOST_WORKERS, NUMBER_DIGITS, USUAL_WORKERS}
use Rattle.lab_words.specs.declared.options.Form.{Form}
use Rattle.lab_words.specs.declared.options.Rule.{Rule}
use Rattle.lab_words.specs.declared.options.Rule.TheVariants as rule
use Rattle.lab_words.specs.declared.orders.Order.{Order}
use Rattle.lab_words.specs.declared.orders.Order.TheVariants as order
use Rattle.lab_words.specs.declared.orders.Word.{Word}
use Rattle.lab_words.specs.declared.orders.Word.TheVariants as word

-- what is read next, where the first was read
infixl 10 ◌>>=◌
abbrev pub ◌>>=◌ : {A B : Type 0} → Option A → (A → Option B) → Option B
o >>= f = option_and_then f o

-- ---- options as they are spelt

-- the byte between a name and its value
abbrev pub is_equals : ℕ → Bool
is_equals c = c == 61

-- whether a text is a name and its value, `--o=v`; and the two, around the first `=`
abbrev pub has_equals : List ℕ → Bool
has_equals text = list_any is_equals text

abbrev pub name_in : List ℕ → List ℕ
name_in text = before_first is_equals text

abbrev pub value_in : List ℕ → List ℕ
value_in text = after_first is_equals text

-- an option's name and its value
abbrev pub Spelling : Type 0
Spelling = List ℕ × List ℕ

-- an option in front of others
abbrev pub before : Spelling → Option (List Spelling) → Option (List Spelling)
before first others = option_map (λ (more : List Spelling). first ∷ more) others

-- the options that words spell, as `--o v` or `--o=v`, where `waiting` is a name whose value stands next
abbrev pub spelt : List (List ℕ) → (waiting : Option (List ℕ)) → Option (List Spelling)
spelt [] None = Some []
spelt [] (Some name) = None
spelt (text ∷ words) (Some name) = before (name, text) (spelt words None)
spelt (text ∷ words) None =
    if has_equals text
    then before (name_in text, value_in text) (spelt words None)
    else spelt words (Some text)

-- ---- values

-- a number: 1 to 20 decimal digits
abbrev pub is_number : List ℕ → Bool
is_number text =
    nat_lt 0 (length text) && (nat_le (length text) NUMBER_DIGITS && list_all is_ascii_digit text)

-- its value, where that has 64 bits
unfoldable pub number_of : List ℕ → Option ℕ
number_of text =
    if is_number text && nat_lt (digits_value 10 text) (2 ^ 64)
    then Some (digits_value 10 text)
    else None

-- that of a number from 1 on
unfoldable pub number_up_to : ℕ → List ℕ → Option ℕ
number_up_to most text =
    number_of text >>= (λ (n : ℕ). if nat_lt 0 n && nat_le n most then Some n else None)

-- a folder: 1 to 200 bytes, of which the first isn't `-`
abbrev pub is_folder : List ℕ → Bool
is_folder [] = false
is_folder (c ∷ cs) = not (c == 45) && nat_lt (length cs) FOLDER_BYTES

-- the values that options have
pub record Given : Type 0 where
  pub store : Option (List ℕ)
  pub number : Option ℕ
  pub size : Option ℕ
  pub workers : Option ℕ

-- none
abbrev pub nothing : Given
nothing = record { store = None; number = None; size = None; workers = None }

-- one value more, of an option that had none
unfoldable pub with_store : Given → List ℕ → Option Given
with_store g text =
    if is_some g.store then None
    else (if is_folder text then Some (record g { store = Some text }) else None)

unfoldable pub with_number : Given → List ℕ → Option Given
with_number g text =
    if is_some g.number then None
    else (number_of text >>= (λ (n : ℕ). Some (record g { number = Some n })))

unfoldable pub with_size : Given → List ℕ → Option Given
with_size g text =
    if is_some g.size then None
    else (number_up_to MOST_SIZE text >>= (λ (n : ℕ). Some (record g { size = Some n })))

unfoldable pub with_workers : Given → List ℕ → Option Given
with_workers g text =
    if is_some g.workers then None
    else (number_up_to MOST_WORKERS text >>= (λ (n : ℕ). Some (record g { workers = Some n })))

-- the same by the option's name
unfoldable pub with_option : Given → (name text : List ℕ) → Option Given
with_option g name text =
    if same_text name (codes "--store") then with_store g text
    else (if same_text name (codes "--number") then with_number g text
    else (if same_text name (codes "--size") then with_size g text
    else (if same_text name (codes "--workers") then with_workers g text
    else None)))

-- those of many options, one after the other
abbrev pub with_all : List Spelling → Given → Option Given
with_all [] g = Some g
with_all (first ∷ more) g = with_option g first.0 first.1 >>= (λ (next : Given). with_all more next)

-- those that words spell
unfoldable pub options_of : List (List ℕ) → Option Given
options_of words = spelt words None >>= (λ (all : List Spelling). with_all all nothing)

-- ---- words

-- the word that a text is
unfoldable pub word_of : List ℕ → Option Word
word_of text =
    if same_text text (codes "replay") then Some word.Replay
    else (if same_text text (codes "frames") then Some word.Frames
    else (if same_text text (codes "run") then Some word.Run
    else (if same_text text (codes "make") then Some word.Make
    else (if same_text text (codes "stress") then Some word.Stress
    else (if same_text text (codes "audit") then Some word.Audit
    else (if same_text text (codes "show") then Some word.Show
    else None))))))

-- what `--store`, `--number`, `--size` and `--workers` may be
abbrev pub form : (store number size workers : Rule) → Form
form s n z w = record { store = s; number = n; size = z; workers = w }

-- the same by word
abbrev pub form_of : Word → Form
form_of word.Replay = form rule.Allowed rule.Refused rule.Refused rule.Refused
form_of word.Frames = form rule.Refused rule.Refused rule.Refused rule.Refused
form_of word.Run = form rule.Allowed rule.Refused rule.Refused rule.Allowed
form_of word.Make = form rule.Refused rule.Needed rule.Needed rule.Refused
form_of word.Stress = form rule.Refused rule.Needed rule.Needed rule.Allowed
form_of word.Audit = form rule.Refused rule.Refused rule.Refused rule.Refused
form_of word.Show = form rule.Needed rule.Refused rule.Refused rule.Refused

-- whether an option keeps the rule
abbrev pub keeps : Rule → (is_given : Bool) → Bool
keeps rule.Needed is_given = is_given
keeps rule.Allowed is_given = true
keeps rule.Refused is_given = not is_given

-- whether each option does
abbrev pub keep_all : Form → Given → Bool
keep_all f g =
    keeps f.store (is_some g.store) && (keeps f.number (is_some g.number)
    && (keeps f.size (is_some g.size) && keeps f.workers (is_some g.workers)))

-- so many threads, where the words don't say
abbrev pub workers_in : Given → ℕ
workers_in g = unwrap_or g.workers USUAL_WORKERS

-- what a word asks for with the values of its options
unfoldable pub asked_by : Word → Given → Option Order
asked_by word.Replay g = Some order.Replay
asked_by word.Frames g = Some order.Frames
asked_by word.Run g = Some (order.Run (workers_in g))
asked_by word.Make g = g.number >>= (λ (n : ℕ). g.size >>= (λ (z : ℕ). Some (order.Make n z)))
asked_by word.Stress g =
    g.number >>= (λ (n : ℕ). g.size >>= (λ (z : ℕ). Some (order.Stress n z (workers_in g))))
asked_by word.Audit g = Some order.Audit
asked_by word.Show g = Some order.Show

-- the same, where the options are as the word has them
unfoldable pub order_by : Word → Given → Option Order
order_by w g = if keep_all (form_of w) g then asked_by w g else None

-- what all words ask for, with their options
unfoldable pub asked : List (List ℕ) → Option (Order × Given)
asked [] = None
asked (first ∷ rest) =
    word_of first >>= (λ (w : Word). options_of rest >>= (λ (g : Given). order_by w g
    >>= (λ (o : Order). Some (o, g))))

-- what words ask for; none where they aren't of the grammar
abbrev pub order_of : List (List ℕ) → Option Order
order_of words = option_map (λ (a : Order × Given). a.0) (asked words)

-- the folder of words of the grammar that have `--store`
abbrev pub folder_of : List (List ℕ) → Option (List ℕ)
folder_of words = asked words >>= (λ (a : Order × Given). a.1.store)

-- ---- ranges

-- from 1 on
abbrev pub IsCount : (most n : ℕ) → Type 0
IsCount most n = (1 ≤ n) × (n ≤ most)

-- the sizes and threads that are asked for
abbrev pub IsInRange : Order → Type 0
IsInRange order.Replay = Unit {0}
IsInRange order.Frames = Unit {0}
IsInRange (order.Run workers) = IsCount MOST_WORKERS workers
IsInRange (order.Make n z) = IsCount MOST_SIZE z
IsInRange (order.Stress n z workers) = IsCount MOST_SIZE z × IsCount MOST_WORKERS workers
IsInRange order.Audit = Unit {0}
IsInRange order.Show = Unit {0}
