-- What reading a part of the form gives: a value, or the first fault, with its path from the value that is read.
use Rattle.std.specs.Prelude.{◌≡◌, ◌≢◌, ℕ, suc, ◌&&◌, Bool, true, false, if◌then◌else◌, List, [], ◌∷◌, ◌++◌, length, nat_le, Option, Some, None, is_some, option_and_then, Result, Ok, Err, Vec}
use Rattle.std.specs.declared.alloc.Global.{Global}
use Rattle.std.specs.Fmt.{decimal}
use Rattle.std.specs.List.{list_any}
use Rattle.serde_json.specs.Data.{Data, object, Items, no_items, item, Members, no_members, member as entry}
use Rattle.serde_json.specs.Find.{get, as_str, as_array}
use Rattle.seata_types.specs.Orders.{same_text}
use Rattle.scenario_reader.specs.declared.errors.ScenarioError.{ScenarioError}
use Rattle.scenario_reader.specs.declared.errors.ScenarioError.TheVariants as fault

-- a value, or the first fault
abbrev pub Outcome : Type 0 → Type 0
Outcome A = Result A ScenarioError

-- what is read next, by the value that was read first, or the fault of the first
infixl 10 ◌>>=◌
abbrev pub ◌>>=◌ : {A B : Type 0} → Outcome A → (A → Outcome B) → Outcome B
(Ok x) >>= f = f x
(Err e) >>= f = Err e

-- ---- faults of the value that is read, whose path is empty

-- another shape; beyond this limit; no statement, at this byte; another mode; a name that isn't there or is used
abbrev pub wrong_shape : {A : Type 0} → Outcome A
wrong_shape = Err (fault.Shape [])

abbrev pub beyond : {A : Type 0} → ℕ → Outcome A
beyond limit = Err (fault.Limit [] limit)

abbrev pub wrong_sql : {A : Type 0} → ℕ → Outcome A
wrong_sql at = Err (fault.Sql [] at)

abbrev pub wrong_mode : {A : Type 0} → Outcome A
wrong_mode = Err (fault.Mode [])

abbrev pub wrong_name : {A : Type 0} → Outcome A
wrong_name = Err (fault.Name [])

-- ---- parts, whose faults have their place in front

-- the fault with this path in front of its own
abbrev pub moved : List ℕ → ScenarioError → ScenarioError
moved front (fault.Shape path) = fault.Shape (front ++ path)
moved front (fault.Limit path limit) = fault.Limit (front ++ path) limit
moved front (fault.Sql path at) = fault.Sql (front ++ path) at
moved front (fault.Mode path) = fault.Mode (front ++ path)
moved front (fault.Name path) = fault.Name (front ++ path)
moved front fault.NotJson = fault.NotJson
moved front fault.NoMemory = fault.NoMemory

-- an outcome, whose fault has this path in front of its own
abbrev pub within : {A : Type 0} → List ℕ → Outcome A → Outcome A
within front (Ok x) = Ok x
within front (Err e) = Err (moved front e)

-- the step of a path to the member of this name, and to the item at this place, counted from 0
abbrev pub to_member : List ℕ → List ℕ
to_member name = 47 ∷ name

abbrev pub to_item : ℕ → List ℕ
to_item k = 47 ∷ decimal k

-- a member of an object, which the form says how to read
abbrev pub member : {A : Type 0} → List ℕ → (Option Data → Outcome A) → Data → Outcome A
member name form d = within (to_member name) (form (get name d))

-- the items, each read behind those before it
abbrev pub each : {X : Type 0} → (List X → Data → Outcome X) → List X → Items → Outcome (List X)
each form done no_items = Ok done
each form done (item d ds) = within (to_item (length done)) (form done d) >>= (λ x. each form (done ++ x ∷ []) ds)

-- ---- shapes

-- a text, where it is there
abbrev pub text_by : Option (List ℕ) → Outcome (List ℕ)
text_by (Some text) = Ok text
text_by None = wrong_shape

-- a text
unfoldable pub text : Option Data → Outcome (List ℕ)
text d = text_by (option_and_then as_str d)

abbrev pub items_length : Items → ℕ
items_length no_items = 0
items_length (item d ds) = suc (items_length ds)

-- at most so many items, where a list is there
abbrev pub list_by : ℕ → Option Items → Outcome Items
list_by most (Some items) = if nat_le (items_length items) most then Ok items else beyond most
list_by most None = wrong_shape

-- a list of at most so many items
unfoldable pub list : ℕ → Option Data → Outcome Items
list most d = list_by most (option_and_then as_array d)

-- items, where a list is there
abbrev pub items_by : Option Items → Outcome Items
items_by (Some items) = Ok items
items_by None = wrong_shape

-- a list of any length
unfoldable pub any_list : Data → Outcome Items
any_list d = items_by (as_array d)

-- the items of a list of just two
abbrev pub pair_by : Option Items → Outcome (Data × Data)
pair_by (Some (item a (item b no_items))) = Ok (a, b)
pair_by _ = wrong_shape

-- a list of two
unfoldable pub pair : Data → Outcome (Data × Data)
pair d = pair_by (as_array d)

-- the items of a list of just three
abbrev pub triple_by : Option Items → Outcome (Data × Data × Data)
triple_by (Some (item a (item b (item c no_items)))) = Ok (a, b, c)
triple_by _ = wrong_shape

-- a list of three
unfoldable pub triple : Data → Outcome (Data × Data × Data)
triple d = triple_by (as_array d)

-- whether a name is one of these, and whether that of each member is
abbrev pub is_known : List (List ℕ) → List ℕ → Bool
is_known names name = list_any (same_text name) names

abbrev pub are_known : List (List ℕ) → Members → Bool
are_known names no_members = true
are_known names (entry k d ms) = is_known names k && are_known names ms

-- an object
abbrev pub an_object : Data → Outcome (Unit {0})
an_object (object ms) = Ok tt
an_object _ = wrong_shape

-- no fault where this is so; and of an object, where its members have these names alone
abbrev pub only_by : Bool → Outcome (Unit {0})
only_by true = Ok tt
only_by false = wrong_shape

abbrev pub only_in : List (List ℕ) → Data → Outcome (Unit {0})
only_in names (object ms) = only_by (are_known names ms)
only_in names _ = wrong_shape

-- an object without other members than these
unfoldable pub only : List (List ℕ) → Data → Outcome (Unit {0})
only names d = only_in names d

-- whether an object has a member of this name
abbrev pub has : List ℕ → Data → Bool
has name d = is_some (get name d)

-- the items of a vector
abbrev pub vec_of : {X : Type 0} → Vec X Global → List X
vec_of v = v.items

-- ---- what a function that reads ensures

-- the outcome, unless memory was refused
abbrev pub Answers : {A : Type 0} → Outcome A → Result A ScenarioError → Type 0
Answers outcome (Ok x) = outcome ≡ Ok x
Answers outcome (Err e) = e ≢ fault.NoMemory → outcome ≡ Err e

-- the same of a value that is seen through `view`
abbrev pub AnswersAs : {A B : Type 0} → (A → B) → Outcome B → Result A ScenarioError → Type 0
AnswersAs view outcome (Ok x) = outcome ≡ Ok (view x)
AnswersAs view outcome (Err e) = e ≢ fault.NoMemory → outcome ≡ Err e

-- the fault with this path in front, unless memory was refused
abbrev pub IsMoved : List ℕ → ScenarioError → ScenarioError → Type 0
IsMoved front old new = new ≢ fault.NoMemory → (old ≢ fault.NoMemory) × (new ≡ moved front old)
