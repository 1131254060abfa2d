-- The data that the text of a made scenario is.
use Rattle.std.proofs.Common.{ℕ, zero, suc, ◌+◌, ◌*◌, Bool, List, ◌++◌, codes, decimal}
use Rattle.std.specs.Prelude.{if◌then◌else◌}
use Rattle.serde_json.specs.Data.{Data, number as counted, string, array, object, Items, no_items, item, no_members, member, unsigned}
use Rattle.scenario_maker.specs.declared.plans.Plan.{Plan}
use Rattle.scenario_maker.specs.Draws.{plan}
use Rattle.scenario_maker.specs.Made.{end}
use Rattle.scenario_maker.specs.Scenarios.{step_count}

-- so many items, by their places from this one on
unfoldable pub items_by : (ℕ → Data) → ℕ → ℕ → Items
items_by f place zero = no_items
items_by f place (suc count) = item (f place) (items_by f (place + 1) count)

-- a list of one
abbrev pub alone : Data → Data
alone d = array (item d no_items)

abbrev pub server_name : ℕ → List ℕ
server_name n = codes "r" ++ decimal n

abbrev pub user_name : ℕ → List ℕ
user_name n = codes "m" ++ decimal n

-- ---- statements

unfoldable pub payment_sql : List ℕ → ℕ → ℕ → List ℕ
payment_sql sign amount account =
    codes "UPDATE acc SET m = m " ++ (sign ++ (codes " " ++ (decimal amount ++ (codes " WHERE id = " ++ decimal account))))

unfoldable pub cancel_sql : ℕ → List ℕ
cancel_sql stock = codes "UPDATE stock SET free = free + 1, held = held - 1 WHERE id = " ++ decimal stock

unfoldable pub confirm_sql : ℕ → List ℕ
confirm_sql stock = codes "UPDATE stock SET held = held - 1 WHERE id = " ++ decimal stock

unfoldable pub try_sql : ℕ → List ℕ
try_sql stock = codes "UPDATE stock SET free = free - 1, held = held + 1 WHERE id = " ++ (decimal stock ++ codes " AND free >= 1")

-- ---- calls and managers

-- a call of the AT mode, of one statement at the resource of this name
unfoldable pub at_call : List ℕ → List ℕ → Data
at_call name sql = object (member (codes "at") (string name) (member (codes "do") (alone (string sql)) no_members))

-- a call of the TCC mode, each of whose actions is one statement
unfoldable pub tcc_call : List ℕ → List ℕ → List ℕ → List ℕ → Data
tcc_call name cancel confirm try =
    object
    (member (codes "at") (string name)
    (member (codes "cancel") (alone (string cancel)) (member (codes "confirm") (alone (string confirm)) (member (codes "try") (alone (string try)) no_members))))

unfoldable pub payment_call : ℕ → List ℕ → ℕ → ℕ → Data
payment_call resource sign amount account = at_call (server_name resource) (payment_sql sign amount account)

unfoldable pub reservation_call : ℕ → ℕ → Data
reservation_call resource stock = tcc_call (server_name resource) (cancel_sql stock) (confirm_sql stock) (try_sql stock)

-- a call, where there is one
abbrev pub perhaps : Bool → Data → Items
perhaps there call = if there then item call no_items else no_items

unfoldable pub plan_calls : Plan → Items
plan_calls p =
    item (payment_call p.first (codes "-") p.amount p.payer)
    (item (payment_call p.second (codes "+") p.amount p.payee) (perhaps p.reserves (reservation_call p.second p.payee)))

unfoldable pub manager_data : Items → List ℕ → List ℕ → Data
manager_data calls ending name = object (member (codes "calls") (array calls) (member (codes "end") (string ending) (member (codes "name") (string name) no_members)))

-- the manager at a place, counted from 0
unfoldable pub user_data : ℕ → ℕ → Data
user_data number place = let p = plan number (7 * place) in manager_data (plan_calls p) (end p) (user_name (place + 1))

-- ---- resources

abbrev pub count_data : ℕ → Data
count_data n = counted (unsigned n)

abbrev pub column_data : List ℕ → Data
column_data name = array (item (string name) (item (string (codes "int")) no_items))

abbrev pub account_data : ℕ → Data
account_data place = array (item (count_data (place + 1)) (item (count_data 1000) no_items))

abbrev pub stock_data : ℕ → Data
stock_data place = array (item (count_data (place + 1)) (item (count_data 100) (item (count_data 0) no_items)))

-- a table whose key is the column `id`
abbrev pub table_data : Items → List ℕ → List ℕ → Items → Data
table_data columns mode name rows =
    object
    (member (codes "columns") (array columns)
    (member (codes "key") (string (codes "id"))
    (member (codes "mode") (string mode) (member (codes "name") (string name) (member (codes "rows") (array rows) no_members)))))

unfoldable pub accounts_data : Data
unfolding items_by
accounts_data = table_data (item (column_data (codes "id")) (item (column_data (codes "m")) no_items)) (codes "AT") (codes "acc") (items_by account_data 0 8)

unfoldable pub stocks_data : Data
unfolding items_by
stocks_data =
    table_data (item (column_data (codes "id")) (item (column_data (codes "free")) (item (column_data (codes "held")) no_items))) (codes "TCC") (codes "stock")
    (items_by stock_data 0 8)

unfoldable pub server_data : List ℕ → Data
server_data name = object (member (codes "name") (string name) (member (codes "tables") (array (item accounts_data (item stocks_data no_items))) no_members))

-- the resource at a place, counted from 0
abbrev pub server_at : ℕ → Data
server_at place = server_data (server_name (place + 1))

-- ---- the whole

unfoldable pub scenario_data : Items → Items → Items → Data
scenario_data managers resources schedule =
    object (member (codes "managers") (array managers) (member (codes "resources") (array resources) (member (codes "schedule") (array schedule) no_members)))

-- the text of the one item of the schedule
abbrev pub step_text : ℕ → List ℕ
step_text count = codes "auto " ++ decimal count

-- the data of a made scenario, with this schedule
abbrev pub data_with : Items → ℕ → ℕ → Data
data_with schedule number size = scenario_data (items_by (user_data number) 0 size) (items_by server_at 0 4) schedule

abbrev pub made_data : ℕ → ℕ → Data
made_data number size = data_with (item (string (step_text (step_count size))) no_items) number size
