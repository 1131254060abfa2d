-- The text of a made scenario.
use Rattle.std.specs.Prelude.{ℕ, ◌+◌, ◌*◌, List, [], ◌++◌, min, nat_lt, if◌then◌else◌, codes, decimal}
use Rattle.std.specs.List.{join_by, range_with_len}
use Rattle.scenario_maker.specs.declared.plans.Plan.{Plan}
use Rattle.scenario_maker.specs.Draws.{plan}

-- what stands before the item at a place of a list, counted from 0
abbrev pub comma : ℕ → List ℕ
comma place = if nat_lt 0 place then codes "," else []

-- so many items, by their places, with a comma between two
unfoldable pub listed : (ℕ → List ℕ) → ℕ → List ℕ
listed item count = join_by item (codes ",") (range_with_len 0 count)

-- a call that adds an amount to an account, or takes it away, by the sign
unfoldable pub payment : ℕ → List ℕ → ℕ → ℕ → List ℕ
payment resource sign amount account =
    codes "{\"at\":\"r" ++ (decimal resource ++ (codes "\",\"do\":[\"UPDATE acc SET m = m " ++ (sign ++ (codes " " ++ (decimal amount ++ (codes " WHERE id = " ++
    (decimal account ++ codes "\"]}")))))))

-- a call that reserves one of a stock, with what confirms it and what cancels it
unfoldable pub reservation : ℕ → ℕ → List ℕ
reservation resource stock =
    codes "{\"at\":\"r" ++ (decimal resource ++ (codes "\",\"cancel\":[\"UPDATE stock SET free = free + 1, held = held - 1 WHERE id = " ++ (decimal stock ++
    (codes "\"],\"confirm\":[\"UPDATE stock SET held = held - 1 WHERE id = " ++ (decimal stock ++
    (codes "\"],\"try\":[\"UPDATE stock SET free = free - 1, held = held + 1 WHERE id = " ++ (decimal stock ++ codes " AND free >= 1\"]}")))))))

-- the third call of a plan, behind a comma
unfoldable pub third_call : Plan → List ℕ
third_call p = if p.reserves then codes "," ++ reservation p.second p.payee else []

-- the calls of a plan
unfoldable pub calls : Plan → List ℕ
calls p = payment p.first (codes "-") p.amount p.payer ++ (codes "," ++ (payment p.second (codes "+") p.amount p.payee ++ third_call p))

-- how a plan ends
unfoldable pub end : Plan → List ℕ
end p = if p.rolls_back then codes "rollback" else codes "commit"

-- a manager, by its number
unfoldable pub manager : ℕ → Plan → List ℕ
manager number p =
    codes "{\"calls\":[" ++ (calls p ++ (codes "],\"end\":\"" ++ (end p ++ (codes "\",\"name\":\"m" ++
    (decimal number ++ codes "\"}")))))

-- the manager at a place, counted from 0, by the seven draws behind those of the managers before it
unfoldable pub manager_at : ℕ → ℕ → List ℕ
manager_at number place = manager (place + 1) (plan number (7 * place))

-- so many managers
unfoldable pub managers : ℕ → ℕ → List ℕ
managers number size = listed (manager_at number) size

-- the tables of each resource, with their rows
unfoldable pub accounts : List ℕ
accounts =
    codes "{\"columns\":[[\"id\",\"int\"],[\"m\",\"int\"]],\"key\":\"id\",\"mode\":\"AT\",\"name\":\"acc\",\"rows\":[[1,1000],[2,1000],[3,1000],[4,1000],[5,1000],[6,1000],[7,1000],[8,1000]]}"

unfoldable pub stocks : List ℕ
stocks =
    codes "{\"columns\":[[\"id\",\"int\"],[\"free\",\"int\"],[\"held\",\"int\"]],\"key\":\"id\",\"mode\":\"TCC\",\"name\":\"stock\",\"rows\":[[1,100,0],[2,100,0],[3,100,0],[4,100,0],[5,100,0],[6,100,0],[7,100,0],[8,100,0]]}"

-- a resource, by its number
unfoldable pub resource : ℕ → List ℕ
resource number = codes "{\"name\":\"r" ++ (decimal number ++ (codes "\",\"tables\":[" ++ (accounts ++ (codes "," ++ (stocks ++ codes "]}")))))

abbrev pub resource_at : ℕ → List ℕ
resource_at place = resource (place + 1)

-- the four resources
unfoldable pub resources : List ℕ
resources = listed resource_at 4

-- the schedule of so many managers: one text, by which the replay chooses its steps
unfoldable pub schedule : ℕ → List ℕ
schedule size = codes "[\"auto " ++ (decimal (min (400 * size) 20000) ++ codes "\"]")

-- the scenario that is made of a number for so many managers
unfoldable pub made : ℕ → ℕ → List ℕ
made number size =
    codes "{\"managers\":[" ++ (managers number size ++ (codes "],\"resources\":[" ++ (resources ++ (codes "],\"schedule\":" ++ (schedule size ++ codes "}")))))
