-- The text of a made scenario is the compact form of its data.
use Rattle.std.proofs.Common.{◌≡◌, ◌≤◌, ◌<◌, ◌+◌, ◌*◌, ◌^◌, ℕ, zero, suc, Bool, true, false, List, [], ◌∷◌, ◌++◌, codes, decimal, refl, ap, ◌∙◌, append_assoc, arith}
use Rattle.std.specs.Prelude.{if◌then◌else◌}
use Rattle.std.specs.Fmt.{digits}
use Rattle.std.specs.List.{flat_map, range_with_len}
use Rattle.json.specs.Print.{escape, escape_byte}
use Rattle.serde_json.specs.Data.{Data, string, Items, no_items, item}
use Rattle.serde_json.specs.Written.{compact_text, items_text}
use Rattle.scenario_maker.specs.declared.plans.Plan.{Plan}
use Rattle.scenario_maker.specs.Draws.{plan}
use Rattle.scenario_maker.specs.Made as text
use Rattle.scenario_maker.specs.Scenarios.{step_count}
use Rattle.scenario_maker.proofs.ReadBack.{is_bare, bare_append, bare_decimal, escape_bare}
use Rattle.scenario_maker.proofs.Shapes.{items_by, server_name, user_name, payment_sql, cancel_sql, confirm_sql, try_sql, at_call, tcc_call, payment_call, reservation_call, perhaps, plan_calls, manager_data, user_data, accounts_data, stocks_data, server_data, server_at, scenario_data, step_text, made_data}

-- ---- numbers of a plan

-- a plan whose resources and accounts are there
pub record IsPlan (p : Plan) : Type 0 where
  pub first : (1 ≤ p.first) × (p.first ≤ 4)
  pub second : (1 ≤ p.second) × (p.second ≤ 4)
  pub payer : p.payer ≤ 8
  pub payee : p.payee ≤ 8
  pub amount : p.amount ≤ 50

pub plan_is : (number k : ℕ) → IsPlan (plan number k)
unfolding plan
plan_is number k = record {
  first = (omega arith, omega arith);
  second = (omega arith, omega arith);
  payer = omega arith;
  payee = omega arith;
  amount = omega arith;
}

-- ---- texts that need no escape

pub server_bare : (n : ℕ) → n < 2 ^ 64 → is_bare (server_name n) ≡ true
server_bare n small = bare_append (codes "r") (decimal n) refl (bare_decimal n small)

pub user_bare : (n : ℕ) → n < 2 ^ 64 → is_bare (user_name n) ≡ true
user_bare n small = bare_append (codes "m") (decimal n) refl (bare_decimal n small)

pub payment_bare : (sign : List ℕ) (amount account : ℕ) → is_bare sign ≡ true → amount < 2 ^ 64 → account < 2 ^ 64 → is_bare (payment_sql sign amount account) ≡ true
unfolding payment_sql
payment_bare sign amount account bare a b =
    let last = bare_append (codes " WHERE id = ") (decimal account) refl (bare_decimal account b) in
    let middle = bare_append (decimal amount) (codes " WHERE id = " ++ decimal account) (bare_decimal amount a) last in
    let signed = bare_append sign (codes " " ++ (decimal amount ++ (codes " WHERE id = " ++ decimal account))) bare middle in
    bare_append (codes "UPDATE acc SET m = m ") (sign ++ (codes " " ++ (decimal amount ++ (codes " WHERE id = " ++ decimal account)))) refl signed

pub cancel_bare : (stock : ℕ) → stock < 2 ^ 64 → is_bare (cancel_sql stock) ≡ true
unfolding cancel_sql
cancel_bare stock small = bare_append (codes "UPDATE stock SET free = free + 1, held = held - 1 WHERE id = ") (decimal stock) refl (bare_decimal stock small)

pub confirm_bare : (stock : ℕ) → stock < 2 ^ 64 → is_bare (confirm_sql stock) ≡ true
unfolding confirm_sql
confirm_bare stock small = bare_append (codes "UPDATE stock SET held = held - 1 WHERE id = ") (decimal stock) refl (bare_decimal stock small)

pub try_bare : (stock : ℕ) → stock < 2 ^ 64 → is_bare (try_sql stock) ≡ true
unfolding try_sql
try_bare stock small =
    bare_append (codes "UPDATE stock SET free = free - 1, held = held + 1 WHERE id = ") (decimal stock ++ codes " AND free >= 1") refl
    (bare_append (decimal stock) (codes " AND free >= 1") (bare_decimal stock small) refl)

end_by : (b : Bool) → is_bare (if b then codes "rollback" else codes "commit") ≡ true
end_by true = refl
end_by false = refl

pub end_bare : (p : Plan) → is_bare (text.end p) ≡ true
unfolding text.end
end_bare p = end_by p.rolls_back

pub step_bare : (count : ℕ) → count < 2 ^ 64 → is_bare (step_text count) ≡ true
step_bare count small = bare_append (codes "auto ") (decimal count) refl (bare_decimal count small)

-- ---- calls

-- a text with its closing quote, and a list of it, before the rest
close : (s rest : List ℕ) → (s ++ 34 ∷ []) ++ rest ≡ s ++ (34 ∷ rest)
close s rest = append_assoc s (34 ∷ []) rest

shut : (s rest : List ℕ) → ((s ++ 34 ∷ []) ++ 93 ∷ []) ++ rest ≡ s ++ (34 ∷ 93 ∷ rest)
shut s rest = append_assoc (s ++ 34 ∷ []) (93 ∷ []) rest ∙ append_assoc s (34 ∷ []) (93 ∷ rest)

at_text : (name sql : List ℕ) → escape name ≡ name → escape sql ≡ sql
    → compact_text (at_call name sql) ≡ codes "{\"at\":\"" ++ (name ++ (codes "\",\"do\":[\"" ++ (sql ++ codes "\"]}")))
unfolding at_call escape_byte
at_text name sql a b =
    rw (a, b)
    (ap (λ (t : List ℕ). codes "{\"at\":\"" ++ t) (close name _ ∙ ap (λ (t : List ℕ). name ++ (codes "\",\"do\":[\"" ++ t)) (shut sql (125 ∷ []))))

payment_text : (resource : ℕ) (sign : List ℕ) (amount account : ℕ) → resource < 2 ^ 64 → is_bare sign ≡ true → amount < 2 ^ 64 → account < 2 ^ 64
    → compact_text (payment_call resource sign amount account) ≡ text.payment resource sign amount account
unfolding payment_call payment_sql text.payment
payment_text resource sign amount account a bare b c =
    at_text (server_name resource) (payment_sql sign amount account) (escape_bare (server_name resource) (server_bare resource a))
    (escape_bare (payment_sql sign amount account) (payment_bare sign amount account bare b c))
    ∙ simp append_assoc

tcc_text : (name cancel confirm try : List ℕ) → escape name ≡ name → escape cancel ≡ cancel → escape confirm ≡ confirm → escape try ≡ try
    → compact_text (tcc_call name cancel confirm try)
    ≡ codes "{\"at\":\"" ++ (name ++ (codes "\",\"cancel\":[\"" ++ (cancel ++ (codes "\"],\"confirm\":[\"" ++ (confirm ++ (codes "\"],\"try\":[\"" ++ (try ++ codes "\"]}")))))))
unfolding tcc_call escape_byte
tcc_text name cancel confirm try a b c d =
    rw (a, b, c, d)
    (ap (λ (t : List ℕ). codes "{\"at\":\"" ++ t) (close name _
    ∙ ap (λ (t : List ℕ). name ++ (codes "\",\"cancel\":[\"" ++ t)) (shut cancel _
    ∙ ap (λ (t : List ℕ). cancel ++ (codes "\"],\"confirm\":[\"" ++ t)) (shut confirm _
    ∙ ap (λ (t : List ℕ). confirm ++ (codes "\"],\"try\":[\"" ++ t)) (shut try (125 ∷ []))))))

reservation_text : (resource stock : ℕ) → resource < 2 ^ 64 → stock < 2 ^ 64 → compact_text (reservation_call resource stock) ≡ text.reservation resource stock
unfolding reservation_call cancel_sql confirm_sql try_sql text.reservation
reservation_text resource stock a b =
    tcc_text (server_name resource) (cancel_sql stock) (confirm_sql stock) (try_sql stock) (escape_bare (server_name resource) (server_bare resource a))
    (escape_bare (cancel_sql stock) (cancel_bare stock b)) (escape_bare (confirm_sql stock) (confirm_bare stock b)) (escape_bare (try_sql stock) (try_bare stock b))
    ∙ simp append_assoc

perhaps_text : (b : Bool) (call : Data) (t : List ℕ) → compact_text call ≡ t → items_text true (perhaps b call) ≡ (if b then codes "," ++ t else []) ++ 93 ∷ []
perhaps_text true call t e = rw e refl
perhaps_text false call t e = refl

two_and_perhaps : (b : Bool) (first second third : Data) (s t u : List ℕ) → compact_text first ≡ s → compact_text second ≡ t → compact_text third ≡ u
    → items_text false (item first (item second (perhaps b third))) ≡ (s ++ (codes "," ++ (t ++ (if b then codes "," ++ u else [])))) ++ 93 ∷ []
two_and_perhaps b first second third s t u x y z = rw (x, y, perhaps_text b third u z) (simp append_assoc)

calls_text : (p : Plan) → IsPlan p → items_text false (plan_calls p) ≡ text.calls p ++ 93 ∷ []
unfolding plan_calls text.calls text.third_call
calls_text p is =
    two_and_perhaps p.reserves (payment_call p.first (codes "-") p.amount p.payer) (payment_call p.second (codes "+") p.amount p.payee) (reservation_call p.second p.payee)
    (text.payment p.first (codes "-") p.amount p.payer) (text.payment p.second (codes "+") p.amount p.payee) (text.reservation p.second p.payee)
    (payment_text p.first (codes "-") p.amount p.payer (omega (arith, is.first.1)) refl (omega (arith, is.amount)) (omega (arith, is.payer)))
    (payment_text p.second (codes "+") p.amount p.payee (omega (arith, is.second.1)) refl (omega (arith, is.amount)) (omega (arith, is.payee)))
    (reservation_text p.second p.payee (omega (arith, is.second.1)) (omega (arith, is.payee)))

-- ---- managers

manager_text : (calls : Items) (told ending name : List ℕ) → items_text false calls ≡ told ++ 93 ∷ [] → escape ending ≡ ending → escape name ≡ name
    → compact_text (manager_data calls ending name)
    ≡ codes "{\"calls\":[" ++ (told ++ (codes "],\"end\":\"" ++ (ending ++ (codes "\",\"name\":\"" ++ (name ++ codes "\"}")))))
unfolding manager_data escape_byte
manager_text calls told ending name a b c =
    rw (a, b, c)
    (ap (λ (t : List ℕ). codes "{\"calls\":[" ++ t) (append_assoc told (93 ∷ []) _
    ∙ ap (λ (t : List ℕ). told ++ (codes "],\"end\":\"" ++ t)) (close ending _ ∙ ap (λ (t : List ℕ). ending ++ (codes "\",\"name\":\"" ++ t)) (close name (125 ∷ [])))))

pub user_text : (number place : ℕ) → place < 256 → compact_text (user_data number place) ≡ text.manager_at number place
unfolding user_data text.manager_at text.manager
user_text number place small =
    let p : Plan = plan number (7 * place) in
    manager_text (plan_calls p) (text.calls p) (text.end p) (user_name (place + 1)) (calls_text p (plan_is number (7 * place)))
    (escape_bare (text.end p) (end_bare p)) (escape_bare (user_name (place + 1)) (user_bare (place + 1) (omega arith)))

-- ---- resources

accounts_text : compact_text accounts_data ≡ text.accounts
unfolding accounts_data escape_byte digits text.accounts
accounts_text = refl

stocks_text : compact_text stocks_data ≡ text.stocks
unfolding stocks_data escape_byte digits text.stocks
stocks_text = refl

server_text : (name accounts stocks : List ℕ) → escape name ≡ name → compact_text accounts_data ≡ accounts → compact_text stocks_data ≡ stocks
    → compact_text (server_data name) ≡ codes "{\"name\":\"" ++ (name ++ (codes "\",\"tables\":[" ++ (accounts ++ (codes "," ++ (stocks ++ codes "]}")))))
unfolding server_data escape_byte
server_text name accounts stocks a b c =
    rw (a, b, c)
    (ap (λ (t : List ℕ). codes "{\"name\":\"" ++ t) (close name _
    ∙ ap (λ (t : List ℕ). name ++ (codes "\",\"tables\":[" ++ t)) (append_assoc accounts (44 ∷ (stocks ++ 93 ∷ [])) (125 ∷ [])
    ∙ ap (λ (t : List ℕ). accounts ++ (codes "," ++ t)) (append_assoc stocks (93 ∷ []) (125 ∷ [])))))

pub resource_text : (place : ℕ) → place < 256 → compact_text (server_at place) ≡ text.resource_at place
unfolding text.resource
resource_text place small =
    server_text (server_name (place + 1)) text.accounts text.stocks (escape_bare (server_name (place + 1)) (server_bare (place + 1) (omega arith))) accounts_text stocks_text

-- ---- the whole

later_items : (f : ℕ → Data) (t : ℕ → List ℕ) → ((k : ℕ) → k < 256 → compact_text (f k) ≡ t k) → (count place : ℕ) → place + count ≤ 256
    → items_text true (items_by f place count) ≡ flat_map (λ y. codes "," ++ t y) (range_with_len place count) ++ 93 ∷ []
unfolding items_by
later_items f t same zero place fits = refl
later_items f t same (suc count) place fits =
    rw (same place (omega arith), later_items f t same count (place + 1) (omega arith)) (simp append_assoc)

-- items with their texts are a list of these
items_listed : (f : ℕ → Data) (t : ℕ → List ℕ) → ((k : ℕ) → k < 256 → compact_text (f k) ≡ t k) → (count : ℕ) → count ≤ 256
    → items_text false (items_by f 0 count) ≡ text.listed t count ++ 93 ∷ []
unfolding items_by text.listed
items_listed f t same zero fits = refl
items_listed f t same (suc count) fits = rw (same 0 (omega arith), later_items f t same count 1 (omega arith)) (simp append_assoc)

scenario_text : (managers resources : Items) (users servers step : List ℕ) → items_text false managers ≡ users ++ 93 ∷ [] → items_text false resources ≡ servers ++ 93 ∷ []
    → escape step ≡ step
    → compact_text (scenario_data managers resources (item (string step) no_items))
    ≡ codes "{\"managers\":[" ++ (users ++ (codes "],\"resources\":[" ++ (servers ++ (codes "],\"schedule\":[\"" ++ (step ++ codes "\"]}")))))
unfolding scenario_data escape_byte
scenario_text managers resources users servers step a b c =
    rw (a, b, c)
    (ap (λ (t : List ℕ). codes "{\"managers\":[" ++ t) (append_assoc users (93 ∷ []) _
    ∙ ap (λ (t : List ℕ). users ++ (codes "],\"resources\":[" ++ t)) (append_assoc servers (93 ∷ []) _
    ∙ ap (λ (t : List ℕ). servers ++ (codes "],\"schedule\":[\"" ++ t)) (shut step (125 ∷ [])))))

pub made_text : (number size : ℕ) → size ≤ 256 → compact_text (made_data number size) ≡ text.made number size
unfolding text.made text.managers text.resources text.schedule
made_text number size most =
    scenario_text (items_by (user_data number) 0 size) (items_by server_at 0 4) (text.listed (text.manager_at number) size) (text.listed text.resource_at 4)
    (step_text (step_count size)) (items_listed (user_data number) (text.manager_at number) (user_text number) size most)
    (items_listed server_at text.resource_at resource_text 4 (omega arith)) (escape_bare (step_text (step_count size)) (step_bare (step_count size) (omega arith)))
    ∙ simp append_assoc
