use Rattle.std.proofs.Common.{◌-◌, ℕ, List, Ok, Err, sym, subst}
use Rattle.memory_store.specs.Openings.{ReadsDisks}
use Rattle.local_tables.specs.declared.schemas.Schema.{Schema}
use Rattle.seata_types.specs.declared.rows.Row.{Row}
use Rattle.seata_types.specs.declared.ids.Place.TheVariants as place
use Rattle.scenario_form.specs.declared.scenarios.ResourceDef.{ResourceDef}
use Rattle.resource_store.specs.Keeping.{KeepsEach, store_of}
use Rattle.resource_store.specs.Meaning.{Opens, meaning_of, setting}
use Rattle.scenario_nodes.specs.Nodes.{resource_server}
use Rattle.scenario_nodes.specs.Reading.{SaysResource}
use Rattle.scenario_nodes.proofs.ReadNode.{resource_opens_at}
use Rattle.scenario_nodes.proofs.ReadStores.{not_read, store_read, store_unread}
use Rattle.scenario_nodes.proofs.reading.read_store.Goals as goal

pub read-requires-clause-opens : goal.read-requires-clause-opens
read-requires-clause-opens g c =
    let def = c.args.def.now in
    let n = c.args.number in
    let opens = resource_opens_at c.args.scenario.now c.requires.runnable n (n - 1) def c.requires.there c.requires.typed in
    (subst (λ (t : Schema). Opens (setting n t c.in-Ok-copy.opening)) (sym c.in-Ok.ensures) (subst (λ (o : List (List ℕ × Row)). Opens (setting n def.schema o)) (sym c.in-Ok-copy.ensures) opens)).opens

pub read-requires-clause-fits : goal.read-requires-clause-fits
read-requires-clause-fits g c =
    let def = c.args.def.now in
    let n = c.args.number in
    let opens = resource_opens_at c.args.scenario.now c.requires.runnable n (n - 1) def c.requires.there c.requires.typed in
    (subst (λ (t : Schema). Opens (setting n t c.in-Ok-copy.opening)) (sym c.in-Ok.ensures) (subst (λ (o : List (List ℕ × Row)). Opens (setting n def.schema o)) (sym c.in-Ok-copy.ensures) opens)).fits

pub returns-in_default : goal.returns-in_default
returns-in_default g c =
    let s = c.args.scenario.now in
    let one : ℕ × ResourceDef = (c.args.number, c.args.def.now) in
    not_read g.D.Disk.state s (λ held. resource_server s held one) (SaysResource s one) (place.Res c.args.number) c.args.first c.args.second

pub returns-in_default-copy : goal.returns-in_default-copy
returns-in_default-copy g c =
    let s = c.args.scenario.now in
    let one : ℕ × ResourceDef = (c.args.number, c.args.def.now) in
    not_read g.D.Disk.state s (λ held. resource_server s held one) (SaysResource s one) (place.Res c.args.number) c.args.first c.args.second

pub returns-in-Ok-read : goal.returns-in-Ok-read
returns-in-Ok-read g c =
    let s = c.args.scenario.now in
    let state = g.D.Disk.state in
    let def = c.args.def.now in
    let n = c.args.number in
    let one = c.args.first in
    let two = c.args.second in
    let k = c.in-Ok-read.store in
    let opens = resource_opens_at s c.requires.runnable n (n - 1) def c.requires.there c.requires.typed in
    let parts = c.into_parts-memory.ensures in
    let r = c.into_parts-memory.result in
    store_read state s one two n def opens k r.0 r.1 r.2 parts.memory parts.first parts.second
    (subst (λ (t : Schema). KeepsEach state (setting n t def.opening) one two (Ok k)) c.in-Ok.ensures (subst (λ (o : List (List ℕ × Row)). KeepsEach state (setting n c.in-Ok.schema o) one two (Ok k)) c.in-Ok-copy.ensures c.in-Ok-read.ensures.stands))
    (subst (λ (t : Schema). ReadsDisks state (meaning_of (setting n t def.opening)) store_of one two (Ok k)) c.in-Ok.ensures
    (subst (λ (o : List (List ℕ × Row)). ReadsDisks state (meaning_of (setting n c.in-Ok.schema o)) store_of one two (Ok k)) c.in-Ok-copy.ensures c.in-Ok-read.ensures.reads))

pub returns-in-Err : goal.returns-in-Err
returns-in-Err g c =
    let s = c.args.scenario.now in
    let state = g.D.Disk.state in
    let def = c.args.def.now in
    let n = c.args.number in
    let one = c.args.first in
    let two = c.args.second in
    let e = c.in-Err in
    let failed = Err (e.error, e.first, e.second) in
    let opens = resource_opens_at s c.requires.runnable n (n - 1) def c.requires.there c.requires.typed in
    store_unread state s one two n def opens e.error e.first e.second
    (subst (λ (t : Schema). KeepsEach state (setting n t def.opening) one two failed) c.in-Ok.ensures (subst (λ (o : List (List ℕ × Row)). KeepsEach state (setting n c.in-Ok.schema o) one two failed) c.in-Ok-copy.ensures e.ensures.stands))
    (subst (λ (t : Schema). ReadsDisks state (meaning_of (setting n t def.opening)) store_of one two failed) c.in-Ok.ensures
    (subst (λ (o : List (List ℕ × Row)). ReadsDisks state (meaning_of (setting n c.in-Ok.schema o)) store_of one two failed) c.in-Ok-copy.ensures e.ensures.reads))
