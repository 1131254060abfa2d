use Rattle.std.proofs.Common.{sym, refl, ap₂, map, subst}
use Rattle.local_tables.specs.Rows.{IsMap}
use Rattle.local_tables.specs.Sound.{given_back, kept_at}
use Rattle.local_tables.proofs.ApplyLaws.{put_kept, put_refused}
use Rattle.local_tables.proofs.applying.put_row.Goals as goal

pub returns-in-Err-clause-kept : goal.returns-in-Err-clause-kept
returns-in-Err-clause-kept c =
    ap₂ (λ rows kept. given_back rows (map kept_at kept))
    (put_refused c.args.rows.now.entries _ _ _ c.args.image.now.key _ _ _ c.requires c.in_ok-old.ensures.old c.in_ok-old.ensures.done c.in-Err.ensures.value_returned refl c.put_back.ensures)
    c.in-Err.ensures.items

pub returns-in-Err-clause-in_order : goal.returns-in-Err-clause-in_order
returns-in-Err-clause-in_order c =
    subst IsMap
    (sym (put_refused c.args.rows.now.entries _ _ _ c.args.image.now.key _ _ _ c.requires c.in_ok-old.ensures.old c.in_ok-old.ensures.done c.in-Err.ensures.value_returned refl c.put_back.ensures))
    c.requires

pub returns-clause-kept : goal.returns-clause-kept
returns-clause-kept c =
    put_kept c.args.rows.now.entries _ _ _ c.args.image.now.key _ _ _ c.requires c.in_ok-old.ensures.old c.in_ok-old.ensures.done c.in_default-push.ensures.items refl
