use Rattle.base_shelf.proofs.keeping.keep_text.Goals as goal

pub returns : goal.returns
returns g c =
    let kept = c.keep-kept.result in
    record { answer = kept.0; kept = c.keep-kept.ensures; told = c.told.ensures; stays = (g.met.D.Disk.lawful kept.1).present_may_stay }
