use Rattle.std.proofs.Common.{◌≡◌, ◌≢◌, ◌⊎◌, List, ℕ, Option, inl, inr, refl, sym, subst, arith, rules}
use Rattle.std.proofs.lemmas.Map.Text.{text_keys}
use Rattle.disk_model.specs.Memory.{Memory}
use Rattle.disk_model.specs.Places.{place}
use Rattle.disk_model.specs.declared.shelf.Place.{Place}
use Rattle.disk_model.proofs.Named.{same_or_other}
use Rattle.disk_model.proofs.shelf.MemShelf.take_out.Goals as goal

pub returns-clause-others : goal.returns-clause-others
returns-clause-others c = λ n other. grind (arith, text_keys)

-- no disk was there
pub returns-in_err-disk-clause-others : goal.returns-in_err-disk-clause-others
returns-in_err-disk-clause-others c = λ n other. grind (arith, text_keys)

put_back : (p : Place) (d : Option Memory) → d ≡ p.disk → record { disk = d; gives = p.gives } ≡ p
put_back p d same = subst (λ (x : Option Memory). record { disk = x; gives = p.gives } ≡ p) (sym same) refl

pub returns-in_err-disk-clause-same : goal.returns-in_err-disk-clause-same
returns-in_err-disk-clause-same c = λ none n. by n (same_or_other n c.args.name.now)
  where
    none_there : c.take.new.self ≡ c.in_ok-place.place.now.disk
    none_there = search rules

    by : (n : List ℕ) → (n ≡ c.args.name.now) ⊎ (n ≢ c.args.name.now)
        → place n (record { places = c.get_mut.follows.lender (record { disk = c.take.new.self; gives = c.in_ok-place.place.now.gives }); faults = c.args.self.now.faults }) ≡ place n c.args.self.now
    by n (inl same) = let back = put_back c.in_ok-place.place.now c.take.new.self none_there in grind (arith, text_keys, back)
    by n (inr other) = grind (arith, text_keys)
